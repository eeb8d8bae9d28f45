use lib.Chars.{codes}
use Rattle.printing.proofs.Together.{puts_both}
use Rattle.sessions.specs.Stated.{named_number}
use Rattle.sessions.proofs.told.stating.put_versions.Goals as goal

pub returns : goal.returns
returns g c =
    puts_both g.W.Write.contents _ c.put_named-2.result _ _ _ (named_number (codes "state shown ") c.args.state.now.shown) (named_number (codes " durable ") c.args.state.now.durable) c.in_ok-put_named.ensures c.put_named-2.ensures
