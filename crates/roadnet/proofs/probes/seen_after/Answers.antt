use Rattle.std.proofs.Common.{sym, subst, take, List}
use Rattle.std.proofs.lemmas.List.{take_all}
use Rattle.roadnet.specs.declared.commands.Command.{Command}
use Rattle.roadnet.specs.declared.commands.Command.TheVariants.{Set}
use Rattle.roadnet.specs.Net.{Net}
use Rattle.roadnet.specs.Batches.{changed_by}
use Rattle.roadnet.specs.Probes.{Sees}
use Rattle.roadnet.proofs.InTurn.{IsNetwork-changed_by, admitted_here, one_changed, prefix_admitted}
use Rattle.roadnet.proofs.probes.seen_after.Goals as goal

pub loop-command-init : goal.loop-command-init
loop-command-init c net ok none s = s

pub loop-command-preserved : goal.loop-command-preserved
loop-command-preserved c net ok none s =
    subst (λ (n : Net). Sees n c.args.k c.args.x c.seen_after_one-last.result) (sym (one_changed net c.args.commands.now c.loop-command.command-index (Set 0 0) c.loop-command-test.true))
    (c.seen_after_one-last.ensures (changed_by net (take c.loop-command.command-index c.args.commands.now))
    (IsNetwork-changed_by net (take c.loop-command.command-index c.args.commands.now) ok (prefix_admitted net c.args.commands.now c.loop-command.command-index none))
    (admitted_here net c.args.commands.now c.loop-command.command-index (Set 0 0) c.loop-command-test.true none) (c.loop-command.invariant net ok none s))

pub returns : goal.returns
returns c net ok none s =
    subst (λ (cs : List Command). Sees (changed_by net cs) c.args.k c.args.x c.loop-command.last) (take_all c.loop-command.command-index c.args.commands.now c.loop-command-test.false) (c.loop-command.invariant net ok none s)
