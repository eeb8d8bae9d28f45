use Rattle.std.proofs.Common.{refl}
use Rattle.rows.specs.Backs.{numbered_back}
use Rattle.rows.proofs.Numbering.{grouped_back}
use Rattle.rows.proofs.backs.numbered_back.Goals as goal

pub returns : goal.returns
returns c =
    grouped_back c.args.network.now (numbered_back c.args.network.now) c.in_ok-back.back c.nodes-nodes.ensures.network c.nodes-grouped.ensures.grouped c.in_ok-back.ensures.network refl c.in_ok-back.ensures.delta refl
