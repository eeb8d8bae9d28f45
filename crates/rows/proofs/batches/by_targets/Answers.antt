use Rattle.std.proofs.Common.{subst}
use Rattle.std.specs.Prelude.{IfOk}
use Rattle.roadnet.specs.Net.{Net, IsNetwork}
use Rattle.roadnet.specs.Reversal.{reversed}
use Rattle.roadnet.proofs.Reversed.{IsNetwork-reversed, reversed_twice}
use Rattle.rows.specs.Batches.{AreRightBy}
use Rattle.rows.proofs.Turned.{if_turned}
use Rattle.rows.proofs.batches.by_targets.Goals as goal

pub returns : goal.returns
returns g c =
    let net = c.args.network.now in
    let back = c.in_ok-back.ensures.network in
    let is_back : IsNetwork c.in_ok-back.back = subst IsNetwork c.back.view_is c.back.invariant in
    let is : IsNetwork net = subst IsNetwork (reversed_twice net) (IsNetwork-reversed (reversed net) (subst IsNetwork back is_back)) in
    if_turned net is g.E.PairEnds.source g.E.PairEnds.target c.args.pairs.now c.by_places.result
    (subst (λ (n : Net). IfOk c.by_places.result (λ replies. AreRightBy n g.E.PairEnds.target g.E.PairEnds.source c.args.pairs.now replies.items)) back c.by_places.ensures.right)
