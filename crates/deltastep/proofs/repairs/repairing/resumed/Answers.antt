use Rattle.std.proofs.Common.{ℕ, List, Option, subst, sym}
use Rattle.frontier.specs.Live.{AreJustQueued, all_queued}
use Rattle.deltastep.specs.Search.{AreReached, IsBetweenBuckets}
use Rattle.deltastep.proofs.Owing.{are_nodes}
use Rattle.deltastep.proofs.repairs.repairing.resumed.Goals as goal

pub resumed-requires-clause-nodes : goal.resumed-requires-clause-nodes
resumed-requires-clause-nodes c = rw c.nodes.ensures.value (are_nodes c.args.snapshot.now c.args.remains.tentative c.requires.search c.remember_near.new.owing.nodes c.in_ok-remember_near.ensures.valued)

pub returns-clause-state : goal.returns-clause-state
returns-clause-state c =
    let groups = c.args.snapshot.now in
    let made = c.in_ok-made.made in
    let queue = all_queued made.ring.delta made.ring.lists.items made.bag.items made.tentative.tentative in
    let just : AreJustQueued c.args.remains.tentative c.remember_near.new.owing.nodes queue = subst (λ (l : List ℕ). AreJustQueued c.args.remains.tentative l queue) c.nodes.ensures.value c.in_ok-made.ensures.queued in
    subst (λ (t : List (Option ℕ)). (source : ℕ) → AreReached groups source t → IsBetweenBuckets groups source t queue) (sym c.in_ok-made.ensures.tentative) (c.in_ok-remember_near.ensures.state queue just)
