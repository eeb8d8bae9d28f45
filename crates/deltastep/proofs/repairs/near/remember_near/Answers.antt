use Rattle.std.proofs.Common.{◌+◌, ◌<◌, ◌≤◌, ◌∙◌, ℕ, Contains, IsSome, get_or, take, length, ap, arith}
use Rattle.std.proofs.lemmas.List.Elements.{All-nil}
use Rattle.std.specs.FinMap.{get}
use Rattle.frontier.specs.Remembered.{Memory}
use Rattle.deltastep.specs.Repair.{AreTailsLooked}
use Rattle.deltastep.proofs.Thinning.{All-take_more, All-of_take}
use Rattle.deltastep.proofs.Remaining.{IsRowIn, IsRowIn-of}
use Rattle.deltastep.proofs.Resuming.{top_small, IsBetweenBuckets-resumed}
use Rattle.deltastep.proofs.Looking.{All-changed_on, AreTailsLooked-on, each_looked}
use Rattle.deltastep.proofs.Owing.{HaveValues-none, queued_if_owing}
use Rattle.deltastep.proofs.repairs.near.remember_near.Goals as goal

pub remember_all_changed-requires-clause-small : goal.remember_all_changed-requires-clause-small
remember_all_changed-requires-clause-small c = top_small c.args.snapshot.now c.nodes-newer.ensures.grouped

pub remember_all_changed-requires-clause-limit : goal.remember_all_changed-requires-clause-limit
remember_all_changed-requires-clause-limit c = ap (λ (m : Memory). m.limit) c.requires.none

pub loop-node-init : goal.loop-node-init
loop-node-init c =
    let ensures = c.in_ok-remember_all_changed.ensures in
    record {
      valued = ensures.valued (HaveValues-none c.args.tentative.now (c.args.snapshot.now.nodes + 1) c.args.owing.now c.requires.none);
      changed = ensures.looked;
      tails = All-nil (AreTailsLooked c.args.snapshot.now c.args.back.now c.args.tentative.now (Contains c.remember_all_changed.new.owing.nodes));
      limit = c.remember_all_changed.ensures.limit;
    }

pub remember_tails-requires-clause-small : goal.remember_tails-requires-clause-small
remember_tails-requires-clause-small c = top_small c.args.snapshot.now c.nodes-newer.ensures.grouped

pub remember_tails-requires-clause-limit : goal.remember_tails-requires-clause-limit
remember_tails-requires-clause-limit c = c.loop-node.invariant.limit ∙ ap (λ (m : Memory). m.limit) c.requires.none

pub loop-node-preserved : goal.loop-node-preserved
loop-node-preserved c =
    let ensures = c.in_ok-remember_tails.ensures in
    let owes = Contains c.remember_tails.new.owing.nodes in
    let was = Contains c.loop-node.owing.nodes in
    let invariant = c.loop-node.invariant in
    let lt : c.loop-node.node-index < length c.args.lost.now = omega arith in
    record {
      valued = ensures.valued invariant.valued;
      changed = All-changed_on c.args.snapshot.now c.args.tentative.now was owes c.args.changed.now ensures.keeps invariant.changed;
      tails = All-take_more (AreTailsLooked c.args.snapshot.now c.args.back.now c.args.tentative.now owes) c.args.lost.now c.loop-node.node-index 0 lt
          (λ k d within. AreTailsLooked-on c.args.snapshot.now c.args.back.now c.args.tentative.now was owes (get_or (take c.loop-node.node-index c.args.lost.now) k d) ensures.keeps (invariant.tails k d within))
          ensures.looked;
      limit = c.remember_tails.ensures.limit ∙ invariant.limit;
    }

pub returns-clause-state : goal.returns-clause-state
returns-clause-state c queue just =
    let before = c.args.before.now in
    let after = c.args.snapshot.now in
    let row = c.args.row.now in
    let t = c.args.tentative.now in
    let owes = Contains c.loop-node.owing.nodes in
    let of_row : IsRowIn before c.args.source row = IsRowIn-of c.requires.row.0 before c.requires.row.1 c.nodes-older.ensures.grouped c.args.source c.requires.node.0 (rw c.requires.nodes c.requires.node.1) row c.requires.row.2 in
    let some : (u : ℕ) → owes u → IsSome (get queue u) = queued_if_owing t c.loop-node.owing.nodes queue just c.loop-node.invariant.valued in
    let past : length c.args.lost.now ≤ c.loop-node.node-index = omega arith in
    let all = All-of_take (AreTailsLooked after c.args.back.now t owes) c.args.lost.now c.loop-node.node-index past c.loop-node.invariant.tails in
    IsBetweenBuckets-resumed after c.nodes-newer.ensures.grouped t c.requires.search queue (λ u x in_queue. ((just u x).0 in_queue).1)
    (each_looked before after c.args.back.now c.args.source row t queue c.args.changed.now c.args.lost.now c.nodes-newer.ensures.grouped of_row c.requires.kept c.requires.search c.requires.changed c.requires.tails
    (All-changed_on after t owes (λ v. IsSome (get queue v)) c.args.changed.now some c.loop-node.invariant.changed) c.requires.listed
    (λ k d lt. AreTailsLooked-on after c.args.back.now t owes (λ v. IsSome (get queue v)) (get_or c.args.lost.now k d) some (all k d lt)))

pub returns-clause-small : goal.returns-clause-small
returns-clause-small c = top_small c.args.snapshot.now c.nodes-newer.ensures.grouped
