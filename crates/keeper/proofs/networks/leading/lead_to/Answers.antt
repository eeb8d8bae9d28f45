use Rattle.std.proofs.Common.{◌≡◌, ◌∙◌, ◌≤◌, Some, length, true≢false, refl, ap, sym, arith}
use Rattle.roadnet.specs.Net.{Net, IsNetwork}
use Rattle.roadnet.specs.Batches.{changed_by_all}
use Rattle.roadnet.proofs.GroupsInTurn.{IsNetwork-changed_by_all}
use Rattle.roadnet.proofs.InTurn.{after_all_is_changed}
use Rattle.keeper.proofs.Leads.{alike_same, nodes_behind, one_net, room_behind, seen_alike}
use Rattle.keeper.proofs.networks.leading.lead_to.Goals as goal
use Rattle.keeper.proofs.networks.leading.lead_to.Goals.{then-nodes-via-then-nodes, then-nodes-via-else-nodes+then-room}

pub returns-then-nodes : goal.returns-then-nodes
returns-then-nodes c =
    let net = c.args.network.now in
    let groups = c.args.groups.now in
    let other = c.args.other.now in (
      λ never. absurd (true≢false (sym never)),
      λ led.
          let same : changed_by_all net groups ≡ other = one_net (changed_by_all net groups) other (sym (after_all_is_changed net groups c.requires) ∙ led) in
          let nodes : net.nodes ≡ other.nodes = sym (nodes_behind net groups) ∙ ap (λ (n : Net). n.nodes) same in
          let room : net.room ≡ other.room = sym (room_behind net groups) ∙ ap (λ (n : Net). n.room) same in
          absurd (elim c.then-nodes.branch [
            | then-nodes-via-then-nodes w ↦ w.if-nodes.true (c.nodes.ensures.value ∙ (nodes ∙ sym c.nodes-2.ensures.value))
            | then-nodes-via-else-nodes+then-room w ↦ w.if-room.true (w.room.ensures.value ∙ (room ∙ sym w.room-else-nodes.ensures.value))
          ]),
    )

pub returns-then-not-is_same : goal.returns-then-not-is_same
returns-then-not-is_same c =
    let net = c.args.network.now in
    let groups = c.args.groups.now in
    let other = c.args.other.now in (
      λ never. absurd (true≢false (sym never)),
      λ led.
          let same : changed_by_all net groups ≡ other = one_net (changed_by_all net groups) other (sym (after_all_is_changed net groups c.requires) ∙ led) in
          let alike = seen_alike (changed_by_all net groups) other c.loop-k.k c.seen_after_all-seen.result c.see-in-loop-k.result (c.seen_after_all-seen.ensures net c.nodes.ensures.network c.requires c.see.ensures) c.see-in-loop-k.ensures same in
          absurd (true≢false (sym (c.is_same.ensures.1 alike) ∙ c.if-not-is_same.true)),
    )

pub returns : goal.returns
returns c =
    let net = c.args.network.now in
    let groups = c.args.groups.now in
    let other = c.args.other.now in
    let one : Net = changed_by_all net groups in
    let ok : IsNetwork one = IsNetwork-changed_by_all net groups c.nodes.ensures.network c.requires in
    let nodes : one.nodes ≡ other.nodes = nodes_behind net groups ∙ (let a = c.nodes.ensures.value in let b = c.nodes-2.ensures.value in let e = c.if-nodes.false in cc) in
    let room : one.room ≡ other.room = room_behind net groups ∙ (let a = c.room.ensures.value in let b = c.room-else-nodes.ensures.value in let e = c.if-room.false in cc) in
    let some : other.nodes ≤ c.max-most.result = omega (arith, c.max-most.ensures, c.from.ensures, c.nodes-3.ensures.value) in
    let count : length c.arcs.result.now ≡ length other.arcs = ap length c.arcs.ensures.value in
    let many : length other.arcs ≤ c.max-most.result = omega (arith, c.max-most.ensures, count) in
    let same : one ≡ other = alike_same one other c.max-most.result ok c.nodes-2.ensures.network nodes room some many (λ k lt. c.loop-k.invariant k (omega (arith, lt, c.loop-k-test.false, c.loop-k.auto.k-end))) in
    (λ _. after_all_is_changed net groups c.requires ∙ ap Some same, λ _. refl)
