use Rattle.std.proofs.Common.{◌≡◌, ◌∙◌, Bool, length, ap, sym, subst}
use Rattle.std.specs.List.{flat_map}
use Rattle.snapshot.specs.Blocks.{block_count}
use Rattle.snapshot.specs.Groups.{IsSnapshotOf, legs_of, parts_of}
use Rattle.snapshot.proofs.Shared.{parts_in, greatest_of_older, still_groups}
use Rattle.snapshot.proofs.groups.Snapshot.after.Goals as goal

pub blocks_after-requires-clause-untouched : goal.blocks_after-requires-clause-untouched
unfolding legs_of
blocks_after-requires-clause-untouched c =
    let s = c.self.inside in
    let (old, was, keeps, only) = c.requires.before in
    let seen : IsSnapshotOf old (record { nodes = s.nodes; delta = s.delta; greatest = s.greatest; parts = parts_of s.joined (flat_map parts_in s.blocks.value) }) = subst (IsSnapshotOf old) (sym c.self.view_is) was in
    let whole : IsSnapshotOf old (record { nodes = s.nodes; delta = s.delta; greatest = s.greatest; parts = flat_map parts_in s.blocks.value }) = subst (λ (b : Bool). IsSnapshotOf old (record { nodes = s.nodes; delta = s.delta; greatest = s.greatest; parts = parts_of b (flat_map parts_in s.blocks.value) })) c.if-self.false seen in
    rw (c.deref-3.ensures, c.deref-5.ensures.value)
    (still_groups old c.args.network.now c.args.changed.now keeps only s.delta s.blocks.value whole.legs c.in_ok-touched.touched.items (rw c.arcs-arcs.ensures.value at c.in_ok-touched.ensures.touched))

pub greatest_after-greatest-requires-clause-was : goal.greatest_after-greatest-requires-clause-was
unfolding legs_of
greatest_after-greatest-requires-clause-was c =
    let s = c.self.inside in
    let (old, was, keeps, only) = c.requires.before in
    let seen : IsSnapshotOf old (record { nodes = s.nodes; delta = s.delta; greatest = s.greatest; parts = parts_of s.joined (flat_map parts_in s.blocks.value) }) = subst (IsSnapshotOf old) (sym c.self.view_is) was in
    let whole : IsSnapshotOf old (record { nodes = s.nodes; delta = s.delta; greatest = s.greatest; parts = flat_map parts_in s.blocks.value }) = subst (λ (b : Bool). IsSnapshotOf old (record { nodes = s.nodes; delta = s.delta; greatest = s.greatest; parts = parts_of b (flat_map parts_in s.blocks.value) })) c.if-self.false seen in
    let count : length s.blocks.value ≡ block_count c.args.network.now.nodes = c.self.invariant.0 ∙ ap block_count (whole.nodes ∙ sym keeps.nodes) in
    rw c.deref-6.ensures
    (whole.greatest ∙ sym (greatest_of_older old c.args.network.now c.arcs-arcs.ensures.network keeps s.delta s.blocks.value count whole.legs))
