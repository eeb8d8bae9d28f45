use Rattle.std.proofs.Common.{ℕ, ◌≤◌, max, List, subst, sym}
use Rattle.rows.specs.Batches.{AreNodes, IsRowOfOne}
use Rattle.relax.proofs.Chunked.{All-chunks}
use Rattle.rows.proofs.Parts.{from_parts}
use Rattle.rows.proofs.side_by_side.in_parts.Goals as goal

pub collect-requires-clause-ready : goal.collect-requires-clause-ready
collect-requires-clause-ready g c κs within =
    let nodes = All-chunks (λ u. (1 ≤ u) × (u ≤ c.args.snapshot.now.nodes)) (max c.args.each 1) c.args.sources.now c.requires.nodes in
    rw (c.map.ensures.base, c.map.ensures.f, c.with_min_len.ensures.base, c.par_chunks.ensures.slice, c.par_chunks.ensures.size) (λ k d lt x e. (
      subst (λ (l : List ℕ). AreNodes c.args.snapshot.now.nodes l) (sym e) (nodes k d lt),
      λ y p. tt,
    ))

pub returns : goal.returns
returns g c =
    let h = c.in_ok-collect.ensures in
    from_parts _ (IsRowOfOne c.args.snapshot.now) c.in_ok-collect.field-0 _ h.0 h.2 (rw c.map.ensures.f at h.1.2)
