use Rattle.std.proofs.Common.{◌≡◌, ℕ, ◌≤◌, ◌<◌, ◌^◌, flat_map, max, IsSome, All, List, subst, sym, arith}
use Rattle.relax.specs.Values.{value_at, value_or}
use Rattle.relax.specs.Requests.{requests_of, requests_from}
use Rattle.relax.proofs.Chunked.{All-chunks, lists_of_chunks, from_collected}
use Rattle.relax.proofs.crew.in_chunks.Goals as goal

pub collect-requires-clause-ready : goal.collect-requires-clause-ready
collect-requires-clause-ready g c κs within =
    let groups = c.args.snapshot.now in
    let tentative = c.args.tentative.now in
    let nodes = All-chunks (λ u. (1 ≤ u) × (u ≤ groups.nodes)) (max c.args.chunk 1) c.args.nodes.now c.requires.nodes in
    let values = All-chunks (λ u. IsSome (value_at tentative u) × (value_or 0 tentative u < 2 ^ 56)) (max c.args.chunk 1) c.args.nodes.now c.requires.values in
    rw (c.map.ensures.base, c.map.ensures.f, c.par_chunks.ensures.slice, c.par_chunks.ensures.size) (λ k d lt x e. (
      (
        subst (λ (l : List ℕ). All (λ u. (1 ≤ u) × (u ≤ groups.nodes)) l) (sym e) (nodes k d lt),
        (
          c.requires.size,
          subst (λ (l : List ℕ). All (λ u. IsSome (value_at tentative u) × (value_or 0 tentative u < 2 ^ 56)) l) (sym e) (values k d lt),
        ),
      ),
      λ y p. tt,
    ))

pub returns : goal.returns
returns g c =
    let groups = c.args.snapshot.now in
    let tentative = c.args.tentative.now in
    let h = c.in_ok-collect.ensures in
    from_collected c.in_ok-collect.field-0 h.0 (λ lists. flat_map (λ list. list.items) lists ≡ requests_of groups c.args.nodes.now tentative c.args.part) h.2 (λ lists ok. lists_of_chunks (requests_from groups tentative c.args.part) _ (max c.args.chunk 1) c.args.nodes.now h.1.0 h.0 lists (omega arith) (rw (c.map.ensures.base, c.par_chunks.ensures.slice, c.par_chunks.ensures.size) at h.1.1) (rw c.map.ensures.f at h.1.2) ok)
