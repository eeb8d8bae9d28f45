use Rattle.std.proofs.Common.{◌≡◌, ◌∙◌, ◌+◌, ◌<◌, ℕ, List, sym, subst, length, get_or, take, Some}
use Rattle.roadnet.specs.Walks.{RowOf}
use Rattle.rows.specs.Bounds.{IsBoundBy}
use Rattle.kept_rows.specs.Told.{told_by_row}
use Rattle.rows.proofs.Answered.{nodes_of_lower}
use Rattle.rows.proofs.Bounded.{place_read}
use Rattle.rows.proofs.bounds.plain_bound.Goals as goal

pub loop-landmark-preserved : goal.loop-landmark-preserved
loop-landmark-preserved c =
    let nodes = nodes_of_lower c.args.network.now c.args.source c.args.target c.requires in
    let told : told_by_row c.in-Ok.row c.args.source c.args.target ≡ Some c.in-Some.difference = sym c.told_by.ensures ∙ c.in-Some.is in
    let within : c.loop-landmark.landmark-index < length c.args.network.now.landmarks =
    subst (λ (ls : List ℕ). c.loop-landmark.landmark-index < length ls) c.landmarks-landmark-items.ensures.value c.loop-landmark-test.true in
    let row_of : RowOf c.args.network.now (get_or c.args.network.now.landmarks c.loop-landmark.landmark-index 0) c.in-Ok.row =
    subst (λ (ls : List ℕ). RowOf c.args.network.now (get_or ls c.loop-landmark.landmark-index 0) c.in-Ok.row) c.landmarks-landmark-items.ensures.value c.in-Ok.ensures in
    subst (λ (bound : ℕ). IsBoundBy (take (c.loop-landmark.landmark-index + 1) c.args.network.now.landmarks) c.args.network.now c.args.source c.args.target bound) (sym c.max-bound.ensures)
    (place_read c.args.network.now c.args.source c.args.target c.loop-landmark.landmark-index 0 c.loop-landmark.bound c.in-Some.difference c.in-Ok.row within nodes.0 nodes.1 row_of told c.loop-landmark.invariant)
