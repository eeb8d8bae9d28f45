use Rattle.std.proofs.Common.{◌≡◌, ◌∙◌, ◌+◌, ℕ, sym, subst, take, Some}
use Rattle.rows.specs.Bounds.{IsBoundBy}
use Rattle.kept_rows.specs.Told.{told_by_row}
use Rattle.rows.proofs.Answered.{nodes_of_lower}
use Rattle.rows.proofs.Bounded.{place_read}
use Rattle.rows.proofs.LandmarkRows.{landmark_at}
use Rattle.rows.proofs.bounds.bound_by.Goals as goal

pub loop-row-preserved : goal.loop-row-preserved
loop-row-preserved c =
    let net = c.args.view.now.network in
    let nodes = nodes_of_lower net c.args.source c.args.target c.requires in
    let at = landmark_at c.args.view.now.version net c.rows-row-items.result.now c.loop-row.row-index c.row-item.result c.rows-row-items.ensures c.loop-row-test.true c.row-item.is in
    let told : told_by_row c.row-item.result.distances c.args.source c.args.target ≡ Some c.in-Some.difference = sym c.told_by.ensures ∙ c.in-Some.is in
    subst (λ (bound : ℕ). IsBoundBy (take (c.loop-row.row-index + 1) c.args.view.now.network.landmarks) c.args.view.now.network c.args.source c.args.target bound) (sym c.max-bound.ensures)
    (place_read net c.args.source c.args.target c.loop-row.row-index 0 c.loop-row.bound c.in-Some.difference c.row-item.result.distances at.0 nodes.0 nodes.1 at.1 told c.loop-row.invariant)
