use Rattle.std.proofs.Common.{◌≡◌, ℕ, ◌≤◌, Contains, Some, true}
use Rattle.deltastep.specs.Reach.{has_within}
use Rattle.deltastep.proofs.rows.known.all_known.Given as goal

abbrev pub invariant-loop-place : goal.invariant-loop-place
invariant-loop-place g l =
    let has = has_within (g.V.Known.values l.values) (Some l.limit) in
    record {
      right : (u : ℕ) → Contains l.known.items u → (1 ≤ u) × (u ≤ l.place) × (has u ≡ true);
      each : (u : ℕ) → 1 ≤ u → u ≤ l.place → has u ≡ true → Contains l.known.items u;
    }
