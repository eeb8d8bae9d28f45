-- Which nodes got a value.
use Rattle.std.specs.Prelude.{◌≡◌, ℕ, ◌≤◌, ◌<◌, List, length, Contains, Option, Some}
use Rattle.relax.specs.Values.{value_at}

-- each node that has a value is among these, and all of them are nodes
pub record AreNoted (tentative : List (Option ℕ)) (nodes : List ℕ) : Type 0 where
  pub each : (u x : ℕ) → value_at tentative u ≡ Some x → Contains nodes u
  pub within : (u : ℕ) → Contains nodes u → (1 ≤ u) × (u < length tentative)
