-- The requests of a list of nodes: for each node in order and each leg of the part in order, its head and the node's tentative value
-- plus its length.
use Rattle.std.specs.Prelude.{ℕ, ◌+◌, List, map, Option}
use Rattle.std.specs.List.{flat_map}
use Rattle.snapshot.specs.Groups.{Groups, legs_of}
use Rattle.snapshot.specs.declared.legs.Part.{Part}
use Rattle.relax.specs.Values.{value_or}

abbrev pub requests_from : Groups → List (Option ℕ) → Part → ℕ → List (ℕ × ℕ)
requests_from groups tentative part node = map (λ leg. (leg.head, value_or 0 tentative node + leg.length)) (legs_of groups part node)

abbrev pub requests_of : Groups → List ℕ → List (Option ℕ) → Part → List (ℕ × ℕ)
requests_of groups nodes tentative part = flat_map (requests_from groups tentative part) nodes
