-- A bucket queue is seen as a finite map from nodes to values. A bucket spans `width` values in a row: bucket b has the values with
-- quotient b.
--     bucket width b m                the part of m in bucket b
--     outside width b m               the rest of m
--     TakesLeast width m b nodes n    nodes are all those of bucket b of m, and no others, in ascending order, and there are some;
--                                     no value of m is in a lower bucket; n is the rest
use Rattle.std.specs.Prelude.{◌≡◌, ℕ, ◌<◌, ◌≤◌, ◌/◌, ◌==◌, Bool, false, not, List, length, Option, Some}
use Rattle.std.specs.Option.{option_map_or}
use Rattle.std.specs.Ordering.{nat_cmp}
use Rattle.std.specs.FinMap as map
use Rattle.std.specs.FinMap.{FinMap}

-- the value of each node that is queued
abbrev pub Entries : Type 0
Entries = FinMap nat_cmp ℕ

abbrev pub is_in_bucket : ℕ → ℕ → Option ℕ → Bool
is_in_bucket width b value = option_map_or (λ x. x / width == b) value false

abbrev pub bucket : ℕ → ℕ → Entries → Entries
bucket width b m = map.retain_keys m (λ node. is_in_bucket width b (map.get m node))

abbrev pub outside : ℕ → ℕ → Entries → Entries
outside width b m = map.retain_keys m (λ node. not (is_in_bucket width b (map.get m node)))

pub record TakesLeast (width : ℕ) (old : Entries) (b : ℕ) (taken : List ℕ) (new : Entries) : Type 0 where
  pub some_node : 0 < length taken
  pub nodes : taken ≡ map.keys (bucket width b old)
  pub least : (node value : ℕ) → map.get old node ≡ Some value → b ≤ value / width
  pub rest : new ≡ outside width b old
