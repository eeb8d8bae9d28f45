-- The frontier of a search: the tentative values of all nodes, and the nodes whose legs are still to be relaxed.
--     TakesAny width m b nodes n    nodes are all those of bucket b of m, and no others, each once, in any order, and there are some;
--                                   no value of m is in a lower bucket; n is the rest
use Rattle.std.specs.Prelude.{◌≡◌, ℕ, ◌<◌, ◌≤◌, ◌/◌, ◌==◌, ◌↔◌, List, length, Some, Contains}
use Rattle.std.specs.List.{IsDistinct}
use Rattle.std.specs.FinMap as map
use Rattle.buckets.specs.Queue.{Entries, bucket, outside}

pub record TakesAny (width : ℕ) (old : Entries) (b : ℕ) (taken : List ℕ) (new : Entries) : Type 0 where
  pub some_node : 0 < length taken
  pub nodes : (u : ℕ) → Contains taken u ↔ Contains (map.keys (bucket width b old)) u
  pub once : IsDistinct (λ a b. a == b) taken
  pub least : (node value : ℕ) → map.get old node ≡ Some value → b ≤ value / width
  pub rest : new ≡ outside width b old
