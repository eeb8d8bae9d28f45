-- Numbers of arcs, sorted so that parallel arcs stand side by side.
use Rattle.std.specs.Prelude.{ℕ, ◌+◌, ◌*◌, List, length, IsPermutation}
use Rattle.std.specs.List.{range_with_len}
use Rattle.std.specs.List.Sorted.{IsNonDecreasingBy}
use Rattle.std.specs.Option.{option_map_or}
use Rattle.roadnet.specs.declared.arcs.RoadArc.{RoadArc}
use Rattle.roadnet.specs.Net.{nth}

-- the ends of arc k as one number, or 0 where there is no such arc
abbrev pub pair_at : List RoadArc → ℕ → ℕ
pair_at arcs k = option_map_or (λ arc. arc.tail * 4294967296 + arc.head) (nth arcs k) 0

-- the numbers of the arcs, ascending by their ends, and where these are the same by themselves
pub record AreByEnds (arcs : List RoadArc) (numbers : List ℕ) : Type 0 where
  pub all : IsPermutation (range_with_len 1 (length arcs)) numbers
  pub ascending : IsNonDecreasingBy (λ k. pair_at arcs k * 4294967296 + k) numbers
