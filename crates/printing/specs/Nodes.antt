-- The lines of nodes near one, and of the answers to pairs.
use Rattle.std.specs.Prelude.{ℕ, List, [], ◌∷◌, ◌++◌, length, decimal}
use Rattle.std.specs.List.{flat_map}
use lib.Chars.{codes}
use Rattle.deltastep.specs.declared.rows.known.NodeDistance.{NodeDistance}
use Rattle.rows.specs.declared.queries.Query.TheVariants.{Dist}
use Rattle.rows.specs.declared.queries.Reply.{Reply}
use Rattle.rows.specs.declared.queries.Reply.TheVariants.{Length}
use Rattle.printing.specs.Printed.{answer_line}
use Rattle.printing.specs.Replied.{number_line}

-- a word, a node, and how many lines follow
abbrev pub count_line : List ℕ → ℕ → ℕ → List ℕ
count_line word node count = word ++ decimal node ++ number_line (codes " ") count

-- `d S T L` of a walk from this source to the node, or from the node to this target
abbrev pub reach_line_from : ℕ → NodeDistance → List ℕ
reach_line_from source near = answer_line (Dist source near.node) (Length near.distance)

abbrev pub line_to : ℕ → NodeDistance → List ℕ
line_to target near = answer_line (Dist near.node target) (Length near.distance)

-- `reach S C`, and C lines `d S T L`
abbrev pub reach_lines : ℕ → List NodeDistance → List ℕ
reach_lines source told = count_line (codes "reach ") source (length told) ++ flat_map (reach_line_from source) told

-- `reached T C`, and C lines `d S T L`
abbrev pub reached_lines : ℕ → List NodeDistance → List ℕ
reached_lines target told = count_line (codes "reached ") target (length told) ++ flat_map (line_to target) told

-- `nearest S C`, and C lines `d S X L`
abbrev pub nearest_lines : ℕ → List NodeDistance → List ℕ
nearest_lines source told = count_line (codes "nearest ") source (length told) ++ flat_map (reach_line_from source) told

-- one answer line a pair of a source and a target
abbrev pub pair_lines : List (ℕ × ℕ) → List Reply → List ℕ
pair_lines [] replies = []
pair_lines (pair ∷ pairs) [] = []
pair_lines (pair ∷ pairs) (reply ∷ replies) = answer_line (Dist pair.0 pair.1) reply ++ pair_lines pairs replies
