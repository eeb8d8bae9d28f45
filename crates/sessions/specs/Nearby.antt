-- What lines about the nodes near one, and about tables, are told.
use Rattle.std.specs.Prelude.{◌≡◌, ◌⊎◌, ℕ, ◌+◌, true, List, ◌++◌, length, Some}
use Rattle.roadnet.specs.declared.groups.Group.{Group}
use Rattle.roadnet.specs.declared.refusals.Refusal.{Refusal}
use Rattle.roadnet.specs.Net.{Net}
use Rattle.roadnet.specs.Numbers.{number_of}
use Rattle.roadnet.specs.Step.{after, is_node}
use Rattle.deltastep.specs.declared.rows.known.NodeDistance.{NodeDistance}
use Rattle.rows.specs.declared.queries.Reply.{Reply}
use Rattle.rows.specs.Views.{AreRight}
use Rattle.history.specs.Origins.{Origin}
use Rattle.rows.specs.declared.nearby.Near.{Near}
use Rattle.rows.specs.declared.nearby.Near.TheVariants.{Reach, Reached, Nearest}
use Rattle.rows.specs.Nearby.{are_pairs, node_of, IsNear, IsUntold}
use Rattle.printing.specs.Nodes.{nearest_lines, pair_lines, reach_lines, reached_lines}
use Rattle.printing.specs.Printed.{refusal_line, version_line}
use Rattle.sessions.specs.declared.queries.finding.Heading.TheVariants.{Shown}
use Rattle.sessions.specs.Headings.{untold_lines}
use Rattle.sessions.specs.Told.{IsUnsighted}

-- the lines of what is found near a node
abbrev pub near_lines : Near → List NodeDistance → List ℕ
near_lines (Reach source limit) found = reach_lines source found
near_lines (Reached target limit) found = reached_lines target found
near_lines (Nearest source count) found = nearest_lines source found

-- what is near a node in this network, all of it, behind its version; or for what it is not told
abbrev pub IsNearAnswer : Near → Net → ℕ → List ℕ → Type 0
IsNearAnswer near net version told =
    ((found : List NodeDistance) × (is_node net (node_of near) ≡ true) × IsNear net near found × (told ≡ version_line version ++ near_lines near found))
    ⊎ ((refusal : Refusal) × IsUntold (is_node net (node_of near)) refusal × (told ≡ untold_lines (Shown version) refusal))

-- a right reply to each pair in this network, source by source, behind its version; or for what they are not told
abbrev pub IsTableAnswer : List (ℕ × ℕ) → Net → ℕ → List ℕ → Type 0
IsTableAnswer pairs net version told =
    ((replies : List Reply) × (are_pairs net pairs ≡ true) × AreRight net pairs replies × (told ≡ version_line version ++ pair_lines pairs replies))
    ⊎ ((refusal : Refusal) × IsUntold (are_pairs net pairs) refusal × (told ≡ untold_lines (Shown version) refusal))

-- An answer in the desk's network after these groups, at the version after them; or that there is no view to ask, or no memory (60, 11, 61).
abbrev pub IsToldAfter : Origin → List Group → (Net → ℕ → List ℕ → Type 0) → List ℕ → Type 0
IsToldAfter origin groups IsAnswer told =
    ((network : Net) × (after origin.base groups ≡ Some network) × IsAnswer network (origin.version + length groups) told)
    ⊎ ((refusal : Refusal) × IsUnsighted groups refusal × (told ≡ refusal_line (number_of refusal)))
