-- What an operator is told of a network.
use Rattle.std.specs.Prelude.{ℕ, Bool, List, ◌++◌, length, decimal, map, if◌then◌else◌}
use Rattle.std.specs.List.{flat_map}
use Rattle.std.specs.Option.{option_map_or}
use lib.Chars.{codes}
use Rattle.roadnet.specs.declared.arcs.RoadArc.{RoadArc}
use Rattle.roadnet.specs.declared.refusals.Refusal.TheVariants.{NoSuchArc, NoSuchNode}
use Rattle.roadnet.specs.Net.{Net, arc_at}
use Rattle.roadnet.specs.Numbers.{number_of}
use Rattle.rows.specs.Replies.{are_nodes}
use Rattle.printing.specs.declared.looks.Look.{Look}
use Rattle.printing.specs.declared.looks.Look.TheVariants.{Arc, Between, Landmarks, Closed}
use Rattle.printing.specs.Chosen.{arcs_where, closed_arcs, leads}
use Rattle.printing.specs.Exports.{closing_row, landmark_row, text_of}
use Rattle.printing.specs.Printed.{version_line, refusal_line}
use Rattle.printing.specs.Replied.{number_line}

-- the numbers of all arcs from the one node to the other, closed ones too
abbrev pub arcs_between : Net → ℕ → ℕ → List ℕ
arcs_between net tail head = arcs_where (leads tail head) net.arcs

abbrev pub state_word : Bool → List ℕ
state_word opened = if opened then codes " open\n" else codes " closed\n"

-- `a K T H W open` or `a K T H W closed`
abbrev pub arc_line : ℕ → RoadArc → List ℕ
arc_line k arc = codes "a " ++ decimal k ++ codes " " ++ decimal arc.tail ++ codes " " ++ decimal arc.head ++ codes " " ++ decimal arc.length ++ state_word arc.opened

-- a blank in front of each number
abbrev pub listed_numbers : List ℕ → List ℕ
listed_numbers numbers = flat_map (λ k. codes " " ++ decimal k) numbers

-- `arcs T H K1 K2 ..`
abbrev pub arcs_line : ℕ → ℕ → List ℕ → List ℕ
arcs_line tail head numbers = codes "arcs " ++ decimal tail ++ codes " " ++ decimal head ++ listed_numbers numbers ++ codes "\n"

-- the line of arc K; `no 20` where there is none
abbrev pub arc_answer : Net → ℕ → List ℕ
arc_answer net k = option_map_or (arc_line k) (arc_at net k) (refusal_line (number_of NoSuchArc))

-- the line of all arcs from one node to another; `no 24` where one of them is no node
abbrev pub arcs_answer : Net → ℕ → ℕ → List ℕ
arcs_answer net tail head = if are_nodes net tail head then arcs_line tail head (arcs_between net tail head) else refusal_line (number_of NoSuchNode)

-- how many landmarks there are, and a line for each
abbrev pub landmarks_answer : Net → List ℕ
landmarks_answer net = number_line (codes "landmarks ") (length net.landmarks) ++ text_of (map landmark_row net.landmarks)

-- how many arcs are closed, and a line that would close it for each
abbrev pub closed_answer : Net → List ℕ
closed_answer net = number_line (codes "closed ") (length (closed_arcs net.arcs)) ++ text_of (map closing_row (closed_arcs net.arcs))

-- the answer to what is asked
abbrev pub look_answer : Net → Look → List ℕ
look_answer net (Arc number) = arc_answer net number
look_answer net (Between tail head) = arcs_answer net tail head
look_answer net Landmarks = landmarks_answer net
look_answer net Closed = closed_answer net

-- the same with the version before it
abbrev pub look_lines : Net → ℕ → Look → List ℕ
look_lines net version look = version_line version ++ look_answer net look
