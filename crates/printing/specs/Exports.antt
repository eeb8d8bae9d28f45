-- The texts in which a network is written out, as the fields of their lines.
use Rattle.std.specs.Prelude.{◌≡◌, ◌<◌, ◌^◌, ℕ, true, List, [], ◌∷◌, ◌++◌, Option, Some, decimal, map, length, Ok}
use Rattle.std.specs.Io.KnownBytes.{Appends}
use Rattle.std.specs.List.{flat_map}
use lib.Chars.{codes}
use Rattle.roadnet.specs.declared.arcs.RoadArc.{RoadArc}
use Rattle.roadnet.specs.declared.commands.Command.{Command}
use Rattle.roadnet.specs.declared.commands.Command.TheVariants.{Close}
use Rattle.roadnet.specs.Net.{Net}
use Rattle.roadnet.specs.Step.{after}
use Rattle.dimacs.specs.Commanded.{group_text}
use Rattle.dimacs.specs.Content.{content}
use Rattle.dimacs.specs.Faults.{Row}
use Rattle.dimacs.specs.Landmarks.{ss_text}
use Rattle.dimacs.specs.Lines.{rows}
use Rattle.dimacs.specs.Texts.{content_by}
use Rattle.printing.specs.declared.exports.Exported.{Exported}
use Rattle.printing.specs.declared.exports.Exported.TheVariants.{Network, Landmarks, Closings}
use Rattle.printing.specs.declared.exports.Origin.{Origin}
use Rattle.printing.specs.Chosen.{closed_arcs}

-- a line: its fields with one blank between each two, and a line feed
abbrev pub text_line_of : Row → List ℕ
text_line_of [] = codes "\n"
text_line_of (field ∷ []) = field ++ codes "\n"
text_line_of (field ∷ next ∷ more) = field ++ 32 ∷ text_line_of (next ∷ more)

-- the text of these lines
abbrev pub text_of : List Row → List ℕ
text_of rs = flat_map text_line_of rs

-- ---- the lines

-- its numbers are those of a store
abbrev pub IsOrigin : Origin → Type 0
IsOrigin origin = (origin.version < 2 ^ 64) × (origin.journal_pages < 2 ^ 32)

-- a comment that tells of which store the text is written
abbrev pub heading : List ℕ → ℕ → Origin → Row
heading mark room origin =
    mark ∷ codes "roadmark" ∷ codes "version" ∷ decimal origin.version ∷ codes "room" ∷ decimal room ∷ codes "journal" ∷ decimal origin.journal_pages ∷ []

-- the counts of a network, and of landmarks
abbrev pub counts_row : ℕ → ℕ → Row
counts_row nodes arcs = codes "p" ∷ codes "sp" ∷ decimal nodes ∷ decimal arcs ∷ []

abbrev pub count_row : ℕ → Row
count_row landmarks = codes "p" ∷ codes "aux" ∷ codes "sp" ∷ codes "ss" ∷ decimal landmarks ∷ []

abbrev pub arc_row : RoadArc → Row
arc_row arc = codes "a" ∷ decimal arc.tail ∷ decimal arc.head ∷ decimal arc.length ∷ []

abbrev pub landmark_row : ℕ → Row
landmark_row x = codes "s" ∷ decimal x ∷ []

abbrev pub closing_row : ℕ → Row
closing_row k = codes "close" ∷ decimal k ∷ []

-- ---- the texts

-- the network, with all of its arcs
abbrev pub network_rows : Net → Origin → List Row
network_rows net origin = heading (codes "c") net.room origin ∷ counts_row net.nodes (length net.arcs) ∷ map arc_row net.arcs

-- its landmarks
abbrev pub landmark_rows : Net → Origin → List Row
landmark_rows net origin = heading (codes "c") net.room origin ∷ count_row (length net.landmarks) ∷ map landmark_row net.landmarks

-- commands that close its closed arcs
abbrev pub closing_rows : Net → Origin → List Row
closing_rows net origin = heading (codes "#") net.room origin ∷ map closing_row (closed_arcs net.arcs)

abbrev pub exported_rows : Exported → Net → Origin → List Row
exported_rows Network net origin = network_rows net origin
exported_rows Landmarks net origin = landmark_rows net origin
exported_rows Closings net origin = closing_rows net origin

-- ---- what the texts say to who reads them

-- the arc, open
abbrev pub opened_arc : RoadArc → RoadArc
opened_arc arc = record arc { opened = true }

-- the network with each arc open, without landmarks and without room for more arcs
abbrev pub all_open : Net → Net
all_open net = record { nodes = net.nodes; arcs = map opened_arc net.arcs; landmarks = []; room = length net.arcs }

-- each of these arcs is closed, by a group of its own
abbrev pub closings : List ℕ → List (List Command)
closings numbers = map (λ k. Close k ∷ []) numbers

-- the text gives the network with each arc open; or its landmarks; or it closes just its closed arcs
abbrev pub SaysExported : Exported → Net → List ℕ → Type 0
SaysExported Network net text = content text ≡ Ok (all_open net)
SaysExported Landmarks net text = content_by (ss_text net.nodes) (rows text) ≡ Ok net.landmarks
SaysExported Closings net text = content_by group_text (rows text) ≡ Ok (closings (closed_arcs net.arcs))

-- a text that says this is written, and nothing else
pub record WritesText (P : List ℕ → Type 0) (old new : Option (List ℕ)) : Type 0 where
  pub text : List ℕ
  pub written : Appends old new text
  pub says : P text

-- The network that has each arc open, with these landmarks and this room, is this one once its closed arcs are closed.
abbrev pub ClosingRestores : Type 0
ClosingRestores = (net : Net) → after (record net { arcs = map opened_arc net.arcs }) (closings (closed_arcs net.arcs)) ≡ Some net
