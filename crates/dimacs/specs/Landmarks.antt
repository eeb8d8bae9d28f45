-- What a `.ss` text says.
use Rattle.std.specs.Prelude.{ℕ, ◌≤◌, List, All}
use Rattle.roadnet.specs.Members.{set_of}
use Rattle.dimacs.specs.Format.{ss}
use Rattle.dimacs.specs.Content.{size_at}
use Rattle.dimacs.specs.Faults.{Row, code_of, end_code}
use Rattle.dimacs.specs.Listed.{items_in, text_of_items}
use Rattle.dimacs.specs.Texts.{TextKind}

-- the node that the number of an item line names
abbrev pub node_from : Row → ℕ
node_from numbers = size_at numbers 0

-- the set of the nodes that the lines name, ascending
abbrev pub landmarks_in : ℕ → List Row → List ℕ
landmarks_in n rs = set_of (items_in (ss n) node_from rs)

abbrev pub ss_text : ℕ → TextKind (List ℕ)
ss_text n = record { judge = code_of (ss n); end = end_code (ss n); says = landmarks_in n }

-- the nodes that the lines name, in the order of the lines
abbrev pub nodes_text : ℕ → TextKind (List ℕ)
nodes_text n = text_of_items (ss n) node_from

-- each of these is one of so many nodes
abbrev pub AreNodes : ℕ → List ℕ → Type 0
AreNodes n nodes = All (λ x. (1 ≤ x) × (x ≤ n)) nodes
