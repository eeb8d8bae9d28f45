-- What a `.gr` text says.
use Rattle.std.specs.Prelude.{ℕ, true, List, [], Option, None, Some, Result, slice_index_or, if◌then◌else◌, length}
use Rattle.std.specs.List.{filter_map}
use Rattle.roadnet.specs.Net.{Net}
use Rattle.roadnet.specs.declared.arcs.RoadArc.{RoadArc}
use Rattle.dimacs.specs.declared.fault.Fault.{Fault}
use Rattle.dimacs.specs.Format.{gr}
use Rattle.dimacs.specs.Lines.{rows}
use Rattle.dimacs.specs.Faults.{Row, is_item, item_fields, size_of, announced_nodes_of, code_of, end_code}
use Rattle.dimacs.specs.Texts.{TextKind, content_by}

-- the size at a place
abbrev pub size_at : Row → ℕ → ℕ
size_at numbers k = size_of (slice_index_or numbers k [])

abbrev pub arc_of_line : Row → RoadArc
arc_of_line numbers = record { tail = size_at numbers 0; head = size_at numbers 1; length = size_at numbers 2; opened = true }

-- the arc of an item line, which is open
abbrev pub arc_of : Row → Option RoadArc
arc_of row = if is_item gr row then Some (arc_of_line (item_fields row)) else None

-- the network that lines without a fault give: the announced nodes, the arcs in the order of their lines, and no landmark
abbrev pub network_of : List Row → Net
network_of rs = record { nodes = announced_nodes_of gr rs; arcs = filter_map arc_of rs; landmarks = []; room = length (filter_map arc_of rs) }

-- the kind of text that gives a network
abbrev pub gr_text : TextKind Net
gr_text = record { judge = code_of gr; end = end_code gr; says = network_of }

-- the content of lines, or their fault
abbrev pub content_of : List Row → Result Net Fault
content_of rs = content_by gr_text rs

-- the content of a text, or its fault
abbrev pub content : List ℕ → Result Net Fault
content text = content_of (rows text)
