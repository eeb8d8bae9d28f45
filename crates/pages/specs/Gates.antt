-- Gates: the last byte of a header, of a slot's head and of a journal page.
use Rattle.std.specs.Prelude.{◌≡◌, ℕ, ◌==◌, if◌then◌else◌, List, slice_index, Option, Some, None}
use Rattle.byteorder.specs.Endian.{big_number}
use Rattle.disk.specs.Gated.{open_byte}
use Rattle.pages.specs.declared.gate.GateByte.{GateByte}
use Rattle.pages.specs.declared.gate.GateByte.TheVariants.{Open, Closed}

-- A gate is open at this byte, and closed at each other.
abbrev pub gate_of : ℕ → GateByte
gate_of byte = if byte == open_byte then Open else Closed

-- the byte by which a gate is written
abbrev pub gate_byte : GateByte → ℕ
gate_byte Open = open_byte
gate_byte Closed = 0

-- the number at the front of a page, where its gate is open: the epoch of a slot's head, the sequence of a journal page
abbrev pub open_number : List ℕ → Option ℕ
open_number page = if slice_index page 4095 == open_byte then Some (big_number 8 page) else None

-- A written gate is read again.
abbrev pub GatesReadBack : Type 0
GatesReadBack = (gate : GateByte) → gate_of (gate_byte gate) ≡ gate
