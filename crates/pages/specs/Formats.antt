-- The formats of a store file, and in what they differ.
use Rattle.std.specs.Prelude.{◌≡◌, ℕ, List, [], ◌==◌, if◌then◌else◌}
use Rattle.byteorder.specs.Endian.{big_bytes}
use Rattle.pages.specs.declared.content.Format.{Format}
use Rattle.pages.specs.declared.content.Format.TheVariants.{One, Two}

-- the number that a header has
abbrev pub format_number_of : Format → ℕ
format_number_of One = 1
format_number_of Two = 2

-- the format of a number, of which only 1 and 2 are one's
abbrev pub format_numbered : ℕ → Format
format_numbered number = if number == 1 then One else Two

-- A network has no room besides its arcs in format 1, and its header has zero there.
abbrev pub IsHeaderRoomFor : Format → ℕ → ℕ → Type 0
IsHeaderRoomFor f arcs room = f ≡ One → room ≡ arcs

abbrev pub room_field : Format → ℕ → ℕ
room_field One room = 0
room_field Two room = room

abbrev pub room_read : Format → ℕ → ℕ → ℕ
room_read One arcs field = arcs
room_read Two arcs field = field

-- A slot's head has the number of its arcs in format 2 alone: in format 1 they are those of the header.
abbrev pub arcs_field : Format → ℕ → List ℕ
arcs_field One arcs = []
arcs_field Two arcs = big_bytes 4 arcs

abbrev pub arcs_read : Format → ℕ → ℕ → ℕ
arcs_read One arcs field = arcs
arcs_read Two arcs field = field

-- where the landmarks stand in a slot's head
abbrev pub landmarks_at : Format → ℕ
landmarks_at One = 28
landmarks_at Two = 32

-- true of what stands in format 2 alone
abbrev pub InTwo : Format → Type 0
InTwo One = ⊥
InTwo Two = Unit {0}
