-- What is read at the places of a page's fields.
use Rattle.std.specs.Prelude.{ℕ, zero, suc, ◌%◌, ◌^◌, nat_lt, nat_le, ◌&&◌, not, Bool, List, [], ◌∷◌, take, drop, slice_index, Option, Some, None, option_and_then, ◌==◌, if◌then◌else◌}
use Rattle.std.specs.Option.{option_map}
use Rattle.byteorder.specs.Endian.{big_number}
use Rattle.roadnet.specs.declared.commands.Command.{Command}
use Rattle.roadnet.specs.declared.commands.Command.TheVariants.{Set, Close, Reopen, Mark, Unmark, Lay}
use Rattle.pages.specs.declared.content.Format.{Format}
use Rattle.pages.specs.declared.content.Record.{Record}
use Rattle.pages.specs.declared.content.Ends.{Ends}
use Rattle.pages.specs.declared.content.Word.{Word}
use Rattle.pages.specs.declared.header.Header.{Header}
use Rattle.pages.specs.Formats.{format_numbered, room_read}

-- the number of the format
abbrev pub format_read : List ℕ → Format
format_read page = format_numbered (big_number 4 (drop 8 page))

abbrev pub read_header : List ℕ → Header
read_header page = record { format = format_read page; nodes = big_number 4 (drop 12 page); arcs = big_number 4 (drop 16 page); room = room_read (format_read page) (big_number 4 (drop 16 page)) (big_number 4 (drop 24 page)); journal_pages = big_number 4 (drop 20 page) }

-- so many items of this size, one after the other
abbrev pub read_items : {X : Type 0} → (List ℕ → X) → ℕ → ℕ → List ℕ → List X
read_items read size zero bytes = []
read_items read size (suc n) bytes = read (take size bytes) ∷ read_items read size n (drop size bytes)

abbrev pub read_ends : List ℕ → Ends
read_ends bytes = record { tail = big_number 4 bytes; head = big_number 4 (drop 4 bytes) }

-- whether both ends are among the nodes 1 to this one
abbrev pub is_ends : ℕ → Ends → Bool
is_ends nodes e = nat_le 1 e.tail && nat_le e.tail nodes && nat_le 1 e.head && nat_le e.head nodes

abbrev pub read_word : List ℕ → Word
read_word bytes = record { length = big_number 4 bytes % 2 ^ 31; opened = nat_lt (big_number 4 bytes) (2 ^ 31) }

-- the command of this kind
abbrev pub command_of_kind : ℕ → ℕ → ℕ → ℕ → Option Command
command_of_kind kind a b c =
    if kind == 1 then Some (Set a b) else
    if kind == 2 then Some (Close a) else
    if kind == 3 then Some (Reopen a) else
    if kind == 4 then Some (Mark a) else
    if kind == 5 then Some (Unmark a) else
    if kind == 6 then Some (Lay a b c) else None

abbrev pub read_command : List ℕ → Option Command
read_command bytes = command_of_kind (slice_index bytes 0) (big_number 4 (drop 4 bytes)) (big_number 4 (drop 8 bytes)) (big_number 4 (drop 12 bytes))

-- the command, and whether the byte behind the kind is not 0
abbrev pub read_record : List ℕ → Option Record
read_record bytes = option_map (λ (command : Command). record { command = command; goes_on = not (slice_index bytes 1 == 0) }) (read_command bytes)

-- so many records, one after the other
unfoldable pub read_records : ℕ → List ℕ → Option (List Record)
read_records zero bytes = Some []
read_records (suc n) bytes = option_and_then (λ r. option_map (λ records. r ∷ records) (read_records n (drop 16 bytes))) (read_record (take 16 bytes))
