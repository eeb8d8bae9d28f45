-- Opening a file: what is stored, or the first refusal. Each step is a function of the file's pages.
use Rattle.std.specs.Prelude.{ℕ, zero, suc, ◌+◌, ◌-◌, ◌*◌, ◌^◌, Bool, true, nat_le, nat_lt, ◌&&◌, ◌==◌, if◌then◌else◌, List, [], ◌∷◌, ◌++◌, length, map, take, drop, Option, Some, None, Result, Ok, Err, option_and_then}
use Rattle.std.specs.List.{list_all, zip}
use Rattle.std.specs.Str.{bytes_eq}
use Rattle.byteorder.specs.Endian.{big_number}
use Rattle.roadnet.specs.declared.arcs.RoadArc.{RoadArc}
use Rattle.roadnet.specs.declared.commands.Command.{Command}
use Rattle.roadnet.specs.declared.commands.Command.TheVariants.{Set, Close, Reopen, Mark, Unmark, Lay}
use Rattle.roadnet.specs.declared.refusals.Refusal.{Refusal}
use Rattle.roadnet.specs.declared.refusals.Refusal.TheVariants.{NotAStore, WrongFormat, Damaged}
use Rattle.roadnet.specs.Net.{Net}
use Rattle.roadnet.specs.Step.{after}
use Rattle.pages.specs.declared.header.Header.{Header}
use Rattle.pages.specs.declared.content.Format.{Format}
use Rattle.pages.specs.declared.content.Format.TheVariants.{One, Two}
use Rattle.pages.specs.declared.content.Record.{Record}
use Rattle.pages.specs.declared.content.Ends.{Ends}
use Rattle.pages.specs.declared.content.Word.{Word}
use Rattle.pages.specs.declared.content.Slot.{Slot}
use Rattle.pages.specs.declared.content.Slot.TheVariants.{A, B}
use Rattle.pages.specs.Contents.{Head, Entry}
use Rattle.pages.specs.Spelling.{body, header_page, arc_page, word_page, head_page, records_page}
use Rattle.pages.specs.Formats.{format_number_of, arcs_read, landmarks_at}
use Rattle.pages.specs.Grouping.{grouped, are_whole, is_of_format}
use Rattle.pages.specs.Reading.{read_header, read_records, read_items, read_ends, read_word, is_ends}
use Rattle.pages.specs.Layout.{Arcs, HeadOf, Words, EndsOf, places_in_use, arc_pages, word_pages, end_pages, page_number, page_count}
use Rattle.storefile.specs.StoreFile.{page, is_open, first_field, journal_page_at, is_standing, Stored}
use Rattle.pages.specs.Limits.{page_size, magic, most_versions, most_commands}

-- ---- the content that a page spells, if it spells one: what is read at the places of its fields, where the page is spelled so

abbrev pub kept_if : {X : Type 0} → Bool → X → Option X
kept_if spelled content = if spelled then Some content else None

abbrev pub is_room_for : Format → ℕ → ℕ → Bool
is_room_for One arcs room = room == arcs
is_room_for Two arcs room = true

abbrev pub is_header : Header → Bool
is_header h = nat_le 1 h.nodes && nat_le h.nodes 33554432 && nat_le h.arcs h.room && nat_le h.room 67108864 && is_room_for h.format h.arcs h.room && nat_le 1 h.journal_pages && nat_le h.journal_pages 65536

abbrev pub header_in : List ℕ → Option Header
header_in page = let h = read_header page in kept_if (is_header h && bytes_eq (body page) (body (header_page h))) h

-- the ends of so many arcs, in a network of so many nodes
abbrev pub arcs_in : ℕ → ℕ → List ℕ → Option (List Ends)
arcs_in nodes count page = let arcs = read_items read_ends 8 count page in kept_if (list_all (is_ends nodes) arcs && bytes_eq page (arc_page arcs)) arcs

-- so many words
abbrev pub words_in : ℕ → List ℕ → Option (List Word)
words_in count page = let words = read_items read_word 4 count page in kept_if (bytes_eq page (word_page words)) words

abbrev pub is_ascending : List ℕ → Bool
is_ascending [] = true
is_ascending (x ∷ []) = true
is_ascending (x ∷ y ∷ xs) = nat_lt x y && is_ascending (y ∷ xs)

abbrev pub read_head : Header → List ℕ → Head
read_head h page = record {
  epoch = big_number 8 page;
  version = big_number 8 (drop 8 page);
  next_sequence = big_number 8 (drop 16 page);
  arcs = arcs_read h.format h.arcs (big_number 4 (drop 28 page));
  landmarks = read_items (big_number 4) 4 (big_number 4 (drop 24 page)) (drop (landmarks_at h.format) page);
}

abbrev pub is_head : Header → Head → Bool
is_head h s =
    nat_le 1 s.epoch && nat_le s.epoch (s.next_sequence + 1) && nat_le s.next_sequence s.version && nat_le s.version most_versions
    && (nat_le h.arcs s.arcs && nat_le s.arcs h.room)
    && is_ascending s.landmarks && list_all (λ x. nat_le 1 x && nat_le x h.nodes) s.landmarks

-- the head of a slot of a store of these sizes
abbrev pub head_in : Header → List ℕ → Option Head
head_in h page =
    if nat_le (big_number 4 (drop 24 page)) 1000
    then (let s = read_head h page in kept_if (is_head h s && bytes_eq (body page) (body (head_page h.format s))) s)
    else None

abbrev pub fits_record : Command → Bool
fits_record (Set k w) = nat_lt k (2 ^ 32) && nat_lt w (2 ^ 32)
fits_record (Close k) = nat_lt k (2 ^ 32)
fits_record (Reopen k) = nat_lt k (2 ^ 32)
fits_record (Mark x) = nat_lt x (2 ^ 32)
fits_record (Unmark x) = nat_lt x (2 ^ 32)
fits_record (Lay t h w) = nat_lt t (2 ^ 32) && nat_lt h (2 ^ 32) && nat_lt w (2 ^ 32)

abbrev pub is_record : Format → Record → Bool
is_record f r = fits_record r.command && is_of_format f r

-- so many records that fit, with the numbers before them, of which the last ends its group
abbrev pub are_entry : Format → ℕ → ℕ → List Record → Bool
are_entry f sequence first_number records =
    nat_lt sequence (2 ^ 64) && nat_lt first_number (2 ^ 64) && nat_le 1 (length records) && nat_le (length records) most_commands && are_whole records && list_all (is_record f) records

-- the entry of these records, with the numbers that the page has
abbrev pub entry_with : Format → List ℕ → List Record → Option Entry
entry_with f page records =
    let q = big_number 8 page in
    let n = big_number 8 (drop 8 page) in
    kept_if (are_entry f q n records && bytes_eq (body page) (body (records_page q n records))) (record { sequence = q; first_number = n; groups = grouped records })

abbrev pub entry_in : Format → List ℕ → Option Entry
entry_in f page =
    let count = big_number 2 (drop 16 page) in
    if nat_le count most_commands then option_and_then (entry_with f page) (read_records count (drop 32 page)) else None

-- ---- the steps of opening

infixl 10 ◌>>=◌
abbrev pub ◌>>=◌ : {X Y : Type 0} → Result X Refusal → (X → Result Y Refusal) → Result Y Refusal
(Ok x) >>= f = f x
(Err e) >>= f = Err e

-- this refusal, unless the test holds
abbrev pub unless_so : Bool → Refusal → Result (Unit {0}) Refusal
unless_so test refusal = if test then Ok tt else Err refusal

-- what the page of this number spells
abbrev pub spelled_at : {X : Type 0} → ℕ → Option X → Result X Refusal
spelled_at k None = Err (Damaged k)
spelled_at k (Some content) = Ok content

-- what the i-th page and the next ones spell, so many in all, joined
abbrev pub all_spelled : {X : Type 0} → (ℕ → Option (List X)) → (ℕ → ℕ) → ℕ → ℕ → Result (List X) Refusal
all_spelled decode number i zero = Ok []
all_spelled decode number i (suc n) = do
  first ← spelled_at (number i) (decode i)
  others ← all_spelled decode number (suc i) n
  Ok (first ++ others)

-- the first bytes are those of a store, and the gate is open
abbrev pub begins_as_store : ℕ → List ℕ → Bool
begins_as_store size page = nat_le page_size size && bytes_eq (take 8 page) magic && is_open page

-- the number of the format
abbrev pub format_of : List ℕ → ℕ
format_of page = big_number 4 (drop 8 page)

-- the ends of the first arcs, by the arc pages
abbrev pub ends_from : (ℕ → List ℕ) → Header → Result (List Ends) Refusal
ends_from pages h = all_spelled (λ i. arcs_in h.nodes (places_in_use 511 i h.arcs) (pages (page_number h (Arcs i)))) (λ i. page_number h (Arcs i)) 0 (arc_pages h)

-- the open slot, or of two open ones that of the greater epoch
abbrev pub current_slot : (ℕ → List ℕ) → Header → Result Slot Refusal
current_slot pages h =
    let a = pages (page_number h (HeadOf A)) in
    let b = pages (page_number h (HeadOf B)) in
    if is_open a
    then (if is_open b
    then (if first_field a == first_field b then Err (Damaged (page_number h (HeadOf B))) else if nat_lt (first_field a) (first_field b) then Ok B else Ok A)
    else Ok A)
    else (if is_open b then Ok B else Err (Damaged (page_number h (HeadOf A))))

-- the words of so many arcs, by the word pages of a slot
abbrev pub words_from : (ℕ → List ℕ) → Header → Slot → ℕ → Result (List Word) Refusal
words_from pages h slot arcs = all_spelled (λ i. words_in (places_in_use 1023 i arcs) (pages (page_number h (Words slot i)))) (λ i. page_number h (Words slot i)) 0 (word_pages h)

-- the ends of those of so many arcs that the arc pages do not have, by the end pages of a slot
abbrev pub laid_from : (ℕ → List ℕ) → Header → Slot → ℕ → Result (List Ends) Refusal
laid_from pages h slot arcs = all_spelled (λ i. arcs_in h.nodes (places_in_use 511 i (arcs - h.arcs)) (pages (page_number h (EndsOf slot i)))) (λ i. page_number h (EndsOf slot i)) 0 (end_pages h)

-- an arc of these ends and this word
abbrev pub arc_from : Ends × Word → RoadArc
arc_from x = record { tail = x.0.tail; head = x.0.head; length = x.1.length; opened = x.1.opened }

abbrev pub network_from : Header → List Ends → List Word → Head → Net
network_from h ends words head = record { nodes = h.nodes; arcs = map arc_from (zip ends words); landmarks = head.landmarks; room = h.room }

-- The groups of the journal pages from sequence q on, page by page, and the network after them. The network so far is net,
-- at version v, and so many pages may follow.
abbrev pub journal_from : (ℕ → List ℕ) → Header → ℕ → ℕ → ℕ → Net → Result (List (List (List Command)) × Net) Refusal
journal_from pages h zero q v net = Ok ([], net)
journal_from pages h (suc most) q v net =
    if is_standing pages h q
    then (do
      e ← spelled_at (journal_page_at h q) (entry_in h.format (pages (journal_page_at h q)))
      _ ← unless_so (e.first_number == v + 1) (Damaged (journal_page_at h q))
      _ ← unless_so (nat_le (v + length e.groups) most_versions) (Damaged (journal_page_at h q))
      next ← spelled_at (journal_page_at h q) (after net e.groups)
      rest ← journal_from pages h most (q + 1) (v + length e.groups) next
      Ok (e.groups ∷ rest.0, rest.1))
    else Ok ([], net)

-- what a file of this format, of this size and with these pages, stores, and the network that it stands for
abbrev pub opened_from : Format → ℕ → (ℕ → List ℕ) → Result (Stored × Net) Refusal
opened_from format size pages = do
  _ ← unless_so (begins_as_store size (pages 0)) NotAStore
  _ ← unless_so (format_of (pages 0) == format_number_of format) WrongFormat
  h ← spelled_at 0 (header_in (pages 0))
  _ ← unless_so (size == page_size * page_count h) (Damaged 0)
  ends ← ends_from pages h
  slot ← current_slot pages h
  head ← spelled_at (page_number h (HeadOf slot)) (head_in h (pages (page_number h (HeadOf slot))))
  words ← words_from pages h slot head.arcs
  laid ← laid_from pages h slot head.arcs
  net ← Ok (network_from h (ends ++ laid) words head)
  journal ← journal_from pages h h.journal_pages head.next_sequence head.version net
  Ok (record { header = h; slot = slot; epoch = head.epoch; version = head.version; sequence = head.next_sequence; network = net; unchecked = journal.0 }, journal.1)

abbrev pub opened_in : Format → List ℕ → Result (Stored × Net) Refusal
opened_in format file = opened_from format (length file) (page file)

-- the same in the format in which stores are opened
abbrev pub opened : List ℕ → Result (Stored × Net) Refusal
opened file = opened_in Two file

abbrev pub refusal_in : Result (Stored × Net) Refusal → Option Refusal
refusal_in (Ok x) = None
refusal_in (Err refusal) = Some refusal

-- the first refusal of opening, or none
abbrev pub judged_in : Format → List ℕ → Option Refusal
judged_in format file = refusal_in (opened_in format file)

abbrev pub judged : List ℕ → Option Refusal
judged file = judged_in Two file
