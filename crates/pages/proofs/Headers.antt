-- What is read from a page that spells a header.
use Rattle.std.proofs.Common.{◌≡◌, ℕ, ◌<◌, ◌^◌, List, ◌++◌, refl, ap, sym, ◌∙◌, arith}
use Rattle.byteorder.specs.Endian.{big_bytes}
use Rattle.byteorder.specs.Numbers.{big_number-reads_back}
use Rattle.pages.specs.declared.header.Header.{Header}
use Rattle.pages.specs.declared.content.Format.{Format}
use Rattle.pages.specs.declared.content.Format.TheVariants.{One, Two}
use Rattle.pages.specs.Formats.{format_number_of, format_numbered, IsHeaderRoomFor, room_field, room_read}
use Rattle.pages.specs.Spelling.{header_fields, IsHeader, SpelledHeader}
use Rattle.pages.specs.Reading.{read_header}
use Rattle.pages.proofs.Padding.{begins}

pub same : (h : Header) (f : Format) (n m r j : ℕ) → f ≡ h.format → n ≡ h.nodes → m ≡ h.arcs → r ≡ h.room → j ≡ h.journal_pages → record { format = f; nodes = n; arcs = m; room = r; journal_pages = j } ≡ h
same h f n m r j e p q s t = rw (e, p, q, s, t) refl

number_fits : (f : Format) → format_number_of f < 2 ^ 32
number_fits One = omega arith
number_fits Two = omega arith

number_back : (f : Format) → format_numbered (format_number_of f) ≡ f
number_back One = refl
number_back Two = refl

field_fits : (f : Format) (room : ℕ) → room < 2 ^ 32 → room_field f room < 2 ^ 32
field_fits One room lt = omega arith
field_fits Two room lt = lt

room_back : (f : Format) (arcs room : ℕ) → IsHeaderRoomFor f arcs room → room_read f arcs (room_field f room) ≡ room
room_back One arcs room is = sym (is refl)
room_back Two arcs room is = refl

pub room_same : (f g : Format) (a b x y : ℕ) → f ≡ g → a ≡ b → x ≡ y → room_read f a x ≡ room_read g b y
room_same f g a b x y p q r = rw (p, q, r) refl

-- what is read at the places is put together so
room_as : (f g : Format) (arcs m field n room : ℕ) → f ≡ g → m ≡ arcs → n ≡ field → room_read g arcs field ≡ room → room_read f m n ≡ room
room_as f g arcs m field n room p q r e = rw (p, q, r) e

fields_read : (h : Header) (rest : List ℕ) → IsHeader h → read_header (header_fields h ++ rest) ≡ h
fields_read h rest fits =
    let format = ap format_numbered (big_number-reads_back 4 (format_number_of h.format) (big_bytes 4 h.nodes ++ big_bytes 4 h.arcs ++ big_bytes 4 h.journal_pages ++ big_bytes 4 (room_field h.format h.room) ++ rest) (number_fits h.format)) ∙ number_back h.format in
    let arcs = big_number-reads_back 4 h.arcs (big_bytes 4 h.journal_pages ++ big_bytes 4 (room_field h.format h.room) ++ rest) (omega (arith, fits.arcs_to, fits.room_to)) in
    let field = big_number-reads_back 4 (room_field h.format h.room) rest (field_fits h.format h.room (omega (arith, fits.room_to))) in
    same h _ _ _ _ _ format
    (big_number-reads_back 4 h.nodes (big_bytes 4 h.arcs ++ big_bytes 4 h.journal_pages ++ big_bytes 4 (room_field h.format h.room) ++ rest) (omega (arith, fits.nodes_to)))
    arcs
    (room_as _ h.format h.arcs _ (room_field h.format h.room) _ h.room format arcs field (room_back h.format h.arcs h.room fits.room_fits))
    (big_number-reads_back 4 h.journal_pages (big_bytes 4 (room_field h.format h.room) ++ rest) (omega (arith, fits.pages_to)))

-- A page that spells a header is read as that.
pub header_read : (page : List ℕ) (h : Header) → SpelledHeader page h → read_header page ≡ h
header_read page h spells =
    let b = begins page (header_fields h) (omega arith) spells.spelled in
    ap read_header b.1 ∙ fields_read h b.0 spells.fits
