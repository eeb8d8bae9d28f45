-- The lines of a text that is made of fields are these fields.
use Rattle.std.proofs.Common.{◌≡◌, ◌∙◌, ℕ, ◌<◌, ◌≤◌, ◌-◌, true, false, ltb, ◌&&◌, List, [], ◌∷◌, ◌++◌, length, map, get_or, refl, sym, ap, arith, append_assoc, inl, inr}
use Rattle.std.specs.Prelude.{All}
use Rattle.std.specs.Io.BufRead.{strip_last, ends_with_byte}
use Rattle.std.specs.List.{join_with_byte, list_all, filter, slice_split, onto_first, AllByRecursion}
use Rattle.std.proofs.lemmas.Bool.{and_parts, cases_Bool, lt-ltb, ltb-true, ne_eqb}
use Rattle.std.proofs.lemmas.List.Elements.{All-nil, All-cons, All-append, All-weaker}
use Rattle.std.proofs.lemmas.List.Splits.{slice_split_at, slice_split_none, slice_split-cons_yes, slice_split-cons_no}
use Rattle.dimacs.specs.Faults.{Row}
use Rattle.dimacs.specs.Lines.{is_blank, is_line_feed, is_not_empty, without_empty_last, fields, lines, rows}
use Rattle.printing.specs.Exports.{text_line_of, text_of}

-- a byte above each blank and each end of a line
abbrev pub IsMark : ℕ → Type 0
IsMark b = 32 < b

-- some such bytes
pub record IsField (field : List ℕ) : Type 0 where
  pub some : 0 < length field
  pub marks : All IsMark field

-- some fields
abbrev pub IsLine : Row → Type 0
IsLine [] = ⊥
IsLine (field ∷ others) = AllByRecursion IsField (field ∷ others)

-- ---- the fields of a line
no_blank : (b : ℕ) → IsMark b → is_blank b ≡ false
no_blank b lt = rw (ne_eqb b 32 (λ e. absurd (omega (arith, lt, e))), ne_eqb b 9 (λ e. absurd (omega (arith, lt, e)))) refl

kept_piece : (piece : List ℕ) (more : List (List ℕ)) → 0 < length piece → filter is_not_empty (piece ∷ more) ≡ piece ∷ filter is_not_empty more
kept_piece piece more some = rw (lt-ltb 0 (length piece) some) refl

-- a field with a blank behind it, and one at the end
field_then : (field rest : List ℕ) → IsField field → fields (field ++ 32 ∷ rest) ≡ field ∷ fields rest
field_then field rest is =
    ap (filter is_not_empty) (slice_split_at is_blank field 32 rest (All-weaker IsMark _ no_blank field is.marks) refl) ∙ kept_piece field (slice_split is_blank rest) is.some

field_alone : (field : List ℕ) → IsField field → fields field ≡ field ∷ []
field_alone field is = ap (filter is_not_empty) (slice_split_none is_blank field (All-weaker IsMark _ no_blank field is.marks)) ∙ kept_piece field [] is.some

fields_back : (field : List ℕ) (others : Row) → AllByRecursion IsField (field ∷ others) → fields (join_with_byte 32 (field ∷ others)) ≡ field ∷ others
fields_back field [] all = field_alone field all.0
fields_back field (next ∷ others) all = field_then field (join_with_byte 32 (next ∷ others)) all.0 ∙ ap (λ (r : Row). field ∷ r) (fields_back next others all.1)

-- ---- the line itself: no byte below a blank
abbrev IsInLine : ℕ → Type 0
IsInLine b = 32 ≤ b

joined_bytes : (field : List ℕ) (others : Row) → AllByRecursion IsField (field ∷ others) → All IsInLine (join_with_byte 32 (field ∷ others))
joined_bytes field [] all = All-weaker IsMark IsInLine (λ b lt. omega (arith, lt)) field all.0.marks
joined_bytes field (next ∷ others) all =
    All-append IsInLine field (32 ∷ join_with_byte 32 (next ∷ others)) (All-weaker IsMark IsInLine (λ b lt. omega (arith, lt)) field all.0.marks)
    (All-cons IsInLine 32 (join_with_byte 32 (next ∷ others)) (omega arith) (joined_bytes next others all.1))

joined_some : (field : List ℕ) (others : Row) → IsField field → 0 < length (join_with_byte 32 (field ∷ others))
joined_some field [] is = is.some
joined_some field (next ∷ others) is = some field is.some
  where
    some : (field : List ℕ) → 0 < length field → 0 < length (field ++ 32 ∷ join_with_byte 32 (next ∷ others))
    some [] lt = absurd (omega (arith, lt))
    some (b ∷ bs) lt = omega arith

unended : (line : List ℕ) → 0 < length line → All IsInLine line → strip_last 13 line ≡ line
unended line some all =
    let last : 32 ≤ get_or line (length line - 1) 0 = all (length line - 1) 0 (omega (arith, some)) in
    let other : ends_with_byte 13 line ≡ false = rw (lt-ltb 0 (length line) some, ne_eqb (get_or line (length line - 1) 0) 13 (λ e. absurd (omega (arith, last, e)))) refl in
    rw other refl

no_feed : (b : ℕ) → IsInLine b → is_line_feed b ≡ false
no_feed b le = ne_eqb b 10 (λ e. absurd (omega (arith, le, e)))

last_of_split : (piece bytes : List ℕ) → without_empty_last (piece ∷ slice_split is_line_feed bytes) ≡ piece ∷ without_empty_last (slice_split is_line_feed bytes)
last_of_split piece [] = refl
last_of_split piece (x ∷ xs) =
    elim (cases_Bool (is_line_feed x)) [
      | inl feed ↦ rw (slice_split-cons_yes is_line_feed x xs feed) refl
      | inr other ↦ rw (slice_split-cons_no is_line_feed x xs other) (onto piece x (slice_split is_line_feed xs))
    ]
  where
    onto : (piece : List ℕ) (x : ℕ) (pieces : List (List ℕ)) → without_empty_last (piece ∷ onto_first x pieces) ≡ piece ∷ without_empty_last (onto_first x pieces)
    onto piece x [] = refl
    onto piece x (next ∷ more) = refl

line_back : (line more : List ℕ) → 0 < length line → All IsInLine line → lines (line ++ 10 ∷ more) ≡ line ∷ lines more
line_back line more some all =
    let cut : slice_split is_line_feed (line ++ 10 ∷ more) ≡ line ∷ slice_split is_line_feed more = slice_split_at is_line_feed line 10 more (All-weaker IsInLine _ no_feed line all) refl in
    rw (cut, last_of_split) (ap (λ (l : List ℕ). l ∷ lines more) (unended line some all))

-- ---- all lines
joined : (field : List ℕ) (others : Row) (more : List ℕ) → text_line_of (field ∷ others) ++ more ≡ join_with_byte 32 (field ∷ others) ++ 10 ∷ more
joined field [] more = append_assoc field (10 ∷ []) more
joined field (next ∷ others) more =
    append_assoc field (32 ∷ text_line_of (next ∷ others)) more
    ∙ ap (λ (l : List ℕ). field ++ 32 ∷ l) (joined next others more)
    ∙ sym (append_assoc field (32 ∷ join_with_byte 32 (next ∷ others)) (10 ∷ more))

row_back : (row : Row) (more : List ℕ) → IsLine row → rows (text_line_of row ++ more) ≡ row ∷ rows more
row_back [] more is = absurd is
row_back (field ∷ others) more is =
    let line = join_with_byte 32 (field ∷ others) in
    ap rows (joined field others more)
    ∙ ap (map fields) (line_back line more (joined_some field others is.0) (joined_bytes field others is))
    ∙ ap (λ (r : Row). r ∷ rows more) (fields_back field others is)

pub rows_back : (rs : List Row) → AllByRecursion IsLine rs → rows (text_of rs) ≡ rs
rows_back [] all = refl
rows_back (row ∷ rs) all = row_back row (text_of rs) all.0 ∙ ap (λ (l : List Row). row ∷ l) (rows_back rs all.1)

-- a word that is written out
pub word_is_field : (word : List ℕ) → (ltb 0 (length word) && list_all (λ b. ltb 32 b) word) ≡ true → IsField word
word_is_field word is = let parts = and_parts _ _ is in record { some = ltb-true 0 (length word) parts.0; marks = marks word parts.1 }
  where
    marks : (bs : List ℕ) → list_all (λ b. ltb 32 b) bs ≡ true → All IsMark bs
    marks [] all = All-nil IsMark
    marks (b ∷ bs) all = let parts = and_parts _ _ all in All-cons IsMark b bs (ltb-true 32 b parts.0) (marks bs parts.1)
