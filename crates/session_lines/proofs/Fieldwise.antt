-- The fields of a line that goes on.
use Rattle.std.proofs.Common.{◌≡◌, ◌≢◌, ◌∙◌, ℕ, suc, ◌-◌, ◌<◌, true, false, eqb, ltb, List, [], ◌∷◌, ◌++◌, length, take, get_or, refl, ap, inl, inr, arith}
use Rattle.std.specs.List.{filter, slice_split, onto_first}
use Rattle.std.specs.Io.BufRead.{strip_last, ends_with_byte}
use Rattle.std.proofs.lemmas.Bool.{cases_Bool, cond-true, cond-false, lt-ltb, ne_eqb}
use Rattle.std.proofs.lemmas.List.{append-nil, length-append}
use Rattle.std.proofs.Math.Seq.{get_or-append_seam, take-append_seam}
use Rattle.std.proofs.lemmas.List.Splits.{slice_split-cons_yes, slice_split-cons_no, slice_split_none, slice_split_at}
use Rattle.std.proofs.lemmas.List.Elements.{All-append}
use Rattle.dimacs.specs.Faults.{Row, is_remark}
use Rattle.dimacs.specs.Lines.{is_blank, is_not_empty, fields}
use Rattle.session_lines.specs.Fields.{as_row}
use Rattle.session_lines.specs.Judging.{IsOneField}

kept_piece : (piece : List ℕ) (more : List (List ℕ)) → 0 < length piece → filter is_not_empty (piece ∷ more) ≡ piece ∷ filter is_not_empty more
kept_piece piece more some = cond-true _ _ _ (lt-ltb _ _ some)

pub blank_first : (b : ℕ) (more : List ℕ) → is_blank b ≡ true → fields (b ∷ more) ≡ fields more
blank_first b more e = ap (filter is_not_empty) (slice_split-cons_yes is_blank b more e)

field_ended : (w : List ℕ) (b : ℕ) (more : List ℕ) → 0 < length w → IsOneField w → is_blank b ≡ true → fields (w ++ b ∷ more) ≡ w ∷ fields more
field_ended w b more some plain e = ap (filter is_not_empty) (slice_split_at is_blank w b more plain e) ∙ kept_piece w (slice_split is_blank more) some

field_alone : (w : List ℕ) → 0 < length w → IsOneField w → fields w ≡ w ∷ []
field_alone w some plain = ap (filter is_not_empty) (slice_split_none is_blank w plain) ∙ kept_piece w [] some

-- a field that a blank ends, and one that the line ends
pub ended_by_blank : (last : List ℕ) (b : ℕ) (more : List ℕ) → IsOneField last → is_blank b ≡ true → fields (last ++ b ∷ more) ≡ as_row last ++ fields more
ended_by_blank [] b more plain e = blank_first b more e
ended_by_blank (x ∷ xs) b more plain e = field_ended (x ∷ xs) b more (omega arith) plain e

pub ended_by_line : (last : List ℕ) → IsOneField last → fields (last ++ []) ≡ as_row last
ended_by_line [] plain = refl
ended_by_line (x ∷ xs) plain = ap fields (append-nil (x ∷ xs)) ∙ field_alone (x ∷ xs) (omega arith) plain

-- one field with a byte that is no blank
pub one_byte : (b : ℕ) → is_blank b ≡ false → IsOneField (b ∷ [])
one_byte b e k d l = let first : k ≡ 0 = omega (arith, l) in rw first e

pub one_more : (field : List ℕ) (b : ℕ) → IsOneField field → is_blank b ≡ false → IsOneField (field ++ b ∷ [])
one_more field b plain e = All-append (λ x. is_blank x ≡ false) field (b ∷ []) plain (one_byte b e)

-- the first piece begins with what stands before any blank
record FirstPiece (w more : List ℕ) : Type 0 where
  tail : List ℕ
  others : List (List ℕ)
  pieces : slice_split is_blank (w ++ more) ≡ (w ++ tail) ∷ others

some_piece : (more : List ℕ) → FirstPiece [] more
some_piece [] = record { tail = []; others = []; pieces = refl }
some_piece (x ∷ xs) =
    elim (cases_Bool (is_blank x)) [
      | inl blank ↦ record { tail = []; others = slice_split is_blank xs; pieces = slice_split-cons_yes is_blank x xs blank }
      | inr other ↦
          let rest = some_piece xs in
          record { tail = x ∷ rest.tail; others = rest.others; pieces = slice_split-cons_no is_blank x xs other ∙ ap (onto_first x) rest.pieces }
    ]

first_piece : (w more : List ℕ) → IsOneField w → FirstPiece w more
first_piece [] more plain = some_piece more
first_piece (x ∷ xs) more plain =
    let rest = first_piece xs more (λ k d l. plain (suc k) d (omega (arith, l))) in
    record { tail = rest.tail; others = rest.others; pieces = slice_split-cons_no is_blank x (xs ++ more) (plain 0 0 (omega arith)) ∙ ap (onto_first x) rest.pieces }

pub record FirstField (first : ℕ) (w more : List ℕ) : Type 0 where
  pub tail : List ℕ
  pub others : Row
  pub row : fields ((first ∷ w) ++ more) ≡ (first ∷ (w ++ tail)) ∷ others

pub first_field : (first : ℕ) (w more : List ℕ) → IsOneField (first ∷ w) → FirstField first w more
first_field first w more plain =
    let piece = first_piece (first ∷ w) more plain in
    record {
      tail = piece.tail;
      others = filter is_not_empty piece.others;
      row = ap (filter is_not_empty) piece.pieces ∙ kept_piece (first ∷ (w ++ piece.tail)) piece.others (omega arith);
    }

-- what begins with the mark of comments is one
pub remark_first : (more : List ℕ) → is_remark 35 (fields (35 ∷ more)) ≡ true
remark_first more =
    let found = first_field 35 [] more (one_byte 35 refl) in
    let some : ltb 0 (length (35 ∷ ([] ++ found.tail))) ≡ true = lt-ltb _ _ (omega arith) in
    ap (is_remark 35) found.row ∙ rw some refl

-- a carriage return at the end
longer : (xs : List ℕ) (b : ℕ) → length (xs ++ b ∷ []) - 1 ≡ length xs
longer xs b = omega (arith, length-append xs (b ∷ []))

last_of : (xs : List ℕ) (b : ℕ) → get_or (xs ++ b ∷ []) (length (xs ++ b ∷ []) - 1) 0 ≡ b
last_of xs b = rw (longer xs b) (get_or-append_seam xs b [] 0)

ends : (xs : List ℕ) (b : ℕ) → ends_with_byte 13 (xs ++ b ∷ []) ≡ eqb b 13
ends xs b =
    let some : ltb 0 (length (xs ++ b ∷ [])) ≡ true = lt-ltb _ _ (omega (arith, length-append xs (b ∷ []))) in
    rw (some, last_of xs b) refl

front_of : (xs : List ℕ) (b : ℕ) → take (length (xs ++ b ∷ []) - 1) (xs ++ b ∷ []) ≡ xs
front_of xs b = rw (longer xs b) (take-append_seam xs (b ∷ []))

pub without_return : (xs : List ℕ) → strip_last 13 (xs ++ 13 ∷ []) ≡ xs
without_return xs = cond-true _ _ _ (ends xs 13) ∙ front_of xs 13

pub no_return : (xs : List ℕ) (b : ℕ) → b ≢ 13 → strip_last 13 (xs ++ b ∷ []) ≡ xs ++ b ∷ []
no_return xs b other = cond-false _ _ _ (ends xs b ∙ ne_eqb b 13 other)
