-- A comment is known by its front.
use Rattle.std.proofs.Common.{◌≡◌, ℕ, zero, suc, append_assoc, ◌+◌, ◌-◌, ◌<◌, Bool, true, false, cond, eqb, ltb, ◌&&◌, List, [], ◌∷◌, ◌++◌, length, take, get_or, refl, sym, ap, ◌∙◌, arith, inl, inr, take_all, Result, Ok, Err}
use Rattle.std.specs.Prelude.{OnOk}
use Rattle.std.specs.List.{filter, slice_split, onto_first}
use Rattle.std.specs.Io.BufRead.{strip_last, ends_with_byte}
use Rattle.std.proofs.lemmas.Bool.{cases_Bool, cond-true, cond-false, lt-ltb, eqb-true, eq-eqb}
use Rattle.std.proofs.lemmas.List.{take_more, append-nil, length-append}
use Rattle.std.proofs.lemmas.List.Splits.{slice_split-cons_yes, slice_split-cons_no}
use Rattle.dimacs.specs.Lines.{is_blank, is_not_empty, fields}
use Rattle.dimacs.specs.Faults.{Row, is_remark}
use Rattle.dimacs.specs.Joint.{is_run}
use Rattle.dimacs.specs.Alike.{SaySame}
use Rattle.dimacs.specs.Progress.{SameLines, StandsForFront, IsCommentFront}
use Rattle.dimacs.specs.Overflow.{EndsInBlank, IsBlankFront}
use Rattle.dimacs.proofs.Pieces.{fields_blank}
use Rattle.dimacs.proofs.Alikes.{remark_same_row, same_is, same_row, same_then}
use Rattle.dimacs.proofs.Fronts.{blanks_left_out}

-- the first byte that is not blank is the mark
abbrev begins : ℕ → List ℕ → Bool
begins mark [] = false
begins mark (b ∷ bs) = cond (is_blank b) (begins mark bs) (eqb b mark)

first_of : (mark b : ℕ) (pieces : List (List ℕ)) → is_remark mark (filter is_not_empty (onto_first b pieces)) ≡ eqb b mark
first_of mark b [] = refl
first_of mark b (piece ∷ more) =
    let some : ltb 0 (length (b ∷ piece)) ≡ true = lt-ltb _ _ (omega arith) in
    let kept : filter is_not_empty ((b ∷ piece) ∷ more) ≡ (b ∷ piece) ∷ filter is_not_empty more = cond-true _ _ _ some in
    ap (is_remark mark) kept ∙ ap (λ (x : Bool). x && eqb b mark) some

remark_begins : (mark : ℕ) (line : List ℕ) → is_remark mark (fields line) ≡ begins mark line
remark_begins mark [] = refl
remark_begins mark (b ∷ bs) =
    elim (cases_Bool (is_blank b)) [
      | inl blank ↦
          ap (λ (pieces : List (List ℕ)). is_remark mark (filter is_not_empty pieces)) (slice_split-cons_yes is_blank b bs blank)
          ∙ remark_begins mark bs ∙ sym (cond-true _ _ _ blank)
      | inr other ↦
          ap (λ (pieces : List (List ℕ)). is_remark mark (filter is_not_empty pieces)) (slice_split-cons_no is_blank b bs other)
          ∙ first_of mark b (slice_split is_blank bs) ∙ sym (cond-false _ _ _ other)
    ]

begins_more : (mark : ℕ) (front more : List ℕ) → begins mark front ≡ true → begins mark (front ++ more) ≡ true
begins_more mark [] more e = absurd cc
begins_more mark (b ∷ bs) more e =
    elim (cases_Bool (is_blank b)) [
      | inl blank ↦ cond-true _ _ _ blank ∙ begins_more mark bs more (sym (cond-true _ _ _ blank) ∙ e)
      | inr other ↦ cond-false _ _ _ other ∙ sym (cond-false _ _ _ other) ∙ e
    ]

begins_before : (mark : ℕ) (front : List ℕ) → eqb 13 mark ≡ false → begins mark (front ++ 13 ∷ []) ≡ true → begins mark front ≡ true
begins_before mark [] other e = absurd cc
begins_before mark (b ∷ bs) other e =
    elim (cases_Bool (is_blank b)) [
      | inl blank ↦ cond-true _ _ _ blank ∙ begins_before mark bs other (sym (cond-true _ _ _ blank) ∙ e)
      | inr plain ↦ cond-false _ _ _ plain ∙ sym (cond-false _ _ _ plain) ∙ e
    ]

begins_stripped : (mark : ℕ) (line : List ℕ) → eqb 13 mark ≡ false → begins mark line ≡ true → begins mark (strip_last 13 line) ≡ true
begins_stripped mark line other e =
    elim (cases_Bool (ends_with_byte 13 line)) [
      | inr plain ↦ ap (begins mark) (cond-false _ _ _ plain) ∙ e
      | inl ends ↦
          let some : 0 < length line = has_some line ends in
          let last : get_or line (length line - 1) 0 ≡ 13 = eqb-true _ _ (and_right_of (ltb 0 (length line)) _ ends) in
          let split : line ≡ take (length line - 1) line ++ 13 ∷ [] =
          sym (take_all (length line - 1 + 1) line (omega arith)) ∙ take_more line (length line - 1) 0 (omega arith) ∙ ap (λ (y : ℕ). take (length line - 1) line ++ y ∷ []) last in
          ap (begins mark) (cond-true _ _ _ ends) ∙ begins_before mark (take (length line - 1) line) other (sym (ap (begins mark) split) ∙ e)
    ]
  where
    and_right_of : (a b : Bool) → (a && b) ≡ true → b ≡ true
    and_right_of true b e = e
    and_right_of false b e = absurd cc

    has_some : (line : List ℕ) → ends_with_byte 13 line ≡ true → 0 < length line
    has_some [] e = absurd cc
    has_some (x ∷ xs) e = omega arith

-- a line that goes on from the front of a comment is a comment
pub remark_goes_on : (mark : ℕ) (front more : List ℕ) → eqb 13 mark ≡ false → is_remark mark (fields front) ≡ true → is_remark mark (fields (strip_last 13 (front ++ more))) ≡ true
remark_goes_on mark front more other e =
    let begun : begins mark front ≡ true = sym (remark_begins mark front) ∙ e in
    remark_begins mark (strip_last 13 (front ++ more)) ∙ begins_stripped mark (front ++ more) other (begins_more mark front more begun)

pub remark_grows : (mark : ℕ) (front more : List ℕ) → is_remark mark (fields front) ≡ true → is_remark mark (fields (front ++ more)) ≡ true
remark_grows mark front more e = remark_begins mark (front ++ more) ∙ begins_more mark front more (sym (remark_begins mark front) ∙ e)

-- no comment is the line `run`
pub remark_is_no_run : (mark : ℕ) (row : Row) → eqb 114 mark ≡ false → is_remark mark row ≡ true → is_run row ≡ false
remark_is_no_run mark [] other e = absurd cc
remark_is_no_run mark ([] ∷ others) other e = refl
remark_is_no_run mark ((b ∷ bs) ∷ others) other e =
    elim (cases_Bool (eqb b 114)) [
      | inr plain ↦ rw plain refl
      | inl first ↦
          let is : b ≡ 114 = eqb-true _ _ first in
          let mark_is : eqb b mark ≡ true = and_right_of (ltb 0 (length (b ∷ bs))) (eqb b mark) e in
          absurd (let clash : eqb 114 mark ≡ true = rw (← is) mark_is in cc)
    ]
  where
    and_right_of : (a b : Bool) → (a && b) ≡ true → b ≡ true
    and_right_of true b e = e
    and_right_of false b e = absurd cc

-- the mark alone is a comment
pub mark_remark : (mark : ℕ) → is_blank mark ≡ false → is_remark mark (fields (mark ∷ [])) ≡ true
mark_remark mark other = remark_begins mark (mark ∷ []) ∙ cond-false _ _ _ other ∙ eq-eqb mark mark refl

-- a front with a field is a comment where each line that begins with it is one
pub remark_same : (mark : ℕ) (front more : List ℕ) → 0 < length (fields front) → is_remark mark (fields (front ++ more)) ≡ is_remark mark (fields front)
remark_same mark front more some = remark_begins mark (front ++ more) ∙ begins_same front some ∙ sym (remark_begins mark front)
  where
    begins_same : (front : List ℕ) → 0 < length (fields front) → begins mark (front ++ more) ≡ begins mark front
    begins_same [] some = absurd (omega (arith, some))
    begins_same (b ∷ bs) some =
        elim (cases_Bool (is_blank b)) [
          | inl blank ↦ cond-true _ _ _ blank ∙ begins_same bs (rw (← (fields_blank b bs blank)) some) ∙ sym (cond-true _ _ _ blank)
          | inr other ↦ cond-false _ _ _ other ∙ sym (cond-false _ _ _ other)
        ]

-- What is kept.

pub nothing_kept : (mark : ℕ) (kept : List ℕ) → kept ≡ [] → StandsForFront mark [] kept
nothing_kept mark kept none = rw none (inl (record { some = λ e. e; begun = λ e. e; goes_on = λ more. same_row (fields (strip_last 13 more)) }))

-- the line that a piece ends, of which nothing is kept, or something that is no comment's mark
pub row_of_piece : (mark : ℕ) (front kept piece : List ℕ) → StandsForFront mark front kept → kept ≡ [] → SaySame (fields (strip_last 13 (front ++ piece))) (fields (strip_last 13 piece))
row_of_piece mark front kept piece (inl same) none = (let goes = same.goes_on piece in rw none at goes)
row_of_piece mark front kept piece (inr both) none = absurd (let clash : mark ∷ [] ≡ [] = sym both.1 ∙ none in cc)

pub row_of_kept : (mark : ℕ) (front kept piece : List ℕ) → StandsForFront mark front kept → (kept ≡ mark ∷ [] → ⊥) → SaySame (fields (strip_last 13 (front ++ piece))) (fields (strip_last 13 (kept ++ piece)))
row_of_kept mark front kept piece (inl same) other = same.goes_on piece
row_of_kept mark front kept piece (inr both) other = absurd (other both.1)

-- of a comment only its mark is kept
pub front_of_mark : (mark : ℕ) (front kept : List ℕ) → eqb 13 mark ≡ false → is_blank mark ≡ false → StandsForFront mark front kept → kept ≡ mark ∷ [] → IsCommentFront mark front
front_of_mark mark front kept no_return no_blank (inl same) is =
    λ more. remark_same_row mark _ _ (same.goes_on more) ∙ ap (λ (l : List ℕ). is_remark mark (fields (strip_last 13 (l ++ more)))) is ∙ remark_goes_on mark (mark ∷ []) more no_return (mark_remark mark no_blank)
front_of_mark mark front kept no_return no_blank (inr both) is = both.0

comment_more : (mark : ℕ) (front piece : List ℕ) → IsCommentFront mark front → IsCommentFront mark (front ++ piece)
comment_more mark front piece is = λ more. ap (λ (l : List ℕ). is_remark mark (fields (strip_last 13 l))) (append_assoc front piece more) ∙ is (piece ++ more)

pub mark_stays : (mark : ℕ) (front kept piece : List ℕ) → eqb 13 mark ≡ false → is_blank mark ≡ false → StandsForFront mark front kept → kept ≡ mark ∷ [] → StandsForFront mark (front ++ piece) kept
mark_stays mark front kept piece no_return no_blank stands is = inr (comment_more mark front piece (front_of_mark mark front kept no_return no_blank stands is), is)

pub nothing_more : (mark : ℕ) (front kept piece : List ℕ) → piece ≡ [] → StandsForFront mark front kept → StandsForFront mark (front ++ piece) kept
nothing_more mark front kept piece none stands = rw (none, append-nil front) stands

-- a piece that begins a comment
pub mark_of_piece : (mark : ℕ) (front kept piece new : List ℕ) → eqb 13 mark ≡ false → StandsForFront mark front kept → kept ≡ [] → is_remark mark (fields piece) ≡ true → new ≡ mark ∷ [] → StandsForFront mark (front ++ piece) new
mark_of_piece mark front kept piece new no_return stands none is made =
    inr (λ more. ap (λ (l : List ℕ). is_remark mark (fields (strip_last 13 l))) (append_assoc front piece more) ∙ remark_same_row mark _ _ (row_of_piece mark front kept (piece ++ more) stands none) ∙ remark_goes_on mark piece more no_return is, made)

-- what is kept turns out to be a comment
pub mark_of_kept : (mark : ℕ) (front kept new : List ℕ) → eqb 13 mark ≡ false → StandsForFront mark front kept → is_remark mark (fields kept) ≡ true → new ≡ mark ∷ [] → StandsForFront mark front new
mark_of_kept mark front kept new no_return (inl same) is made = inr (λ more. remark_same_row mark _ _ (same.goes_on more) ∙ remark_goes_on mark kept more no_return is, made)
mark_of_kept mark front kept new no_return (inr both) is made = inr (both.0, made)

grows : (a b n : ℕ) → (0 < a → 0 < b) → 0 < a + n → 0 < b + n
grows zero b n h e = omega (arith, e)
grows (suc a) b n h e = omega (arith, h (omega arith))

-- more is kept
pub more_kept : (mark : ℕ) (front kept piece new : List ℕ) → StandsForFront mark front kept → (kept ≡ mark ∷ [] → ⊥) → new ≡ kept ++ piece → StandsForFront mark (front ++ piece) new
more_kept mark front kept piece new (inr both) other made = absurd (other both.1)
more_kept mark front kept piece new (inl same) other made =
    inl (record {
      some = λ e. rw (made, length-append kept piece) (grows (length front) (length kept) (length piece) same.some (rw (length-append front piece) at e));
      begun = λ e. rw (length-append front piece) (grows (length kept) (length front) (length piece) same.begun (rw (made, length-append kept piece) at e));
      goes_on = λ more. rw (made, append_assoc front piece more, append_assoc kept piece more) (same.goes_on (piece ++ more));
    })

-- and blanks behind a blank are left out
pub blanks_not_kept : (mark : ℕ) (front kept piece rest new : List ℕ) → StandsForFront mark front kept → (kept ≡ mark ∷ [] → ⊥) → EndsInBlank kept → IsBlankFront piece rest → new ≡ kept ++ rest → StandsForFront mark (front ++ piece) new
blanks_not_kept mark front kept piece rest new (inr both) other ends blanks made = absurd (other both.1)
blanks_not_kept mark front kept piece rest new (inl same) other ends (blanks, is, all) made =
    let some : 0 < length kept = omega (arith, ap length ends.2, length-append ends.0 (ends.1 ∷ [])) in
    inl (record {
      some = λ e. rw (made, length-append kept rest) (omega (arith, some));
      begun = λ e. rw (length-append front piece) (omega (arith, same.begun some));
      goes_on = λ more.
          let goes : SaySame (fields (strip_last 13 ((front ++ piece) ++ more))) (fields (strip_last 13 (kept ++ (piece ++ more)))) = rw (append_assoc front piece more) (same.goes_on (piece ++ more)) in
          let left_out : fields (strip_last 13 (kept ++ (piece ++ more))) ≡ fields (strip_last 13 (new ++ more))
          = ap (λ (l : List ℕ). fields (strip_last 13 (kept ++ (l ++ more)))) is ∙ ap (λ (l : List ℕ). fields (strip_last 13 (kept ++ l))) (append_assoc blanks rest more)
          ∙ blanks_left_out kept blanks (rest ++ more) ends all
          ∙ ap (λ (l : List ℕ). fields (strip_last 13 l)) (sym (append_assoc kept rest more)) ∙ ap (λ (l : List ℕ). fields (strip_last 13 (l ++ more))) (sym made) in
          same_then _ _ _ goes (same_is _ _ left_out);
    })

-- digits of a numeral are left out
pub digits_not_kept : (mark : ℕ) (front kept new : List ℕ) → StandsForFront mark front kept → is_remark mark (fields kept) ≡ false → is_blank mark ≡ false → SameLines kept new → StandsForFront mark front new
digits_not_kept mark front kept new (inr both) other no_blank next = absurd (let clash : is_remark mark (fields kept) ≡ true = rw both.1 (mark_remark mark no_blank) in cc)
digits_not_kept mark front kept new (inl same) other no_blank next =
    inl (record {
      some = λ e. next.some (same.some e);
      begun = λ e. same.begun (next.begun e);
      goes_on = λ more. same_then _ _ _ (same.goes_on more) (next.goes_on more);
    })

-- The same of a call that may find no memory.

pub on_mark : {X E : Type 0} (r : Result X E) (mark : ℕ) (kept new : List ℕ) → eqb 13 mark ≡ false → is_remark mark (fields kept) ≡ true → OnOk r (new ≡ mark ∷ [])
    → OnOk r ((front : List ℕ) → StandsForFront mark front kept → StandsForFront mark front new)
on_mark (Ok done) mark kept new no_return is made = λ front stands. mark_of_kept mark front kept new no_return stands is made
on_mark (Err e) mark kept new no_return is made = tt

pub on_piece : {X E : Type 0} (r : Result X E) (mark : ℕ) (kept piece new : List ℕ) → eqb 13 mark ≡ false → kept ≡ [] → is_remark mark (fields piece) ≡ true → OnOk r (new ≡ mark ∷ [])
    → OnOk r ((front : List ℕ) → StandsForFront mark front kept → StandsForFront mark (front ++ piece) new)
on_piece (Ok done) mark kept piece new no_return none is made = λ front stands. mark_of_piece mark front kept piece new no_return stands none is made
on_piece (Err e) mark kept piece new no_return none is made = tt

pub on_more : {X E : Type 0} (r : Result X E) (mark : ℕ) (kept piece new : List ℕ) → OnOk r (new ≡ kept ++ piece)
    → OnOk r ((front : List ℕ) → StandsForFront mark front kept → (kept ≡ mark ∷ [] → ⊥) → StandsForFront mark (front ++ piece) new)
on_more (Ok done) mark kept piece new made = λ front stands other. more_kept mark front kept piece new stands other made
on_more (Err e) mark kept piece new made = tt

pub on_blanks : {X E : Type 0} (r : Result X E) (mark : ℕ) (kept piece rest new : List ℕ) → EndsInBlank kept → IsBlankFront piece rest → OnOk r (new ≡ kept ++ rest)
    → OnOk r ((front : List ℕ) → StandsForFront mark front kept → (kept ≡ mark ∷ [] → ⊥) → StandsForFront mark (front ++ piece) new)
on_blanks (Ok done) mark kept piece rest new ends blanks made = λ front stands other. blanks_not_kept mark front kept piece rest new stands other ends blanks made
on_blanks (Err e) mark kept piece rest new ends blanks made = tt

pub on_look : {X E : Type 0} (r : Result X E) (mark : ℕ) (kept piece mid new : List ℕ) → (kept ≡ mark ∷ [] → ⊥) → ((front : List ℕ) → StandsForFront mark front kept → (kept ≡ mark ∷ [] → ⊥) → StandsForFront mark (front ++ piece) mid)
    → OnOk r ((front : List ℕ) → StandsForFront mark front mid → StandsForFront mark front new) → OnOk r ((front : List ℕ) → StandsForFront mark front kept → StandsForFront mark (front ++ piece) new)
on_look (Ok done) mark kept piece mid new other first next = λ front stands. next (front ++ piece) (first front stands other)
on_look (Err e) mark kept piece mid new other first next = tt

-- nothing is kept of the empty front alone
pub stands_empty : (mark : ℕ) (front kept : List ℕ) → StandsForFront mark front kept → kept ≡ [] → front ≡ []
stands_empty mark [] kept stands none = refl
stands_empty mark (b ∷ bs) kept (inl same) none = absurd (omega (arith, same.some (omega arith), ap length none))
stands_empty mark (b ∷ bs) kept (inr both) none = absurd (let clash : mark ∷ [] ≡ [] = sym both.1 ∙ none in cc)

pub stands_some : (mark : ℕ) (front kept : List ℕ) → StandsForFront mark front kept → 0 < length kept → 0 < length front
stands_some mark front kept (inl same) some = same.begun some
stands_some mark [] kept (inr both) some = absurd (let clash : is_remark mark (fields []) ≡ true = both.0 [] in cc)
stands_some mark (b ∷ bs) kept (inr both) some = omega arith

pub no_bytes : (bytes : List ℕ) → length bytes ≡ 0 → bytes ≡ []
no_bytes [] e = refl
no_bytes (b ∷ bs) e = absurd (omega arith)
