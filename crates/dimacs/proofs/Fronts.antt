-- The fields of lines that begin with a front.
use Rattle.std.proofs.Common.{◌≡◌, ◌≢◌, ℕ, suc, map, get_or, add-one, drop-cons, ◌+◌, ◌-◌, ◌<◌, ◌≤◌, Bool, true, false, not, cond, eqb, ltb, List, [], ◌∷◌, ◌++◌, All, length, take, drop, Some, None, refl, sym, ap, ◌∙◌, arith, inl, inr, append_assoc, take-append-drop}
use Rattle.std.specs.List.{prefix_len, position_or_len, position, slice_split, onto_first, filter}
use Rattle.std.specs.Io.BufRead.{strip_last, ends_with_byte}
use Rattle.std.proofs.lemmas.Bool.{cases_Bool, cond-true, cond-false, lt-ltb, eqb-true, eq-eqb, ne_eqb}
use Rattle.std.proofs.lemmas.List.{append-nil, length-append, length-drop, length-take, take_all, take-append-le, drop-append-le, get_or-take}
use Rattle.std.proofs.lemmas.List.Sums.{prefix_len-le-length, prefix_len_stops, fails_before_first}
use Rattle.std.proofs.lemmas.List.Elements.{All-append, filter-append}
use Rattle.std.proofs.lemmas.List.Folds.{prefix_len-append}
use Rattle.std.proofs.lemmas.List.Splits.{slice_split-cons_yes, slice_split-cons_no, length-slice_split}
use Rattle.std.proofs.Math.Seq.{take-append-add}
use Rattle.dimacs.specs.Lines.{is_line_feed, is_blank, is_not_empty, fields, rows}
use Rattle.dimacs.specs.Overflow.{LineGoesOn, EndsInBlank, IsBlankFront, is_beyond, OverflowsBehind, Overflowing}
use Rattle.dimacs.proofs.Beyond.{beyond_more}
use Rattle.dimacs.proofs.Pieces.{start_is, position_some, first_field, position_none, fields_blank, known_position, no_feed, at_feed, line_before_feed, line_at_end}

at_or_len : (p : ℕ → Bool) (xs : List ℕ) (i : ℕ) → position_or_len p xs ≡ i → i < length xs → position p xs ≡ Some i
at_or_len p xs i e lt = rw (e, lt-ltb _ _ lt) refl

-- a first place stays the first
or_len_more : (p : ℕ → Bool) (xs ys : List ℕ) → position_or_len p xs < length xs → position_or_len p (xs ++ ys) ≡ position_or_len p xs
or_len_more p xs ys lt =
    let other : eqb (position_or_len p xs) (length xs) ≡ false = ne_eqb _ _ (λ e. absurd (omega arith)) in
    prefix_len-append (λ x. not (p x)) xs ys ∙ cond-false _ _ _ other

or_len_through : (p : ℕ → Bool) (xs ys : List ℕ) → position_or_len p xs ≡ length xs → position_or_len p (xs ++ ys) ≡ length xs + position_or_len p ys
or_len_through p xs ys e =
    let all : eqb (position_or_len p xs) (length xs) ≡ true = eq-eqb _ _ e in
    prefix_len-append (λ x. not (p x)) xs ys ∙ cond-true _ _ _ all

position_more : (p : ℕ → Bool) (xs ys : List ℕ) (i : ℕ) → position p xs ≡ Some i → position p (xs ++ ys) ≡ Some i
position_more p xs ys i e =
    let at = position_some p xs i e in
    at_or_len p (xs ++ ys) i (or_len_more p xs ys (rw at.1 at.0) ∙ at.1) (omega (arith, at.0, length-append xs ys))

nothing_left : (n : ℕ) (xs : List ℕ) → n ≤ length xs → drop n xs ≡ [] → n ≡ length xs
nothing_left n xs le e = omega (arith, length-drop n xs, ap length e)

some_left : (n : ℕ) (xs : List ℕ) (b : ℕ) (bs : List ℕ) → drop n xs ≡ b ∷ bs → n < length xs
some_left n xs b bs e = omega (arith, length-drop n xs, ap length e)

-- the first field goes on, where nothing follows it
pub goes_on : (front : List ℕ) (i : ℕ) (first rest more : List ℕ) → position (λ b. not (is_blank b)) front ≡ Some i
    → first ≡ take (position_or_len is_blank (drop i front)) (drop i front) → rest ≡ drop (position_or_len is_blank (drop i front)) (drop i front)
    → LineGoesOn front first rest more
goes_on front i first [] more e is_first is_rest =
    let D = drop i front in
    let at = position_some _ front i e in
    let on : drop i (front ++ more) ≡ D ++ more = drop-append-le i front more (omega (arith, at.0)) in
    let all : position_or_len is_blank D ≡ length D = nothing_left _ D (prefix_len-le-length (λ x. not (is_blank x)) D) (sym is_rest) in
    let len : position_or_len is_blank (D ++ more) ≡ length D + position_or_len is_blank more = or_len_through is_blank D more all in
    let whole : first ≡ D = is_first ∙ rw all (take_all (length D) D (omega arith)) in
    let field : take (length D + position_or_len is_blank more) (D ++ more) ≡ first ++ take (position_or_len is_blank more) more = rw whole (take-append-add D more (position_or_len is_blank more)) in
    let found : fields (front ++ more) ≡ take (position_or_len is_blank (D ++ more)) (D ++ more) ∷ fields (drop (position_or_len is_blank (D ++ more)) (D ++ more)) = rw (← on) (first_field (front ++ more) i (position_more _ front more i e)) in
    (take (position_or_len is_blank more) more, fields (drop (position_or_len is_blank (D ++ more)) (D ++ more)), found ∙ ap (λ (l : List ℕ). l ∷ fields (drop (position_or_len is_blank (D ++ more)) (D ++ more))) (rw len field))
goes_on front i first (b ∷ rest) more e is_first is_rest =
    let D = drop i front in
    let k = position_or_len is_blank D in
    let at = position_some _ front i e in
    let on : drop i (front ++ more) ≡ D ++ more = drop-append-le i front more (omega (arith, at.0)) in
    let lt : position_or_len is_blank D < length D = some_left _ D b rest (sym is_rest) in
    let len : position_or_len is_blank (D ++ more) ≡ position_or_len is_blank D = or_len_more is_blank D more lt in
    let field : take (position_or_len is_blank D) (D ++ more) ≡ first = take-append-le _ D more (omega (arith, lt)) ∙ sym is_first in
    let left : drop (position_or_len is_blank D) (D ++ more) ≡ (b ∷ rest) ++ more = drop-append-le _ D more (omega (arith, lt)) ∙ ap (λ (l : List ℕ). l ++ more) (sym is_rest) in
    let found : fields (front ++ more) ≡ take (position_or_len is_blank (D ++ more)) (D ++ more) ∷ fields (drop (position_or_len is_blank (D ++ more)) (D ++ more)) = rw (← on) (first_field (front ++ more) i (position_more _ front more i e)) in
    found ∙ rw (len, field, left) refl

-- what follows a field is shorter than the front
pub shorter_behind : (front : List ℕ) (i : ℕ) → position (λ b. not (is_blank b)) front ≡ Some i → length (drop (position_or_len is_blank (drop i front)) (drop i front)) < length front
shorter_behind front i e =
    let at = position_some _ front i e in
    let D = drop i front in
    omega (arith, at.0, length-drop (position_or_len is_blank D) D, length-drop i front, first_is_some front i e)
  where
    first_is_some : (front : List ℕ) (i : ℕ) → position (λ b. not (is_blank b)) front ≡ Some i → 0 < position_or_len is_blank (drop i front)
    first_is_some front i e =
        let at = position_some _ front i e in
        let begins : prefix_len is_blank front ≡ i = sym (start_is front) ∙ at.1 in
        let within : i < length front = at.0 in
        let lt : prefix_len is_blank front < length front = rw begins at.0 in
        let here : drop i front ≡ get_or front i 0 ∷ drop (i + 1) front = rw (add-one, drop-cons front i 0) refl in
        let stops : is_blank (get_or front i 0) ≡ false = rw (← begins) (prefix_len_stops is_blank front 0 lt) in
        rw (here, stops) (omega arith)

-- Blanks that are left out.

fields_blanks : (blanks rest : List ℕ) → All (λ b. is_blank b ≡ true) blanks → fields (blanks ++ rest) ≡ fields rest
fields_blanks [] rest all = refl
fields_blanks (b ∷ bs) rest all = fields_blank b (bs ++ rest) (all 0 0 (omega arith)) ∙ fields_blanks bs rest (λ k d l. all (suc k) d (omega arith))

onto_first-append : (x : ℕ) (parts more : List (List ℕ)) → 0 < length parts → onto_first x (parts ++ more) ≡ onto_first x parts ++ more
onto_first-append x [] more some = absurd (omega arith)
onto_first-append x (part ∷ parts) more some = refl

pub split_at_yes : (p : ℕ → Bool) (xs : List ℕ) (b : ℕ) (ys : List ℕ) → p b ≡ true → slice_split p (xs ++ b ∷ ys) ≡ slice_split p xs ++ slice_split p ys
split_at_yes p [] b ys hit = slice_split-cons_yes p b ys hit
split_at_yes p (x ∷ xs) b ys hit =
    elim (cases_Bool (p x)) [
      | inl blank ↦ slice_split-cons_yes p x (xs ++ b ∷ ys) blank ∙ ap (λ (l : List (List ℕ)). [] ∷ l) (split_at_yes p xs b ys hit) ∙ ap (λ (l : List (List ℕ)). l ++ slice_split p ys) (sym (slice_split-cons_yes p x xs blank))
      | inr other ↦
          let some : 0 < length (slice_split p xs) = omega (arith, length-slice_split p xs) in
          slice_split-cons_no p x (xs ++ b ∷ ys) other ∙ ap (onto_first x) (split_at_yes p xs b ys hit) ∙ onto_first-append x (slice_split p xs) (slice_split p ys) some
          ∙ ap (λ (l : List (List ℕ)). l ++ slice_split p ys) (sym (slice_split-cons_no p x xs other))
    ]

-- a blank ends a field, whatever stands before it
pub fields_at_blank : (line : List ℕ) (b : ℕ) (ys : List ℕ) → is_blank b ≡ true → fields (line ++ b ∷ ys) ≡ fields line ++ fields ys
fields_at_blank line b ys blank = ap (filter is_not_empty) (split_at_yes is_blank line b ys blank) ∙ filter-append is_not_empty (slice_split is_blank line) (slice_split is_blank ys)

-- The carriage return at the end.

cond_cons : (b : Bool) (x : ℕ) (l m : List ℕ) → cond b (x ∷ l) (x ∷ m) ≡ x ∷ cond b l m
cond_cons true x l m = refl
cond_cons false x l m = refl

pub strip_cons : (x y : ℕ) (ys : List ℕ) → strip_last 13 (x ∷ y ∷ ys) ≡ x ∷ strip_last 13 (y ∷ ys)
strip_cons x y ys =
    let a : length (x ∷ y ∷ ys) - 1 ≡ suc (length ys) = omega arith in
    let b : length (y ∷ ys) - 1 ≡ length ys = omega arith in
    let p : ltb 0 (length (x ∷ y ∷ ys)) ≡ true = lt-ltb _ _ (omega arith) in
    let q : ltb 0 (length (y ∷ ys)) ≡ true = lt-ltb _ _ (omega arith) in
    let left : strip_last 13 (x ∷ y ∷ ys) ≡ cond (eqb (get_or (y ∷ ys) (length ys) 0) 13) (x ∷ take (length ys) (y ∷ ys)) (x ∷ y ∷ ys) = rw (p, a) refl in
    let right : strip_last 13 (y ∷ ys) ≡ cond (eqb (get_or (y ∷ ys) (length ys) 0) 13) (take (length ys) (y ∷ ys)) (y ∷ ys) = rw (q, b) refl in
    left ∙ cond_cons _ x _ _ ∙ ap (λ (l : List ℕ). x ∷ l) (sym right)

strip_behind : (x : ℕ) (ys : List ℕ) → 0 < length ys → strip_last 13 (x ∷ ys) ≡ x ∷ strip_last 13 ys
strip_behind x [] some = absurd (omega arith)
strip_behind x (y ∷ ys) some = strip_cons x y ys

pub strip_more : (xs ys : List ℕ) → 0 < length ys → strip_last 13 (xs ++ ys) ≡ xs ++ strip_last 13 ys
strip_more [] ys some = refl
strip_more (x ∷ xs) ys some = strip_behind x (xs ++ ys) (omega (arith, length-append xs ys)) ∙ ap (λ (l : List ℕ). x ∷ l) (strip_more xs ys some)

strip_tail : (xs : List ℕ) → (tail : List ℕ) × (xs ≡ strip_last 13 xs ++ tail)
strip_tail xs =
    elim (cases_Bool (ends_with_byte 13 xs)) [
      | inl ends ↦ (drop (length xs - 1) xs, sym (take-append-drop (length xs - 1) xs) ∙ ap (λ (l : List ℕ). l ++ drop (length xs - 1) xs) (sym (cond-true _ _ _ ends)))
      | inr plain ↦ ([], sym (append-nil xs) ∙ ap (λ (l : List ℕ). l ++ []) (sym (cond-false _ _ _ plain)))
    ]

-- a line that goes on from a front begins with the front without its carriage return
pub strip_front : (xs more : List ℕ) → (rest : List ℕ) × (strip_last 13 (xs ++ more) ≡ strip_last 13 xs ++ rest)
strip_front xs [] = ([], ap (strip_last 13) (append-nil xs) ∙ sym (append-nil (strip_last 13 xs)))
strip_front xs (y ∷ ys) =
    let tail = strip_tail xs in
    (tail.0 ++ strip_last 13 (y ∷ ys), strip_more xs (y ∷ ys) (omega arith) ∙ ap (λ (l : List ℕ). l ++ strip_last 13 (y ∷ ys)) tail.1 ∙ append_assoc (strip_last 13 xs) tail.0 (strip_last 13 (y ∷ ys)))

pub stripped_front : (xs : List ℕ) → (tail : List ℕ) × (xs ≡ strip_last 13 xs ++ tail)
stripped_front xs = strip_tail xs

blank_is_no_return : (b : ℕ) → is_blank b ≡ true → eqb b 13 ≡ false
blank_is_no_return b e =
    elim (cases_Bool (eqb b 32)) [
      | inl space ↦ rw (eqb-true b 32 space) refl
      | inr other ↦ rw (eqb-true b 9 (rw other at e)) refl
    ]

strip_one : (b : ℕ) → is_blank b ≡ true → strip_last 13 (b ∷ []) ≡ b ∷ []
strip_one b e = rw (blank_is_no_return b e) refl

strip_blank : (xs : List ℕ) (b : ℕ) (zs : List ℕ) → is_blank b ≡ true → strip_last 13 (xs ++ b ∷ zs) ≡ xs ++ b ∷ strip_last 13 zs
strip_blank xs b [] e = strip_more xs (b ∷ []) (omega arith) ∙ ap (λ (l : List ℕ). xs ++ l) (strip_one b e)
strip_blank xs b (z ∷ zs) e = strip_more xs (b ∷ z ∷ zs) (omega arith) ∙ ap (λ (l : List ℕ). xs ++ l) (strip_cons b z zs)

fields_stripped : (blanks rest : List ℕ) → All (λ b. is_blank b ≡ true) blanks → fields (strip_last 13 (blanks ++ rest)) ≡ fields (strip_last 13 rest)
fields_stripped [] rest all = refl
fields_stripped (b ∷ bs) rest all =
    let here : is_blank b ≡ true = all 0 0 (omega arith) in
    ap fields (strip_blank [] b (bs ++ rest) here) ∙ fields_blank b (strip_last 13 (bs ++ rest)) here ∙ fields_stripped bs rest (λ k d l. all (suc k) d (omega arith))

-- blanks behind a blank change no field
pub blanks_left_out : (kept blanks rest : List ℕ) → EndsInBlank kept → All (λ b. is_blank b ≡ true) blanks
    → fields (strip_last 13 (kept ++ (blanks ++ rest))) ≡ fields (strip_last 13 (kept ++ rest))
blanks_left_out kept blanks rest (k, b, is, blank) all =
    let at : (zs : List ℕ) → fields (strip_last 13 (kept ++ zs)) ≡ fields k ++ fields (strip_last 13 zs)
    = λ zs. ap (λ (l : List ℕ). fields (strip_last 13 (l ++ zs))) is ∙ ap (λ (l : List ℕ). fields (strip_last 13 l)) (append_assoc k (b ∷ []) zs) ∙ ap fields (strip_blank k b zs blank) ∙ fields_at_blank k b (strip_last 13 zs) blank in
    at (blanks ++ rest) ∙ ap (λ (l : List (List ℕ)). fields k ++ l) (fields_stripped blanks rest all) ∙ sym (at rest)

-- What the next line is, whose front is known.

pub line_begun : (front more : List ℕ) → All (λ b. b ≢ 10) front → 0 < length front
    → (rest : List ℕ) × (later : List (List (List ℕ))) × (rows (front ++ more) ≡ fields (strip_last 13 (front ++ rest)) ∷ later)
line_begun front more in_front some =
    elim (known_position is_line_feed more) [
      | inl e ↦
          let whole : All (λ b. b ≢ 10) (front ++ more) = All-append (λ b. b ≢ 10) front more in_front (no_feed more e) in
          (more, [], ap (map fields) (line_at_end (front ++ more) whole (omega (arith, some, length-append front more))))
      | inr (i, e) ↦
          let at = at_feed more i e in
          (take i more, rows (drop (i + 1) more), ap (λ (l : List ℕ). rows (front ++ l)) at.whole ∙ ap rows (sym (append_assoc front (take i more) (10 ∷ drop (i + 1) more))) ∙ ap (map fields) (line_before_feed (front ++ take i more) (drop (i + 1) more) (All-append (λ b. b ≢ 10) front (take i more) in_front at.before)))
    ]

-- The fields of a front are passed one after the other.

pub record Passed (front rest : List ℕ) (count : ℕ) : Type 0 where
  pub before : List (List ℕ)
  pub count_is : length before ≡ count
  pub goes : (more : List ℕ) → fields (front ++ more) ≡ before ++ fields (rest ++ more)

pub none_passed : (front : List ℕ) → Passed front front 0
none_passed front = record { before = []; count_is = refl; goes = λ more. refl }

field_ends : (front first rest more : List ℕ) → 0 < length rest → LineGoesOn front first rest more → fields (front ++ more) ≡ first ∷ fields (rest ++ more)
field_ends front first [] more some goes = absurd (omega arith)
field_ends front first (b ∷ rest) more some goes = goes

pub one_passed : (front rest field behind : List ℕ) (count : ℕ) → Passed front rest count → ((more : List ℕ) → LineGoesOn rest field behind more) → 0 < length behind → Passed front behind (count + 1)
one_passed front rest field behind count passed goes some = record {
  before = passed.before ++ field ∷ [];
  count_is = omega (arith, passed.count_is, length-append passed.before (field ∷ []));
  goes = λ more. passed.goes more ∙ ap (λ (l : List (List ℕ)). passed.before ++ l) (field_ends rest field behind more some (goes more)) ∙ sym (append_assoc passed.before (field ∷ []) (fields (behind ++ more)));
}

pub overflows_here : (front rest field behind : List ℕ) (count : ℕ) → Passed front rest count → ((more : List ℕ) → LineGoesOn rest field behind more) → is_beyond count field ≡ true → Overflowing front
overflows_here front rest field behind count passed goes beyond = (passed.before, λ more. at more behind (goes more))
  where
    at : (more behind : List ℕ) → LineGoesOn rest field behind more → OverflowsBehind passed.before (fields (front ++ more))
    at more [] (tail, others, is) = (field ++ tail, others, passed.goes more ∙ ap (λ (l : List (List ℕ)). passed.before ++ l) is, rw passed.count_is (beyond_more count field tail beyond))
    at more (b ∷ bs) is = (field, fields ((b ∷ bs) ++ more), passed.goes more ∙ ap (λ (l : List (List ℕ)). passed.before ++ l) is, rw passed.count_is beyond)

-- Blanks in front.

pub blanks_before : (piece : List ℕ) (i : ℕ) → position (λ b. not (is_blank b)) piece ≡ Some i → IsBlankFront piece (drop i piece)
blanks_before piece i e =
    let at = position_some _ piece i e in (
      take i piece,
      sym (take-append-drop i piece),
      λ k d l.
          let below : k < i = omega (arith, length-take i piece, l) in
          rw (get_or-take i piece k d below) (not_not_so _ (fails_before_first (λ b. not (is_blank b)) piece k d (rw at.1 below))),
    )
  where
    not_not_so : (b : Bool) → not b ≡ false → b ≡ true
    not_not_so true e = refl
    not_not_so false e = absurd cc

pub all_blanks : (piece : List ℕ) → position (λ b. not (is_blank b)) piece ≡ None → IsBlankFront piece []
all_blanks piece e =
    let all = position_none _ piece e in
    (piece, sym (append-nil piece), λ k d l. not_not_so _ (fails_before_first (λ b. not (is_blank b)) piece k d (rw all l)))
  where
    not_not_so : (b : Bool) → not b ≡ false → b ≡ true
    not_not_so true e = refl
    not_not_so false e = absurd cc
