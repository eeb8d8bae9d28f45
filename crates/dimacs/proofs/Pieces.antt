-- The first field of a line, and the first line of a text.
use Rattle.std.proofs.Common.{◌≡◌, ◌≢◌, ℕ, suc, map, ◌++◌, take-append-drop, ◌+◌, ◌<◌, Bool, true, false, not, List, [], ◌∷◌, length, get_or, take, drop, Option, Some, None, unwrap_or, refl, sym, ap, ◌∙◌, arith, inl, inr, ◌⊎◌, le_refl, add-one, drop-cons, drop_of_length-le}
use Rattle.std.specs.List.{All, filter, slice_split, onto_first, prefix_len, position_or_len, position}
use Rattle.std.proofs.lemmas.Bool.{cases_Bool, cases_lt, cond-true, cond-false, lt-ltb, le-ltb, eqb-true, eqb-false, ne_eqb}
use Rattle.std.proofs.lemmas.List.{length-take, get_or-take}
use Rattle.std.proofs.Math.Seq.{take-length, drop-length}
use Rattle.std.specs.Io.BufRead.{strip_last}
use Rattle.std.proofs.lemmas.List.Sums.{prefix_len-le-length, prefix_len_stops, fails_before_first, passes_at_first}
use Rattle.std.proofs.lemmas.List.Splits.{slice_split-cons_yes, slice_split-cons_no, slice_split_none, slice_split_at, slice_split_first}
use Rattle.dimacs.specs.Lines.{is_line_feed, is_blank, is_not_empty, without_empty_last, lines, fields}

prefix_len-same : (p q : ℕ → Bool) → ((x : ℕ) → p x ≡ q x) → (xs : List ℕ) → prefix_len p xs ≡ prefix_len q xs
prefix_len-same p q e [] = refl
prefix_len-same p q e (x ∷ xs) = rw (e x, prefix_len-same p q e xs) refl

not-not : (b : Bool) → not (not b) ≡ b
not-not true = refl
not-not false = refl

-- where the first byte stands that is not blank
pub start_is : (line : List ℕ) → position_or_len (λ b. not (is_blank b)) line ≡ prefix_len is_blank line
start_is line = prefix_len-same (λ b. not (not (is_blank b))) is_blank (λ b. not-not (is_blank b)) line

pub fields_blank : (b : ℕ) (bs : List ℕ) → is_blank b ≡ true → fields (b ∷ bs) ≡ fields bs
fields_blank b bs e = ap (filter is_not_empty) (slice_split-cons_yes is_blank b bs e)

pub fields_skip : (line : List ℕ) → fields line ≡ fields (drop (prefix_len is_blank line) line)
fields_skip [] = refl
fields_skip (x ∷ xs) =
    elim (cases_Bool (is_blank x)) [
      | inl blank ↦
          let k : 1 + prefix_len is_blank xs ≡ suc (prefix_len is_blank xs) = omega arith in
          let step : fields (x ∷ xs) ≡ fields (drop (prefix_len is_blank xs) xs) = fields_blank x xs blank ∙ fields_skip xs in
          let goes : drop (1 + prefix_len is_blank xs) (x ∷ xs) ≡ drop (prefix_len is_blank xs) xs = rw k refl in
          let more : prefix_len is_blank (x ∷ xs) ≡ 1 + prefix_len is_blank xs = cond-true _ _ _ blank in
          step ∙ sym (ap fields goes) ∙ sym (ap (λ (n : ℕ). fields (drop n (x ∷ xs))) more)
      | inr other ↦
          let none : prefix_len is_blank (x ∷ xs) ≡ 0 = cond-false _ _ _ other in
          sym (ap (λ (n : ℕ). fields (drop n (x ∷ xs))) none)
    ]

-- what `position` says of the first byte that passes
pub position_some : (p : ℕ → Bool) (xs : List ℕ) (i : ℕ) → position p xs ≡ Some i → (i < length xs) × (position_or_len p xs ≡ i)
position_some p xs i e =
    elim (cases_lt (position_or_len p xs) (length xs)) [
      | inl lt ↦
          let some : position p xs ≡ Some (position_or_len p xs) = cond-true _ _ _ (lt-ltb _ _ lt) in
          let same : position_or_len p xs ≡ i = cc in
          (rw (← same) lt, same)
      | inr le ↦
          let none : position p xs ≡ None = cond-false _ _ _ (le-ltb _ _ le) in
          absurd cc
    ]

pub position_none : (p : ℕ → Bool) (xs : List ℕ) → position p xs ≡ None → position_or_len p xs ≡ length xs
position_none p xs e =
    elim (cases_lt (position_or_len p xs) (length xs)) [
      | inl lt ↦
          let some : position p xs ≡ Some (position_or_len p xs) = cond-true _ _ _ (lt-ltb _ _ lt) in
          absurd cc
      | inr le ↦ omega (arith, prefix_len-le-length (λ x. not (p x)) xs)
    ]

pub len_from_position : (p : ℕ → Bool) (xs : List ℕ) → unwrap_or (position p xs) (length xs) ≡ position_or_len p xs
len_from_position p xs =
    elim (cases_lt (position_or_len p xs) (length xs)) [
      | inl lt ↦ rw (lt-ltb _ _ lt) refl
      | inr le ↦ rw (le-ltb _ _ le) (omega (arith, prefix_len-le-length (λ x. not (p x)) xs))
    ]

none_before : (p : ℕ → Bool) (xs : List ℕ) → position_or_len p xs ≡ length xs → All (λ x. p x ≡ false) xs
none_before p xs e k d l = fails_before_first p xs k d (rw e l)

kept_piece : (piece : List ℕ) (more : List (List ℕ)) → 0 < length piece → filter is_not_empty (piece ∷ more) ≡ piece ∷ filter is_not_empty more
kept_piece piece more some = cond-true _ _ _ (lt-ltb _ _ some)

last_piece : (piece : List ℕ) → 0 < length piece → without_empty_last (piece ∷ []) ≡ piece ∷ []
last_piece piece some = cond-true _ _ _ (lt-ltb _ _ some)

-- a line of blanks alone
pub no_field : (line : List ℕ) → position (λ b. not (is_blank b)) line ≡ None → fields line ≡ []
no_field line e =
    let all : prefix_len is_blank line ≡ length line = sym (start_is line) ∙ position_none _ line e in
    fields_skip line ∙ rw all (rw (drop_of_length-le line (le_refl _)) refl)

-- the first field of a line that begins with it, and of any line
field_here : (line : List ℕ) → 0 < position_or_len is_blank line → fields line ≡ take (position_or_len is_blank line) line ∷ fields (drop (position_or_len is_blank line) line)
field_here line pos =
    elim (cases_lt (position_or_len is_blank line) (length line)) [
      | inl lt ↦
          let n = position_or_len is_blank line in
          let front : 0 < length (take n line) = omega (arith, length-take n line) in
          let rest : drop n line ≡ get_or line n 0 ∷ drop (n + 1) line = rw (add-one, drop-cons line n 0) refl in
          let after : fields (drop n line) ≡ fields (drop (n + 1) line) = rw rest (fields_blank (get_or line n 0) (drop (n + 1) line) (passes_at_first is_blank line 0 lt)) in
          let cut : fields line ≡ take n line ∷ fields (drop (n + 1) line) = ap (filter is_not_empty) (slice_split_first is_blank line 0 lt) ∙ kept_piece (take n line) (slice_split is_blank (drop (n + 1) line)) front in
          cut ∙ rw after refl
      | inr le ↦
          let all : position_or_len is_blank line ≡ length line = omega (arith, prefix_len-le-length (λ x. not (is_blank x)) line) in
          let one : fields line ≡ line ∷ [] = ap (filter is_not_empty) (slice_split_none is_blank line (none_before is_blank line all)) ∙ kept_piece line [] (omega arith) in
          one ∙ rw (all, take-length, drop-length) refl
    ]

pub first_field : (line : List ℕ) (i : ℕ) → position (λ b. not (is_blank b)) line ≡ Some i
    → fields line ≡ take (position_or_len is_blank (drop i line)) (drop i line) ∷ fields (drop (position_or_len is_blank (drop i line)) (drop i line))
first_field line i e =
    let at = position_some _ line i e in
    let begins : prefix_len is_blank line ≡ i = sym (start_is line) ∙ at.1 in
    let within : i < length line = at.0 in
    let lt : prefix_len is_blank line < length line = rw begins within in
    let here : drop i line ≡ get_or line i 0 ∷ drop (i + 1) line = rw (add-one, drop-cons line i 0) refl in
    let stops : is_blank (get_or line i 0) ≡ false = rw (← begins) (prefix_len_stops is_blank line 0 lt) in
    let pos : 0 < position_or_len is_blank (drop i line) = rw (here, stops) (omega arith) in
    fields_skip line ∙ rw begins (field_here (drop i line) pos)

-- Lines.

last_of_split : (p : ℕ → Bool) (piece bytes : List ℕ) → without_empty_last (piece ∷ slice_split p bytes) ≡ piece ∷ without_empty_last (slice_split p bytes)
last_of_split p piece [] = refl
last_of_split p piece (x ∷ xs) =
    elim (cases_Bool (p x)) [
      | inl blank ↦ rw (slice_split-cons_yes p x xs blank) refl
      | inr other ↦ rw (slice_split-cons_no p x xs other) (onto piece x (slice_split p xs))
    ]
  where
    onto : (piece : List ℕ) (x : ℕ) (pieces : List (List ℕ)) → without_empty_last (piece ∷ onto_first x pieces) ≡ piece ∷ without_empty_last (onto_first x pieces)
    onto piece x [] = refl
    onto piece x (next ∷ more) = refl

pub first_line : (text : List ℕ) (i : ℕ) → position is_line_feed text ≡ Some i → lines text ≡ strip_last 13 (take i text) ∷ lines (drop (i + 1) text)
first_line text i e =
    let at = position_some is_line_feed text i e in
    let lt : position_or_len is_line_feed text < length text = rw at.1 at.0 in
    let cut : slice_split is_line_feed text ≡ take i text ∷ slice_split is_line_feed (drop (i + 1) text) = slice_split_first is_line_feed text 0 lt ∙ rw at.1 refl in
    rw (cut, last_of_split) refl

pub last_line : (text : List ℕ) → position is_line_feed text ≡ None → 0 < length text → lines text ≡ strip_last 13 text ∷ []
last_line text e some =
    ap (λ (pieces : List (List ℕ)). map (strip_last 13) (without_empty_last pieces)) (slice_split_none is_line_feed text (none_before is_line_feed text (position_none is_line_feed text e)))
    ∙ ap (map (strip_last 13)) (last_piece text some)

pub no_line : (text : List ℕ) → length text ≡ 0 → lines text ≡ []
no_line [] e = refl
no_line (x ∷ xs) e = absurd (omega arith)

pub known_position : (p : ℕ → Bool) (xs : List ℕ) → (position p xs ≡ None) ⊎ ((i : ℕ) × (position p xs ≡ Some i))
known_position p xs = go (position p xs)
  where
    go : (o : Option ℕ) → (o ≡ None) ⊎ ((i : ℕ) × (o ≡ Some i))
    go None = inl refl
    go (Some i) = inr (i, refl)

-- Where a line feed stands first.

pub no_feed : (text : List ℕ) → position is_line_feed text ≡ None → All (λ b. b ≢ 10) text
no_feed text e k d l = eqb-false _ _ (none_before is_line_feed text (position_none is_line_feed text e) k d l)

-- the bytes before it, and those after it
pub record AtFeed (text : List ℕ) (i : ℕ) : Type 0 where
  pub whole : text ≡ take i text ++ 10 ∷ drop (i + 1) text
  pub before : All (λ b. b ≢ 10) (take i text)

pub at_feed : (text : List ℕ) (i : ℕ) → position is_line_feed text ≡ Some i → AtFeed text i
at_feed text i e =
    let at = position_some is_line_feed text i e in
    let within : i < length text = at.0 in
    let feed : get_or text i 0 ≡ 10 = eqb-true _ _ (rw (← at.1) (passes_at_first is_line_feed text 0 (rw at.1 within))) in
    let rest : drop i text ≡ 10 ∷ drop (i + 1) text = rw (add-one, drop-cons text i 0, feed) refl in
    record {
      whole = sym (take-append-drop i text) ∙ ap (λ (l : List ℕ). take i text ++ l) rest;
      before = λ k d l.
          let below : k < i = omega (arith, length-take i text, l) in
          rw (get_or-take i text k d below) (eqb-false _ _ (fails_before_first is_line_feed text k d (rw at.1 below)));
    }

feedless : (front : List ℕ) → All (λ b. b ≢ 10) front → All (λ b. is_line_feed b ≡ false) front
feedless front none k d l = ne_eqb _ _ (none k d l)

-- the line that ends at the next line feed, and the last line
pub line_before_feed : (front more : List ℕ) → All (λ b. b ≢ 10) front → lines (front ++ 10 ∷ more) ≡ strip_last 13 front ∷ lines more
line_before_feed front more none =
    let cut : slice_split is_line_feed (front ++ 10 ∷ more) ≡ front ∷ slice_split is_line_feed more = slice_split_at is_line_feed front 10 more (feedless front none) refl in
    rw (cut, last_of_split) refl

pub line_at_end : (front : List ℕ) → All (λ b. b ≢ 10) front → 0 < length front → lines front ≡ strip_last 13 front ∷ []
line_at_end front none some =
    ap (λ (pieces : List (List ℕ)). map (strip_last 13) (without_empty_last pieces)) (slice_split_none is_line_feed front (feedless front none)) ∙ ap (map (strip_last 13)) (last_piece front some)
