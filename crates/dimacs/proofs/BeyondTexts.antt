-- The code of a line of a DIMACS text that has too many fields, or too long a word.
use Rattle.std.proofs.Common.{◌≡◌, ℕ, suc, ◌+◌, ◌<◌, ◌≤◌, ◌&&◌, ◌||◌, Bool, true, false, not, cond, eqb, ltb, List, [], ◌∷◌, ◌++◌, length, take, drop, Some, refl, sym, ap, ◌∙◌, arith, inl, inr, ◌⊎◌}
use Rattle.std.specs.Prelude.{is_none}
use Rattle.std.specs.List.{list_all, starts_with}
use Rattle.std.specs.Str.{bytes_eq}
use lib.Chars.{codes}
use lib.Pointwise.{pointwise_long, bytes_decides}
use Rattle.std.proofs.lemmas.Bool.{cases_Bool, ltb-true, ne_eqb, eqb-false}
use Rattle.std.proofs.lemmas.List.{length-drop, length-take, drop-append-le}
use Rattle.dimacs.specs.declared.fault.Code.TheVariants.{BadLine, SecondProblemLine, WrongKind}
use Rattle.dimacs.specs.Format.{Format, Quantity, gr}
use Rattle.dimacs.specs.Listed.{listed}
use Rattle.dimacs.specs.Faults.{Row, is_remark, count_fields, is_malformed, problem_of, applies, code_of}
use Rattle.dimacs.specs.Overflow.{has_other_byte, overflows, code_after_fields}
use Rattle.dimacs.proofs.Beyond.{long_no_word, word_no_long, first_is_long, many_or_other, malformed_by, malformed_beyond}

flipped : (a b : ℕ) → eqb a b ≡ false → eqb b a ≡ false
flipped a b e = ne_eqb _ _ (λ same. eqb-false a b e (sym same))

and_false : (b : Bool) → (b && false) ≡ false
and_false true = refl
and_false false = refl

or_true : (b : Bool) → (b || true) ≡ true
or_true true = refl
or_true false = refl

and_parts : (a b : Bool) → (a && b) ≡ true → (a ≡ true) × (b ≡ true)
and_parts true b e = (refl, e)
and_parts false b e = absurd cc

not_so : (b : Bool) → not b ≡ true → b ≡ false
not_so true e = absurd cc
not_so false e = refl

-- whether a row begins with short words is known before the field at which it overflows
kind_known : (kind xs : Row) (field : List ℕ) (after : Row) → list_all (λ w. not (ltb 16 (length w))) kind ≡ true
    → (length kind ≤ length xs) ⊎ (ltb 16 (length field) ≡ true)
    → starts_with bytes_eq (xs ++ field ∷ after) kind ≡ starts_with bytes_eq xs kind
kind_known [] xs field after short why = refl
kind_known (w ∷ ws) [] field after short (inl many) = absurd (omega (arith, many))
kind_known (w ∷ ws) [] field after short (inr long) =
    let parts = and_parts (not (ltb 16 (length w))) (list_all (λ w. not (ltb 16 (length w))) ws) short in
    rw (word_no_long w field long (not_so _ parts.0)) refl
kind_known (w ∷ ws) (x ∷ xs) field after short why =
    let parts = and_parts (not (ltb 16 (length w))) (list_all (λ w. not (ltb 16 (length w))) ws) short in
    ap (λ (b : Bool). bytes_eq w x && b) (kind_known ws xs field after parts.1 (fewer why))
  where
    fewer : (length (w ∷ ws) ≤ length (x ∷ xs)) ⊎ (ltb 16 (length field) ≡ true) → (length ws ≤ length xs) ⊎ (ltb 16 (length field) ≡ true)
    fewer (inl many) = inl (omega (arith, many))
    fewer (inr long) = inr long

kind_within : (kind xs : Row) → starts_with bytes_eq xs kind ≡ true → length kind ≤ length xs
kind_within kind xs e = omega (arith, pointwise_long bytes_eq kind (take (length kind) xs) e, take_short (length kind) xs)
  where
    take_short : (n : ℕ) (xs : Row) → length (take n xs) ≤ length xs
    take_short n xs = omega (arith, length-take n xs)

module _ (f : Format) (short_item : ltb 16 (length f.item) ≡ false) (no_item : bytes_eq (codes "p") f.item ≡ false)
    (short_kind : list_all (λ w. not (ltb 16 (length w))) f.kind ≡ true) (few_numbers : length f.numbers < 16) (few_counts : length f.kind + length f.counts < 16) where
  kind_is : (x : List ℕ) (xs : Row) (field : List ℕ) (after : Row) → overflows (x ∷ xs) field ≡ true → starts_with bytes_eq (xs ++ field ∷ after) f.kind ≡ starts_with bytes_eq xs f.kind
  kind_is x xs field after e = kind_known f.kind xs field after short_kind (why (many_or_other x xs field e))
    where
      why : (16 ≤ 1 + length xs) ⊎ ((ltb 16 (length field) ≡ true) × (has_other_byte field ≡ true)) → (length f.kind ≤ length xs) ⊎ (ltb 16 (length field) ≡ true)
      why (inl many) = inl (omega (arith, many, few_counts))
      why (inr both) = inr both.0

  counts_bad : (x : List ℕ) (xs : Row) (field : List ℕ) (after : Row) → overflows (x ∷ xs) field ≡ true → starts_with bytes_eq xs f.kind ≡ true
      → is_malformed (length f.counts) (drop (length f.kind) (xs ++ field ∷ after)) ≡ true
  counts_bad x xs field after e kind =
      let within : length f.kind ≤ length xs = kind_within f.kind xs kind in
      rw (drop-append-le (length f.kind) xs (field ∷ after) within) (malformed_by (length f.counts) (drop (length f.kind) xs) field after (why (many_or_other x xs field e)))
    where
      why : (16 ≤ 1 + length xs) ⊎ ((ltb 16 (length field) ≡ true) × (has_other_byte field ≡ true)) → (length f.counts < length (drop (length f.kind) xs) + 1) ⊎ (has_other_byte field ≡ true)
      why (inl many) = inl (omega (arith, many, few_counts, length-drop (length f.kind) xs))
      why (inr both) = inr both.1

  right_kind : (earlier : List Row) (ys : Row) → starts_with bytes_eq ys f.kind ≡ true → is_malformed (length f.counts) (drop (length f.kind) ys) ≡ true → code_of f earlier (codes "p" ∷ ys) ≡ Some BadLine
  unfolding code_of applies
  right_kind earlier ys kind bad =
      let one : 1 + length f.kind ≡ suc (length f.kind) = omega arith in
      let counts : is_malformed (length f.counts) (count_fields f (codes "p" ∷ ys)) ≡ true = rw one bad in
      rw (no_item, kind, counts) refl

  wrong_kind : (earlier : List Row) (ys : Row) → starts_with bytes_eq ys f.kind ≡ false → code_of f earlier (codes "p" ∷ ys) ≡ Some (cond (is_none (problem_of earlier)) WrongKind SecondProblemLine)
  unfolding code_of applies
  wrong_kind earlier ys kind =
      elim (cases_Bool (is_none (problem_of earlier))) [
        | inl first ↦ rw (no_item, kind, first) refl
        | inr second ↦ rw (no_item, kind, second) refl
      ]

  problem_overflows : (earlier : List Row) (xs : Row) (field : List ℕ) (after : Row) → overflows (codes "p" ∷ xs) field ≡ true
      → code_of f earlier (codes "p" ∷ (xs ++ field ∷ after)) ≡ Some (code_after_fields f earlier (codes "p" ∷ xs))
  problem_overflows earlier xs field after e =
      let is_kind = kind_is (codes "p") xs field after e in
      elim (cases_Bool (starts_with bytes_eq xs f.kind)) [
        | inl kind ↦ right_kind earlier (xs ++ field ∷ after) (is_kind ∙ kind) (counts_bad (codes "p") xs field after e kind) ∙ rw kind refl
        | inr wrong ↦ wrong_kind earlier (xs ++ field ∷ after) (is_kind ∙ wrong) ∙ rw wrong refl
      ]

  other_overflows : (earlier : List Row) (x : List ℕ) (xs : Row) (field : List ℕ) (after : Row) → overflows (x ∷ xs) field ≡ true → is_remark 99 (x ∷ (xs ++ field ∷ after)) ≡ false → bytes_eq x (codes "p") ≡ false
      → code_of f earlier (x ∷ (xs ++ field ∷ after)) ≡ Some BadLine
  unfolding code_of applies
  other_overflows earlier x xs field after e other no_problem =
      elim (cases_Bool (bytes_eq x f.item)) [
        | inr unknown ↦ rw (other, no_problem, unknown) refl
        | inl item ↦ rw (other, no_problem, item, malformed_beyond (length f.numbers) x xs field after few_numbers e) refl
      ]

  long_overflows : (earlier : List Row) (field : List ℕ) (after : Row) → ltb 16 (length field) ≡ true → is_remark 99 (field ∷ after) ≡ false → code_of f earlier (field ∷ after) ≡ Some BadLine
  unfolding code_of applies
  long_overflows earlier field after long other = rw (other, long_no_word field (codes "p") long refl, long_no_word field f.item long short_item) refl

  pub text_overflows : (earlier : List Row) (before : Row) (field : List ℕ) (after : Row) → overflows before field ≡ true → is_remark 99 (before ++ field ∷ after) ≡ false
      → code_of f earlier (before ++ field ∷ after) ≡ Some (code_after_fields f earlier before)
  text_overflows earlier [] field after e other = long_overflows earlier field after (first_is_long field e) other
  text_overflows earlier (x ∷ xs) field after e other =
      elim (cases_Bool (bytes_eq x (codes "p"))) [
        | inr no_problem ↦ other_overflows earlier x xs field after e other no_problem ∙ rw no_problem refl
        | inl problem ↦
            let is : x ≡ codes "p" = (bytes_decides x (codes "p")).0 problem in
            rw is (problem_overflows earlier xs field after e)
      ]

pub gr_overflows : (earlier : List Row) (before : Row) (field : List ℕ) (after : Row) → overflows before field ≡ true → is_remark 99 (before ++ field ∷ after) ≡ false
    → code_of gr earlier (before ++ field ∷ after) ≡ Some (code_after_fields gr earlier before)
gr_overflows earlier before field after e other = text_overflows gr refl refl refl (omega arith) (omega arith) earlier before field after e other

pub listed_overflows : (word : List ℕ) (letter : ℕ) (quantities : List Quantity) (n : ℕ) → eqb letter 112 ≡ false → ltb 16 (length word) ≡ false → ltb (length quantities) 12 ≡ true
    → (earlier : List Row) (before : Row) (field : List ℕ) (after : Row) → overflows before field ≡ true → is_remark 99 (before ++ field ∷ after) ≡ false
    → code_of (listed word letter quantities n) earlier (before ++ field ∷ after) ≡ Some (code_after_fields (listed word letter quantities n) earlier before)
listed_overflows word letter quantities n no_problem short few earlier before field after e other =
    text_overflows (listed word letter quantities n) refl (rw (flipped letter 112 no_problem) refl) (rw short refl) (omega (arith, ltb-true _ _ few)) (omega arith) earlier before field after e other
