-- A line of a script that has too many fields, or too long a word, is a bad line.
use Rattle.std.proofs.Common.{◌≡◌, ℕ, ◌+◌, ◌<◌, ◌≤◌, ◌&&◌, ◌||◌, Bool, true, false, ltb, leb, List, [], ◌∷◌, ◌++◌, length, drop, Some, refl, ap, ◌∙◌, arith, inl, inr, ◌⊎◌}
use Rattle.std.specs.Prelude.{is_some}
use Rattle.std.specs.List.{prefix_len}
use Rattle.std.specs.Str.{bytes_eq}
use lib.Chars.{codes}
use Rattle.std.proofs.lemmas.Bool.{cases_Bool, leb-true}
use Rattle.std.proofs.lemmas.List.{length-append, length-drop, drop-append-le}
use Rattle.dimacs.specs.declared.fault.Code.TheVariants.{BadLine}
use Rattle.dimacs.specs.Numerals.{numeral}
use Rattle.dimacs.specs.Commands.{command_code}
use Rattle.dimacs.specs.Commanded.{begins, ends, grouping_of}
use Rattle.dimacs.specs.Faults.{Row, is_remark}
use Rattle.dimacs.specs.Overflow.{has_other_byte, overflows}
use Rattle.dimacs.proofs.Beyond.{long_no_word, no_numeral, first_is_long, many_or_other, malformed_beyond, bad_by_forms}
use Rattle.dimacs.proofs.GroupCodes.{group_overflows}
use Rattle.scripts.specs.ScriptTexts.{numbered_words, is_pick, is_some_of_most, is_writing, are_of_stop, behind_picks, event_code, script_line_code}

and_false : (b : Bool) → (b && false) ≡ false
and_false true = refl
and_false false = refl

and_behind : (a b c : Bool) → (b && c) ≡ false → ((a && b) && c) ≡ false
and_behind true b c e = e
and_behind false b c e = refl

-- a long field that is no numeral is neither a pick nor of an event that writes
no_pick : (field : List ℕ) → ltb 16 (length field) ≡ true → has_other_byte field ≡ true → is_pick field ≡ false
no_pick field long other = rw (long_no_word field (codes "old") long refl, long_no_word field (codes "new") long refl, no_numeral field other) refl

no_writing : (ws : Row) (field : List ℕ) (after : Row) → ltb 16 (length field) ≡ true → has_other_byte field ≡ true → is_writing (ws ++ field ∷ after) ≡ false
no_writing [] field [] long other = rw (long_no_word field (codes "flush") long refl, long_no_word field (codes "checkpoint") long refl) refl
no_writing [] field (p ∷ []) long other = rw (long_no_word field (codes "step") long refl) refl
no_writing [] field (p ∷ q ∷ after) long other = refl
no_writing (w ∷ []) field [] long other = rw (no_numeral field other) (and_false (bytes_eq w (codes "step")))
no_writing (w ∷ []) field (p ∷ after) long other = refl
no_writing (w ∷ v ∷ []) field after long other = refl
no_writing (w ∷ v ∷ u ∷ ws) field after long other = refl

too_long : (row : Row) → 2 < length row → is_writing row ≡ false
too_long [] long = absurd (omega (arith, long))
too_long (a ∷ []) long = absurd (omega (arith, long))
too_long (a ∷ b ∷ []) long = absurd (omega (arith, long))
too_long (a ∷ b ∷ c ∷ row) long = refl

-- the picks end before a field that is none
picks_end : (zs : Row) (field : List ℕ) (after : Row) → is_pick field ≡ false → prefix_len is_pick (zs ++ field ∷ after) ≤ length zs
picks_end [] field after other = rw other (omega arith)
picks_end (z ∷ zs) field after other =
    elim (cases_Bool (is_pick z)) [
      | inl pick ↦ rw pick (omega (arith, picks_end zs field after other))
      | inr plain ↦ rw plain (omega arith)
    ]

behind_call : (zs : Row) (field : List ℕ) (after : Row) → (14 ≤ length zs) ⊎ ((ltb 16 (length field) ≡ true) × (has_other_byte field ≡ true))
    → (is_some_of_most (prefix_len is_pick (zs ++ field ∷ after)) && is_writing (behind_picks (zs ++ field ∷ after))) ≡ false
behind_call zs field after (inr both) =
    let before : prefix_len is_pick (zs ++ field ∷ after) ≤ length zs = picks_end zs field after (no_pick field both.0 both.1) in
    let rest : behind_picks (zs ++ field ∷ after) ≡ drop (prefix_len is_pick (zs ++ field ∷ after)) zs ++ field ∷ after = drop-append-le (prefix_len is_pick (zs ++ field ∷ after)) zs (field ∷ after) before in
    ap (λ (b : Bool). is_some_of_most (prefix_len is_pick (zs ++ field ∷ after)) && b) (ap is_writing rest ∙ no_writing (drop (prefix_len is_pick (zs ++ field ∷ after)) zs) field after both.0 both.1) ∙ and_false _
behind_call zs field after (inl many) = few (prefix_len is_pick (zs ++ field ∷ after))
  where
    few : (n : ℕ) → (is_some_of_most n && is_writing (drop n (zs ++ field ∷ after))) ≡ false
    few n =
        elim (cases_Bool (leb n 8)) [
          | inr more ↦ rw more (none (leb 1 n) (is_writing (drop n (zs ++ field ∷ after))))
          | inl within ↦ ap (λ (b : Bool). is_some_of_most n && b) (too_long (drop n (zs ++ field ∷ after)) (omega (arith, many, leb-true _ _ within, length-drop n (zs ++ field ∷ after), length-append zs (field ∷ after)))) ∙ and_false _
        ]
      where
        none : (a b : Bool) → ((a && false) && b) ≡ false
        none true b = refl
        none false b = refl

no_stop : (x : List ℕ) (xs : Row) (field : List ℕ) (after : Row) → overflows (x ∷ xs) field ≡ true → are_of_stop (xs ++ field ∷ after) ≡ false
no_stop x [] field after e =
    elim (many_or_other x [] field e) [
      | inl many ↦ absurd (omega (arith, many))
      | inr both ↦ rw (no_numeral field both.1) refl
    ]
no_stop x (call ∷ zs) field after e =
    and_behind (is_some (numeral call)) (is_some_of_most (prefix_len is_pick (zs ++ field ∷ after))) (is_writing (behind_picks (zs ++ field ∷ after))) (behind_call zs field after (why (many_or_other x (call ∷ zs) field e)))
  where
    why : (16 ≤ 1 + length (call ∷ zs)) ⊎ ((ltb 16 (length field) ≡ true) × (has_other_byte field ≡ true)) → (14 ≤ length zs) ⊎ ((ltb 16 (length field) ≡ true) × (has_other_byte field ≡ true))
    why (inl many) = inl (omega (arith, many))
    why (inr both) = inr both

numbered_bad : (earlier : List Row) (before : Row) (field : List ℕ) (after : Row) → overflows before field ≡ true → is_remark 35 (before ++ field ∷ after) ≡ false
    → command_code numbered_words earlier (before ++ field ∷ after) ≡ Some BadLine
numbered_bad earlier before field after e other = bad_by_forms numbered_words earlier before field after refl (λ numbers none one two three. rw (none, one, two, three) refl) e other

event_overflows : (earlier : List Row) (before : Row) (field : List ℕ) (after : Row) → overflows before field ≡ true → is_remark 35 (before ++ field ∷ after) ≡ false
    → event_code earlier (before ++ field ∷ after) ≡ Some BadLine
unfolding event_code
event_overflows earlier [] field after e other =
    let long = first_is_long field e in
    rw (long_no_word field (codes "stop") long refl, long_no_word field (codes "step") long refl) (numbered_bad earlier [] field after e other)
event_overflows earlier (x ∷ xs) field after e other =
    elim (cases_Bool (bytes_eq x (codes "stop"))) [
      | inl stop ↦ rw (stop, no_stop x xs field after e) refl
      | inr no_stop_word ↦
          elim (cases_Bool (bytes_eq x (codes "step"))) [
            | inl step ↦ rw (no_stop_word, step, malformed_beyond 1 x xs field after (omega arith) e) refl
            | inr no_step_word ↦ rw (no_stop_word, no_step_word) (numbered_bad earlier (x ∷ xs) field after e other)
          ]
    ]

pub script_overflows : (earlier : List Row) (before : Row) (field : List ℕ) (after : Row) → overflows before field ≡ true → is_remark 35 (before ++ field ∷ after) ≡ false
    → script_line_code earlier (before ++ field ∷ after) ≡ Some BadLine
unfolding script_line_code
script_overflows earlier before field after e other =
    elim (cases_Bool (is_some (grouping_of earlier).opened || (begins (before ++ field ∷ after) || ends (before ++ field ∷ after)))) [
      | inl grouped ↦ rw grouped (group_overflows earlier before field after e other)
      | inr single ↦ rw single (event_overflows earlier before field after e other)
    ]
