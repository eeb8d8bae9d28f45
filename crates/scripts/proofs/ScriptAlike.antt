-- Lines of a script that say the same have the same code, and the same is taken of them.
use Rattle.std.proofs.Common.{◌≡◌, ◌∙◌, ℕ, zero, suc, ◌+◌, Bool, true, false, not, ◌||◌, cond, eqb, ltb, List, [], ◌∷◌, ◌++◌, Option, None, Some, take, map, refl, sym, ap, arith, inl, inr}
use Rattle.std.specs.Prelude.{is_some}
use Rattle.std.specs.List.{prefix_len}
use Rattle.std.specs.Option.{option_map_or}
use Rattle.std.specs.Str.{bytes_eq}
use lib.Chars.{codes}
use lib.Pointwise.{bytes_decides}
use Rattle.std.proofs.lemmas.Bool.{cases_Bool, or_parts}
use Rattle.std.proofs.lemmas.Bool.Decides.{nat_tests}
use Rattle.dimacs.specs.declared.fault.Code.{Code}
use Rattle.dimacs.specs.declared.fault.Code.TheVariants.{BadLine, NumberRange}
use Rattle.dimacs.specs.declared.numerals.numeral.Numeral.{Numeral}
use Rattle.dimacs.specs.Alike.{AreFieldsAlike, AllAlike, SaySame}
use Rattle.dimacs.specs.Commands.{is_refused, command_code}
use Rattle.dimacs.specs.Commanded.{Grouping, begins, ends, group_code, grouping_of}
use Rattle.dimacs.specs.Content.{size_at}
use Rattle.dimacs.specs.Faults.{Row, is_empty, is_remark, is_malformed, is_unreadable, item_fields, size_of, some_at, some_numeral}
use Rattle.dimacs.specs.Numerals.{numeral, kept}
use Rattle.dimacs.proofs.AlikeNumbers.{word_same, tested_same, some_same, malformed_same, numerals_same, dropped_alike, size_same, size_at_same, all_readable}
use Rattle.dimacs.proofs.AlikeGroups.{refused_covers, command_row_same, none_refused, group_code_same, grouping_same}
use Rattle.dimacs.proofs.CommandRows.{kept_refused}
use Rattle.dimacs.proofs.GroupCodes.{shut_of, still_shut}
use Rattle.disk.specs.declared.stoppable.Pick.{Pick}
use Rattle.scripts.specs.declared.script_texts.EventLines.{EventLines}
use Rattle.scripts.specs.ScriptTexts.{ScriptLine, StepLine, StopWithinLine, numbered_words, is_pick, pick_from, picks_in, behind_picks, is_writing, writing_from, are_of_stop, stop_from, script_line_of, event_at, lines_in, is_no_call, is_no_byte, is_no_step, has_number_outside, event_code, script_line_code}
use Rattle.scripts.specs.ScriptReading.{HasEvents}
use Rattle.scripts.proofs.ScriptGroups.{behind_more}
use Rattle.scripts.proofs.ScriptLines.{ignored}

-- Numbers, of which no more is seen than is kept.

zero_kept : (n : Numeral) → eqb (kept n).size 0 ≡ eqb n.size 0
zero_kept n = grind (arith, nat_tests)

byte_kept : (n : Numeral) → ltb 255 (kept n).size ≡ ltb 255 n.size
byte_kept n = grind (arith, nat_tests)

pages_kept : (n : Numeral) → ltb 64 (kept n).size ≡ ltb 64 n.size
pages_kept n = grind (arith, nat_tests)

sees_call : (n : Numeral) → is_no_call (kept n) ≡ is_no_call n
sees_call n = ap (λ (b : Bool). b || eqb (kept n).size 0) (kept_refused n) ∙ ap (λ (b : Bool). is_refused n || b) (zero_kept n)

sees_byte : (n : Numeral) → is_no_byte (kept n) ≡ is_no_byte n
sees_byte n = ap (λ (b : Bool). b || ltb 255 (kept n).size) (kept_refused n) ∙ ap (λ (b : Bool). is_refused n || b) (byte_kept n)

sees_step : (n : Numeral) → is_no_step (kept n) ≡ is_no_step n
sees_step n =
    ap (λ (b : Bool). b || (eqb (kept n).size 0 || ltb 64 (kept n).size)) (kept_refused n)
    ∙ ap (λ (b : Bool). is_refused n || (b || ltb 64 (kept n).size)) (zero_kept n) ∙ ap (λ (b : Bool). is_refused n || (eqb n.size 0 || b)) (pages_kept n)

call_covers : (n : Numeral) → is_no_call n ≡ false → is_unreadable n ≡ false
call_covers n e = refused_covers n (or_parts _ _ e).0

byte_covers : (n : Numeral) → is_no_byte n ≡ false → is_unreadable n ≡ false
byte_covers n e = refused_covers n (or_parts _ _ e).0

step_covers : (n : Numeral) → is_no_step n ≡ false → is_unreadable n ≡ false
step_covers n e = refused_covers n (or_parts _ _ e).0

-- a field that passes no such test can be read
readable_by : (test : Numeral → Bool) → ((n : Numeral) → test n ≡ false → is_unreadable n ≡ false) → (field : List ℕ) → option_map_or test (numeral field) false ≡ false → option_map_or is_unreadable (numeral field) false ≡ false
readable_by test covers field none = by (numeral field) none
  where
    by : (o : Option Numeral) → option_map_or test o false ≡ false → option_map_or is_unreadable o false ≡ false
    by None e = refl
    by (Some n) e = covers n e

-- Picks.

pick_same : (x y : List ℕ) → AreFieldsAlike x y → is_pick x ≡ is_pick y
pick_same x y e =
    ap (λ (b : Bool). (b || bytes_eq x (codes "new")) || is_some (numeral x)) (word_same x y (codes "old") e refl)
    ∙ ap (λ (b : Bool). (bytes_eq y (codes "old") || b) || is_some (numeral x)) (word_same x y (codes "new") e refl)
    ∙ ap (λ (b : Bool). (bytes_eq y (codes "old") || bytes_eq y (codes "new")) || b) (some_same x y e)

picks_count : (xs ys : Row) → AllAlike xs ys → prefix_len is_pick xs ≡ prefix_len is_pick ys
picks_count [] [] alike = refl
picks_count [] (y ∷ ys) alike = absurd alike
picks_count (x ∷ xs) [] alike = absurd alike
picks_count (x ∷ xs) (y ∷ ys) alike =
    ap (λ (b : Bool). cond b (1 + prefix_len is_pick xs) 0) (pick_same x y alike.0) ∙ ap (λ (n : ℕ). cond (is_pick y) (1 + n) 0) (picks_count xs ys alike.1)

taken_alike : (n : ℕ) (xs ys : Row) → AllAlike xs ys → AllAlike (take n xs) (take n ys)
taken_alike zero xs ys alike = tt
taken_alike (suc n) [] [] alike = tt
taken_alike (suc n) [] (y ∷ ys) alike = absurd alike
taken_alike (suc n) (x ∷ xs) [] alike = absurd alike
taken_alike (suc n) (x ∷ xs) (y ∷ ys) alike = (alike.0, taken_alike n xs ys alike.1)

picks_alike : (xs ys : Row) → AllAlike xs ys → AllAlike (picks_in xs) (picks_in ys)
picks_alike xs ys alike = rw (picks_count xs ys alike) (taken_alike (prefix_len is_pick ys) xs ys alike)

behind_alike : (xs ys : Row) → AllAlike xs ys → AllAlike (behind_picks xs) (behind_picks ys)
behind_alike xs ys alike = rw (picks_count xs ys alike) (dropped_alike (prefix_len is_pick ys) xs ys alike)

picks_said : (xs ys : Row) → AllAlike xs ys → some_numeral is_no_byte xs ≡ false → map pick_from xs ≡ map pick_from ys
picks_said [] [] alike none = refl
picks_said [] (y ∷ ys) alike none = absurd alike
picks_said (x ∷ xs) [] alike none = absurd alike
picks_said (x ∷ xs) (y ∷ ys) alike none =
    let parts = or_parts _ _ none in
    let size : size_of x ≡ size_of y = size_same x y alike.0 (readable_by is_no_byte byte_covers x parts.0) in
    let one : pick_from x ≡ pick_from y = rw (word_same x y (codes "old") alike.0 refl, word_same x y (codes "new") alike.0 refl, size) refl in
    rw (one, picks_said xs ys alike.1 parts.1) refl

-- The fields behind `stop`.

writing_same : (xs ys : Row) → AllAlike xs ys → is_writing xs ≡ is_writing ys
writing_same [] [] alike = refl
writing_same [] (y ∷ ys) alike = absurd alike
writing_same (x ∷ xs) [] alike = absurd alike
writing_same (x ∷ []) (y ∷ []) alike = rw (word_same x y (codes "flush") alike.0 refl, word_same x y (codes "checkpoint") alike.0 refl) refl
writing_same (x ∷ []) (y ∷ q ∷ ys) alike = absurd alike.1
writing_same (x ∷ p ∷ xs) (y ∷ []) alike = absurd alike.1
writing_same (x ∷ p ∷ []) (y ∷ q ∷ []) alike = rw (word_same x y (codes "step") alike.0 refl, some_same p q alike.1.0) refl
writing_same (x ∷ p ∷ []) (y ∷ q ∷ s ∷ ys) alike = absurd alike.1.1
writing_same (x ∷ p ∷ r ∷ xs) (y ∷ q ∷ []) alike = absurd alike.1.1
writing_same (x ∷ p ∷ r ∷ xs) (y ∷ q ∷ s ∷ ys) alike = refl

are_same : (xs ys : Row) → AllAlike xs ys → are_of_stop xs ≡ are_of_stop ys
are_same [] [] alike = refl
are_same [] (y ∷ ys) alike = absurd alike
are_same (x ∷ xs) [] alike = absurd alike
are_same (x ∷ xs) (y ∷ ys) alike = rw (some_same x y alike.0, writing_same (behind_picks xs) (behind_picks ys) (behind_alike xs ys alike.1), picks_count xs ys alike.1) refl

outside_same : (xs ys : Row) → AllAlike xs ys → has_number_outside xs ≡ has_number_outside ys
outside_same [] [] alike = refl
outside_same [] (y ∷ ys) alike = absurd alike
outside_same (x ∷ xs) [] alike = absurd alike
outside_same (x ∷ xs) (y ∷ ys) alike =
    let call : some_numeral is_no_call (x ∷ []) ≡ some_numeral is_no_call (y ∷ []) = numerals_same is_no_call sees_call (x ∷ []) (y ∷ []) (alike.0, tt) in
    let bytes : some_numeral is_no_byte (picks_in xs) ≡ some_numeral is_no_byte (picks_in ys) = numerals_same is_no_byte sees_byte (picks_in xs) (picks_in ys) (picks_alike xs ys alike.1) in
    let pages : some_numeral is_no_step (item_fields (behind_picks xs)) ≡ some_numeral is_no_step (item_fields (behind_picks ys))
    = numerals_same is_no_step sees_step (item_fields (behind_picks xs)) (item_fields (behind_picks ys)) (dropped_alike 1 (behind_picks xs) (behind_picks ys) (behind_alike xs ys alike.1)) in
    ap (λ (b : Bool). (b || some_numeral is_no_byte (picks_in xs)) || some_numeral is_no_step (item_fields (behind_picks xs))) call
    ∙ ap (λ (b : Bool). (some_numeral is_no_call (y ∷ []) || b) || some_numeral is_no_step (item_fields (behind_picks xs))) bytes
    ∙ ap (λ (b : Bool). (some_numeral is_no_call (y ∷ []) || some_numeral is_no_byte (picks_in ys)) || b) pages

written_same : (xs ys : Row) → AllAlike xs ys → some_numeral is_no_step (item_fields xs) ≡ false → writing_from xs ≡ writing_from ys
written_same [] [] alike none = refl
written_same [] (y ∷ ys) alike none = absurd alike
written_same (x ∷ xs) [] alike none = absurd alike
written_same (x ∷ xs) (y ∷ ys) alike none =
    let pages : size_at xs 0 ≡ size_at ys 0 = size_at_same xs ys alike.1 (all_readable is_no_step step_covers xs none) 0 in
    rw (word_same x y (codes "flush") alike.0 refl, word_same x y (codes "checkpoint") alike.0 refl, pages) refl

stop_same : (xs ys : Row) → AllAlike xs ys → has_number_outside xs ≡ false → stop_from xs ≡ stop_from ys
stop_same [] [] alike none = refl
stop_same [] (y ∷ ys) alike none = absurd alike
stop_same (x ∷ xs) [] alike none = absurd alike
stop_same (x ∷ xs) (y ∷ ys) alike none =
    let parts = or_parts _ _ none in
    let first = or_parts _ _ parts.0 in
    let call : size_of x ≡ size_of y = size_same x y alike.0 (readable_by is_no_call call_covers x (or_parts _ _ first.0).0) in
    let picks : map pick_from (picks_in xs) ≡ map pick_from (picks_in ys) = picks_said (picks_in xs) (picks_in ys) (picks_alike xs ys alike.1) first.1 in
    let within : writing_from (behind_picks xs) ≡ writing_from (behind_picks ys) = written_same (behind_picks xs) (behind_picks ys) (behind_alike xs ys alike.1) parts.1 in
    ap (λ (n : ℕ). StopWithinLine n (map pick_from (picks_in xs)) (writing_from (behind_picks xs))) call
    ∙ ap (λ (l : List Pick). StopWithinLine (size_of y) l (writing_from (behind_picks xs))) picks
    ∙ ap (λ (l : ScriptLine). StopWithinLine (size_of y) (map pick_from (picks_in ys)) l) within

-- The field behind `step`.

pages_same : (xs ys : Row) → AllAlike xs ys → some_at (λ is_none_such. is_none_such) (is_no_step ∷ []) xs ≡ some_at (λ is_none_such. is_none_such) (is_no_step ∷ []) ys
pages_same [] [] alike = refl
pages_same [] (y ∷ ys) alike = absurd alike
pages_same (x ∷ xs) [] alike = absurd alike
pages_same (x ∷ xs) (y ∷ ys) alike = ap (λ (b : Bool). b || false) (tested_same is_no_step sees_step x y alike.0)

stepped_same : (xs ys : Row) → AllAlike xs ys → some_at (λ is_none_such. is_none_such) (is_no_step ∷ []) xs ≡ false → size_at xs 0 ≡ size_at ys 0
stepped_same [] [] alike none = refl
stepped_same [] (y ∷ ys) alike none = absurd alike
stepped_same (x ∷ xs) [] alike none = absurd alike
stepped_same (x ∷ xs) (y ∷ ys) alike none = size_same x y alike.0 (readable_by is_no_step step_covers x (or_parts _ _ none).0)

-- The code of a line.

module _ (earlier : List Row) (x : List ℕ) (xs ys : Row) (alike : AllAlike xs ys) where
  event_row_same : event_code earlier (x ∷ xs) ≡ event_code earlier (x ∷ ys)
  unfolding event_code
  event_row_same =
      elim (cases_Bool (bytes_eq x (codes "stop"))) [
        | inl stop ↦ rw (stop, are_same xs ys alike, outside_same xs ys alike) refl
        | inr no_stop ↦
            elim (cases_Bool (bytes_eq x (codes "step"))) [
              | inl step ↦ rw (no_stop, step, malformed_same 1 xs ys alike, pages_same xs ys alike) refl
              | inr no_step ↦ rw (no_stop, no_step) (command_row_same numbered_words x xs ys alike earlier)
            ]
      ]

  row_same : script_line_code earlier (x ∷ xs) ≡ script_line_code earlier (x ∷ ys)
  unfolding script_line_code
  row_same =
      ap (λ (o : Option Code). cond (is_some (grouping_of earlier).opened || (begins (x ∷ xs) || ends (x ∷ xs))) o (event_code earlier (x ∷ xs))) (group_code_same earlier (x ∷ xs) (x ∷ ys) (refl, alike))
      ∙ ap (λ (o : Option Code). cond (is_some (grouping_of earlier).opened || (begins (x ∷ xs) || ends (x ∷ xs))) (group_code earlier (x ∷ ys)) o) event_row_same

  -- What a line without a fault says.

  no_code : (b r : Bool) → ◌≡◌ {A = Option Code} (cond b (Some BadLine) (cond r (Some NumberRange) None)) None → r ≡ false
  no_code true r e = absurd cc
  no_code false true e = absurd cc
  no_code false false e = refl

  stop_said : bytes_eq x (codes "stop") ≡ true → event_code earlier (x ∷ xs) ≡ None → script_line_of (x ∷ xs) ≡ script_line_of (x ∷ ys)
  unfolding event_code
  stop_said stop clean =
      let is : x ≡ codes "stop" = (bytes_decides x (codes "stop")).0 stop in
      let judged : ◌≡◌ {A = Option Code} (cond (not (are_of_stop xs)) (Some BadLine) (cond (has_number_outside xs) (Some NumberRange) None)) None = rw stop at clean in
      rw is (ap Some (stop_same xs ys alike (no_code (not (are_of_stop xs)) (has_number_outside xs) judged)))

  step_said : bytes_eq x (codes "stop") ≡ false → bytes_eq x (codes "step") ≡ true → event_code earlier (x ∷ xs) ≡ None → script_line_of (x ∷ xs) ≡ script_line_of (x ∷ ys)
  unfolding event_code
  step_said no_stop step clean =
      let is : x ≡ codes "step" = (bytes_decides x (codes "step")).0 step in
      let judged : ◌≡◌ {A = Option Code} (cond (is_malformed 1 xs) (Some BadLine) (cond (some_at (λ is_none_such. is_none_such) (is_no_step ∷ []) xs) (Some NumberRange) None)) None = rw (no_stop, step) at clean in
      rw is (ap (λ (n : ℕ). Some (StepLine n)) (stepped_same xs ys alike (no_code (is_malformed 1 xs) _ judged)))

  other_said : bytes_eq x (codes "stop") ≡ false → bytes_eq x (codes "step") ≡ false → event_code earlier (x ∷ xs) ≡ None → script_line_of (x ∷ xs) ≡ script_line_of (x ∷ ys)
  unfolding event_code
  other_said no_stop no_step clean =
      let code : command_code numbered_words earlier (x ∷ xs) ≡ None = rw (no_stop, no_step) at clean in
      elim (cases_Bool (is_empty (x ∷ xs) || is_remark 35 (x ∷ xs))) [
        | inl nothing ↦ (ignored earlier (x ∷ xs) nothing).1 ∙ sym (ignored earlier (x ∷ ys) nothing).1
        | inr other ↦
            let same = size_at_same xs ys alike (all_readable is_refused refused_covers xs (none_refused numbered_words x xs ys alike earlier other code)) in
            rw (no_stop, same 0, same 1, same 2) refl
      ]

  line_said : event_code earlier (x ∷ xs) ≡ None → script_line_of (x ∷ xs) ≡ script_line_of (x ∷ ys)
  line_said clean =
      elim (cases_Bool (bytes_eq x (codes "stop"))) [
        | inl stop ↦ stop_said stop clean
        | inr no_stop ↦
            elim (cases_Bool (bytes_eq x (codes "step"))) [
              | inl step ↦ step_said no_stop step clean
              | inr no_step ↦ other_said no_stop no_step clean
            ]
      ]

  as_group : (is_some (grouping_of earlier).opened || (begins (x ∷ xs) || ends (x ∷ xs))) ≡ true → script_line_code earlier (x ∷ xs) ≡ None → group_code earlier (x ∷ xs) ≡ None
  unfolding script_line_code
  as_group grouped clean = rw grouped at clean

  as_event : (is_some (grouping_of earlier).opened || (begins (x ∷ xs) || ends (x ∷ xs))) ≡ false → script_line_code earlier (x ∷ xs) ≡ None → event_code earlier (x ∷ xs) ≡ None
  unfolding script_line_code
  as_event single clean = rw single at clean

  opened_said : script_line_code earlier (x ∷ xs) ≡ None → (grouping_of (earlier ++ (x ∷ xs) ∷ [])).opened ≡ (grouping_of (earlier ++ (x ∷ ys) ∷ [])).opened
  opened_said clean =
      elim (cases_Bool (is_some (grouping_of earlier).opened || (begins (x ∷ xs) || ends (x ∷ xs)))) [
        | inl grouped ↦ ap (λ (g : Grouping). g.opened) (grouping_same earlier (x ∷ xs) (x ∷ ys) (refl, alike) (as_group grouped clean))
        | inr single ↦
            let parts = or_parts (is_some (grouping_of earlier).opened) (begins (x ∷ xs) || ends (x ∷ xs)) single in
            let bounds = or_parts (begins (x ∷ xs)) (ends (x ∷ xs)) parts.1 in
            let shut : (grouping_of earlier).opened ≡ None = shut_of false (grouping_of earlier).opened (sym parts.0) refl in
            still_shut earlier (grouping_of earlier).opened refl (x ∷ xs) bounds.0 bounds.1 shut ∙ sym (still_shut earlier (grouping_of earlier).opened refl (x ∷ ys) bounds.0 bounds.1 shut)
      ]

  event_said : script_line_code earlier (x ∷ xs) ≡ None → event_at earlier (x ∷ xs) ≡ event_at earlier (x ∷ ys)
  event_said clean =
      elim (cases_Bool (is_some (grouping_of earlier).opened || (begins (x ∷ xs) || ends (x ∷ xs)))) [
        | inr single ↦ rw (line_said (as_event single clean)) refl
        | inl grouped ↦ in_group _ _ _ _ (is_some (grouping_of earlier).opened) (begins (x ∷ xs)) (ends (x ∷ xs)) grouped
      ]
    where
      in_group : (k l m n : List ScriptLine) (o b e : Bool) → (o || (b || e)) ≡ true → cond e k (cond (b || o) l m) ≡ cond e k (cond (b || o) l n)
      in_group k l m n o b true is = refl
      in_group k l m n o true false is = refl
      in_group k l m n true false false is = refl
      in_group k l m n false false false is = absurd cc

pub script_code_same : (earlier : List Row) (one other : Row) → SaySame one other → script_line_code earlier one ≡ script_line_code earlier other
script_code_same earlier [] [] same = refl
script_code_same earlier [] (y ∷ ys) same = absurd same
script_code_same earlier (x ∷ xs) [] same = absurd same
script_code_same earlier (x ∷ xs) (y ∷ ys) same = rw (← same.0) (row_same earlier x xs ys same.1)

pub events_taken_same : (earlier : List Row) (one other : Row) (taken : EventLines) → SaySame one other → script_line_code earlier one ≡ None → HasEvents (earlier ++ other ∷ []) taken → HasEvents (earlier ++ one ∷ []) taken
events_taken_same earlier [] [] taken same clean has = has
events_taken_same earlier [] (y ∷ ys) taken same clean has = absurd same
events_taken_same earlier (x ∷ xs) [] taken same clean has = absurd same
events_taken_same earlier (x ∷ xs) (y ∷ ys) taken same clean has =
    let had : HasEvents (earlier ++ (x ∷ ys) ∷ []) taken = rw same.0 has in
    let event : event_at earlier (x ∷ xs) ≡ event_at earlier (x ∷ ys) = event_said earlier x xs ys same.1 clean in
    record {
      events_are = had.events_are ∙ behind_more [] earlier (x ∷ ys) ∙ ap (λ (l : List ScriptLine). lines_in earlier ++ l) (sym event) ∙ sym (behind_more [] earlier (x ∷ xs));
      opened_is = opened_said earlier x xs ys same.1 clean ∙ had.opened_is;
    }
