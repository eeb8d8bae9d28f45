-- A line `stop` that is read from left to right has the lowest code that applies to it, or is the event that it says.
use Rattle.std.proofs.Common.{◌≡◌, ◌∙◌, ⊎_elim, ℕ, Bool, true, false, not, ◌||◌, ◌&&◌, ◌≤◌, cond, eqb, List, [], ◌∷◌, length, map, Option, None, Some, Result, Ok, Err, refl, sym, ap, subst, inl, inr, arith}
use Rattle.std.specs.Prelude.{is_some}
use Rattle.std.specs.List.{prefix_len}
use Rattle.std.specs.Option.{option_map, option_map_or}
use Rattle.std.specs.Str.{bytes_eq}
use Rattle.std.proofs.lemmas.Bool.{cases_Bool, or_parts, le-leb}
use Rattle.std.proofs.lemmas.Bool.Decides.{nat_tests}
use Rattle.std.proofs.lemmas.Slice.Eq.{bytes_eq-Decides}
use lib.Chars.{codes}
use Rattle.dimacs.specs.declared.fault.Code.{Code}
use Rattle.dimacs.specs.declared.fault.Code.TheVariants.{BadLine, NumberRange}
use Rattle.dimacs.specs.declared.numerals.numeral.Numeral.{Numeral}
use Rattle.dimacs.specs.Commands.{is_refused}
use Rattle.dimacs.specs.Faults.{Row, item_fields, size_of, some_numeral}
use Rattle.dimacs.specs.Lines.{fields}
use Rattle.dimacs.specs.Numerals.{numeral, kept}
use Rattle.dimacs.proofs.Items.{known, by_memory_of}
use Rattle.disk.specs.declared.stoppable.Pick.{Pick}
use Rattle.machine.specs.declared.events.Event.{Event}
use Rattle.machine.specs.declared.events.Writing.{Writing}
use Rattle.scripts.specs.declared.script_stops.PicksRead.{PicksRead}
use Rattle.scripts.specs.ScriptTexts.{ScriptLine, FlushLine, CheckpointLine, StepLine, StopLine, StopWithinLine, as_line, writing_line, script_line_of, picks_in, behind_picks, pick_from, writing_from, is_pick, is_writing, is_some_of_most, are_of_stop, is_no_call, is_no_byte, is_no_step, has_number_outside, event_code}
use Rattle.scripts.specs.ScriptReading.{call_of_numeral, call_read, step_read, writing_read, map_line, cut_within, cut_of, picks_read, IsUnlessMemory, ReadsPicks, ReadsEvent}
use Rattle.dimacs.proofs.CommandRows.{kept_refused, kept_number}
use Rattle.scripts.proofs.ScriptPicks.{AllPicks, all_picks, many_picks}
use Rattle.scripts.proofs.ScriptSteps.{no_step_kept}

-- ---- no field
pub stop_alone : (rest : Row) → rest ≡ [] → ((earlier : List Row) → event_code earlier (codes "stop" ∷ rest) ≡ None) × (script_line_of (codes "stop" ∷ rest) ≡ Some StopLine)
unfolding event_code
stop_alone rest none = rw none ((λ earlier. refl), refl)

-- ---- the number of a call
zero_kept : (n : Numeral) → eqb (kept n).size 0 ≡ eqb n.size 0
zero_kept n = grind (arith, nat_tests)

no_call_kept : (n : Numeral) → is_no_call (kept n) ≡ is_no_call n
no_call_kept n = ap (λ (b : Bool). b || eqb (kept n).size 0) (kept_refused n) ∙ ap (λ (b : Bool). is_refused n || b) (zero_kept n)

data CallCase (field : List ℕ) : Type 0 where
  NoNumeral : call_read field ≡ None → is_some (numeral field) ≡ false → CallCase field
  IsCall : (n : ℕ) → call_read field ≡ Some (Ok n) → is_some (numeral field) ≡ true → option_map_or is_no_call (numeral field) false ≡ false → size_of field ≡ n → CallCase field
  NoCall : call_read field ≡ Some (Err NumberRange) → is_some (numeral field) ≡ true → option_map_or is_no_call (numeral field) false ≡ true → CallCase field

call_cases : (field : List ℕ) → CallCase field
call_cases field =
    elim (known (numeral field)) [
      | inl e ↦ NoNumeral (rw e refl) (rw e refl)
      | inr (a, e) ↦
          let read : call_read field ≡ Some (call_of_numeral (kept a)) = rw e refl in
          elim (cases_Bool (is_no_call a)) [
            | inl out ↦ NoCall (read ∙ rw (no_call_kept a, out) refl) (rw e refl) (rw e out)
            | inr inside ↦ IsCall (kept a).size (read ∙ rw (no_call_kept a, inside) refl) (rw e refl) (rw e inside)
                (rw e (sym (ap (λ (n : Numeral). n.size) (kept_number a (or_parts _ _ inside).0))))
          ]
    ]

-- ---- an event that writes
data WritingCase (row : Row) : Type 0 where
  NoWriting : writing_read row ≡ None → is_writing row ≡ false → WritingCase row
  IsWriting : (line : ScriptLine) → writing_read row ≡ Some (Ok line) → is_writing row ≡ true → some_numeral is_no_step (item_fields row) ≡ false → writing_from row ≡ line → WritingCase row
  NoPages : writing_read row ≡ Some (Err NumberRange) → is_writing row ≡ true → some_numeral is_no_step (item_fields row) ≡ true → WritingCase row

flush_case : (behind : Row) → WritingCase (codes "flush" ∷ behind)
flush_case [] = IsWriting FlushLine refl refl refl refl
flush_case (field ∷ []) = NoWriting refl refl
flush_case (field ∷ next ∷ more) = NoWriting refl refl

checkpoint_case : (behind : Row) → WritingCase (codes "checkpoint" ∷ behind)
checkpoint_case [] = IsWriting CheckpointLine refl refl refl refl
checkpoint_case (field ∷ []) = NoWriting refl refl
checkpoint_case (field ∷ next ∷ more) = NoWriting refl refl

one_step_case : (field : List ℕ) → WritingCase (codes "step" ∷ field ∷ [])
one_step_case field =
    elim (known (numeral field)) [
      | inl e ↦ NoWriting (rw e refl) (rw e refl)
      | inr (a, e) ↦
          let read : writing_read (codes "step" ∷ field ∷ []) ≡ Some (step_read (kept a)) = rw e refl in
          elim (cases_Bool (is_no_step a)) [
            | inl out ↦ NoPages (read ∙ rw (no_step_kept a, out) refl) (rw e refl) (rw (e, out) refl)
            | inr inside ↦ IsWriting (StepLine (kept a).size) (read ∙ rw (no_step_kept a, inside) refl) (rw e refl) (rw (e, inside) refl)
                (rw e (sym (ap (λ (n : Numeral). StepLine n.size) (kept_number a (or_parts _ _ inside).0))))
          ]
    ]

two_step_fields : (field next : List ℕ) (more : Row) → writing_read (codes "step" ∷ field ∷ next ∷ more) ≡ None
two_step_fields field next more =
    elim (known (numeral field)) [
      | inl e ↦ rw e refl
      | inr (a, e) ↦ rw e refl
    ]

step_case : (behind : Row) → WritingCase (codes "step" ∷ behind)
step_case [] = NoWriting refl refl
step_case (field ∷ []) = one_step_case field
step_case (field ∷ next ∷ more) = NoWriting (two_step_fields field next more) refl

no_word : (word : List ℕ) (behind : Row) → bytes_eq word (codes "flush") ≡ false → bytes_eq word (codes "checkpoint") ≡ false → bytes_eq word (codes "step") ≡ false → is_writing (word ∷ behind) ≡ false
no_word word [] no_flush no_checkpoint no_step = rw (no_flush, no_checkpoint) refl
no_word word (pages ∷ []) no_flush no_checkpoint no_step = rw no_step refl
no_word word (pages ∷ next ∷ more) no_flush no_checkpoint no_step = refl

word_case : (word : List ℕ) (behind : Row) → WritingCase (word ∷ behind)
word_case word behind =
    elim (cases_Bool (bytes_eq word (codes "flush"))) [
      | inl flush ↦ subst (λ (w : List ℕ). WritingCase (w ∷ behind)) (sym ((bytes_eq-Decides word (codes "flush")).0 flush)) (flush_case behind)
      | inr no_flush ↦ elim (cases_Bool (bytes_eq word (codes "checkpoint"))) [
        | inl checkpoint ↦ subst (λ (w : List ℕ). WritingCase (w ∷ behind)) (sym ((bytes_eq-Decides word (codes "checkpoint")).0 checkpoint)) (checkpoint_case behind)
        | inr no_checkpoint ↦ elim (cases_Bool (bytes_eq word (codes "step"))) [
          | inl step ↦ subst (λ (w : List ℕ). WritingCase (w ∷ behind)) (sym ((bytes_eq-Decides word (codes "step")).0 step)) (step_case behind)
          | inr no_step ↦ NoWriting (rw (no_flush, no_checkpoint, no_step) refl) (no_word word behind no_flush no_checkpoint no_step)
        ]
      ]
    ]

writing_cases : (row : Row) → WritingCase row
writing_cases [] = NoWriting refl refl
writing_cases (word ∷ behind) = word_case word behind

-- ---- all of them
-- what a line says, by the line of its event
abbrev SaysLine : Row → Result ScriptLine Code → Type 0
SaysLine row (Ok line) = ((earlier : List Row) → event_code earlier row ≡ None) × (script_line_of row ≡ Some line)
SaysLine row (Err code) = (earlier : List Row) → event_code earlier row ≡ Some code

bad_line : (others : Row) (earlier : List Row) → are_of_stop others ≡ false → event_code earlier (codes "stop" ∷ others) ≡ Some BadLine
unfolding event_code
bad_line others earlier e = rw e refl

code_of_stop : (others : Row) (r : Bool) (earlier : List Row) → are_of_stop others ≡ true → has_number_outside others ≡ r → event_code earlier (codes "stop" ∷ others) ≡ cond r (Some NumberRange) None
unfolding event_code
code_of_stop others r earlier e f = rw (e, f) refl

module _ (call : List ℕ) (behind : Row) where
  abbrev all : Row
  all = call ∷ behind

  are_all : (a b c : Bool) → is_some (numeral call) ≡ a → is_some_of_most (prefix_len is_pick behind) ≡ b → is_writing (behind_picks behind) ≡ c → are_of_stop all ≡ (a && b && c)
  are_all a b c e f g = ap (λ (x : Bool). x && is_some_of_most (prefix_len is_pick behind) && is_writing (behind_picks behind)) e
      ∙ (ap (λ (y : Bool). a && y && is_writing (behind_picks behind)) f ∙ ap (λ (z : Bool). a && b && z) g)

  outside_all : (a b c : Bool) → option_map_or is_no_call (numeral call) false ≡ a → some_numeral is_no_byte (picks_in behind) ≡ b → some_numeral is_no_step (item_fields (behind_picks behind)) ≡ c
      → has_number_outside all ≡ ((a || false) || b || c)
  outside_all a b c e f g = ap (λ (x : Bool). (x || false) || some_numeral is_no_byte (picks_in behind) || some_numeral is_no_step (item_fields (behind_picks behind))) e
      ∙ (ap (λ (y : Bool). (a || false) || y || some_numeral is_no_step (item_fields (behind_picks behind))) f ∙ ap (λ (z : Bool). (a || false) || b || z) g)

  says_all : (n : ℕ) (ps : List Pick) (line : ScriptLine) → size_of call ≡ n → map pick_from (picks_in behind) ≡ ps → writing_from (behind_picks behind) ≡ line → script_line_of (codes "stop" ∷ all) ≡ Some (StopWithinLine n ps line)
  says_all n ps line e f g =
      let whole : script_line_of (codes "stop" ∷ all) ≡ Some (StopWithinLine (size_of call) (map pick_from (picks_in behind)) (writing_from (behind_picks behind))) = refl in
      whole ∙ (ap (λ (x : ℕ). Some (StopWithinLine x (map pick_from (picks_in behind)) (writing_from (behind_picks behind)))) e
      ∙ (ap (λ (y : List Pick). Some (StopWithinLine n y (writing_from (behind_picks behind)))) f ∙ ap (λ (z : ScriptLine). Some (StopWithinLine n ps z)) g))

  cut_is : (ps : List Pick) (right : Bool) (a : Option (Result ℕ Code)) (b : Option (Result ScriptLine Code)) (row : Row) → call_read call ≡ a → writing_read row ≡ b
      → SaysLine (codes "stop" ∷ all) (cut_of a ps right b) → SaysLine (codes "stop" ∷ all) (cut_of (call_read call) ps right (writing_read row))
  cut_is ps right a b row e f says = subst (SaysLine (codes "stop" ∷ all)) (sym (ap (λ x. cut_of x ps right (writing_read row)) e ∙ ap (cut_of a ps right) f)) says

  -- too many picks: whatever stands beside them
  cut_of_many : (ps : List Pick) (right : Bool) (a : Option (Result ℕ Code)) (b : Option (Result ScriptLine Code)) → is_some_of_most (length ps) ≡ false → cut_of a ps right b ≡ Err BadLine
  cut_of_many ps right None None few = refl
  cut_of_many ps right None (Some line) few = refl
  cut_of_many ps right (Some n) None few = refl
  cut_of_many ps right (Some n) (Some line) few = rw few refl

  no_part : (a b : Bool) → (a && false && b) ≡ false
  no_part true b = refl
  no_part false b = refl

  says_many : (ps : List Pick) (right : Bool) (a : Option (Result ℕ Code)) (b : Option (Result ScriptLine Code)) → is_some_of_most (prefix_len is_pick behind) ≡ false → is_some_of_most (length ps) ≡ false
      → SaysLine (codes "stop" ∷ all) (cut_of a ps right b)
  says_many ps right a b row few = subst (SaysLine (codes "stop" ∷ all)) (sym (cut_of_many ps right a b few))
      (λ earlier. bad_line all earlier (are_all _ false _ refl row refl ∙ no_part (is_some (numeral call)) (is_writing (behind_picks behind))))

  -- picks as many as may be
  module _ (ps : List Pick) (right : Bool) (some : is_some_of_most (prefix_len is_pick behind) ≡ true) (few : is_some_of_most (length ps) ≡ true) (range : some_numeral is_no_byte (picks_in behind) ≡ not right)
      (picks : right ≡ true → ps ≡ map pick_from (picks_in behind)) where
    abbrev whole : Row
    whole = codes "stop" ∷ all

    cut_some : (c : Result ℕ Code) (w : Result ScriptLine Code) → cut_of (Some c) ps right (Some w) ≡ cut_within c ps right w
    cut_some c w = rw few refl

    within : (c : Result ℕ Code) (w : Result ScriptLine Code) → SaysLine whole (cut_within c ps right w) → SaysLine whole (cut_of (Some c) ps right (Some w))
    within c w says = subst (SaysLine whole) (sym (cut_some c w)) says

    outside : (a c : Bool) → is_some (numeral call) ≡ true → is_writing (behind_picks behind) ≡ true → option_map_or is_no_call (numeral call) false ≡ a → some_numeral is_no_step (item_fields (behind_picks behind)) ≡ c
        → ((a || false) || not right || c) ≡ true → (earlier : List Row) → event_code earlier whole ≡ Some NumberRange
    outside a c numeral_is writing_is e g out earlier = code_of_stop all true earlier (are_all true true true numeral_is some writing_is) (outside_all a (not right) c e range g ∙ out)

    inside_right : (b : Bool) → right ≡ b → (n : ℕ) (line : ScriptLine) → is_some (numeral call) ≡ true → is_writing (behind_picks behind) ≡ true → option_map_or is_no_call (numeral call) false ≡ false
        → some_numeral is_no_step (item_fields (behind_picks behind)) ≡ false → size_of call ≡ n → writing_from (behind_picks behind) ≡ line → SaysLine whole (cut_within (Ok n) ps b (Ok line))
    inside_right true is n line e f g h size from = (
      (λ earlier. code_of_stop all false earlier (are_all true true true e some f) (outside_all false (not right) false g range h ∙ rw is refl)),
      says_all n ps line size (sym (picks is)) from,
    )
    inside_right false is n line e f g h size from = λ earlier. outside false false e f g h (rw is refl) earlier

    refused_call : (w : Result ScriptLine Code) → cut_within (Err NumberRange) ps right w ≡ Err NumberRange
    refused_call (Ok line) = refl
    refused_call (Err code) = refl

    refused_pages : (b : Bool) (c : Result ℕ Code) → cut_within c ps b (Err NumberRange) ≡ Err NumberRange
    refused_pages true (Ok n) = refl
    refused_pages false (Ok n) = refl
    refused_pages true (Err code) = refl
    refused_pages false (Err code) = refl

    or_true : (a b : Bool) → ((a || false) || b || true) ≡ true
    or_true true b = refl
    or_true false true = refl
    or_true false false = refl

    says_some : CallCase call → WritingCase (behind_picks behind) → SaysLine whole (cut_of (call_read call) ps right (writing_read (behind_picks behind)))
    says_some (NoNumeral e1 e2) w =
        cut_is ps right None (writing_read (behind_picks behind)) (behind_picks behind) e1 refl (none (writing_read (behind_picks behind)))
      where
        none : (b : Option (Result ScriptLine Code)) → SaysLine whole (cut_of None ps right b)
        none None = λ earlier. bad_line all earlier (are_all false _ _ e2 refl refl)
        none (Some line) = λ earlier. bad_line all earlier (are_all false _ _ e2 refl refl)
    says_some (IsCall n e1 e2 e3 e4) (NoWriting g1 g2) = cut_is ps right (Some (Ok n)) None (behind_picks behind) e1 g1 (λ earlier. bad_line all earlier (are_all true true false e2 some g2))
    says_some (NoCall e1 e2 e3) (NoWriting g1 g2) = cut_is ps right (Some (Err NumberRange)) None (behind_picks behind) e1 g1 (λ earlier. bad_line all earlier (are_all true true false e2 some g2))
    says_some (IsCall n e1 e2 e3 e4) (IsWriting line g1 g2 g3 g4) = cut_is ps right (Some (Ok n)) (Some (Ok line)) (behind_picks behind) e1 g1 (within (Ok n) (Ok line) (inside_right right refl n line e2 g2 e3 g3 e4 g4))
    says_some (IsCall n e1 e2 e3 e4) (NoPages g1 g2 g3) =
        cut_is ps right (Some (Ok n)) (Some (Err NumberRange)) (behind_picks behind) e1 g1 (within (Ok n) (Err NumberRange)
        (subst (SaysLine whole) (sym (refused_pages right (Ok n))) (outside false true e2 g2 e3 g3 (or_true false (not right)))))
    says_some (NoCall e1 e2 e3) (IsWriting line g1 g2 g3 g4) =
        cut_is ps right (Some (Err NumberRange)) (Some (Ok line)) (behind_picks behind) e1 g1 (within (Err NumberRange) (Ok line)
        (subst (SaysLine whole) (sym (refused_call (Ok line))) (outside true false e2 g2 e3 g3 refl)))
    says_some (NoCall e1 e2 e3) (NoPages g1 g2 g3) =
        cut_is ps right (Some (Err NumberRange)) (Some (Err NumberRange)) (behind_picks behind) e1 g1 (within (Err NumberRange) (Err NumberRange)
        (subst (SaysLine whole) (sym (refused_call (Err NumberRange))) (outside true true e2 g2 e3 g3 refl)))

  -- what was read of the picks decides with what stands beside them
  by_count : (read : PicksRead) → AllPicks behind read → (b : Bool) → is_some_of_most (length (picks_read read)) ≡ b
      → SaysLine (codes "stop" ∷ all) (cut_of (call_read call) (picks_read read) read.in_range (writing_read (fields read.rest.now)))
  by_count read has true few =
      subst (λ (row : Row). SaysLine (codes "stop" ∷ all) (cut_of (call_read call) (picks_read read) read.in_range (writing_read row))) has.behind
      (says_some (picks_read read) read.in_range (ap is_some_of_most has.count ∙ few) few has.in_range has.picks_are (call_cases call) (writing_cases (behind_picks behind)))
  by_count read has false few = says_many (picks_read read) read.in_range (call_read call) (writing_read (fields read.rest.now)) (ap is_some_of_most has.count ∙ few) few

  right_stop : (read : PicksRead) → ReadsPicks behind read → SaysLine (codes "stop" ∷ all) (cut_of (call_read call) (picks_read read) read.in_range (writing_read (fields read.rest.now)))
  right_stop read reads =
      ⊎_elim
      (λ many. let far = many_picks behind reads.taken read reads.has many in says_many (picks_read read) read.in_range (call_read call) (writing_read (fields read.rest.now)) far.0 far.1)
      (λ none. by_count read (all_picks behind reads.taken read reads.has none) (is_some_of_most (length (picks_read read))) refl)
      reads.ends

-- the line of parts that have no fault
pub cut_stands : (called : Option (Result ℕ Code)) (within : Option (Result Writing Code)) (ps : List Pick) (right : Bool) (a : Result ℕ Code) (b : Result Writing Code) (call : ℕ) (writing : Writing)
    → called ≡ Some a → within ≡ Some b → a ≡ Ok call → right ≡ true → b ≡ Ok writing → 1 ≤ length ps → length ps ≤ 8
    → cut_of called ps right (option_map (λ read. map_line writing_line read) within) ≡ Ok (StopWithinLine call ps (writing_line writing))
cut_stands called within ps right a b call writing e f g h i some few =
    let called_is : called ≡ Some (Ok call) = e ∙ ap Some g in
    let within_is : within ≡ Some (Ok writing) = f ∙ ap Some i in
    rw (called_is, within_is, h, le-leb 1 (length ps) some, le-leb (length ps) 8 few) refl

-- the event of such a line, for which memory may run out
told_by_line : (row : Row) (judged : Result ScriptLine Code) (result : Result (Event Pick) Code) → SaysLine row judged → IsUnlessMemory judged (map_line as_line result) → ReadsEvent row result
told_by_line row judged (Ok event) says is = subst (SaysLine row) is says
told_by_line row judged (Err code) says is = by_memory_of code is (λ e. subst (SaysLine row) e says) (λ ok. (subst (SaysLine row) ok.1 says).0)

pub stop_told : (rest behind : Row) (call : List ℕ) (read : PicksRead) (called : Option (Result ℕ Code)) (within : Option (Result ScriptLine Code)) (result : Result (Event Pick) Code) → rest ≡ call ∷ behind
    → ReadsPicks behind read → called ≡ call_read call → within ≡ writing_read (fields read.rest.now) → IsUnlessMemory (cut_of called (picks_read read) read.in_range within) (map_line as_line result)
    → ReadsEvent (codes "stop" ∷ rest) result
stop_told rest behind call read called within result is reads e f cut =
    let same : cut_of called (picks_read read) read.in_range within ≡ cut_of (call_read call) (picks_read read) read.in_range (writing_read (fields read.rest.now)) =
    ap (λ (x : Option (Result ℕ Code)). cut_of x (picks_read read) read.in_range within) e ∙ ap (cut_of (call_read call) (picks_read read) read.in_range) f in
    rw is (told_by_line (codes "stop" ∷ call ∷ behind) _ result (right_stop call behind read reads) (subst (λ judged. IsUnlessMemory judged (map_line as_line result)) same cut))
