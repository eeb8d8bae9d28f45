-- A line `step` that is read from left to right has the lowest code that applies to it, or is the event that it says.
use Rattle.std.proofs.Common.{◌≡◌, ◌∙◌, ℕ, Bool, true, false, ◌||◌, cond, eqb, ltb, List, [], ◌∷◌, Option, None, Some, Ok, Err, refl, sym, ap, inl, inr, arith}
use Rattle.std.proofs.lemmas.Bool.{or_parts}
use Rattle.std.proofs.lemmas.Bool.Decides.{nat_tests}
use lib.Chars.{codes}
use Rattle.dimacs.specs.declared.fault.Code.{Code}
use Rattle.dimacs.specs.declared.fault.Code.TheVariants.{BadLine, NumberRange}
use Rattle.dimacs.specs.declared.numerals.numeral.Numeral.{Numeral}
use Rattle.dimacs.specs.Commands.{is_refused}
use Rattle.dimacs.specs.Content.{size_at}
use Rattle.dimacs.specs.Faults.{Row, is_malformed}
use Rattle.dimacs.specs.Numerals.{numeral, kept}
use Rattle.dimacs.specs.Reading.{one_numeral}
use Rattle.dimacs.proofs.Items.{or-false}
use Rattle.dimacs.proofs.NodeRows.{one_cases}
use Rattle.machine.specs.declared.events.Event.TheVariants.{CheckpointStep}
use Rattle.machine.specs.declared.pages.StepPages.{StepPages}
use Rattle.scripts.specs.ScriptTexts.{StepLine, is_no_step, event_code}
use Rattle.scripts.specs.ScriptReading.{ReadsEvent}
use Rattle.dimacs.proofs.CommandRows.{kept_refused, kept_number}

bad_step : (others : Row) (earlier : List Row) → is_malformed 1 others ≡ true → event_code earlier (codes "step" ∷ others) ≡ Some BadLine
unfolding event_code
bad_step others earlier e = rw e refl

code_of_step : (earlier : List Row) (u : List ℕ) (a : Numeral) (r : Bool) → numeral u ≡ Some a → is_no_step a ≡ r → event_code earlier (codes "step" ∷ u ∷ []) ≡ cond r (Some NumberRange) None
unfolding event_code
code_of_step earlier u a r e f = rw (e, f) (simp or-false)

zero_kept : (n : Numeral) → eqb (kept n).size 0 ≡ eqb n.size 0
zero_kept n = grind (arith, nat_tests)

large_kept : (n : Numeral) → ltb 64 (kept n).size ≡ ltb 64 n.size
large_kept n = grind (arith, nat_tests)

pub no_step_kept : (n : Numeral) → is_no_step (kept n) ≡ is_no_step n
no_step_kept n =
    ap (λ (b : Bool). b || (eqb (kept n).size 0 || ltb 64 (kept n).size)) (kept_refused n)
    ∙ (ap (λ (b : Bool). is_refused n || (b || ltb 64 (kept n).size)) (zero_kept n)
    ∙ ap (λ (b : Bool). is_refused n || (eqb n.size 0 || b)) (large_kept n))

pub step_fields_fault : (rest : Row) → None ≡ one_numeral rest → ReadsEvent (codes "step" ∷ rest) (Err BadLine)
step_fields_fault rest none =
    elim (one_cases rest) [
      | inl bad ↦ λ earlier. bad_step rest earlier bad.1
      | inr one ↦ (
          let read : one_numeral rest ≡ Some (kept one.a) = rw one.fields (rw one.field_is refl) in
          let never : ◌≡◌ {A = Option Numeral} None (Some (kept one.a)) = none ∙ read in
          absurd cc)
    ]

pub step_says : (rest : Row) (number : Numeral) (pages : StepPages) → Some number ≡ one_numeral rest → is_no_step number ≡ false → pages.pages ≡ number.size
    → ReadsEvent (codes "step" ∷ rest) (Ok (CheckpointStep pages))
step_says rest number pages some right is =
    elim (one_cases rest) [
      | inl bad ↦ (let never : ◌≡◌ {A = Option Numeral} (Some number) None = some ∙ bad.0 in absurd cc)
      | inr one ↦ (
          let read : Some number ≡ Some (kept one.a) = some ∙ rw one.fields (rw one.field_is refl) in
          let same : number ≡ kept one.a = cc in
          let fits : is_no_step one.a ≡ false = sym (no_step_kept one.a) ∙ (ap is_no_step (sym same) ∙ right) in
          let size : size_at (one.field ∷ []) 0 ≡ pages.pages =
          rw one.field_is (sym (is ∙ (ap (λ (n : Numeral). n.size) same ∙ ap (λ (n : Numeral). n.size) (kept_number one.a (or_parts _ _ fits).0)))) in
          rw one.fields ((λ earlier. code_of_step earlier one.field one.a false one.field_is fits), ap (λ (n : ℕ). Some (StepLine n)) size))
    ]

pub step_fault : (rest : Row) (number : Numeral) (code : Code) → Some number ≡ one_numeral rest → is_no_step number ≡ true → code ≡ NumberRange → ReadsEvent (codes "step" ∷ rest) (Err code)
step_fault rest number code some wrong is =
    elim (one_cases rest) [
      | inl bad ↦ (let never : ◌≡◌ {A = Option Numeral} (Some number) None = some ∙ bad.0 in absurd cc)
      | inr one ↦ (
          let read : Some number ≡ Some (kept one.a) = some ∙ rw one.fields (rw one.field_is refl) in
          let same : number ≡ kept one.a = cc in
          let out : is_no_step one.a ≡ true = sym (no_step_kept one.a) ∙ (ap is_no_step (sym same) ∙ wrong) in
          rw (is, one.fields) (λ earlier. code_of_step earlier one.field one.a true one.field_is out))
    ]
