use Rattle.std.proofs.Common.{◌≡◌, ◌∙◌, ◌-◌, ℕ, List, cond, length, take, drop, true, false, sym, ap, subst}
use Rattle.std.specs.Str.Parse.{starts_with_minus}
use Rattle.dimacs.specs.Digits.{are_digits}
use Rattle.dimacs.specs.Faults.{is_empty}
use Rattle.dimacs.specs.Lines.{fields}
use Rattle.dimacs.specs.NumeralEnds.{EndsInDigits}
use Rattle.dimacs.proofs.ShortEnds.{cut_alone, cut_other, cut_found}
use Rattle.dimacs.proofs.numerals.numeral_end.digits_at_end.Goals as goal

pub returns-then-is_blank-clause-none : goal.returns-then-is_blank-clause-none
returns-then-is_blank-clause-none c = λ e.
    let last = c.last_field_start.ensures in
    let none : is_empty (fields (take c.last_field_start.result c.args.front.now)) ≡ true = ap (λ (l : List ℕ). is_empty (fields l)) (sym c.split_at.ensures.front) ∙ sym c.is_blank.ensures ∙ c.if-is_blank.true in
    cut_alone c.args.front.now c.last_field_start.result last.within last.field last.behind none

pub returns-then-not-are_digits-clause-none : goal.returns-then-not-are_digits-clause-none
returns-then-not-are_digits-clause-none c = λ e.
    let last = c.last_field_start.ensures in
    let digits : c.without_minus-digits.result.now ≡ cond (starts_with_minus (drop c.last_field_start.result c.args.front.now)) (drop 1 (drop c.last_field_start.result c.args.front.now)) (drop c.last_field_start.result c.args.front.now)
    = c.without_minus-digits.ensures ∙ ap (λ (l : List ℕ). cond (starts_with_minus l) (drop 1 l) l) c.split_at.ensures.back in
    cut_other c.args.front.now c.last_field_start.result last.within last.field last.behind (ap are_digits (sym digits) ∙ sym c.are_digits.ensures ∙ c.if-not-are_digits.true)

pub returns-clause-found : goal.returns-clause-found
returns-clause-found c =
    let last = c.last_field_start.ensures in
    let digits : c.without_minus-digits.result.now ≡ cond (starts_with_minus (drop c.last_field_start.result c.args.front.now)) (drop 1 (drop c.last_field_start.result c.args.front.now)) (drop c.last_field_start.result c.args.front.now)
    = c.without_minus-digits.ensures ∙ ap (λ (l : List ℕ). cond (starts_with_minus l) (drop 1 l) l) c.split_at.ensures.back in
    let some : is_empty (fields (take c.last_field_start.result c.args.front.now)) ≡ false = ap (λ (l : List ℕ). is_empty (fields l)) (sym c.split_at.ensures.front) ∙ sym c.is_blank.ensures ∙ c.if-is_blank.false in
    subst (λ (l : List ℕ). EndsInDigits c.args.front.now (length c.args.front.now - length l)) (sym digits)
    (cut_found c.args.front.now c.last_field_start.result last.within last.field last.behind some (ap are_digits (sym digits) ∙ sym c.are_digits.ensures ∙ c.if-not-are_digits.false))
