-- A numeral that is printed is read as its number.
use Rattle.std.proofs.Common.{◌≡◌, ℕ, ◌<◌, ◌≤◌, ◌^◌, true, false, List, [], ◌∷◌, length, refl, arith, Some}
use Rattle.std.specs.Prelude.{All, decimal}
use Rattle.std.specs.Char.{digit_value}
use Rattle.std.specs.List.{list_all}
use Rattle.std.specs.Str.Parse.{AllDigits, starts_with_minus}
use Rattle.std.proofs.lemmas.Bool.{lt-ltb, ne_eqb}
use Rattle.std.proofs.lemmas.Bool.Decides.{nat_tests}
use Rattle.std.proofs.lemmas.Fmt.{decimal_is_IsNumeral}
use Rattle.std.proofs.lemmas.List.Elements.{All-cons, All-nil}
use Rattle.dimacs.specs.Digits.{is_decimal, are_digits}
use Rattle.dimacs.specs.Numerals.{numeral}
use Rattle.printing.proofs.PrintedRows.{IsMark, IsField}

digit_from : (c : ℕ) → digit_value c < 10 → 48 ≤ c
digit_from c lt = grind (arith, nat_tests)

digits_are_marks : (ds : List ℕ) → AllDigits 10 ds → All IsMark ds
digits_are_marks [] all = All-nil IsMark
digits_are_marks (c ∷ cs) all = let from = digit_from c all.0 in All-cons IsMark c cs (omega (arith, from)) (digits_are_marks cs all.1)

digits_are_decimal : (ds : List ℕ) → AllDigits 10 ds → list_all is_decimal ds ≡ true
digits_are_decimal [] all = refl
digits_are_decimal (c ∷ cs) all = rw (lt-ltb (digit_value c) 10 all.0, digits_are_decimal cs all.1) refl

no_minus : (ds : List ℕ) → AllDigits 10 ds → 0 < length ds → starts_with_minus ds ≡ false
no_minus [] all some = absurd (omega (arith, some))
no_minus (c ∷ cs) all some = let from = digit_from c all.0 in ne_eqb c 45 (λ e. absurd (omega (arith, from, e)))

pub number_is_field : (n : ℕ) → n < 2 ^ 64 → IsField (decimal n)
number_is_field n fits = let is = decimal_is_IsNumeral n fits in record { some = is.0.0; marks = digits_are_marks (decimal n) is.0.1 }

pub number_back : (n : ℕ) → n < 2 ^ 64 → numeral (decimal n) ≡ Some (record { has_minus = false; size = n })
number_back n fits =
    let is = decimal_is_IsNumeral n fits in
    let digits : are_digits (decimal n) ≡ true = rw (lt-ltb 0 (length (decimal n)) is.0.0, digits_are_decimal (decimal n) is.0.1) refl in
    rw (no_minus (decimal n) is.0.1 is.0.0, digits, is.1) refl
