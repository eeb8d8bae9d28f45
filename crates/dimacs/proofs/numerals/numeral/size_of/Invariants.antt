use Rattle.std.proofs.Common.{◌≡◌, ◌-◌, ◌^◌, true, take, min}
use Rattle.std.specs.List.{list_all}
use Rattle.std.specs.Str.Parse.{digits_value}
use Rattle.dimacs.specs.Digits.{is_decimal}
use Rattle.dimacs.proofs.numerals.numeral.size_of.Given as goal

abbrev pub invariant-loop-digit : goal.invariant-loop-digit
invariant-loop-digit l = record {
  digits : list_all is_decimal (take l.digit-index l.digits) ≡ true;
  size : l.size ≡ min (digits_value 10 (take l.digit-index l.digits)) (2 ^ 64 - 1);
}
