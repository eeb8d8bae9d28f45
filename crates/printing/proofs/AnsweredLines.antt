-- A number has room, and the parts of a line, put together from its end, are the line.
use Rattle.std.proofs.Common.{◌≡◌, ℕ, ◌<◌, ◌≤◌, ◌^◌, List, ◌++◌, length, rules, append_assoc}
use Rattle.std.specs.Prelude.{decimal}
use Rattle.std.proofs.lemmas.Fmt.{length-decimal-le}
use lib.Chars.{codes}

pub twenty_digits : (n : ℕ) → n < 2 ^ 64 → length (decimal n) ≤ 20
twenty_digits n fits = search (rules, length-decimal-le 20)

pub parts_of_line : (line nodes number from_blank from_end : List ℕ) → line ≡ nodes ++ from_blank → from_blank ≡ codes " " ++ number ++ from_end → from_end ≡ codes "\n" → line ≡ nodes ++ codes " " ++ number ++ codes "\n"
parts_of_line line nodes number from_blank from_end first second third = rw (first, second, third) (simp append_assoc)
