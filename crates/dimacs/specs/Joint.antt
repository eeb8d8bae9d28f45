-- A text that may be cut in two at a line `run`.
use Rattle.std.specs.Prelude.{Bool, ◌&&◌, List, [], ◌∷◌, length, ◌==◌, if◌then◌else◌}
use Rattle.std.specs.List.{list_any}
use Rattle.std.specs.Str.{bytes_eq}
use lib.Chars.{codes}
use Rattle.dimacs.specs.Faults.{Row, has_first}

-- the one field of the line is `run`
abbrev pub is_run : Row → Bool
is_run row = has_first (λ first. bytes_eq first (codes "run")) row && (length row == 1)

-- the lines before the first such line, and those after it
abbrev pub before_run : List Row → List Row
before_run [] = []
before_run (row ∷ more) = if is_run row then [] else row ∷ before_run more

abbrev pub after_run : List Row → List Row
after_run [] = []
after_run (row ∷ more) = if is_run row then more else after_run more

abbrev pub has_run : List Row → Bool
has_run rs = list_any is_run rs

-- the lines that a reading takes which stops at that line where it is told to, and what it leaves
abbrev pub taken_of : Bool → List Row → List Row
taken_of until_run rs = if until_run then before_run rs else rs

abbrev pub lines_left : Bool → List Row → List Row
lines_left until_run rs = if until_run then after_run rs else []
