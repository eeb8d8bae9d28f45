-- The line that an answer about nodes and tables begins with: of what it is.
use Rattle.std.specs.Prelude.{ℕ, List, ◌++◌}
use lib.Chars.{codes}
use Rattle.roadnet.specs.declared.refusals.Refusal.{Refusal}
use Rattle.roadnet.specs.declared.refusals.Refusal.TheVariants.{NoSuchNode}
use Rattle.roadnet.specs.Numbers.{number_of}
use Rattle.printing.specs.Printed.{refusal_line, version_line}
use Rattle.printing.specs.Replied.{number_line}
use Rattle.sessions.specs.declared.queries.finding.Heading.{Heading}
use Rattle.sessions.specs.declared.queries.finding.Heading.TheVariants.{Shown, Supposed}

-- `s V`
abbrev pub supposed_line : ℕ → List ℕ
supposed_line version = number_line (codes "s ") version

-- of the version that is shown, or of what is supposed on top of one
abbrev pub heading_line : Heading → List ℕ
heading_line (Shown version) = version_line version
heading_line (Supposed version) = supposed_line version

-- for what nothing is told: a node that is not there, whose version is named as for a query; or want of memory
abbrev pub untold_lines : Heading → Refusal → List ℕ
untold_lines heading NoSuchNode = heading_line heading ++ refusal_line (number_of NoSuchNode)
untold_lines heading other = refusal_line (number_of other)
