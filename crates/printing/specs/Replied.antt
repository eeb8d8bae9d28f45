-- The bytes of what is told of a script's events.
use Rattle.std.specs.Prelude.{ℕ, List, ◌++◌, decimal}
use Rattle.std.specs.List.{flat_map}
use lib.Chars.{codes}
use Rattle.roadnet.specs.Numbers.{number_of}
use Rattle.machine.specs.declared.events.Replied.{Replied}
use Rattle.machine.specs.declared.events.Replied.TheVariants.{Accepted, Durable, Stepped, Task, Shown, Answered, Refused, Opened, Stopped}
use Rattle.printing.specs.Printed.{version_line, refusal_line, lines_of}

-- a word with a blank behind it, a number and a line feed
abbrev pub number_line : List ℕ → ℕ → List ℕ
number_line word number = word ++ decimal number ++ codes "\n"

-- `t N`, `ok N`, `step`, `task V`, `shown V`, the lines of an answer, `no CODE`, `stopped` with `v V`, or `stopped` alone
abbrev pub printed_reply : Replied → List ℕ
printed_reply (Accepted number) = number_line (codes "t ") number
printed_reply (Durable version) = number_line (codes "ok ") version
printed_reply Stepped = codes "step\n"
printed_reply (Task version) = number_line (codes "task ") version
printed_reply (Shown version) = number_line (codes "shown ") version
printed_reply (Answered query answer) = lines_of answer.version query answer.reply
printed_reply (Refused refusal) = refusal_line (number_of refusal)
printed_reply (Opened version) = codes "stopped\n" ++ version_line version
printed_reply Stopped = codes "stopped\n"

-- the lines of replies, one after the other
abbrev pub printed_replies : List Replied → List ℕ
printed_replies replies = flat_map printed_reply replies
