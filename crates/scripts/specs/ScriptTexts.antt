-- Script texts: command texts with the lines of further events.
use Rattle.std.specs.Prelude.{ℕ, Bool, true, false, not, ◌&&◌, ◌||◌, ◌==◌, List, [], ◌∷◌, ◌++◌, drop, map, Option, None, Some, is_some, option_map, unwrap_or, nat_lt, nat_le, if◌then◌else◌}
use Rattle.std.specs.List.{cons_option, find, prefix_len, take_while}
use Rattle.std.specs.Str.{bytes_eq}
use lib.Chars.{codes}
use Rattle.roadnet.specs.declared.commands.Command.{Command}
use Rattle.dimacs.specs.declared.numerals.numeral.Numeral.{Numeral}
use Rattle.dimacs.specs.declared.fault.Code.{Code}
use Rattle.dimacs.specs.declared.fault.Code.TheVariants.{BadLine, NumberRange, OpenGroup}
use Rattle.dimacs.specs.Commands.{Form, form, commands, is_refused, command_code}
use Rattle.dimacs.specs.Commanded.{begins, command_from, ends, group_code, grouping_of}
use Rattle.dimacs.specs.Content.{size_at}
use Rattle.dimacs.specs.Faults.{Row, Judge, has_first, is_malformed, item_fields, size_of, some_at, some_numeral}
use Rattle.dimacs.specs.Numerals.{numeral}
use Rattle.dimacs.specs.Texts.{TextKind}
use Rattle.disk.specs.declared.stoppable.Pick.{Pick}
use Rattle.disk.specs.declared.stoppable.Pick.TheVariants.{Old, New, Byte}
use Rattle.rows.specs.declared.queries.Query.{Query}
use Rattle.rows.specs.declared.queries.Query.TheVariants.{Dist, From, Lower}
use Rattle.machine.specs.declared.events.Event.{Event}
use Rattle.machine.specs.declared.events.Event.TheVariants.{Submit, Flush, Checkpoint, CheckpointStep, Task, Publish, Ask, Stop, StopWithin}
use Rattle.machine.specs.declared.events.Writing.{Writing}
use Rattle.machine.specs.declared.events.Writing.TheVariants.{Flush as a_flush, Checkpoint as a_checkpoint, Step as a_step}

-- WHAT A LINE SAYS

-- an event of a script by its numbers, and its picks as a list; a command is a group of one; a stop within an event has that event's line
pub data ScriptLine : Type 0 where
  GroupLine : (group : List Command) → ScriptLine
  FlushLine : ScriptLine
  CheckpointLine : ScriptLine
  StepLine : (pages : ℕ) → ScriptLine
  TaskLine : ScriptLine
  PublishLine : ScriptLine
  QueryLine : (query : Query) → ScriptLine
  StopLine : ScriptLine
  StopWithinLine : (call : ℕ) (picks : List Pick) (within : ScriptLine) → ScriptLine

-- the line of an event that writes
abbrev pub writing_line : Writing → ScriptLine
writing_line a_flush = FlushLine
writing_line a_checkpoint = CheckpointLine
writing_line (a_step pages) = StepLine pages.pages

-- the line of an event
abbrev pub as_line : Event Pick → ScriptLine
as_line (Submit group) = GroupLine group
as_line Flush = FlushLine
as_line Checkpoint = CheckpointLine
as_line (CheckpointStep pages) = StepLine pages.pages
as_line Task = TaskLine
as_line Publish = PublishLine
as_line (Ask query) = QueryLine query
as_line Stop = StopLine
as_line (StopWithin call picks writing) = StopWithinLine call picks.items (writing_line writing)

-- `old`, `new` or a numeral
abbrev pub is_pick : List ℕ → Bool
is_pick field = bytes_eq field (codes "old") || bytes_eq field (codes "new") || is_some (numeral field)

-- `old`, `new` or the number of a byte
abbrev pub pick_from : List ℕ → Pick
pick_from field = if bytes_eq field (codes "old") then Old else (if bytes_eq field (codes "new") then New else Byte (size_of field))

-- the picks with which fields begin, and the fields behind these
abbrev pub picks_in : Row → Row
picks_in row = take_while is_pick row

abbrev pub behind_picks : Row → Row
behind_picks row = drop (prefix_len is_pick row) row

-- `flush`, `checkpoint`, or `step` with its number of pages
abbrev pub writing_from : Row → ScriptLine
writing_from [] = FlushLine
writing_from (word ∷ others) = if bytes_eq word (codes "flush") then FlushLine else (if bytes_eq word (codes "checkpoint") then CheckpointLine else StepLine (size_at others 0))

-- `stop` alone, or with the number of a call, picks and an event that writes
abbrev pub stop_from : Row → ScriptLine
stop_from [] = StopLine
stop_from (call ∷ behind) = StopWithinLine (size_of call) (map pick_from (picks_in behind)) (writing_from (behind_picks behind))

-- the event of a word and the fields behind it
abbrev pub script_line_from : List ℕ → Row → Option ScriptLine
script_line_from word others = if bytes_eq word (codes "flush") then Some FlushLine
    else (if bytes_eq word (codes "checkpoint") then Some CheckpointLine
    else (if bytes_eq word (codes "task") then Some TaskLine
    else (if bytes_eq word (codes "publish") then Some PublishLine
    else (if bytes_eq word (codes "dist") then Some (QueryLine (Dist (size_at others 0) (size_at others 1)))
    else (if bytes_eq word (codes "from") then Some (QueryLine (From (size_at others 0) (size_at others 1)))
    else (if bytes_eq word (codes "lower") then Some (QueryLine (Lower (size_at others 0) (size_at others 1)))
    else (if bytes_eq word (codes "stop") then Some (stop_from others)
    else (if bytes_eq word (codes "step") then Some (StepLine (size_at others 0))
    else option_map (λ command. GroupLine (command ∷ [])) (command_from word others)))))))))

-- the event of a line that stands in no group, if it has one
abbrev pub script_line_of : Row → Option ScriptLine
script_line_of [] = None
script_line_of (word ∷ others) = script_line_from word others

-- the event that a line gives behind the earlier ones, if it gives one: that of a group stands at its `end`
abbrev pub event_at : List Row → Row → List ScriptLine
event_at earlier row =
    if ends row then GroupLine (unwrap_or (grouping_of earlier).opened []) ∷ [] else
    if begins row || is_some (grouping_of earlier).opened then [] else
    cons_option (script_line_of row) []

-- the events of these lines behind the earlier ones, in their order
abbrev pub lines_behind : List Row → List Row → List ScriptLine
lines_behind earlier [] = []
lines_behind earlier (row ∷ rs) = event_at earlier row ++ lines_behind (earlier ++ row ∷ []) rs

-- the events of a script in the order of their lines
abbrev pub lines_in : List Row → List ScriptLine
lines_in rs = lines_behind [] rs

-- WHAT A LINE IS REFUSED FOR

-- the words of commands and of events, with how many numbers follow them
abbrev pub numbered_words : List Form
numbered_words = commands ++ form (codes "flush") 0 ∷ form (codes "checkpoint") 0 ∷ form (codes "task") 0 ∷ form (codes "publish") 0 ∷ form (codes "dist") 2 ∷ form (codes "from") 2 ∷ form (codes "lower") 2 ∷ []

abbrev pub is_stop_line : Row → Bool
is_stop_line row = has_first (λ first. bytes_eq first (codes "stop")) row

abbrev pub is_step : Row → Bool
is_step row = has_first (λ first. bytes_eq first (codes "step")) row

-- a stop has at most so many picks
abbrev pub most_picks : ℕ
most_picks = 8

abbrev pub is_some_of_most : ℕ → Bool
is_some_of_most count = nat_le 1 count && nat_le count most_picks

-- an event that writes: `flush` or `checkpoint` alone, or `step` and a numeral
abbrev pub is_writing : Row → Bool
is_writing (word ∷ []) = bytes_eq word (codes "flush") || bytes_eq word (codes "checkpoint")
is_writing (word ∷ pages ∷ []) = bytes_eq word (codes "step") && is_some (numeral pages)
is_writing others = false

-- what may stand behind `stop`: nothing, or a numeral, 1 to 8 picks and an event that writes
abbrev pub are_of_stop : Row → Bool
are_of_stop [] = true
are_of_stop (call ∷ behind) = is_some (numeral call) && is_some_of_most (prefix_len is_pick behind) && is_writing (behind_picks behind)

-- no call has the number 0, and no byte is above 255
abbrev pub is_no_call : Numeral → Bool
is_no_call n = is_refused n || (n.size == 0)

abbrev pub is_no_byte : Numeral → Bool
is_no_byte n = is_refused n || nat_lt 255 n.size

-- a step has 1 to 64 pages
abbrev pub is_no_step : Numeral → Bool
is_no_step n = is_refused n || ((n.size == 0) || nat_lt 64 n.size)

-- one of the numbers behind `stop` is none of a call, of a byte or of pages
abbrev pub has_number_outside : Row → Bool
has_number_outside [] = false
has_number_outside (call ∷ behind) = some_numeral is_no_call (call ∷ []) || some_numeral is_no_byte (picks_in behind) || some_numeral is_no_step (item_fields (behind_picks behind))

-- The table of faults of a `stop` line, by the fields behind `stop`.
abbrev pub stop_applies : Row → Code → Bool
stop_applies others BadLine = not (are_of_stop others)
stop_applies others NumberRange = has_number_outside others
stop_applies others code = false

-- The table of faults of a `step` line, by the fields behind `step`.
abbrev pub step_applies : Row → Code → Bool
step_applies others BadLine = is_malformed 1 others
step_applies others NumberRange = some_at (λ is_none_such. is_none_such) (is_no_step ∷ []) others
step_applies others code = false

-- the code of a line that stands in no group: of `stop` and `step` lines by their tables, of the others by that of command texts
unfoldable pub event_code : Judge
event_code earlier row = if is_stop_line row then find (stop_applies (item_fields row)) (BadLine ∷ NumberRange ∷ [])
    else (if is_step row then find (step_applies (item_fields row)) (BadLine ∷ NumberRange ∷ []) else command_code numbered_words earlier row)

-- The code of a line of a script. `begin`, `end` and the lines within a group are judged as in a command text, so that a line of another kind
-- within one is BadLine.
unfoldable pub script_line_code : Judge
script_line_code earlier row = if is_some (grouping_of earlier).opened || (begins row || ends row) then group_code earlier row else event_code earlier row

-- a script that ends within a group has OpenGroup
abbrev pub script_text : TextKind (List ScriptLine)
script_text = record {
  judge = script_line_code;
  end = λ rs. if is_some (grouping_of rs).opened then Some OpenGroup else None;
  says = lines_in;
}
