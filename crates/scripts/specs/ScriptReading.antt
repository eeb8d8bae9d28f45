-- One line of a script, read from left to right.
use Rattle.std.specs.Prelude.{◌≡◌, ◌⊎◌, ◌<◌, ℕ, Bool, true, false, ◌||◌, not, List, [], ◌∷◌, ◌++◌, length, take, Option, None, Some, option_map, Result, Ok, Err, map, if◌then◌else◌}
use Rattle.std.specs.List.{prefix_len}
use Rattle.std.specs.Str.{bytes_eq}
use lib.Chars.{codes}
use Rattle.roadnet.specs.declared.commands.Command.TheVariants.{Set as set_arc, Lay as lay_arc}
use Rattle.dimacs.specs.declared.numerals.numeral.Numeral.{Numeral}
use Rattle.dimacs.specs.declared.commands.words.OneNumber.{OneNumber}
use Rattle.dimacs.specs.declared.commands.words.TwoNumbers.{TwoNumbers}
use Rattle.dimacs.specs.declared.commands.words.TwoNumbers.TheVariants.{Set, Dist, From, Lower}
use Rattle.dimacs.specs.declared.fault.Code.{Code}
use Rattle.dimacs.specs.declared.fault.Code.TheVariants.{BadLine, NumberRange}
use Rattle.dimacs.specs.Commands.{form_of}
use Rattle.dimacs.specs.Commanded.{grouping_of}
use Rattle.dimacs.specs.Faults.{Row, has_first, is_empty, is_remark, some_numeral}
use Rattle.dimacs.specs.Lines.{fields}
use Rattle.dimacs.specs.Numerals.{numeral, kept}
use Rattle.dimacs.specs.Reading.{one_numeral}
use Rattle.dimacs.specs.Spelling.{spelled_word, one_spelling, one_words, one_command, two_spelling, two_words}
use Rattle.dimacs.specs.Taking.{ByMemory}
use Rattle.disk.specs.declared.stoppable.Pick.{Pick}
use Rattle.disk.specs.declared.stoppable.Pick.TheVariants.{Old, New, Byte}
use Rattle.rows.specs.declared.queries.Query.TheVariants.{Dist as distance, From as distance_from, Lower as lower_bound}
use Rattle.machine.specs.declared.events.Event.{Event}
use Rattle.scripts.specs.declared.script_words.BareScriptWord.{BareScriptWord}
use Rattle.scripts.specs.declared.script_words.BareScriptWord.TheVariants.{Flush, Checkpoint, Task, Publish}
use Rattle.scripts.specs.declared.script_words.ScriptWord.{ScriptWord}
use Rattle.scripts.specs.declared.script_words.ScriptWord.TheVariants.{WithNone, WithOne, WithTwo, Lay, Stop, Step}
use Rattle.scripts.specs.declared.script_stops.PicksRead.{PicksRead}
use Rattle.scripts.specs.declared.script_stops.WritingWord.{WritingWord}
use Rattle.scripts.specs.declared.script_stops.WritingWord.TheVariants.{Flush as flush_word, Checkpoint as checkpoint_word, Step as step_word}
use Rattle.scripts.specs.declared.script_texts.ScriptLineKind.{ScriptLineKind}
use Rattle.scripts.specs.declared.script_texts.ScriptLineKind.TheVariants.{Ignored, Known, Unknown}
use Rattle.scripts.specs.declared.script_texts.EventLines.{EventLines}
use Rattle.scripts.specs.ScriptTexts.{ScriptLine, GroupLine, FlushLine, CheckpointLine, StepLine, TaskLine, PublishLine, QueryLine, StopWithinLine, as_line, script_line_of, lines_in, numbered_words, is_stop_line, is_step, is_pick, pick_from, most_picks, is_some_of_most, is_no_call, is_no_byte, is_no_step, event_code}

-- WORDS

abbrev pub script_spelling : ScriptWord → List ℕ
script_spelling (WithNone Flush) = codes "flush"
script_spelling (WithNone Checkpoint) = codes "checkpoint"
script_spelling (WithNone Task) = codes "task"
script_spelling (WithNone Publish) = codes "publish"
script_spelling (WithOne word) = one_spelling word
script_spelling (WithTwo word) = two_spelling word
script_spelling Lay = codes "lay"
script_spelling Stop = codes "stop"
script_spelling Step = codes "step"

abbrev pub script_words : List ScriptWord
script_words = WithNone Flush ∷ WithNone Checkpoint ∷ WithNone Task ∷ WithNone Publish ∷ [] ++ map WithOne one_words ++ map WithTwo two_words ++ Lay ∷ Stop ∷ Step ∷ []

-- the word that a field spells
abbrev pub script_word_from : List ℕ → Option ScriptWord
script_word_from field = spelled_word script_spelling script_words field

abbrev pub IsScriptLineKind : Row → ScriptLineKind → Type 0
IsScriptLineKind row Ignored = (is_empty row || is_remark 35 row) ≡ true
IsScriptLineKind row (Known word rest) = row ≡ script_spelling word ∷ fields rest.now
IsScriptLineKind row Unknown = ((is_empty row || is_remark 35 row) ≡ false) × (is_stop_line row ≡ false) × (is_step row ≡ false) × (form_of numbered_words row ≡ None)

-- what a word says with its numbers
abbrev pub bare_script_line : BareScriptWord → ScriptLine
bare_script_line Flush = FlushLine
bare_script_line Checkpoint = CheckpointLine
bare_script_line Task = TaskLine
bare_script_line Publish = PublishLine

abbrev pub one_script_line : OneNumber → ℕ → ScriptLine
one_script_line word n = GroupLine (one_command word n ∷ [])

abbrev pub two_script_line : TwoNumbers → ℕ → ℕ → ScriptLine
two_script_line Set n m = GroupLine (set_arc n m ∷ [])
two_script_line Dist n m = QueryLine (distance n m)
two_script_line From n m = QueryLine (distance_from n m)
two_script_line Lower n m = QueryLine (lower_bound n m)

abbrev pub lay_line : ℕ → ℕ → ℕ → ScriptLine
lay_line tail head length = GroupLine (lay_arc tail head length ∷ [])

-- FIELDS BEHIND `stop`

-- the number of a call, which is refused or told; or the field is no numeral
abbrev pub call_of_numeral : Numeral → Result ℕ Code
call_of_numeral n = if is_no_call n then Err NumberRange else Ok n.size

abbrev pub call_read : List ℕ → Option (Result ℕ Code)
call_read field = option_map (λ n. call_of_numeral (kept n)) (numeral field)

abbrev pub byte_of_numeral : Numeral → Result Pick Code
byte_of_numeral n = if is_no_byte n then Err NumberRange else Ok (Byte n.size)

abbrev pub pick_read : List ℕ → Option (Result Pick Code)
pick_read field = if bytes_eq field (codes "old") then Some (Ok Old) else (if bytes_eq field (codes "new") then Some (Ok New)
    else option_map (λ n. byte_of_numeral (kept n)) (numeral field))

-- the pick that is kept of a field: an old byte stands for a number that is none of a byte
abbrev pub pick_kept : Result Pick Code → Pick
pick_kept (Ok pick) = pick
pick_kept (Err code) = Old

abbrev pub is_in_range : Result Pick Code → Bool
is_in_range (Ok pick) = true
is_in_range (Err code) = false

-- the picks that were read
abbrev pub picks_read : PicksRead → List Pick
picks_read read = take read.count read.places

-- Of the fields of a row these were read, and each is a pick. Where each is in range, these are the picks.
pub record HasPicks (row taken : Row) (read : PicksRead) : Type 0 where
  pub row_is : row ≡ taken ++ fields read.rest.now
  pub are_picks : prefix_len is_pick taken ≡ length taken
  pub count : length (picks_read read) ≡ length taken
  pub in_range : some_numeral is_no_byte taken ≡ not read.in_range
  pub picks_are : read.in_range ≡ true → picks_read read ≡ map pick_from taken

-- all picks with which the row begins were read, or more than a stop may have
pub record ReadsPicks (row : Row) (read : PicksRead) : Type 0 where
  pub taken : Row
  pub has : HasPicks row taken read
  pub ends : (most_picks < length taken) ⊎ (has_first is_pick (fields read.rest.now) ≡ false)

abbrev pub writing_word : List ℕ → Option WritingWord
writing_word field = if bytes_eq field (codes "flush") then Some flush_word else (if bytes_eq field (codes "checkpoint") then Some checkpoint_word
    else (if bytes_eq field (codes "step") then Some step_word else None))

-- the line of an event that writes, or its number of pages is refused; or the fields are none
abbrev pub step_read : Numeral → Result ScriptLine Code
step_read n = if is_no_step n then Err NumberRange else Ok (StepLine n.size)

abbrev pub alone_read : ScriptLine → Row → Option (Result ScriptLine Code)
alone_read line behind = if is_empty behind then Some (Ok line) else None

abbrev pub writing_behind : Option WritingWord → Row → Option (Result ScriptLine Code)
writing_behind None behind = None
writing_behind (Some flush_word) behind = alone_read FlushLine behind
writing_behind (Some checkpoint_word) behind = alone_read CheckpointLine behind
writing_behind (Some step_word) behind = option_map step_read (one_numeral behind)

abbrev pub writing_read : Row → Option (Result ScriptLine Code)
writing_read [] = None
writing_read (word ∷ behind) = writing_behind (writing_word word) behind

-- an answer, with the line of what it has
abbrev pub map_line : {X : Type 0} → (X → ScriptLine) → Result X Code → Result ScriptLine Code
map_line line (Ok x) = Ok (line x)
map_line line (Err code) = Err code

-- the stop with this call, these picks and this event, or the code of its fault
abbrev pub cut_within : Result ℕ Code → List Pick → Bool → Result ScriptLine Code → Result ScriptLine Code
cut_within (Ok call) picks true (Ok within) = Ok (StopWithinLine call picks within)
cut_within call picks in_range within = Err NumberRange

abbrev pub cut_of : Option (Result ℕ Code) → List Pick → Bool → Option (Result ScriptLine Code) → Result ScriptLine Code
cut_of (Some call) picks in_range (Some within) = if is_some_of_most (length picks) then cut_within call picks in_range within else Err BadLine
cut_of call picks in_range within = Err BadLine

-- what was judged is answered; or it is no fault, and memory ran out for it
abbrev pub IsUnlessMemory : Result ScriptLine Code → Result ScriptLine Code → Type 0
IsUnlessMemory judged (Ok line) = judged ≡ Ok line
IsUnlessMemory judged (Err code) = ByMemory code (judged ≡ Err code) ((line : ScriptLine) × (judged ≡ Ok line))

-- LINES

-- the line has no fault and is this event, or its code is told; or it has no fault, and memory ran out
abbrev pub ReadsEvent : Row → Result (Event Pick) Code → Type 0
ReadsEvent row (Ok event) = ((earlier : List Row) → event_code earlier row ≡ None) × (script_line_of row ≡ Some (as_line event))
ReadsEvent row (Err code) = ByMemory code ((earlier : List Row) → event_code earlier row ≡ Some code) ((earlier : List Row) → event_code earlier row ≡ None)

-- the same of a line that may say nothing
abbrev pub ReadsScriptLine : Row → Result (Option (Event Pick)) Code → Type 0
ReadsScriptLine row (Ok None) = ((earlier : List Row) → event_code earlier row ≡ None) × (script_line_of row ≡ None)
ReadsScriptLine row (Ok (Some event)) = ReadsEvent row (Ok event)
ReadsScriptLine row (Err code) = ReadsEvent row (Err code)

-- these lines were taken
pub record HasEvents (lines : List Row) (taken : EventLines) : Type 0 where
  pub events_are : map as_line taken.events.items ≡ lines_in lines
  pub opened_is : (grouping_of lines).opened ≡ taken.open
