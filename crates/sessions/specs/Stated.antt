-- The line that tells how a desk stands.
use Rattle.std.specs.Prelude.{ℕ, List, ◌++◌, Result, Ok, Err, decimal}
use lib.Chars.{codes}
use Rattle.roadnet.specs.declared.refusals.Refusal.{Refusal}
use Rattle.roadnet.specs.Numbers.{number_of}
use Rattle.desk.specs.declared.handles.states.DeskState.{DeskState}
use Rattle.desk.specs.declared.handles.states.Working.{Working}
use Rattle.desk.specs.declared.handles.states.Working.TheVariants.{On, Ended, Broken}
use Rattle.printing.specs.Printed.{refusal_line}

-- a word between blanks, and a number
abbrev pub named_number : List ℕ → ℕ → List ℕ
named_number word number = word ++ decimal number

-- whether a thread goes on
abbrev pub working_word : Working → List ℕ
working_word On = codes "on"
working_word Ended = codes "ended"
working_word Broken = codes "broken"

-- how far its versions are
abbrev pub versions_part : DeskState → List ℕ
versions_part state = named_number (codes "state shown ") state.shown ++ named_number (codes " durable ") state.durable

-- what waits
abbrev pub waiting_part : DeskState → List ℕ
waiting_part state = named_number (codes " accepted ") state.accepted ++ named_number (codes " pending ") state.pending

-- how full the journal is
abbrev pub journal_part : DeskState → List ℕ
journal_part state = named_number (codes " unchecked ") state.unchecked ++ named_number (codes " pages ") state.pages

-- its landmarks, and how many commands it may still take
abbrev pub life_part : DeskState → List ℕ
life_part state = named_number (codes " landmarks ") state.landmarks ++ named_number (codes " readers ") state.readers ++ named_number (codes " left ") state.left

-- its threads
abbrev pub threads_part : DeskState → List ℕ
threads_part state = (codes " flusher " ++ working_word state.flusher) ++ (codes " builder " ++ working_word state.builder)

-- its arcs, and its room for them
abbrev pub arcs_part : DeskState → List ℕ
arcs_part state = named_number (codes " arcs ") state.arcs ++ named_number (codes " room ") state.room

-- its clients and pairs of pipes, how many wait, and for how long it has served
abbrev pub served_part : DeskState → List ℕ
served_part state = named_number (codes " clients ") state.clients ++ named_number (codes " pairs ") state.pairs ++ named_number (codes " waiting ") state.waiting ++ named_number (codes " uptime ") state.uptime

-- `state shown V durable D accepted A pending P unchecked U pages J landmarks L readers R left C flusher F builder B arcs A room M clients N pairs Q waiting W uptime S`
abbrev pub state_line : DeskState → List ℕ
state_line state = (versions_part state ++ waiting_part state ++ journal_part state ++ life_part state) ++ (threads_part state ++ arcs_part state ++ served_part state ++ codes "\n")

-- that, or `no CODE`
abbrev pub state_or_refusal : Result DeskState Refusal → List ℕ
state_or_refusal (Ok state) = state_line state
state_or_refusal (Err refusal) = refusal_line (number_of refusal)
