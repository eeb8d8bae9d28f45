-- The doors of a server, and what is done at them.
use Rattle.std.specs.Prelude.{◌≡◌, ◌+◌, ℕ, Bool, true, false, List, Some, slice_get, Result, Ok, Err, string_bytes, ⊤}
use Rattle.roadnet.specs.declared.refusals.Refusal.TheVariants.{Read, Write}
use Rattle.printing.specs.declared.failed.Failed.{Failed}
use Rattle.printing.specs.declared.failed.Failed.TheVariants.{Code}
use Rattle.server_files.specs.declared.pipes.Pipes.{Pipes}
use Rattle.server_files.specs.declared.deeds.Side.{Side}
use Rattle.server_files.specs.declared.deeds.Side.TheVariants.{Input, Output}
use Rattle.server_files.specs.declared.deeds.Deed.{Deed}
use Rattle.server_files.specs.declared.deeds.Deed.TheVariants.{Nothing, Open, Close, Tell, Rest}
use Rattle.server_files.specs.declared.deeds.Deeds.{Deeds}
use Rattle.server_files.specs.Deeds.{with_deed}
use Rattle.server_files.specs.declared.pipes.Why.{Why}
use Rattle.server_files.specs.declared.pipes.Why.TheVariants.{NoMemory}
use Rattle.server_files.specs.declared.doors.PipeDoor.{PipeDoor}
use Rattle.words.specs.declared.pipes.PipePair.{PipePair}
use Rattle.words.specs.Pipes.{AreTold}
use Rattle.file_jobs.specs.Failures.{unopened}
use Rattle.std.specs.IoError.{error_kind}
use Rattle.std.specs.declared.io.Error.{Error}
use Rattle.std.specs.declared.io.ErrorKind.{ErrorKind}

-- the name of a pipe of a pair
abbrev pub pipe_name_of : {T : Type 0} → Side → Pipes T → List ℕ
pipe_name_of Input pipes = string_bytes pipes.input
pipe_name_of Output pipes = string_bytes pipes.output

-- nothing yet
abbrev pub none_done : Deeds
none_done = record { last = Nothing; before = Nothing; earlier = Nothing }

-- both pairs have the same names
abbrev pub HaveSameNames : {T : Type 0} → Pipes T → Pipes T → Type 0
HaveSameNames one other = (other.input ≡ one.input) × (other.output ≡ one.output)

-- what was done at a door
abbrev pub done_at : {T : Type 0} → PipeDoor T → Deeds
done_at door = door.pipes.deeds

-- the names of the pipes, of the one for reading and of the one for writing; whether sessions may only ask; and what was done
abbrev pub stands_at : {T : Type 0} → PipeDoor T → List ℕ × List ℕ × Bool × Deeds
stands_at door = (pipe_name_of Input door.pipes, pipe_name_of Output door.pipes, door.asks_alone, done_at door)

-- the same for the door of a pair at which nothing was done yet
abbrev pub begins_at : PipePair → List ℕ × List ℕ × Bool × Deeds
begins_at pair = (pair.input.now, pair.output.now, pair.asks_alone, none_done)

-- the call failed with an error of this kind
abbrev pub IsErrOf : {T : Type 0} → ErrorKind → Result T Error → Type 0
IsErrOf kind (Ok _) = ⊥
IsErrOf kind (Err error) = error_kind error ≡ kind

-- last, both pipes were opened, first the one for reading
abbrev pub HasOpened : Deeds → Type 0
HasOpened deeds = (deeds.last ≡ Open Output) × (deeds.before ≡ Open Input)

-- a client comes in: first the pipe for reading is opened
abbrev pub came_in : Deeds → Deeds
came_in deeds = with_deed (Open Output) (with_deed (Open Input) deeds)

-- a client leaves: first the pipe for reading is closed
abbrev pub let_out : Deeds → Deeds
let_out deeds = with_deed (Close Output) (with_deed (Close Input) deeds)

-- no client could come in, because of this pipe: that is reported, and then the pair rests for lack of memory, and any other reason is reported
abbrev pub left_out : Side → Why → Deeds → Deeds
left_out side NoMemory deeds = with_deed Rest (with_deed (Tell side) deeds)
left_out side why deeds = with_deed (Tell side) (with_deed (Tell side) deeds)

-- a report about a pipe
abbrev pub IsReport : Deed → Type 0
IsReport (Tell side) = ⊤
IsReport other = ⊥

-- the pair is given up: a failure was reported, and then its reason, about the same pipe
abbrev pub HasGivenUp : Deeds → Type 0
HasGivenUp deeds = IsReport deeds.last × (deeds.before ≡ deeds.last)

-- whether the next client may come in
abbrev pub is_waited_for : Why → Bool
is_waited_for NoMemory = true
is_waited_for why = false

-- what is reported of the end of a session: a failed read, or a failed write unless the client had left
abbrev pub told_of_end : {T : Type 0} → Result T Failed → Bool → Deeds → Deeds
told_of_end (Err (Code Read)) has_reader deeds = with_deed (Tell Input) deeds
told_of_end (Err (Code Write)) true deeds = with_deed (Tell Output) deeds
told_of_end outcome has_reader deeds = deeds

-- the failure is that of the first name which was told to be none of a pipe
abbrev pub IsOfNoPipe : (List ℕ → Bool → Type 0) → List (List ℕ) → Failed → Type 0
IsOfNoPipe Tells names failed =
    (place : ℕ) × ((name : List ℕ) × (slice_get names place ≡ Some name) × Tells name false × AreTold Tells names place × (failed ≡ unopened (place + 3)))
