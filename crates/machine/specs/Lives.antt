-- A script's events over lives with stops: what is replied, which groups are the history, and what the disk may hold in the end.
use Rattle.std.specs.Prelude.{◌≡◌, ◌⊎◌, ℕ, zero, suc, ◌≤◌, List, [], ◌∷◌, ◌++◌, Option, None, Some, Result, Ok, Err, map}
use Rattle.std.specs.List.{flat_map}
use Rattle.roadnet.specs.declared.groups.Group.{Group}
use Rattle.roadnet.specs.declared.refusals.Refusal.{Refusal}
use Rattle.roadnet.specs.declared.refusals.Refusal.TheVariants.{OutOfMemory, Device, NoTask}
use Rattle.roadnet.specs.Net.{Net}
use Rattle.rows.specs.declared.queries.Query.{Query}
use Rattle.machine.specs.declared.calls.Ticket.{Ticket}
use Rattle.machine.specs.declared.calls.Answer.{Answer}
use Rattle.machine.specs.declared.events.Event.{Event}
use Rattle.machine.specs.declared.events.Event.TheVariants.{Submit, Flush, Checkpoint, CheckpointStep, Task, Publish, Ask, Stop, StopWithin}
use Rattle.machine.specs.declared.events.Writing.{Writing}
use Rattle.machine.specs.declared.events.Writing.TheVariants.{Flush as a_flush, Checkpoint as a_checkpoint, Step as a_step}
use Rattle.machine.specs.declared.events.Replied.{Replied}
use Rattle.machine.specs.declared.events.Replied.TheVariants.{Accepted, Durable, Stepped, Task as TaskOf, Shown, Answered, Refused, Opened, Stopped}
use Rattle.machine.specs.Machine.{Sizes, Machine, start, most_versions, groups_to, network_at}
use Rattle.machine.specs.Calls.{Submits, Flushes, StepsCheckpoint, TakesTask, Publishes, Asks, IsLeft, StopsAndOpens}

-- THE REPLY TO A CALL'S ANSWER

abbrev pub told_ticket : Result Ticket Refusal → Replied
told_ticket (Ok ticket) = Accepted ticket.number
told_ticket (Err refusal) = Refused refusal

abbrev pub told_version : Result ℕ Refusal → Replied
told_version (Ok version) = Durable version
told_version (Err refusal) = Refused refusal

-- a step of a checkpoint answers the version that is done, or nothing while it is going
abbrev pub told_part : Result (Option ℕ) Refusal → Replied
told_part (Ok None) = Stepped
told_part (Ok (Some version)) = Durable version
told_part (Err refusal) = Refused refusal

abbrev pub told_task : Result (Option (ℕ × Net)) Refusal → Replied
told_task (Ok None) = Refused NoTask
told_task (Ok (Some task)) = TaskOf task.0
told_task (Err refusal) = Refused refusal

abbrev pub told_answer : Query → Result Answer Refusal → Replied
told_answer query (Ok answer) = Answered query answer
told_answer query (Err refusal) = Refused refusal

-- ONE EVENT

-- how many pages each step of a checkpoint has
abbrev pub pages_of_step : ℕ
pages_of_step = 64

-- a step of so many pages that ends the checkpoint or is refused
abbrev pub EndsCheckpoint : Machine → ℕ → Result ℕ Refusal → Machine → Type 0
EndsCheckpoint old pages (Ok version) new = StepsCheckpoint old pages (Ok (Some version)) new
EndsCheckpoint old pages (Err refusal) new = StepsCheckpoint old pages (Err refusal) new

-- so many steps after which the checkpoint is still going
abbrev pub GoesOn : ℕ → Machine → Machine → Type 0
GoesOn zero old new = new ≡ old
GoesOn (suc n) old new = (mid : Machine) × StepsCheckpoint old pages_of_step (Ok None) mid × GoesOn n mid new

-- A whole checkpoint: steps, until one ends it or is refused.
abbrev pub Checkpoints : Machine → Result ℕ Refusal → Machine → Type 0
Checkpoints old result new = (steps : ℕ) × (mid : Machine) × GoesOn steps old mid × EndsCheckpoint mid pages_of_step result new

-- From old an event that writes, a flush, a whole checkpoint or a step of one, may be replied to so, and lead to new.
abbrev pub Writes : Machine → Writing → Replied → Machine → Type 0
Writes old a_flush reply new = (result : Result ℕ Refusal) × Flushes old result new × (reply ≡ told_version result)
Writes old a_checkpoint reply new = (result : Result ℕ Refusal) × Checkpoints old result new × (reply ≡ told_version result)
Writes old (a_step pages) reply new = (result : Result (Option ℕ) Refusal) × StepsCheckpoint old pages.pages result new × (reply ≡ told_part result)

-- An event that writes, with its reply.
abbrev pub WritesAndTells : Machine → Writing → List Replied → Machine → Type 0
WritesAndTells old writing replies new = (reply : Replied) × Writes old writing reply new × (replies ≡ reply ∷ [])

-- The disk stops within the event, which then fails and has no reply; or behind it. The stop's own reply comes last.
abbrev pub StopComes : Machine → Writing → List Replied → Replied → Machine → Type 0
StopComes old writing replies stopped new =
    (Writes old writing (Refused Device) new × (replies ≡ stopped ∷ []))
    ⊎ ((reply : Replied) × Writes old writing reply new × (replies ≡ reply ∷ stopped ∷ []))

-- From old the event may be replied to so, and lead to new.
abbrev pub Does : {P : Type 0} → Machine → Event P → List Replied → Machine → Type 0
Does old (Submit group) replies new = (result : Result Ticket Refusal) × Submits old group result new × (replies ≡ told_ticket result ∷ [])
Does old Flush replies new = WritesAndTells old a_flush replies new
Does old Checkpoint replies new = WritesAndTells old a_checkpoint replies new
Does old (CheckpointStep pages) replies new = WritesAndTells old (a_step pages) replies new
-- a task whose view finds no memory is given up, so that nothing has changed
Does old Task replies new = (result : Result (Option (ℕ × Net)) Refusal) × TakesTask old result new × (replies ≡ told_task result ∷ [])
-- the view that is kept aside is that of the task that is out
Does old Publish replies new =
    ((version : ℕ) × (network : Net) × Publishes old version network (Ok version) new × (replies ≡ Shown version ∷ []))
    ⊎ ((old.task ≡ None) × (new ≡ old) × (replies ≡ Refused NoTask ∷ []))
Does old (Ask query) replies new = (result : Result Answer Refusal) × Asks old query result new × (replies ≡ told_answer query result ∷ [])
Does old Stop replies new = (version : ℕ) × StopsAndOpens old version new × (replies ≡ Opened version ∷ [])
Does old (StopWithin call picks writing) replies new =
    (mid : Machine) × (version : ℕ) × StopComes old writing replies (Opened version) mid × StopsAndOpens mid version new

-- The event stops the disk in the state last, and what it leaves is not opened, or has no first view.
abbrev pub StopsFor : {P : Type 0} → Machine → Event P → List Replied → Machine → Type 0
StopsFor old Stop replies last = (last ≡ old) × (replies ≡ Stopped ∷ [])
StopsFor old (StopWithin call picks writing) replies last = StopComes old writing replies Stopped last
StopsFor old _ replies last = ⊥

-- A RUN OF EVENTS

-- an event that was run, with its replies
abbrev pub Turn : Type 0 → Type 0
Turn P = Event P × List Replied

abbrev pub Passes : {P : Type 0} → Machine → List (Turn P) → Machine → Type 0
Passes old [] new = new ≡ old
Passes old (turn ∷ turns) new = (mid : Machine) × Does old turn.0 turn.1 mid × Passes mid turns new

-- How a run ends: with its last event; for want of memory before an event, or before it begins; or with a stop after which the store is not opened
-- or has no first view. Then only what was durable is its history.
pub data Ends {P : Type 0} (first : Machine) (turns : List (Turn P)) (rest : List (Event P)) (ended : Option Refusal) (history : List Group) (last : Machine) : Type 0 where
  Whole : Passes first turns last → rest ≡ [] → ended ≡ None → history ≡ last.accepted → Ends first turns rest ended history last
  NoMemory : Passes first turns last → (rest ≡ [] → turns ≡ []) → ended ≡ Some OutOfMemory → history ≡ last.accepted → Ends first turns rest ended history last
  NotOpened : (before : List (Turn P)) (turn : Turn P) (mid : Machine) → turns ≡ before ++ turn ∷ [] → Passes first before mid
      → StopsFor mid turn.0 turn.1 last → (ended ≡ Some OutOfMemory) ⊎ (ended ≡ Some Device) → history ≡ groups_to last last.durable
      → Ends first turns rest ended history last

-- The events may be replied to so over lives with stops, with this history; the run may end early. Its last state is `last`.
pub record Lives {P : Type 0} (first : Machine) (events : List (Event P)) (replies : List Replied) (ended : Option Refusal) (history : List Group) (last : Machine) : Type 0 where
  -- the events that were run, and those that were not
  pub turns : List (Turn P)
  pub rest : List (Event P)
  pub events_are : events ≡ map (λ turn. turn.0) turns ++ rest
  pub replies_are : replies ≡ flat_map (λ turn. turn.1) turns
  pub ends : Ends first turns rest ended history last

-- WITH A DISK, of which is known for what network and version a content stands

-- the content stands for what is durable, with the groups in flight or without
pub record HoldsDurable (StandsFor : List ℕ → Net → ℕ → Type 0) (m : Machine) (content : List ℕ) : Type 0 where
  pub version : ℕ
  pub left : IsLeft m version
  pub network : Net
  pub network_is : network_at m version ≡ Some network
  pub stands : StandsFor content network version

-- The run is one of a store of this network and version, with so many pages unchecked, and a stop now leaves of the disk what its last
-- state says.
pub record LivesOn {P : Type 0} (StandsFor : List ℕ → Net → ℕ → Type 0) (left : List ℕ → Type 0) (sizes : Sizes) (base : Net) (version unchecked : ℕ) (events : List (Event P)) (replies : List Replied) (ended : Option Refusal) (history : List Group) : Type 0 where
  pub version_to : version ≤ most_versions
  pub unchecked_to : unchecked ≤ sizes.journal_pages
  pub last : Machine
  pub lives : Lives (start sizes base version unchecked) events replies ended history last
  pub each_left : (content : List ℕ) → left content → HoldsDurable StandsFor last content
