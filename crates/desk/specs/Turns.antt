-- What the threads of a desk are to do, and who has to wait, by the machine's numbers.
use Rattle.std.specs.Prelude.{◌≡◌, ◌≢◌, ◌⊎◌, ◌<◌, ℕ, List, Option, None, Some, ◌*◌, ◌+◌, Bool, true, false, ◌&&◌, not, if◌then◌else◌, nat_le, nat_lt, ◌==◌, min, Err}
use Rattle.roadnet.specs.declared.groups.Group.{Group}
use Rattle.roadnet.specs.declared.refusals.Refusal.{Refusal}
use Rattle.roadnet.specs.declared.refusals.Refusal.TheVariants.{OutOfMemory, Device, JournalFull, Broken, NotYet, Closed}
use Rattle.history.specs.Origins.{Origin, Beginning}
use Rattle.machine.specs.Machine.{Machine, pending, groups_to}
use Rattle.machine.specs.Calls.{Submits}
use Rattle.office.specs.Offices.{RunsFrom}
use Rattle.desk.specs.declared.threads.attempts.Attempt.{Attempt}
use Rattle.desk.specs.declared.threads.attempts.Attempt.TheVariants.{Done, NoMemory, Blocked, Failed}
use Rattle.desk.specs.declared.lock.turns.FlusherTurn.{FlusherTurn}
use Rattle.desk.specs.declared.lock.turns.FlusherTurn.TheVariants.{Rest, Flush, Checkpoint, End}
use Rattle.desk.specs.declared.lock.turns.BuilderTurn.{BuilderTurn}
use Rattle.desk.specs.declared.lock.turns.BuilderTurn.TheVariants.{Rest as rest, Build, End as end}

-- half of the journal's pages, or more, are unchecked
abbrev pub is_checkpoint_due : Machine → Bool
is_checkpoint_due m = nat_le m.sizes.journal_pages (2 * m.unchecked)

-- behind a flush a step of a checkpoint, where one is due; else flush while groups are pending; then end where the desk is halted; then
-- go on with a checkpoint that is due
abbrev pub flusher_turn_of : Machine → Bool → Bool → FlusherTurn
flusher_turn_of m has_flushed halted =
    if has_flushed && is_checkpoint_due m then Checkpoint m.durable else
    if nat_lt 0 (pending m) then Flush m.durable else
    if halted then End else
    if is_checkpoint_due m then Checkpoint m.durable else Rest

-- rest where the desk is halted and more may become durable; else show what is durable; then end where no more becomes durable
abbrev pub builder_turn_of : Machine → Bool → Bool → BuilderTurn
builder_turn_of m halted flusher_ended =
    if halted && not flusher_ended then rest else
    if m.shown == m.durable then (if flusher_ended then end else rest) else Build m.durable

-- what a call came to that was refused so: it found no memory, or no free page of the journal, or the disk has failed, or there was nothing to do
abbrev pub attempt_of : Refusal → Attempt
attempt_of OutOfMemory = NoMemory
attempt_of JournalFull = Blocked
attempt_of Device = Failed
attempt_of Broken = Failed
attempt_of _ = Done

-- how many attempts in a row found no memory, after this one: a full journal neither ends the row nor is one of it
abbrev pub misses_after : ℕ → Attempt → ℕ
misses_after misses Done = 0
misses_after misses NoMemory = min (misses + 1) 4294967295
misses_after misses Blocked = misses
misses_after misses Failed = misses

-- a thread goes on, unless three attempts in a row found no memory, or the disk has failed
abbrev pub goes_on_after : ℕ → Attempt → Bool
goes_on_after misses Done = true
goes_on_after misses NoMemory = nat_lt (misses + 1) 3
goes_on_after misses Blocked = true
goes_on_after misses Failed = false

-- for how many milliseconds a thread rests behind an attempt, where so many in a row up to it found no memory
abbrev pub rest_after : ℕ → Attempt → ℕ
rest_after misses Done = 0
rest_after misses NoMemory = if nat_lt misses 2 then 10 else 100
rest_after misses Blocked = 0
rest_after misses Failed = 0

-- Who settles this number waits: it is not durable, and may still become so.
abbrev pub is_unsettled : Machine → Bool → ℕ → Bool
is_unsettled m flusher_ended number = nat_lt m.durable number && (not m.broken && not flusher_ended)

-- It is not durable, and won't be.
abbrev pub is_lost : Machine → ℕ → Bool
is_lost m number = nat_lt m.durable number && m.broken

-- Who waits for a view with this number's group goes on waiting: none is shown, and one may still be.
abbrev pub is_unseen : Machine → Bool → ℕ → Bool
is_unseen m builder_ended number = nat_lt m.shown number && (not (is_lost m number) && not builder_ended)

-- In some state of the machine over the desk's network and version the store is broken, and this number is not durable.
pub record IsLostAt (origin : Origin) (number : ℕ) : Type 0 where
  pub m : Machine
  pub runs : RunsFrom origin m
  pub lost : is_lost m number ≡ true

-- for what one who waited for this number is refused: it is lost, or the thread that was waited for has ended
abbrev pub IsUnserved : Origin → ℕ → Refusal → Type 0
IsUnserved origin number refusal = ((refusal ≡ Broken) × IsLostAt origin number) ⊎ (refusal ≡ Closed)

-- Some state of the machine over the desk's network and version shows the version after these groups.
abbrev pub WereShown : Origin → List Group → Type 0
WereShown origin groups = (m : Machine) × RunsFrom origin m × (groups ≡ groups_to m m.shown)

-- for what a group is refused: the desk is halted, or else some state of the machine over the desk's network and version refuses this group so
abbrev pub IsUntaken : Origin → Group → Refusal → Type 0
IsUntaken origin group refusal = refusal ≢ Closed → (m : Machine) × RunsFrom origin m × Submits m group (Err refusal) m

-- this state of the machine refuses the group so, and just the groups of the basis are accepted in it
abbrev pub IsRefusedBy : Machine → Group → Refusal → Beginning → Type 0
IsRefusedBy m group refusal basis = (basis.groups ≡ m.accepted) × Submits m group (Err refusal) m

-- The machine refuses the group so, over the desk's network and version, once just these groups are accepted.
pub record IsRefusedAfter (origin : Origin) (groups : List Group) (group : Group) (refusal : Refusal) : Type 0 where
  pub m : Machine
  pub runs : RunsFrom origin m
  pub accepted : m.accepted ≡ groups
  pub refuses : Submits m group (Err refusal) m

-- for what a group is refused, and on which basis: the desk is halted; or else the machine refuses it after the groups that the desk had accepted
abbrev pub IsRefusedOn : Origin → Group → Refusal → Option Beginning → Type 0
IsRefusedOn origin group refusal None = refusal ≡ Closed
IsRefusedOn origin group refusal (Some basis) = (basis.origin ≡ origin) × IsRefusedAfter origin basis.groups group refusal

-- No view of this version is shown, and it is not lost, in some state of the machine over the desk's network and version.
pub record IsNotShown (origin : Origin) (version : ℕ) : Type 0 where
  pub m : Machine
  pub runs : RunsFrom origin m
  pub earlier : m.shown < version
  pub kept : is_lost m version ≡ false

-- for what one who waited for a version is refused: as above; or it is not shown yet
abbrev pub IsUnreached : Origin → ℕ → Refusal → Type 0
IsUnreached origin version refusal = IsUnserved origin version refusal ⊎ ((refusal ≡ NotYet) × IsNotShown origin version)
