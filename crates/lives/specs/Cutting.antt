-- The stops of a run: in which state each stopped the disk, what the disk held, and what the stop left of it.
use Rattle.std.specs.Prelude.{◌≡◌, ◌≢◌, ◌⊎◌, ◌≤◌, ℕ, Bool, List, [], ◌∷◌, ◌++◌, map, Option, None, Some, IfSome}
use Rattle.std.specs.List.{flat_map}
use Rattle.roadnet.specs.declared.refusals.Refusal.{Refusal}
use Rattle.roadnet.specs.declared.refusals.Refusal.TheVariants.{Device}
use Rattle.disk.specs.declared.disk.Disk.{Ghosts}
use Rattle.disk.specs.declared.stoppable.Stoppable.{Ghosts as StoppableGhosts}
use Rattle.disk.specs.declared.stoppable.Pick.{Pick}
use Rattle.disk.specs.declared.stoppable.Pick.TheVariants.{Old}
use Rattle.disk.specs.Stop.{TakesPicks}
use Rattle.machine.specs.declared.events.Event.{Event}
use Rattle.machine.specs.declared.events.Event.TheVariants.{Stop, StopWithin}
use Rattle.machine.specs.declared.events.Replied.{Replied}
use Rattle.machine.specs.declared.events.Replied.TheVariants.{Opened, Refused}
use Rattle.machine.specs.Machine.{Machine, start}
use Rattle.machine.specs.Lives.{Turn, StopComes, Does, Passes}
use Rattle.keeper.specs.Keeping.{IsDurableIn, HoldsFor}
use Rattle.lives.specs.Rehearsing.{First}

-- ---- one stop

-- what a disk that can be stopped says of itself beside the disk
abbrev pub stops_by : {D : Type 0} → (D → List ℕ) → (D → ℕ → Bool) → (D → Option ℕ) → StoppableGhosts D
stops_by synced is_unsynced armed = record { synced = synced; is_unsynced = is_unsynced; armed = armed }

-- a stop of the disk with these picks leaves this content
abbrev pub IsCut : {D : Type 0} → Ghosts D → StoppableGhosts D → List Pick → D → List ℕ → Type 0
IsCut disk stoppable picks old cut = TakesPicks picks (stoppable.synced old) (stoppable.is_unsynced old) (disk.content old) cut

-- the picks of a stop: one without any takes the old bytes
abbrev pub picks_taken : List Pick → List Pick
picks_taken [] = Old ∷ []
picks_taken (pick ∷ picks) = pick ∷ picks

-- the picks of an event with a stop
abbrev pub picks_of : Event Pick → Option (List Pick)
picks_of Stop = Some (Old ∷ [])
picks_of (StopWithin call picks writing) = Some (picks_taken picks.items)
picks_of _ = None

-- the number of the write or sync that an event with a stop names
abbrev pub call_of : Event Pick → Option ℕ
call_of (StopWithin call picks writing) = Some call
call_of _ = None

-- The disk was armed before an event that writes: it held what the state before the event allows, and the write or sync of this number from there on was
-- the armed one; or an armed call had come already, which stays so. Number 0 arms nothing. Time has gone on from there to this disk.
pub record WasArmed {D : Type 0} (disk : Ghosts D) (stoppable : StoppableGhosts D) (call : ℕ) (old : Machine) (now : D) : Type 0 where
  pub before : D
  pub holds : HoldsFor disk before old
  pub is_armed : 1 ≤ call → (stoppable.armed before ≡ Some call) ⊎ (stoppable.armed before ≡ Some 0)
  pub later : disk.moment before ≤ disk.moment now

-- In this state of a run the event stops the disk, and is told so, with the stop's own reply last. The disk is stopped in the state m: at once,
-- or behind the event's write, or within it. For an event that writes it was armed before. Where no reply but the stop's own comes, the armed call of
-- the disk has come; where the event's own reply tells that the disk failed, it has not.
abbrev pub StopsOn : {D : Type 0} → Ghosts D → StoppableGhosts D → Machine → Event Pick → List Replied → Replied → D → Machine → Type 0
StopsOn disk stoppable old Stop replies last now m = (m ≡ old) × (replies ≡ last ∷ [])
StopsOn disk stoppable old (StopWithin call picks writing) replies last now m =
    StopComes old writing replies last m
    × WasArmed disk stoppable call old now
    × (replies ≡ last ∷ [] → stoppable.armed now ≡ Some 0)
    × (replies ≡ Refused Device ∷ last ∷ [] → stoppable.armed now ≢ Some 0)
StopsOn disk stoppable old _ replies last now m = ⊥

-- In the state m the content stands for the network at the version that this reply to a stop tells, or, where none was opened, at one that a stop
-- may leave.
abbrev pub StandsAsTold : Machine → Replied → List ℕ → Type 0
StandsAsTold m (Opened version) content = (held : IsDurableIn m content) × (held.version ≡ version)
StandsAsTold m _ content = IsDurableIn m content

-- In the state `old` of a run an event with a stop was told so. It stopped a disk that then held what its state allows, cut it by these picks,
-- and left this content, which stands for what its own reply tells.
pub record HasCut {D : Type 0} (disk : Ghosts D) (stoppable : StoppableGhosts D) (old : Machine) (event : Event Pick) (replies : List Replied) (picks : List Pick) (cut : List ℕ) : Type 0 where
  pub machine : Machine
  pub stopped : D
  pub told : Replied
  pub stops : StopsOn disk stoppable old event replies told stopped machine
  pub holds : HoldsFor disk stopped machine
  pub is_cut : IsCut disk stoppable picks stopped cut
  pub stands : StandsAsTold machine told cut

-- the same of a turn, if it has a stop
abbrev pub TurnHasCut : {D : Type 0} → Ghosts D → StoppableGhosts D → Machine → Turn Pick → Type 0
TurnHasCut disk stoppable old turn = IfSome (picks_of turn.0) (λ picks. (cut : List ℕ) × HasCut disk stoppable old turn.0 turn.1 picks cut)

-- ---- the stops of a run

-- what a run of this store begins in
abbrev pub first_state : First → Machine
first_state first = start first.sizes first.network first.version first.unchecked

-- Wherever a turn stands among these, those before it lead from this state to one in which it has cut, if it has a stop.
abbrev pub EachHasCut : {D : Type 0} → Ghosts D → StoppableGhosts D → Machine → List (Turn Pick) → Type 0
EachHasCut disk stoppable first turns =
    (before : List (Turn Pick)) (turn : Turn Pick) (behind : List (Turn Pick)) → turns ≡ before ++ turn ∷ behind
    → (old : Machine) × Passes first before old × TurnHasCut disk stoppable old turn

-- Of these events the first were run and told so, all but where the run ended early. Each stop has cut.
pub record HaveCut {D : Type 0} (disk : Ghosts D) (stoppable : StoppableGhosts D) (first : First) (events : List (Event Pick)) (replies : List Replied) (ended : Option Refusal) : Type 0 where
  pub turns : List (Turn Pick)
  pub rest : List (Event Pick)
  pub events_are : events ≡ map (λ turn. turn.0) turns ++ rest
  pub replies_are : replies ≡ flat_map (λ turn. turn.1) turns
  pub each : EachHasCut disk stoppable (first_state first) turns
  pub whole : ended ≡ None → rest ≡ []

-- ---- one turn of a run more

-- The event was told so, in a run with these replies before, and did what the machine does. With a stop it has cut, and left this content.
pub record TurnsTo {D : Type 0} (disk : Ghosts D) (stoppable : StoppableGhosts D) (old : Machine) (event : Event Pick) (before now : List Replied) (new : Machine) (cut : List ℕ) : Type 0 where
  pub told : List Replied
  pub replies_are : now ≡ before ++ told
  pub does : Does old event told new
  pub has_cut : IfSome (picks_of event) (λ picks. HasCut disk stoppable old event told picks cut)

-- the same of a turn that ended the run
pub record TurnsLast {D : Type 0} (disk : Ghosts D) (stoppable : StoppableGhosts D) (old : Machine) (event : Event Pick) (before now : List Replied) : Type 0 where
  pub told : List Replied
  pub replies_are : now ≡ before ++ told
  pub has_cut : TurnHasCut disk stoppable old (event, told)
