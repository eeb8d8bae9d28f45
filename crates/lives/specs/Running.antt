-- What the calls of a run do to it: it goes on with one event more, or ends.
use Rattle.std.specs.Prelude.{◌≡◌, ◌≢◌, ◌⊎◌, ◌+◌, ◌-◌, ◌<◌, ◌≤◌, ℕ, List, [], ◌∷◌, ◌++◌, length, take, Option, None, Some, IfSome, Result, IfOk, IfErr, MatchResult}
use Rattle.std.specs.Vec.{vec_len, vec_capacity}
use Rattle.roadnet.specs.declared.groups.Group.{Group}
use Rattle.roadnet.specs.declared.refusals.Refusal.{Refusal}
use Rattle.roadnet.specs.declared.refusals.Refusal.TheVariants.{OutOfMemory, Device}
use Rattle.disk.specs.declared.disk.Disk.{Ghosts}
use Rattle.disk.specs.declared.stoppable.Stoppable.{Ghosts as StoppableGhosts}
use Rattle.disk.specs.declared.stoppable.Pick.{Pick}
use Rattle.storefile.specs.StoreFile.{StandsTidyFor}
use Rattle.pagereader.specs.Outcomes.{MayEndOpening}
use Rattle.store.specs.State.{CameTidy}
use Rattle.machine.specs.declared.events.Event.{Event}
use Rattle.machine.specs.declared.events.Replied.{Replied}
use Rattle.machine.specs.declared.events.Replied.TheVariants.{Refused, Opened, Stopped}
use Rattle.machine.specs.declared.events.Writing.{Writing}
use Rattle.machine.specs.Machine.{Machine, IsState, groups_to}
use Rattle.machine.specs.Headline.{ToldForGood}
use Rattle.machine.specs.LifeInRun.{within}
use Rattle.lives.specs.declared.lives.Life.{Life}
use Rattle.lives.specs.declared.rehearsing.Rehearsal.{Rehearsal}
use Rattle.lives.specs.declared.rehearsing.Run.{Run}
use Rattle.lives.specs.declared.halted.Halted.{Halted}
use Rattle.lives.specs.Cutting.{IsCut, StandsAsTold, TurnsTo, TurnsLast, picks_taken, picks_of, call_of}
use Rattle.lives.specs.Failures.{failures_at_end, FailsAsTold, EndsAsTold}
use Rattle.keeper.specs.Keeping.{IsDurableIn, HoldsFor}
use Rattle.lives.specs.Rehearsing.{within_of, First, IsGoing, HasLived, HasHalted, BeginsAfter}

-- the reply to an event that writes is told, or it is the disk's failure and is not
abbrev pub IsToldOrFailed : List Replied → Replied → List Replied → Type 0
IsToldOrFailed old written new = (new ≡ old ++ written ∷ []) ⊎ ((written ≡ Refused Device) × (new ≡ old))

-- want of memory, or the disk's failure
abbrev pub IsPassingEnd : Option Refusal → Type 0
IsPassingEnd ended = (ended ≡ Some OutOfMemory) ⊎ (ended ≡ Some Device)

-- each content that a stop may leave of this disk has what is durable in this machine
abbrev pub LeavesDurable : {D : Type 0} → (D → List ℕ → Type 0) → D → Machine → Type 0
LeavesDurable left disk m = (c : List ℕ) → left disk c → IsDurableIn m c

-- the width that was given to the run, if one was
abbrev pub width_of : {D : Type 0} → Rehearsal D → Option ℕ
width_of run = run.delta

-- these events have come to this end
abbrev pub HasLivedTo : {D : Type 0} → (D → List ℕ → Type 0) → First → List (Event Pick) → Rehearsal D → Type 0
HasLivedTo left first events ended = HasLived (left ended.disk) first events ended.replies.items ended.ended ended.history.items

-- what was told of these events stays, whatever a stop leaves
abbrev pub HasToldForGood : {D : Type 0} → (D → List ℕ → Type 0) → First → List (Event Pick) → Rehearsal D → Type 0
HasToldForGood left first events ended =
    ToldForGood (StandsTidyFor first.sizes.journal_pages first.sizes.checkpoint_pages) (left ended.disk) first.network first.version events ended.replies.items ended.history.items

-- P of each event with a stop that is armed at this call within this writing, and cuts by these picks
abbrev pub OfEachWithin : Writing → ℕ → List Pick → (Event Pick → Type 0) → Type 0
OfEachWithin writing call picks P =
    (event : Event Pick) → within_of event ≡ Some writing → call_of event ≡ Some call → picks_of event ≡ Some (picks_taken picks) → P event

module _ {D : Type 0} {s : StoppableGhosts D} {d : Ghosts D} where
  -- ---- a life that was halted, and the next one

  -- a life of this machine was halted so
  abbrev pub HasHaltedSo : Machine → Halted D s d → Type 0
  HasHaltedSo m h = HasHalted m h.groups.items h.opened h.durable (d.content h.disk) (d.left h.disk)

  -- P of each machine whose life was halted so
  abbrev pub OfEachHalted : Halted D s d → (Machine → Type 0) → Type 0
  OfEachHalted h P = (m : Machine) → d.honest h.disk → HasHaltedSo m h → P m

  -- there is room for the groups of the life that was halted, of which the durable ones come first, and for the stop's reply
  pub record MayResume (h : Halted D s d) : Type 0 where
    pub opened : h.opened ≤ h.durable
    pub durable : h.durable ≤ h.opened + vec_len h.groups
    pub room : vec_len h.history + vec_len h.groups ≤ vec_capacity h.history
    pub reply : vec_len h.replies < vec_capacity h.replies

  -- The life begins behind one of this machine, which left this content, with what that stands for.
  pub record BeginsWith (m : Machine) (content : List ℕ) (life : Life D s d) : Type 0 where
    pub begins : BeginsAfter m life.keeper.machine
    pub came : CameTidy d.honest d.content life.keeper.given
    pub stands : StandsAsTold m (Opened life.keeper.machine.base_version) content

  -- of each machine whose life left what is durable on this disk: the life that is begun with it begins behind that
  abbrev pub OpensAfter : D → Result (Life D s d) (Refusal × D) → Type 0
  OpensAfter disk result = (m : Machine) → IsState m → d.honest disk → IsDurableIn m (d.content disk) → IfOk result (BeginsWith m (d.content disk))

  -- The run goes on behind a life of this machine that was halted so: the history has that life's groups up to where the next one begins.
  pub record GoesOnBehind (m : Machine) (h : Halted D s d) (run : Run D s d) : Type 0 where
    pub life : BeginsWith m (d.content h.disk) run.life
    pub content : d.content run.life.keeper.disk ≡ d.content h.disk
    pub history : run.history.items ≡ h.history.items ++ groups_to m run.life.keeper.machine.base_version

  -- The run ended with that life: the history has its durable groups, and they are what a stop leaves.
  pub record EndsBehind (m : Machine) (h : Halted D s d) (ended : Rehearsal D) : Type 0 where
    pub passing : IsPassingEnd ended.ended
    pub left : LeavesDurable d.left ended.disk m
    pub history : ended.history.items ≡ h.history.items ++ take (h.durable - h.opened) h.groups.items

  -- the reply of the stop itself is told behind those before
  abbrev pub TellsStop : List Replied → Result (Run D s d) (Rehearsal D) → Type 0
  TellsStop replies result =
      MatchResult result (λ run. run.replies.items ≡ replies ++ Opened run.life.keeper.machine.base_version ∷ []) (λ ended. ended.replies.items ≡ replies ++ Stopped ∷ [])

  -- the disk's count of failures stays, but for a failure that ends the run
  abbrev pub FailsAtEnd : D → Result (Run D s d) (Rehearsal D) → Type 0
  FailsAtEnd disk result =
      MatchResult result (λ run. d.failures run.life.keeper.disk ≡ d.failures disk) (λ ended. d.failures ended.disk ≡ failures_at_end ended.ended (d.failures disk))

  -- ---- a run

  -- the keeper of its life came tidy
  abbrev pub IsTidy : Run D s d → Type 0
  IsTidy run = CameTidy d.honest d.content run.life.keeper.given

  -- there is room for one group more than its life accepted, and for the replies of an event
  pub record IsReady (run : Run D s d) : Type 0 where
    pub room : vec_len run.history + length run.life.keeper.machine.accepted + 1 ≤ vec_capacity run.history
    pub reply : vec_len run.replies + 2 ≤ vec_capacity run.replies

  -- its life was halted, and left this
  pub record Leaves (run : Run D s d) (h : Halted D s d) : Type 0 where
    pub history : h.history ≡ run.history
    pub replies : h.replies ≡ run.replies
    pub groups : h.groups.items ≡ run.life.keeper.machine.accepted
    pub opened : h.opened ≡ run.life.keeper.machine.base_version
    pub durable : h.durable ≡ run.life.keeper.machine.durable
    pub delta : h.delta ≡ run.life.delta
    pub failures : d.failures h.disk ≡ d.failures run.life.keeper.disk

  -- its life was halted by these picks, which cut what its disk held
  pub record IsHaltedBy (picks : List Pick) (run : Run D s d) (h : Halted D s d) : Type 0 where
    pub halted : HasHaltedSo run.life.keeper.machine h
    pub honest : d.honest h.disk
    pub cut : IsCut d s picks run.life.keeper.disk (d.content h.disk)
    pub held : HoldsFor d run.life.keeper.disk run.life.keeper.machine

  -- Whatever the event: the run goes on with room for the groups of its life, or ends early, for what may end an opening. It keeps this width,
  -- and hands back a disk that keeps the disk model, where this is so.
  pub record GoesOrEnds (delta : Option ℕ) (sound : Type 0) (result : Result (Run D s d) (Rehearsal D)) : Type 0 where
    pub room : IfOk result (λ run. vec_len run.history + length run.life.keeper.machine.accepted ≤ vec_capacity run.history)
    pub delta_is : MatchResult result (λ run. run.life.delta ≡ delta) (λ ended. ended.delta ≡ delta)
    pub early : IfErr result (λ ended. ended.ended ≢ None)
    pub causes : IfErr result (λ ended. IfSome ended.ended MayEndOpening)
    pub honest : sound → IfErr result (λ ended. d.honest ended.disk)

  -- ---- an event

  -- the run has come to this with these events
  abbrev pub HasCome : First → List (Event Pick) → Run D s d → Type 0
  HasCome first done run = IsGoing d.honest d.content first done run.replies.items run.history.items run.life.keeper

  -- the state of the run: that of its life, behind the groups that the lives before left
  abbrev pub state_in : First → Run D s d → Machine
  state_in first run = within first.network first.version run.history.items run.life.keeper.machine

  -- The run goes on with this event: it has come to what it had with this event more. The event was one turn of the run more. With a stop it has
  -- cut the disk, and the next life began with what it left.
  pub record GoesOnWith (first : First) (done : List (Event Pick)) (event : Event Pick) (run next : Run D s d) : Type 0 where
    pub come : HasCome first (done ++ event ∷ []) next
    pub turn : TurnsTo d s (state_in first run) event run.replies.items next.replies.items (state_in first next) (d.content next.life.keeper.disk)

  -- The run ended with this event, whatever was to follow. The event was its last turn, and has cut the disk.
  pub record EndsWith (first : First) (done : List (Event Pick)) (event : Event Pick) (run : Run D s d) (ended : Rehearsal D) : Type 0 where
    pub lived : (rest : List (Event Pick)) → HasLivedTo d.left first ((done ++ event ∷ []) ++ rest) ended
    pub turn : TurnsLast d s (state_in first run) event run.replies.items ended.replies.items

  -- the disk failed as the replies tell, with this event too
  abbrev pub FailsWith : Event Pick → Run D s d → Result (Run D s d) (Rehearsal D) → Type 0
  FailsWith event run result =
      (before : ℕ) (done : List (Event Pick)) → FailsAsTold done run.replies.items before (d.failures run.life.keeper.disk)
      → MatchResult result (λ next. FailsAsTold (done ++ event ∷ []) next.replies.items before (d.failures next.life.keeper.disk))
      (λ ended. (rest : List (Event Pick)) → EndsAsTold ((done ++ event ∷ []) ++ rest) ended.replies.items ended.ended before (d.failures ended.disk))

  -- The run took this event, whatever it had come to before: it goes on with it, or ends with it; and its disk failed as the replies tell.
  pub record Takes (event : Event Pick) (run : Run D s d) (result : Result (Run D s d) (Rehearsal D)) : Type 0 where
    pub each : (first : First) (done : List (Event Pick)) → HasCome first done run → MatchResult result (GoesOnWith first done event run) (EndsWith first done event run)
    pub counted : FailsWith event run result
