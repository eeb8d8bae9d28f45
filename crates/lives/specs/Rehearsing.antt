-- A run of a script's events over the lives of a keeper, as far as it has come.
use Rattle.std.specs.Prelude.{◌≡◌, ℕ, ◌+◌, ◌≤◌, Bool, true, false, List, length, map, Option, None, Some, IfSome, option_map}
use Rattle.std.specs.List.{flat_map}
use Rattle.roadnet.specs.declared.groups.Group.{Group}
use Rattle.roadnet.specs.Net.{Net}
use Rattle.roadnet.specs.Step.{after}
use Rattle.roadnet.specs.declared.refusals.Refusal.{Refusal}
use Rattle.disk.specs.Contents.{Only}
use Rattle.storefile.specs.StoreFile.{StandsTidyFor}
use Rattle.machine.specs.declared.events.Event.{Event}
use Rattle.machine.specs.declared.events.Event.TheVariants.{Stop, StopWithin}
use Rattle.machine.specs.declared.events.Replied.{Replied}
use Rattle.machine.specs.declared.events.Writing.{Writing}
use Rattle.machine.specs.Machine.{Sizes, Machine, IsState, start, most_versions, network_at}
use Rattle.machine.specs.Calls.{IsLeft}
use Rattle.machine.specs.LifeInRun.{within}
use Rattle.machine.specs.Lives.{Turn, Passes, LivesOn}
use Rattle.store.specs.State.{StoreState, CameTidy}
use Rattle.keeper.specs.Keeping.{Keeping, IsDurableIn, sizes_of}

-- an event with a stop
abbrev pub is_stop : {P : Type 0} → Event P → Bool
is_stop Stop = true
is_stop (StopWithin call picks writing) = true
is_stop _ = false

-- the event that a stop comes within, or behind
abbrev pub within_of : {P : Type 0} → Event P → Option Writing
within_of (StopWithin call picks writing) = Some writing
within_of _ = None

-- A life that has this machine, was opened at this version, and keeps aside a view of this version and network: it is the view of the
-- task that is out.
pub record IsLife (m : Machine) (opened : ℕ) (aside : Option (ℕ × Net)) : Type 0 where
  pub state : IsState m
  pub opened_is : m.base_version ≡ opened
  pub task_is : m.task ≡ option_map (λ view. view.0) aside
  pub task_network : IfSome aside (λ view. network_at m view.0 ≡ Some view.1)

-- the store that a run began with
pub record First : Type 0 where
  pub sizes : Sizes
  pub network : Net
  pub version : ℕ
  pub unchecked : ℕ

-- what a run of this store begins with
abbrev pub first_of : {D : Type 0} → StoreState D → First
first_of store = record { sizes = sizes_of store; network = store.network; version = store.version; unchecked = store.unchecked }

-- These events were replied to so. The lives before left these groups, and the life now has this machine.
pub record HasRun {P : Type 0} (first : First) (events : List (Event P)) (replies : List Replied) (history : List Group) (m : Machine) : Type 0 where
  pub turns : List (Turn P)
  pub events_are : events ≡ map (λ turn. turn.0) turns
  pub replies_are : replies ≡ flat_map (λ turn. turn.1) turns
  pub passes : Passes (start first.sizes first.network first.version first.unchecked) turns (within first.network first.version history m)
  pub version_to : first.version ≤ most_versions
  pub unchecked_to : first.unchecked ≤ first.sizes.journal_pages
  pub there : after first.network history ≡ Some m.base
  pub begun : m.base_version ≡ first.version + length history
  pub sizes_are : m.sizes ≡ first.sizes

-- A run so far, of a store that came tidy: these events were replied to so, the lives before left these groups, and the keeper of the life
-- now came tidy too.
pub record IsGoing {D : Type 0} {P : Type 0} (honest : D → Type 0) (content : D → List ℕ) (first : First) (events : List (Event P)) (replies : List Replied) (history : List Group) (keeper : Keeping D) : Type 0 where
  pub came : CameTidy honest content keeper.given
  pub run : HasRun first events replies history keeper.machine

-- The run of these events has come to this, and a stop now leaves of the disk what its last state says.
abbrev pub HasLived : {P : Type 0} → (List ℕ → Type 0) → First → List (Event P) → List Replied → Option Refusal → List Group → Type 0
HasLived left first events replies ended history =
    LivesOn (StandsTidyFor first.sizes.journal_pages first.sizes.checkpoint_pages) left first.sizes first.network first.version first.unchecked events replies ended history

-- A life that had this machine has been stopped. It leaves these groups and numbers, and the disk this content alone.
pub record HasHalted (m : Machine) (groups : List Group) (opened durable : ℕ) (content : List ℕ) (left : List ℕ → Type 0) : Type 0 where
  pub state : IsState m
  pub groups_are : groups ≡ m.accepted
  pub opened_is : opened ≡ m.base_version
  pub durable_is : durable ≡ m.durable
  pub held : IsDurableIn m content
  pub only : Only content left

-- a life begins with what a stop left of the one before
pub record BeginsAfter (m next : Machine) : Type 0 where
  pub left : IsLeft m next.base_version
  pub network_is : network_at m next.base_version ≡ Some next.base
  pub begins : next ≡ start m.sizes next.base next.base_version next.unchecked
  pub unchecked_to : next.unchecked ≤ m.sizes.journal_pages
