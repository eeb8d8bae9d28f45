-- What a keeper is to its callers, and what its disk holds.
use Rattle.std.specs.Prelude.{◌≡◌, ◌≤◌, ℕ, Bool, false, List, Option, None, Some, IfSome, option_map, if◌then◌else◌}
use Rattle.roadnet.specs.declared.groups.Group.{Group}
use Rattle.roadnet.specs.Batches.{changed_by_all}
use Rattle.roadnet.specs.Net.{Net}
use Rattle.disk.specs.Contents.{Only}
use Rattle.disk.specs.Moments.{LeavesOnly}
use Rattle.disk.specs.declared.disk.Disk.{Ghosts}
use Rattle.storefile.specs.StoreFile.{StandsTidyFor}
use Rattle.store.specs.State.{StoreState, CameTidy}
use Rattle.store.specs.Going.{Progress}
use Rattle.machine.specs.Machine.{Sizes, Checkpoint, Machine, IsState, batch, network_at}
use Rattle.machine.specs.Calls.{failed}
use Rattle.machine.specs.Lives.{HoldsDurable}

-- the sizes of a store
abbrev pub sizes_of : {D : Type 0} → StoreState D → Sizes
sizes_of store = record { journal_pages = store.journal_pages; checkpoint_pages = store.checkpoint_pages }

-- a store's checkpoint that is going, as the machine has it
abbrev pub as_checkpoint : Progress → Checkpoint
as_checkpoint p = record { version = p.version; left = p.left; flushed = p.committed }

-- The machine of a ledger of this store, or of a keeper of it: its base network, the version that it was opened at, the groups accepted since, the version that
-- is shown, whether a write failed, how many groups the last write had, and the version of the task that is out.
abbrev pub machine_of : {D : Type 0} → StoreState D → Net → ℕ → List Group → ℕ → Bool → ℕ → Option ℕ → Machine
machine_of store base opened accepted shown broken written task = record {
  sizes = sizes_of store;
  base = base;
  base_version = opened;
  accepted = accepted;
  durable = store.version;
  shown = shown;
  opened = opened;
  unchecked = store.unchecked;
  in_flight = if broken then written else 0;
  broken = broken;
  task = task;
  checkpoint = option_map as_checkpoint store.going;
}

-- the base network with all accepted groups carried out
abbrev pub latest_network : Machine → Net
latest_network m = changed_by_all m.base m.accepted

-- a ledger's machine, in which no task is out and the version is shown that it was opened at; the disk, and the disk as it was when its
-- store was made or opened
pub record LedgerState (D : Type 0) : Type 0 where
  pub machine : Machine
  pub disk : D
  pub given : D

-- the machine of a keeper of this ledger: a view of this version is shown, and this task is out
abbrev pub with_views : Machine → ℕ → Option ℕ → Machine
with_views m shown task = record m { shown = shown; task = task }

-- The network of the view is that of the version that is shown. The one that is shared with the task that is out, if one is, is that of the task's version.
pub record IsViewed (m : Machine) (shown : Net) (shared : Option Net) : Type 0 where
  pub state : IsState m
  pub shown_is : network_at m m.shown ≡ Some shown
  pub shared_is : IfSome shared (λ net. IfSome m.task (λ v. network_at m v ≡ Some net))

-- the machine, the disk, how the shown view searches, and the disk as it was when the keeper's store was made or opened
pub record Keeping (D : Type 0) : Type 0 where
  pub machine : Machine
  pub disk : D
  -- the width of the buckets of the searches in the view that is shown
  pub width : ℕ
  pub given : D

-- the ledger of such a keeper
abbrev pub ledger_of : {D : Type 0} → Keeping D → LedgerState D
ledger_of k = record { machine = with_views k.machine k.machine.base_version None; disk = k.disk; given = k.given }

-- The content has the machine's sizes and stands, tidy, for what is durable, with the groups in flight or without.
abbrev pub IsDurableIn : Machine → List ℕ → Type 0
IsDurableIn m content = HoldsDurable (StandsTidyFor m.sizes.journal_pages m.sizes.checkpoint_pages) m content

-- What a disk of this content, of which a stop may leave these, holds for a keeper. Each content that may be left stands for what is
-- durable, with the groups in flight or without. Where nothing is broken that is the content alone.
pub record Holds (content : List ℕ) (left : List ℕ → Type 0) (m : Machine) : Type 0 where
  pub only : m.broken ≡ false → Only content left
  pub each_left : (c : List ℕ) → left c → IsDurableIn m c

-- the disk keeps the disk model, and holds what is durable in this state
abbrev pub HoldsFor : {D : Type 0} → Ghosts D → D → Machine → Type 0
HoldsFor disk now m = disk.honest now × Holds (disk.content now) (disk.left now) m

-- P of the network at the version that answers are given from
abbrev pub OfShown : Machine → (Net → Type 0) → Type 0
OfShown m P = (net : Net) → network_at m m.shown ≡ Some net → P net

-- Where the store came tidy that was given so, and no write of this machine had failed, a stop at any moment of a call leaves what has P.
abbrev pub LeavesAtAnyMoment : {D : Type 0} → Ghosts D → (List ℕ → Type 0) → Machine → D → D → D → Type 0
LeavesAtAnyMoment disk P m given old new = CameTidy disk.honest disk.content given → m.broken ≡ false → LeavesOnly disk.moment disk.left_since old new P

-- a content that a flush may leave: a flush that failed may have its groups in flight
abbrev pub IsLeftByFlush : Machine → List ℕ → Type 0
IsLeftByFlush m content = IsDurableIn (failed m (batch m)) content
