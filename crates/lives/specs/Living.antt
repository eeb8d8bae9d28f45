-- What a life in a rehearsal begins with, and what each of its calls does to it.
use Rattle.std.specs.Prelude.{◌≡◌, ◌≤◌, ℕ, [], ◌∷◌, Option}
use Rattle.disk.specs.declared.disk.Disk.{Ghosts}
use Rattle.disk.specs.declared.stoppable.Stoppable.{Ghosts as StoppableGhosts}
use Rattle.disk.specs.declared.stoppable.Pick.{Pick}
use Rattle.disk.specs.Contents.{Only}
use Rattle.store.specs.State.{StoreState, CameTidy, HasRoom, IsDurable}
use Rattle.machine.specs.declared.events.Event.{Event}
use Rattle.machine.specs.declared.events.Replied.{Replied}
use Rattle.machine.specs.declared.events.Writing.{Writing}
use Rattle.machine.specs.Machine.{start}
use Rattle.machine.specs.Lives.{Writes, Does}
use Rattle.lives.specs.declared.lives.Life.{Life}
use Rattle.lives.specs.Failures.{failures_by, failures_after_event}
use Rattle.keeper.specs.Keeping.{sizes_of}

-- what a store that is not broken tells: its sizes and numbers have room, and where it came tidy its disk has what is durable, and that alone
pub record IsStoreAtRest {D : Type 0} (disk : Ghosts D) (store : StoreState D) : Type 0 where
  pub room : HasRoom store
  pub only : CameTidy disk.honest disk.content store.given → Only (disk.content store.disk) (disk.left store.disk)
  pub stands : CameTidy disk.honest disk.content store.given → IsDurable store (disk.content store.disk)

module _ {D : Type 0} {s : StoppableGhosts D} {d : Ghosts D} where
  -- the life begins with this store, and with this width, if one was given
  pub record BeginsFrom (store : StoreState D) (delta : Option ℕ) (life : Life D s d) : Type 0 where
    pub machine : life.keeper.machine ≡ start (sizes_of store) store.network store.version store.unchecked
    pub disk : life.keeper.disk ≡ store.disk
    pub given : life.keeper.given ≡ store.given
    pub delta_is : life.delta ≡ delta

  -- The event was replied to so: the machine did what it does, and the disk failed as the reply tells.
  pub record Replies (event : Event Pick) (reply : Replied) (old new : Life D s d) : Type 0 where
    pub does : Does old.keeper.machine event (reply ∷ []) new.keeper.machine
    pub delta : new.delta ≡ old.delta
    pub given : new.keeper.given ≡ old.keeper.given
    pub counted : d.failures new.keeper.disk ≡ failures_after_event event (reply ∷ []) (d.failures old.keeper.disk)

  -- the same of a write, over which time goes on
  pub record RepliesToWrite (writing : Writing) (reply : Replied) (old new : Life D s d) : Type 0 where
    pub does : Writes old.keeper.machine writing reply new.keeper.machine
    pub delta : new.delta ≡ old.delta
    pub given : new.keeper.given ≡ old.keeper.given
    pub counted : d.failures new.keeper.disk ≡ failures_by reply (d.failures old.keeper.disk)
    pub later : CameTidy d.honest d.content old.keeper.given → d.moment old.keeper.disk ≤ d.moment new.keeper.disk

  -- nothing has changed but what call of the disk is armed
  pub record IsOnlyArmed (old new : Life D s d) : Type 0 where
    pub machine : new.keeper.machine ≡ old.keeper.machine
    pub opened : new.opened ≡ old.opened
    pub aside : new.aside ≡ old.aside
    pub delta : new.delta ≡ old.delta
    pub given : new.keeper.given ≡ old.keeper.given
    pub failures : d.failures new.keeper.disk ≡ d.failures old.keeper.disk
