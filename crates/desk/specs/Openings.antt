-- What a desk is started with, and for what it is not started.
use Rattle.std.specs.Prelude.{◌≡◌, ◌⊎◌, []}
use Rattle.roadnet.specs.declared.refusals.Refusal.{Refusal}
use Rattle.roadnet.specs.declared.refusals.Refusal.TheVariants.{OutOfMemory, NoThread}
use Rattle.history.specs.Origins.{Origin, Beginning}
use Rattle.store.specs.State.{StoreState}

-- the history of a new desk, which is opened with the network and version of this store
pub record IsNewDesk {D : Type 0} (origin : Origin) (history : Beginning) (store : StoreState D) : Type 0 where
  pub base : origin.base ≡ store.network
  pub version : origin.version ≡ store.version
  pub named : history.origin ≡ origin
  pub no_group : history.groups ≡ []
  pub none_acknowledged : history.acknowledged ≡ 0

-- for what no desk is started: want of memory, or of threads
abbrev pub IsUnstarted : Refusal → Type 0
IsUnstarted refusal = (refusal ≡ OutOfMemory) ⊎ (refusal ≡ NoThread)
