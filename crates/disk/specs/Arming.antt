-- What it is to arm a disk, in one word: for contracts of calls over any disk that a test can stop.
use Rattle.std.specs.Prelude.{◌≡◌, ◌↔◌, List, ℕ}
use Rattle.disk.specs.declared.disk.Disk.{Ghosts}
use Rattle.disk.specs.declared.stoppable.Stoppable.{Ghosts as StoppableGhosts}
use Rattle.disk.specs.Stop.{armed_at}

-- The k-th write or sync from now on is cut, and nothing else is changed.
pub record Arms {D : Type 0} (disk : Ghosts D) (stoppable : StoppableGhosts D) (k : ℕ) (old new : D) : Type 0 where
  pub armed : stoppable.armed new ≡ armed_at k (stoppable.armed old)
  pub content : disk.content new ≡ disk.content old
  pub synced : stoppable.synced new ≡ stoppable.synced old
  pub unsynced : (i : ℕ) → stoppable.is_unsynced new i ≡ stoppable.is_unsynced old i
  pub left : (c : List ℕ) → disk.left new c ↔ disk.left old c
  pub moment : disk.moment new ≡ disk.moment old
  pub left_since : (t : ℕ) (c : List ℕ) → disk.left_since new t c ↔ disk.left_since old t c
  pub failures : disk.failures new ≡ disk.failures old
  pub honest : disk.honest new ↔ disk.honest old
