-- How a store stands in its file.
use Rattle.std.specs.Prelude.{ℕ, List}
use Rattle.roadnet.specs.Net.{Net}
use Rattle.pages.specs.declared.header.Header.{Header}
use Rattle.storefile.specs.Standing.{IsStoredAs}
use Rattle.store.specs.declared.stores.standing.Standing.{Standing}

-- The file stands for this network at this version, and so: it has this current slot of this epoch, and so many pages of its journal are
-- unchecked.
pub record HasStanding (file : List ℕ) (net : Net) (version : ℕ) (told : Standing) : Type 0 where
  pub header : Header
  pub next : ℕ
  pub stored : IsStoredAs file header told.slot told.epoch net version next told.unchecked
