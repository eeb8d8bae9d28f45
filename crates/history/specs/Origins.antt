-- Which desk a list of groups is of, and a beginning of it.
use Rattle.std.specs.Prelude.{ℕ, List}
use Rattle.logbook.specs.Pages.{Book}
use Rattle.roadnet.specs.declared.groups.Group.{Group}
use Rattle.roadnet.specs.Net.{Net}

-- which history: the book in which it stands, and the pen of its first entry
pub record Name : Type 0 where
  pub book : Book
  pub pen : ℕ

-- the network that a desk was opened with, its version, and its history
pub record Origin : Type 0 where
  pub base : Net
  pub version : ℕ
  pub history : Name

-- so many groups, the first of a desk's history, and up to which number groups were acknowledged by then
pub record Beginning : Type 0 where
  pub origin : Origin
  pub groups : List Group
  pub acknowledged : ℕ
