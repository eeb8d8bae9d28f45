-- What a stop may leave of a closed desk's disk.
use Rattle.std.specs.Prelude.{◌≡◌, ℕ, ◌+◌, ◌≤◌, List, length, Some}
use mathlib.Core.List.{IsPrefix}
use Rattle.roadnet.specs.declared.groups.Group.{Group}
use Rattle.roadnet.specs.Net.{Net}
use Rattle.roadnet.specs.Step.{after}
use Rattle.storefile.specs.StoreFile.{StandsTidyFor}
use Rattle.history.specs.Origins.{Beginning}

-- These groups begin the closed history. They have each acknowledged one, and begin with those after which was shown.
pub record KeepsSeen (history shown : Beginning) (kept : List Group) : Type 0 where
  pub begins : IsPrefix kept history.groups
  pub acknowledged : history.acknowledged ≤ history.origin.version + length kept
  pub shown_too : IsPrefix shown.groups kept

-- The content has so many journal pages and stands, tidy, for the desk's network after such groups.
pub record KeepsDesk (history shown : Beginning) (journal_pages : ℕ) (content : List ℕ) : Type 0 where
  pub kept : List Group
  pub keeps : KeepsSeen history shown kept
  -- how many pages a checkpoint writes
  pub checkpoint_pages : ℕ
  pub network : Net
  pub network_is : after history.origin.base kept ≡ Some network
  pub stands : StandsTidyFor journal_pages checkpoint_pages content network (history.origin.version + length kept)
