-- What opening tells of a content that stands for a network at a version.
use Rattle.std.proofs.Common.{◌≡◌, ℕ, List, Some}
use Rattle.roadnet.specs.Net.{Net}
use Rattle.pages.specs.Layout.{slot_pages}
use Rattle.storefile.specs.StoreFile.{StandsTidyFor}
use Rattle.storefile.specs.Standing.{Standing, standing_of}
use Rattle.store.specs.Committing.{HasTidyStanding}
use Rattle.store.proofs.Afterwards.{reopened}

pub record IsOpened (journal_pages checkpoint_pages : ℕ) (content : List ℕ) (net : Net) (version : ℕ) (x : Standing) : Type 0 where
  pub network_is : x.network ≡ net
  pub version_is : x.version ≡ version
  pub pages_are : x.header.journal_pages ≡ journal_pages
  pub slot_is : slot_pages x.header ≡ checkpoint_pages
  pub stands : HasTidyStanding content x

pub is_opened : (journal_pages checkpoint_pages : ℕ) (content : List ℕ) (net : Net) (version : ℕ) (x : Standing) → StandsTidyFor journal_pages checkpoint_pages content net version → standing_of content ≡ Some x → IsOpened journal_pages checkpoint_pages content net version x
is_opened journal_pages checkpoint_pages content net version x stands told =
    let is = reopened journal_pages checkpoint_pages content net version x stands told in
    record { network_is = is.0; version_is = is.1; pages_are = is.3; slot_is = is.4; stands = is.2 }
