-- What a stop between two calls of a store may leave.
use Rattle.std.specs.Prelude.{◌≡◌, ◌≤◌, Bool, false, ◌&&◌, ◌==◌, is_none, unwrap_or, Option, Some}
use Rattle.disk.specs.declared.disk.Disk.{Ghosts}
use Rattle.pages.specs.Layout.{slot_pages}
use Rattle.storefile.specs.Standing.{Standing, standing_of}
use Rattle.store.specs.declared.paged.state.Paged.{Paged}
use Rattle.store.specs.Going.{Progress, progress_of}
use Rattle.store.specs.Opening.{standing_by}

-- what the fields of a store say that its content stands for
abbrev pub told_by : {D : Type 0} {disk : Ghosts D} → Paged D disk → Standing
told_by store = standing_by store.found

-- the checkpoint that is going
abbrev pub going_of : {D : Type 0} {disk : Ghosts D} → Paged D disk → Option Progress
going_of store = progress_of store.found.header store.going

-- the checkpoint that would begin now
abbrev pub begun_by : {D : Type 0} {disk : Ghosts D} → Paged D disk → Progress
begun_by store = record { version = store.found.version; left = slot_pages store.found.header; committed = 0 }

-- the checkpoint that a part is of: the one that is going, or else one that begins
abbrev pub begun_progress : {D : Type 0} {disk : Ghosts D} → Paged D disk → Progress
begun_progress store = unwrap_or (going_of store) (begun_by store)

-- none is going, and no page of the journal is unchecked
abbrev pub has_all_checked : {D : Type 0} {disk : Ghosts D} → Paged D disk → Bool
has_all_checked store = is_none (going_of store) && (store.found.unchecked == 0)

-- Where the content that a store was given stood for something, its version is none above the store's; and while it is the same, nothing
-- having been committed since, the content stands as the store tells.
abbrev pub KeepsTold : {D : Type 0} {disk : Ghosts D} → D → Paged D disk → Type 0
KeepsTold {D} {disk} given store =
    disk.honest given → (x : Standing) → standing_of (disk.content given) ≡ Some x
    → disk.honest store.disk × (x.version ≤ store.found.version) × (x.version ≡ store.found.version → store.broken ≡ false → standing_of (disk.content store.disk) ≡ Some (told_by store))
