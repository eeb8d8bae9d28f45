-- A checkpoint that goes part by part, with commits between the parts.
use Rattle.std.specs.Prelude.{◌≡◌, ℕ, ◌+◌, ◌-◌, ◌<◌, ◌≤◌, nat_lt, List, length, Option, Some, None, option_map, if◌then◌else◌}
use Rattle.disk.specs.Gated.{IsGateOpen}
use Rattle.roadnet.specs.declared.commands.Command.{Command}
use Rattle.roadnet.specs.Net.{Net, IsNetwork}
use Rattle.pages.specs.declared.header.Header.{Header}
use Rattle.pages.specs.declared.content.Slot.{Slot}
use Rattle.pages.specs.Layout.{other, slot_pages}
use Rattle.storefile.specs.StoreFile.{page}
use Rattle.storefile.specs.Standing.{LeadsTo}
use Rattle.checkpoint.specs.Frozen.{frozen_net}
use Rattle.checkpoint.specs.Writing.{Draft, slot_gate, HoldsPages}
use Rattle.store.specs.declared.paged.going.GoingCheckpoint.{GoingCheckpoint}
use Rattle.store.specs.declared.paged.parts.Part.{Part}
use Rattle.store.specs.declared.paged.parts.Part.TheVariants.{Going, Done}

-- ---- what callers see

-- A checkpoint that is going: the version that it holds, how many of its word pages and end pages are still to be written, and how many pages of the
-- journal were committed since it began.
pub record Progress : Type 0 where
  pub version : ℕ
  pub left : ℕ
  pub committed : ℕ

abbrev pub progress_of : Header → Option GoingCheckpoint → Option Progress
progress_of header going = option_map (λ (g : GoingCheckpoint). record { version = g.next.version; left = slot_pages header - g.next.written; committed = g.committed }) going

-- one page of the journal more was committed since it began
abbrev pub with_page_committed : Progress → Progress
with_page_committed p = record p { committed = p.committed + 1 }

abbrev pub with_one_more : GoingCheckpoint → GoingCheckpoint
with_one_more g = record g { committed = g.committed + 1 }

-- so many of its pages more are written
abbrev pub progress_with_pages_written : ℕ → Progress → Progress
progress_with_pages_written pages p = record p { left = p.left - pages }

-- a part of so many pages: it goes on while more are left, and is done else
abbrev pub part_by : Progress → ℕ → Part
part_by p pages = if nat_lt pages p.left then Going else Done p.version

abbrev pub progress_by : Progress → ℕ → Option Progress
progress_by p pages = if nat_lt pages p.left then Some (progress_with_pages_written pages p) else None

-- the unchecked pages after it: once it is done, those that were committed since it began
abbrev pub unchecked_by : Progress → ℕ → ℕ → ℕ
unchecked_by p unchecked pages = if nat_lt pages p.left then unchecked else p.committed

-- the current slot and its epoch after it: once it is done, the other slot and the epoch that follows
abbrev pub slot_by : Progress → Slot → ℕ → Slot
slot_by p slot pages = if nat_lt pages p.left then slot else other slot

abbrev pub epoch_by : Progress → ℕ → ℕ → ℕ
epoch_by p epoch pages = if nat_lt pages p.left then epoch else epoch + 1

-- ---- what is known of it between two calls

-- Its slot is the one that is not current, and its epoch the next one. Its version and next sequence are those of an earlier moment; the
-- pages of the journal committed since are the last ones, and there was an unchecked page before them.
pub record FitsStore (h : Header) (slot : Slot) (epoch version next unchecked : ℕ) (draft : Draft) (committed : ℕ) : Type 0 where
  pub slot_is : draft.slot ≡ other slot
  pub epoch_is : draft.epoch ≡ epoch + 1
  pub within : draft.written ≤ slot_pages h
  pub sequence_to : draft.next_sequence ≤ draft.version
  pub next_is : next ≡ draft.next_sequence + committed
  pub version_to : draft.version ≤ version
  pub one_before : committed < unchecked

-- Its slot has a closed gate and holds the first pages of the frozen network, from which the journal pages committed since lead to this
-- network and version.
pub record DraftGoesOn (content : List ℕ) (h : Header) (draft : Draft) (frozen : Net) (committed : ℕ) (net : Net) (version next : ℕ) : Type 0 where
  pub closed : IsGateOpen (slot_gate h draft.slot) content → ⊥
  pub pages : HoldsPages (page content) h draft.slot frozen draft.written
  pub frozen_is : IsNetwork frozen
  pub frozen_from : h.arcs ≤ length frozen.arcs
  pub since : List (List (List Command))
  pub committed_is : committed ≡ length since
  pub leads : LeadsTo (page content) h frozen draft.version draft.next_sequence since net version next

-- The same of what is kept of the frozen network: it has a word for no arc that today's network lacks.
pub record FrozenGoesOn (content : List ℕ) (h : Header) (g : GoingCheckpoint) (net : Net) (version next : ℕ) : Type 0 where
  pub words_to : length g.frozen.numbers.items ≤ length net.arcs
  pub goes : DraftGoesOn content h g.next (frozen_net g.frozen net) g.committed net version next
