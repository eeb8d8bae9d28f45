-- What a content that stands is, while the other slot is closed.
use Rattle.std.proofs.Common.{◌≡◌, ℕ, List, Some, sym, ◌∙◌, ap, subst}
use Rattle.disk.specs.Contents.{Only}
use Rattle.disk.specs.Moments.{LeavesOnly}
use Rattle.disk.proofs.Steps.{started}
use Rattle.roadnet.specs.Net.{Net}
use Rattle.pages.specs.declared.header.Header.{Header}
use Rattle.pages.specs.declared.content.Slot.{Slot}
use Rattle.pages.specs.Layout.{other, slot_pages}
use Rattle.storefile.specs.StoreFile.{page, StandsTidyFor, HasNoLaterPage, groups_of}
use Rattle.storefile.specs.Standing.{Standing, IsStoredAs, IsTidyAt, standing_of}
use Rattle.storefile.proofs.OtherSlot.{after_ends}
use Rattle.storefile.proofs.Rests.{stored_as, standing_is}
use Rattle.storefile.proofs.SlotWrite.{slot_stays, tidy_stays}
use Rattle.checkpoint.specs.Writing.{IsSlotShut}
use Rattle.store.specs.Committing.{HasTidyStanding}
use Rattle.store.proofs.ArcsKept.{net_of_header}

-- The network of what stands has the sizes of its header.
pub nodes_told : (file : List ℕ) (x : Standing) → standing_of file ≡ Some x → x.network.nodes ≡ x.header.nodes
nodes_told file x told =
    let held = stored_as file x told in
    (after_ends held.stored.network x.network (groups_of held.stored) held.stands.gives.network).nodes ∙ held.stands.is.arcs.nodes_are ∙ ap (λ (h : Header). h.nodes) held.header_is

pub room_told : (file : List ℕ) (x : Standing) → standing_of file ≡ Some x → x.network.room ≡ x.header.room
room_told file x told = (net_of_header file x told).room

-- ---- what a stop leaves

tidy_for : (c : List ℕ) (h : Header) (slot : Slot) (epoch : ℕ) (net : Net) (version next unchecked : ℕ) → IsStoredAs c h slot epoch net version next unchecked → IsTidyAt c h next → StandsTidyFor h.journal_pages (slot_pages h) c net version
tidy_for c h slot epoch net version next unchecked held tidy =
    (held.stored, next, record { stands = held.stands; tidy = subst (λ (y : Header). HasNoLaterPage (page c) y next) (sym held.header_is) tidy }, ap (λ (y : Header). y.journal_pages) held.header_is, ap slot_pages held.header_is, held.format_is)

pub still_stands : (old : List ℕ) (x : Standing) → HasTidyStanding old x → StandsTidyFor x.header.journal_pages (slot_pages x.header) old x.network x.version
still_stands old x stands = tidy_for old x.header x.slot x.epoch x.network x.version x.next x.unchecked (stored_as old x stands.0) stands.1

-- nothing is written
pub only_stands : (old : List ℕ) (left : List ℕ → Type 0) (x : Standing) → Only old left → HasTidyStanding old x → (c : List ℕ) → left c → StandsTidyFor x.header.journal_pages (slot_pages x.header) c x.network x.version
only_stands old left x only stands c was = subst (λ (d : List ℕ). StandsTidyFor x.header.journal_pages (slot_pages x.header) d x.network x.version) (sym (only c was)) (still_stands old x stands)

-- where no call of the disk is made
pub no_call : {D : Type 0} (content : D → List ℕ) (left : D → List ℕ → Type 0) (moment : D → ℕ) (left_since : D → ℕ → List ℕ → Type 0) (disk : D) (x : Standing) → Only (content disk) (left disk)
    → ((c : List ℕ) → left_since disk (moment disk) c → left disk c) → HasTidyStanding (content disk) x → LeavesOnly moment left_since disk disk (λ c. StandsTidyFor x.header.journal_pages (slot_pages x.header) c x.network x.version)
no_call content left moment left_since disk x only now stands =
    started moment left_since disk (λ c. StandsTidyFor x.header.journal_pages (slot_pages x.header) c x.network x.version) (λ c since. only_stands (content disk) (left disk) x only stands c (now c since))

-- the other slot's gate is closed
pub shut_told : (old c : List ℕ) (x : Standing) → standing_of old ≡ Some x → IsSlotShut x.header (other x.slot) old c → standing_of c ≡ Some x
shut_told old c x told shut =
    standing_is c x.header x.slot x.epoch x.network x.version x.next x.unchecked (slot_stays old c x.header x.slot x.epoch x.network x.version x.next x.unchecked (stored_as old x told) shut)

pub shut_tidily : (old c : List ℕ) (x : Standing) → HasTidyStanding old x → IsSlotShut x.header (other x.slot) old c → HasTidyStanding c x
shut_tidily old c x stands shut = (shut_told old c x stands.0 shut, tidy_stays old c x.header x.slot x.next stands.1 shut)

pub shut_stands : (old c : List ℕ) (x : Standing) → HasTidyStanding old x → IsSlotShut x.header (other x.slot) old c → StandsTidyFor x.header.journal_pages (slot_pages x.header) c x.network x.version
shut_stands old c x stands shut = still_stands c x (shut_tidily old c x stands shut)
