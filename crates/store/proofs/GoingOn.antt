-- What a checkpoint that goes part by part leaves.
use Rattle.std.proofs.Common.{◌≡◌, ⊎_elim, ℕ, ◌+◌, ◌*◌, ◌≤◌, true, List, [], ◌∷◌, ◌++◌, length, Option, Some, None, refl, sym, ◌∙◌, ap, subst, arith, length-append}
use Rattle.std.specs.Prelude.{IfSome, option_map}
use Rattle.std.proofs.Props.{props}
use Rattle.std.proofs.Math.Logic.{∥∥₁_elim, ∥∥₁_map}
use Rattle.disk.specs.Gated.{SameOutside, IsGateOpen, IsShut, IsOldOrShut, with_page}
use Rattle.disk.specs.Moments.{LeavesOnly}
use Rattle.disk.proofs.Steps.{and_then, weaker}
use Rattle.roadnet.specs.declared.commands.Command.{Command}
use Rattle.roadnet.specs.Net.{Net, IsNetwork}
use Rattle.pages.specs.declared.header.Header.{Header}
use Rattle.pages.specs.declared.content.Slot.{Slot}
use Rattle.pages.specs.Spelling.{AreHeadNumbersFit, SpelledEntry}
use Rattle.pages.specs.Layout.{HeadOf, other, slot_pages, page_number, page_count}
use Rattle.storefile.specs.StoreFile.{page, is_open, is_standing, joined, journal_page_at, HoldsSlot, HoldsNetwork, StandsTidyFor}
use Rattle.storefile.specs.Standing.{Standing, standing_of, IsStoredAs, IsTidyAt, HasFitStoreNumbers, LeadsTo, with_other_slot}
use Rattle.storefile.proofs.JournalWrite.{leads_more}
use Rattle.storefile.proofs.Meaning.{IsPage, is_page, page_outside, page_spells, page_stands}
use Rattle.storefile.proofs.OtherSlot.{SameBeside, SameFirst, after_ends, first_kept, leads_beside, slot_leads_on, slots_keep_tidy}
use Rattle.storefile.proofs.PageBytes.{outside_pages, same_but}
use Rattle.storefile.proofs.Rests.{stored_as, standing_is}
use Rattle.storefile.proofs.Torn.{head_below}
use Rattle.checkpoint.specs.declared.frozen.Frozen.{Frozen}
use Rattle.checkpoint.specs.Frozen.{frozen_net}
use Rattle.checkpoint.specs.Writing.{Draft, draft_head_of, slot_at, slot_size, slot_gate, slot_page_at, HoldsPages, IsSlotShut, IsSlotWhole, IsSlotShutOrWhole}
use Rattle.checkpoint.proofs.FrozenArcs.{same_by_ends}
use Rattle.checkpoint.proofs.SlotHeld.{holds_slot, gate_shut, while_beginning}
use Rattle.store.specs.declared.paged.going.GoingCheckpoint.{GoingCheckpoint}
use Rattle.store.specs.Committing.{HasTidyStanding}
use Rattle.store.specs.Going.{FitsStore, DraftGoesOn, FrozenGoesOn, with_one_more}
use Rattle.store.proofs.ArcsKept.{arcs_grow}
use Rattle.store.proofs.Checkpointed.{still_stands, shut_told, shut_tidily, shut_stands, nodes_told, room_told}
use Rattle.store.proofs.Committed.{Follow, are_records, page_body}

-- ---- it begins

pub begins : (content : List ℕ) (h : Header) (draft : Draft) (net : Net) (version next : ℕ) → draft.written ≡ 0 → draft.version ≡ version → draft.next_sequence ≡ next → IsNetwork net → h.arcs ≤ length net.arcs
    → (IsGateOpen (slot_gate h draft.slot) content → ⊥) → DraftGoesOn content h draft net 0 net version next
begins content h draft net version next none same_version same_next is from closed = record {
  closed = closed;
  pages = λ i lt. absurd (omega (arith, lt, none));
  frozen_is = is;
  frozen_from = from;
  since = [];
  committed_is = refl;
  leads = record { held = tt; network = refl; version_is = omega (arith, same_version); next_is = omega (arith, same_next) };
}

pub frozen_begins : (content : List ℕ) (h : Header) (g : GoingCheckpoint) (net : Net) (version next : ℕ) → g.next.written ≡ 0 → g.next.version ≡ version → g.next.next_sequence ≡ next → g.committed ≡ 0
    → frozen_net g.frozen net ≡ net → length g.frozen.numbers.items ≡ length net.arcs → IsNetwork net → h.arcs ≤ length net.arcs → (IsGateOpen (slot_gate h g.next.slot) content → ⊥) → FrozenGoesOn content h g net version next
frozen_begins content h g net version next none same_version same_next fresh same whole is from closed = record {
  words_to = omega (arith, whole);
  goes = subst (λ (f : Net). DraftGoesOn content h g.next f g.committed net version next) (sym same)
      (subst (λ (n : ℕ). DraftGoesOn content h g.next net n net version next) (sym fresh) (begins content h g.next net version next none same_version same_next is from closed));
}

-- ---- a commit between two parts

-- What is kept of a network tells the same over each network that keeps the ends.
frozen_same : (frozen : Frozen) (net final : Net) → SameFirst (length frozen.numbers.items) final net → frozen_net frozen final ≡ frozen_net frozen net
frozen_same frozen net final same =
    let arcs = same_by_ends net.arcs final.arcs frozen.numbers.items same.ends in
    λ i. record { nodes = same.nodes i; arcs = arcs i; landmarks = frozen.landmarks.items; room = same.room i }

module _ (old new : List ℕ) (x : Standing) (net : Net) (commands : List (List Command)) (follow : Follow x net commands) where
  pub fits_committed : (going : Option GoingCheckpoint) → IfSome going (λ g. FitsStore x.header x.slot x.epoch x.version x.next x.unchecked g.next g.committed)
      → IfSome (option_map with_one_more going) (λ g. FitsStore x.header x.slot x.epoch (x.version + length commands) (x.next + 1) (x.unchecked + 1) g.next g.committed)
  fits_committed None fits = tt
  fits_committed (Some g) fits = record {
    slot_is = fits.slot_is;
    epoch_is = fits.epoch_is;
    within = fits.within;
    sequence_to = fits.sequence_to;
    next_is = omega (arith, fits.next_is);
    version_to = omega (arith, fits.version_to);
    one_before = omega (arith, fits.one_before);
  }

  module _ (size : length old ≡ 4096 * page_count x.header) (is : new ≡ with_page old (4096 * journal_page_at x.header x.next) (page_body x commands)) where
    wrote : IsPage x.version x.next commands (page_body x commands)
    wrote = is_page x.version x.next commands follow.versions follow.numbers.next_to follow.each (are_records commands follow.each follow.few follow.some follow.fit)

    written : List ℕ
    written = with_page old (4096 * journal_page_at x.header x.next) (page_body x commands)

    outside : SameOutside (4096 * journal_page_at x.header x.next) 4096 old new
    outside = subst (λ (c : List ℕ). SameOutside (4096 * journal_page_at x.header x.next) 4096 old c) (sym is)
        (page_outside old x.header x.version x.next commands (page_body x commands) follow.numbers.header follow.today size wrote)

    draft_committed : (g : GoingCheckpoint) (frozen : Net) → FitsStore x.header x.slot x.epoch x.version x.next x.unchecked g.next g.committed → DraftGoesOn old x.header g.next frozen g.committed x.network x.version x.next
        → DraftGoesOn new x.header g.next frozen (g.committed + 1) net (x.version + length commands) (x.next + 1)
    draft_committed g frozen fits goes =
        let below = head_below x.header g.next.slot in
        record {
          closed = λ opened. goes.closed (sym (outside.below (slot_gate x.header g.next.slot) (omega (arith, below))) ∙ opened);
          pages = λ i lt. same_but (journal_page_at x.header x.next) old new outside (slot_page_at x.header g.next.slot i) (λ e. omega (arith, e, below, lt, fits.within)) ∙ goes.pages i lt;
          frozen_is = goes.frozen_is;
          frozen_from = goes.frozen_from;
          since = goes.since ++ commands ∷ [];
          committed_is = omega (arith, goes.committed_is, length-append goes.since (commands ∷ []));
          leads = leads_more (page old) (page new) x.header frozen x.network net g.next.version g.next.next_sequence x.version x.next goes.since commands goes.leads
              (same_but (journal_page_at x.header x.next) old new outside) (omega (arith, fits.next_is, fits.one_before, follow.room))
              (subst (λ (c : List ℕ). is_standing (page c) x.header x.next ≡ true) (sym is) (page_stands old x.header x.version x.next commands (page_body x commands) follow.numbers.header follow.today size wrote))
              (subst (λ (c : List ℕ). SpelledEntry x.header.format (page c (journal_page_at x.header x.next)) (record { sequence = x.next; first_number = x.version + 1; groups = commands })) (sym is)
              (page_spells old x.header x.version x.next commands (page_body x commands) follow.numbers.header follow.today size wrote))
              follow.goes;
        }

    goes_on_committed : (g : GoingCheckpoint) → FitsStore x.header x.slot x.epoch x.version x.next x.unchecked g.next g.committed → FrozenGoesOn old x.header g x.network x.version x.next
        → FrozenGoesOn new x.header (with_one_more g) net (x.version + length commands) (x.next + 1)
    goes_on_committed g fits on = record {
      words_to = omega (arith, on.words_to, arcs_grow x.network net commands follow.goes);
      goes = subst (λ (f : Net). DraftGoesOn new x.header g.next f (g.committed + 1) net (x.version + length commands) (x.next + 1))
          (sym (frozen_same g.frozen x.network net (first_kept (length g.frozen.numbers.items) x.network net on.words_to (after_ends x.network net commands follow.goes))))
          (draft_committed g (frozen_net g.frozen x.network) fits on.goes);
    }

    pub going_committed : (going : Option GoingCheckpoint) → IfSome going (λ g. FitsStore x.header x.slot x.epoch x.version x.next x.unchecked g.next g.committed)
        → ∥ IfSome going (λ g. FrozenGoesOn old x.header g x.network x.version x.next) ∥₁
        → ∥ IfSome (option_map with_one_more going) (λ g. FrozenGoesOn new x.header g net (x.version + length commands) (x.next + 1)) ∥₁
    going_committed None fits goes = goes
    going_committed (Some g) fits goes = ∥∥₁_map goes (λ on. goes_on_committed g fits on)

-- ---- a part, after which some are left

pub goes_on_part : (old new : List ℕ) (h : Header) (slot : Slot) (draft : Draft) (count : ℕ) (frozen : Net) (committed : ℕ) (net : Net) (version next : ℕ) → draft.slot ≡ other slot
    → IsSlotShut h draft.slot old new → HoldsPages (page new) h draft.slot frozen count → DraftGoesOn old h draft frozen committed net version next
    → DraftGoesOn new h (record draft { written = count }) frozen committed net version next
goes_on_part old new h slot draft count frozen committed net version next is shut words goes =
    let same : SameBeside h (other slot) (page old) (page new) =
    subst (λ (s : Slot). SameBeside h s (page old) (page new)) is (outside_pages (page_number h (HeadOf draft.slot)) (slot_pages h + 1) old new shut.outside) in
    record {
      closed = shut.closed;
      pages = words;
      frozen_is = goes.frozen_is;
      frozen_from = goes.frozen_from;
      since = goes.since;
      committed_is = goes.committed_is;
      leads = leads_beside (page old) (page new) h slot frozen net draft.version draft.next_sequence version next goes.since same goes.leads;
    }

-- ---- the last part

-- what stands once the slot is whole
abbrev pub taken_over : Standing → Draft → ℕ → Standing
taken_over x draft committed = record { header = x.header; slot = draft.slot; epoch = draft.epoch; network = x.network; version = x.version; next = x.next; unchecked = committed }

pub numbers_taken_over : (x : Standing) (draft : Draft) (committed : ℕ) → HasFitStoreNumbers x.header x.epoch x.version x.next x.unchecked → FitsStore x.header x.slot x.epoch x.version x.next x.unchecked draft committed
    → HasFitStoreNumbers x.header draft.epoch x.version x.next committed
numbers_taken_over x draft committed numbers fits = record {
  header = numbers.header;
  version_to = numbers.version_to;
  next_to = numbers.next_to;
  epoch_to = omega (arith, numbers.epoch_to, fits.epoch_is, fits.one_before);
  unchecked_to = omega (arith, numbers.unchecked_to, fits.one_before);
  unchecked_from = omega (arith, fits.next_is);
}

module _ (old : List ℕ) (x : Standing) (draft : Draft) (frozen : Net) (committed : ℕ) (numbers : HasFitStoreNumbers x.header x.epoch x.version x.next x.unchecked)
    (fits : FitsStore x.header x.slot x.epoch x.version x.next x.unchecked draft committed) where
  module _ (told : standing_of old ≡ Some x) (goes : DraftGoesOn old x.header draft frozen committed x.network x.version x.next) (c : List ℕ) (whole : IsSlotWhole x.header draft.slot (draft_head_of draft frozen) frozen old c) where
    held : IsStoredAs old x.header x.slot x.epoch x.network x.version x.next x.unchecked
    held = stored_as old x told

    frozen_nodes : frozen.nodes ≡ x.header.nodes
    frozen_nodes = sym (after_ends frozen x.network (joined goes.since) goes.leads.network).nodes ∙ nodes_told old x told

    frozen_room : frozen.room ≡ x.header.room
    frozen_room = sym (after_ends frozen x.network (joined goes.since) goes.leads.network).room ∙ room_told old x told

    head_fits : AreHeadNumbersFit draft.epoch draft.version draft.next_sequence (length frozen.landmarks)
    head_fits = record {
      epoch_from = omega (arith, fits.epoch_is);
      epoch_to = omega (arith, numbers.epoch_to, fits.epoch_is, fits.one_before, fits.next_is);
      sequence_to = fits.sequence_to;
      version_to = omega (arith, fits.version_to, numbers.version_to);
      count_to = goes.frozen_is.landmarks_to;
    }

    holds : HoldsSlot (page c) x.header draft.slot (draft_head_of draft frozen) frozen
    holds = holds_slot x.header draft.slot (draft_head_of draft frozen) frozen old c whole goes.frozen_is frozen_nodes frozen_room goes.frozen_from refl refl head_fits

    slot_is : draft.slot ≡ other held.stored.slot
    slot_is = fits.slot_is ∙ ap other (sym held.slot_is)

    same_outside : SameOutside (slot_at held.stored.header (other held.stored.slot)) (slot_size held.stored.header) old c
    same_outside = subst (λ (s : Slot). SameOutside (slot_at held.stored.header s) (slot_size held.stored.header) old c) slot_is
        (subst (λ (h : Header). SameOutside (slot_at h draft.slot) (slot_size h) old c) (sym held.header_is) whole.outside)

    opened : is_open (page c (page_number held.stored.header (HeadOf (other held.stored.slot)))) ≡ true
    opened = subst (λ (s : Slot). is_open (page c (page_number held.stored.header (HeadOf s))) ≡ true) slot_is
        (subst (λ (h : Header). is_open (page c (page_number h (HeadOf draft.slot))) ≡ true) (sym held.header_is) whole.opened)

    holds_it : HoldsSlot (page c) held.stored.header (other held.stored.slot) (draft_head_of draft frozen) frozen
    holds_it = subst (λ (s : Slot). HoldsSlot (page c) held.stored.header s (draft_head_of draft frozen) frozen) slot_is
        (subst (λ (h : Header). HoldsSlot (page c) h draft.slot (draft_head_of draft frozen) frozen) (sym held.header_is) holds)

    leads : LeadsTo (page old) held.stored.header frozen draft.version draft.next_sequence goes.since x.network x.version x.next
    leads = subst (λ (h : Header). LeadsTo (page old) h frozen draft.version draft.next_sequence goes.since x.network x.version x.next) (sym held.header_is) goes.leads

    few : length goes.since ≤ held.stored.header.journal_pages
    few = omega (arith, goes.committed_is, fits.one_before, numbers.unchecked_to, ap (λ (h : Header). h.journal_pages) held.header_is)

    taken : HoldsNetwork c (with_other_slot held.stored draft.epoch frozen draft.version draft.next_sequence goes.since) x.network x.version x.next
    taken = slot_leads_on old c held.stored x.network frozen x.version x.next draft.epoch draft.version draft.next_sequence goes.since held.stands
        same_outside opened (omega (arith, held.epoch_is, fits.epoch_is)) leads few holds_it

    told_then : standing_of c ≡ Some (taken_over x draft committed)
    told_then = standing_is c x.header draft.slot draft.epoch x.network x.version x.next committed (record {
      stored = with_other_slot held.stored draft.epoch frozen draft.version draft.next_sequence goes.since;
      stands = taken;
      header_is = held.header_is;
      format_is = held.format_is;
      slot_is = sym slot_is;
      epoch_is = refl;
      unchecked_is = goes.committed_is;
    })

  -- the slot is whole: the file stands for the same, by that slot and the pages committed since
  pub told_by_parts : standing_of old ≡ Some x → ∥ DraftGoesOn old x.header draft frozen committed x.network x.version x.next ∥₁ → (c : List ℕ) → IsSlotWhole x.header draft.slot (draft_head_of draft frozen) frozen old c
      → standing_of c ≡ Some (taken_over x draft committed)
  told_by_parts told goes c whole = ∥∥₁_elim goes (Prim.hlevel props) (λ on. told_then told on c whole)

  pub tidy_by_parts : IsTidyAt old x.header x.next → (c : List ℕ) → IsSlotWhole x.header draft.slot (draft_head_of draft frozen) frozen old c → IsTidyAt c x.header x.next
  tidy_by_parts tidy c whole =
      slots_keep_tidy old c x.header x.slot x.next tidy (subst (λ (s : Slot). SameOutside (slot_at x.header s) (slot_size x.header) old c) fits.slot_is whole.outside)

  pub stands_by_parts : HasTidyStanding old x → ∥ DraftGoesOn old x.header draft frozen committed x.network x.version x.next ∥₁ → (c : List ℕ) → IsSlotWhole x.header draft.slot (draft_head_of draft frozen) frozen old c
      → HasTidyStanding c (taken_over x draft committed)
  stands_by_parts stands goes c whole = (told_by_parts stands.0 goes c whole, tidy_by_parts stands.1 c whole)

  -- at each moment of a part
  pub during_part : HasTidyStanding old x → ∥ DraftGoesOn old x.header draft frozen committed x.network x.version x.next ∥₁ → (c : List ℕ) → IsSlotShutOrWhole x.header draft.slot (draft_head_of draft frozen) frozen old c → StandsTidyFor x.header.journal_pages (slot_pages x.header) c x.network x.version
  during_part stands goes c way = ⊎_elim
      (λ shut. shut_stands old c x stands (subst (λ (s : Slot). IsSlotShut x.header s old c) fits.slot_is shut))
      (λ whole. still_stands c (taken_over x draft committed) (stands_by_parts stands goes c whole))
      way

-- ---- what the fields of a store say of it

pub from_some : {X : Type 0} (P : X → Type 0) (o : Option X) (x : X) → Some x ≡ o → IfSome o P → P x
from_some {X} P o x e h = let at : IfSome (Some x) P = subst (λ (y : Option X). IfSome y P) (sym e) h in at

pub some_goes : {X : Type 0} (P : X → Type 0) (o : Option X) (x : X) → Some x ≡ o → ∥ IfSome o P ∥₁ → ∥ P x ∥₁
some_goes P o x e h = ∥∥₁_map h (λ is. from_some P o x e is)

pub draft_goes : (content : List ℕ) (h : Header) (g : GoingCheckpoint) (frozen net : Net) (version next : ℕ) → frozen ≡ frozen_net g.frozen net → ∥ FrozenGoesOn content h g net version next ∥₁ → ∥ DraftGoesOn content h g.next frozen g.committed net version next ∥₁
draft_goes content h g frozen net version next is goes = ∥∥₁_map goes (λ on. subst (λ (f : Net). DraftGoesOn content h g.next f g.committed net version next) (sym is) on.goes)

pub words_held : (content : List ℕ) (h : Header) (draft : Draft) (frozen : Net) (committed : ℕ) (net : Net) (version next : ℕ) → ∥ DraftGoesOn content h draft frozen committed net version next ∥₁
    → HoldsPages (page content) h draft.slot frozen draft.written
words_held content h draft frozen committed net version next goes = ∥∥₁_elim goes (Prim.hlevel props) (λ on. on.pages)

-- some of its word pages more are written
pub fits_part : (h : Header) (slot : Slot) (epoch version next unchecked : ℕ) (draft new : Draft) (committed count : ℕ) → new ≡ record draft { written = count } → count ≤ slot_pages h
    → FitsStore h slot epoch version next unchecked draft committed → FitsStore h slot epoch version next unchecked new committed
fits_part h slot epoch version next unchecked draft new committed count is few fits =
    subst (λ (d : Draft). FitsStore h slot epoch version next unchecked d committed) (sym is) (record {
      slot_is = fits.slot_is;
      epoch_is = fits.epoch_is;
      within = few;
      sequence_to = fits.sequence_to;
      next_is = fits.next_is;
      version_to = fits.version_to;
      one_before = fits.one_before;
    })

pub goes_part : (old c : List ℕ) (h : Header) (slot : Slot) (draft new : Draft) (count : ℕ) (frozen : Net) (committed : ℕ) (net : Net) (version next : ℕ) → draft.slot ≡ other slot → new ≡ record draft { written = count }
    → IsSlotShut h draft.slot old c → HoldsPages (page c) h draft.slot frozen new.written → DraftGoesOn old h draft frozen committed net version next → DraftGoesOn c h new frozen committed net version next
goes_part old c h slot draft new count frozen committed net version next is_slot is shut words on =
    let held : HoldsPages (page c) h draft.slot frozen count = subst (λ (d : Draft). HoldsPages (page c) h draft.slot frozen d.written) is words in
    subst (λ (d : Draft). DraftGoesOn c h d frozen committed net version next) (sym is) (goes_on_part old c h slot draft count frozen committed net version next is_slot shut held on)

-- by the fields as they are then
module _ (c : List ℕ) (x : Standing) (draft : Draft) (committed : ℕ) (slot : Slot) (epoch : ℕ) (same_slot : slot ≡ draft.slot) (same_epoch : epoch ≡ draft.epoch) where
  abbrev as_it_is : Standing
  as_it_is = record { header = x.header; slot = slot; epoch = epoch; network = x.network; version = x.version; next = x.next; unchecked = committed }

  it_is : as_it_is ≡ taken_over x draft committed
  it_is = rw (same_slot, same_epoch) refl

  pub told_as : standing_of c ≡ Some (taken_over x draft committed) → standing_of c ≡ Some as_it_is
  told_as told = told ∙ ap Some (sym it_is)

  pub stands_as : HasTidyStanding c (taken_over x draft committed) → HasTidyStanding c as_it_is
  stands_as stands = subst (HasTidyStanding c) (sym it_is) stands

-- at each moment of a run of calls by which a part is written
pub moments_of_part : {D : Type 0} (content : D → List ℕ) (moment : D → ℕ) (left_since : D → ℕ → List ℕ → Type 0) (old new : D) (x : Standing) (draft : Draft) (frozen : Net) (committed : ℕ)
    → HasFitStoreNumbers x.header x.epoch x.version x.next x.unchecked → FitsStore x.header x.slot x.epoch x.version x.next x.unchecked draft committed → HasTidyStanding (content old) x
    → ∥ DraftGoesOn (content old) x.header draft frozen committed x.network x.version x.next ∥₁ → LeavesOnly moment left_since old new (IsSlotShutOrWhole x.header draft.slot (draft_head_of draft frozen) frozen (content old))
    → LeavesOnly moment left_since old new (λ c. StandsTidyFor x.header.journal_pages (slot_pages x.header) c x.network x.version)
moments_of_part content moment left_since old new x draft frozen committed numbers fits stands goes run =
    weaker moment left_since old new (IsSlotShutOrWhole x.header draft.slot (draft_head_of draft frozen) frozen (content old)) (λ c. StandsTidyFor x.header.journal_pages (slot_pages x.header) c x.network x.version) run
    (λ c way. during_part (content old) x draft frozen committed numbers fits stands goes c way)

-- at each moment while the gate is closed
pub moments_of_beginning : {D : Type 0} (content : D → List ℕ) (moment : D → ℕ) (left_since : D → ℕ → List ℕ → Type 0) (old new : D) (x : Standing) (slot : Slot) → slot ≡ other x.slot → HasTidyStanding (content old) x
    → LeavesOnly moment left_since old new (IsOldOrShut (content old) (slot_gate x.header slot)) → LeavesOnly moment left_since old new (λ c. StandsTidyFor x.header.journal_pages (slot_pages x.header) c x.network x.version)
moments_of_beginning content moment left_since old new x slot is stands run =
    weaker moment left_since old new (IsOldOrShut (content old) (slot_gate x.header slot)) (λ c. StandsTidyFor x.header.journal_pages (slot_pages x.header) c x.network x.version) run
    (λ c way. ⊎_elim
    (λ shut. shut_stands (content old) c x stands (subst (λ (s : Slot). IsSlotShut x.header s (content old) c) is shut))
    (λ same. subst (λ (d : List ℕ). StandsTidyFor x.header.journal_pages (slot_pages x.header) d x.network x.version) (sym same) (still_stands (content old) x stands))
    (while_beginning x.header slot (content old) c way))

pub begun_told : (old c : List ℕ) (x : Standing) (slot : Slot) → slot ≡ other x.slot → standing_of old ≡ Some x → IsShut (slot_gate x.header slot) 1 (slot_gate x.header slot) old c → standing_of c ≡ Some x
begun_told old c x slot is told shut = shut_told old c x told (subst (λ (s : Slot). IsSlotShut x.header s old c) is (gate_shut x.header slot old c shut))

pub begun_tidily : (old c : List ℕ) (x : Standing) (slot : Slot) → slot ≡ other x.slot → HasTidyStanding old x → IsShut (slot_gate x.header slot) 1 (slot_gate x.header slot) old c → HasTidyStanding c x
begun_tidily old c x slot is stands shut = shut_tidily old c x stands (subst (λ (s : Slot). IsSlotShut x.header s old c) is (gate_shut x.header slot old c shut))

-- a checkpoint begins, and then its first part is written
pub run_twice : {D : Type 0} (moment : D → ℕ) (left_since : D → ℕ → List ℕ → Type 0) (old mid new : D) (x y : Standing) → y ≡ x → LeavesOnly moment left_since old mid (λ c. StandsTidyFor x.header.journal_pages (slot_pages x.header) c x.network x.version)
    → LeavesOnly moment left_since mid new (λ c. StandsTidyFor y.header.journal_pages (slot_pages y.header) c y.network y.version) → LeavesOnly moment left_since old new (λ c. StandsTidyFor x.header.journal_pages (slot_pages x.header) c x.network x.version)
run_twice moment left_since old mid new x y is first second =
    and_then moment left_since old mid new (λ c. StandsTidyFor x.header.journal_pages (slot_pages x.header) c x.network x.version) (λ c. StandsTidyFor y.header.journal_pages (slot_pages y.header) c y.network y.version) first second
    (λ c stood. subst (λ (z : Standing). StandsTidyFor z.header.journal_pages (slot_pages z.header) c z.network z.version) is stood)
