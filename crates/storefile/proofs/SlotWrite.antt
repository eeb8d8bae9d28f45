-- What a file stands for, while the slot that is not current is written, by what its store says of it.
use Rattle.std.proofs.Common.{ℕ, ◌+◌, ◌*◌, List, sym, subst}
use Rattle.disk.specs.Gated.{IsShut}
use Rattle.roadnet.specs.Net.{Net}
use Rattle.pages.specs.declared.header.Header.{Header}
use Rattle.pages.specs.declared.content.Slot.{Slot}
use Rattle.pages.specs.Layout.{HeadOf, other, slot_pages, page_number}
use Rattle.storefile.specs.Standing.{IsStoredAs, IsTidyAt}
use Rattle.storefile.proofs.PageBytes.{shut_gate}
use Rattle.storefile.proofs.OtherSlot.{closed_slot, slots_keep_tidy}

-- the pages of a slot: where they begin, and how many bytes they have
abbrev pub slot_at : Header → Slot → ℕ
slot_at h slot = 4096 * page_number h (HeadOf slot)

abbrev pub slot_size : Header → ℕ
slot_size h = 4096 * (slot_pages h + 1)

module _ (old c : List ℕ) (h : Header) (slot : Slot) where
  -- While the other slot's gate is closed the file is stored as before, whatever its pages hold.
  pub slot_stays : (epoch : ℕ) (net : Net) (version next unchecked : ℕ) → IsStoredAs old h slot epoch net version next unchecked
      → IsShut (slot_at h (other slot)) (slot_size h) (slot_at h (other slot) + 4095) old c → IsStoredAs c h slot epoch net version next unchecked
  slot_stays epoch net version next unchecked held shut =
      let at_header : IsShut (slot_at held.stored.header (other slot)) (slot_size held.stored.header) (slot_at held.stored.header (other slot) + 4095) old c =
      subst (λ (x : Header). IsShut (slot_at x (other slot)) (slot_size x) (slot_at x (other slot) + 4095) old c) (sym held.header_is) shut in
      let there : IsShut (slot_at held.stored.header (other held.stored.slot)) (slot_size held.stored.header) (slot_at held.stored.header (other held.stored.slot) + 4095) old c =
      subst (λ (x : Slot). IsShut (slot_at held.stored.header (other x)) (slot_size held.stored.header) (slot_at held.stored.header (other x) + 4095) old c) (sym held.slot_is) at_header in
      let still = closed_slot old c held.stored net version next held.stands there.outside
      (shut_gate (page_number held.stored.header (HeadOf (other held.stored.slot))) (slot_at held.stored.header (other held.stored.slot)) (slot_size held.stored.header) old c there) in
      record { stored = held.stored; stands = still; header_is = held.header_is; format_is = held.format_is; slot_is = held.slot_is; epoch_is = held.epoch_is; unchecked_is = held.unchecked_is }

  -- A tidy file stays tidy.
  pub tidy_stays : (next : ℕ) → IsTidyAt old h next → IsShut (slot_at h (other slot)) (slot_size h) (slot_at h (other slot) + 4095) old c → IsTidyAt c h next
  tidy_stays next tidy shut = slots_keep_tidy old c h slot next tidy shut.outside
