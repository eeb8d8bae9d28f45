-- Commands take no arc away.
use Rattle.std.proofs.Common.{◌≡◌, ◌∙◌, ℕ, ◌+◌, ◌-◌, ◌≤◌, List, length, ap, sym, arith, length-append, Some}
use Rattle.std.specs.Prelude.{map}
use Rattle.std.proofs.lemmas.List.{length-map}
use Rattle.roadnet.specs.declared.commands.Command.{Command}
use Rattle.roadnet.specs.Net.{Net}
use Rattle.roadnet.specs.Step.{after}
use Rattle.pages.specs.Spelling.{ends_of}
use Rattle.pages.specs.Layout.{pages_for, slot_pages}
use Rattle.store.specs.State.{checkpoint_pages_of}
use Rattle.storefile.proofs.OtherSlot.{after_ends}
use Rattle.storefile.specs.StoreFile.{groups_of}
use Rattle.storefile.specs.Standing.{Standing, standing_of}
use Rattle.storefile.proofs.Rests.{stored_as}
use Rattle.pages.specs.declared.header.Header.{Header}

pub arcs_grow : (net final : Net) (groups : List (List Command)) → after net groups ≡ Some final → length net.arcs ≤ length final.arcs
arcs_grow net final groups done =
    let k = after_ends net final groups done in
    omega (arith, ap length k.ends, length-append (map ends_of net.arcs) k.laid, length-map final.arcs ends_of, length-map net.arcs ends_of)

-- a file's header tells the room of its network, and how many arcs it has at least
pub record IsOfHeader (h : Header) (net : Net) : Type 0 where
  pub arcs : h.arcs ≤ length net.arcs
  pub room : net.room ≡ h.room

pub net_of_header : (content : List ℕ) (x : Standing) → standing_of content ≡ Some x → IsOfHeader x.header x.network
net_of_header content x told =
    let held = stored_as content x told in
    let grown = arcs_grow held.stored.network x.network (groups_of held.stored) held.stands.gives.network in
    record {
      arcs = omega (arith, grown, held.stands.is.arcs.count_from, ap (λ (h : Header). h.arcs) held.header_is);
      room = (after_ends held.stored.network x.network (groups_of held.stored) held.stands.gives.network).room ∙ held.stands.is.arcs.room_is ∙ ap (λ (h : Header). h.room) held.header_is;
    }

pub pages_of_header : (h : Header) (net : Net) → IsOfHeader h net → (first : ℕ) × (first ≤ length net.arcs) × (slot_pages h ≡ checkpoint_pages_of first net)
pages_of_header h net is = (h.arcs, is.arcs, ap (λ (room : ℕ). pages_for 1023 room + pages_for 511 (room - h.arcs)) (sym is.room))
