-- What a file stands for, where the slot that is not current is written.
use Rattle.std.proofs.Common.{◌≡◌, ◌⊎◌, inl, inr, ℕ, zero, suc, ◌+◌, ◌-◌, ◌*◌, ◌<◌, ◌≤◌, Bool, true, false, cond, List, [], ◌∷◌, ◌++◌, append_assoc, length, take, drop, map, Option, Some, None, refl, sym, ◌∙◌, ap, subst, arith}
use Rattle.std.specs.Prelude.{◌==◌, ◌&&◌, is_none, option_and_then}
use Rattle.std.specs.List.{flat_map}
use Rattle.std.proofs.Math.Nat.{add-mod_right}
use Rattle.std.proofs.lemmas.Bool.{cases_lt}
use Rattle.std.proofs.lemmas.Bool.Decides.{nat_tests}
use Rattle.std.proofs.lemmas.List.{length-map, map-append, take-map, take-append-le, append-nil}
use Rattle.roadnet.specs.declared.arcs.RoadArc.{RoadArc}
use Rattle.roadnet.specs.declared.commands.Command.{Command}
use Rattle.roadnet.specs.declared.commands.Command.TheVariants.{Set, Close, Reopen, Mark, Unmark, Lay}
use Rattle.roadnet.specs.Net.{Net, update_nth}
use Rattle.roadnet.specs.Step.{refusal_of, new_arc, changed, step, step_group, after}
use Rattle.pages.specs.declared.header.Header.{Header}
use Rattle.pages.specs.declared.content.Ends.{Ends}
use Rattle.pages.specs.declared.content.Slot.{Slot}
use Rattle.pages.specs.declared.content.Slot.TheVariants.{A, B}
use Rattle.pages.specs.Contents.{Head}
use Rattle.pages.specs.Spelling.{SpelledHeader, SpelledArcs, SpelledWords, SpelledHead, SpelledEntry, ends_of, word_of}
use Rattle.pages.specs.Layout.{places_in_use, arc_pages, word_pages, end_pages, slot_pages, other, head_page_at, journal_start}
use Rattle.pages.proofs.Heads.{head_read}
use Rattle.storefile.specs.StoreFile.{page, part, is_open, journal_page_at, Stored, Stores, HoldsArcs, HoldsSlot, IsCurrent, HoldsJournal, first_field, is_standing, groups_of, next_sequence, head_of}
use Rattle.storefile.specs.Standing.{with_other_slot, LeadsTo}
use Rattle.storefile.specs.Laws.{ClosedSlotMeansNothing, OpenSlotIsCurrent, SlotsKeepTidy}
use Rattle.storefile.proofs.Names.{arc_page_at, word_page_at, end_page_at}
use Rattle.storefile.proofs.Opening.{part-map}
use Rattle.storefile.proofs.PageBytes.{outside_pages}

-- ---- the pages beside a slot's

-- pages that are the same but for those of this slot
abbrev pub SameBeside : Header → Slot → (ℕ → List ℕ) → (ℕ → List ℕ) → Type 0
SameBeside h slot pages pages' = (j : ℕ) → (j < head_page_at h slot) ⊎ (head_page_at h slot + (slot_pages h + 1) ≤ j) → pages' j ≡ pages j

beside_slot : (h : Header) (slot : Slot) (i : ℕ) → i ≤ slot_pages h → (head_page_at h slot + i < head_page_at h (other slot)) ⊎ (head_page_at h (other slot) + (slot_pages h + 1) ≤ head_page_at h slot + i)
beside_slot h A i le = inl (omega arith)
beside_slot h B i le = inr (omega arith)

arcs_beside : (h : Header) (slot : Slot) → arc_pages h + 1 ≤ head_page_at h slot
arcs_beside h A = omega arith
arcs_beside h B = omega arith

journal_beside : (h : Header) (slot : Slot) → head_page_at h slot + (slot_pages h + 1) ≤ journal_start h
journal_beside h A = omega arith
journal_beside h B = omega arith

module _ (pages pages' : ℕ → List ℕ) (h : Header) (slot : Slot) (same : SameBeside h (other slot) pages pages') where
  same_front : pages' 0 ≡ pages 0
  same_front = same 0 (inl (omega (arith, arcs_beside h (other slot))))

  same_arcs : (i : ℕ) → i < arc_pages h → pages' (arc_page_at i) ≡ pages (arc_page_at i)
  same_arcs i lt = same (arc_page_at i) (inl (omega (arith, lt, arcs_beside h (other slot))))

  pub same_head_page : pages' (head_page_at h slot) ≡ pages (head_page_at h slot)
  same_head_page =
      let e : head_page_at h slot + 0 ≡ head_page_at h slot = omega arith in
      subst (λ (k : ℕ). pages' k ≡ pages k) e (same (head_page_at h slot + 0) (beside_slot h slot 0 (omega arith)))

  same_words : (i : ℕ) → i < word_pages h → pages' (word_page_at h slot i) ≡ pages (word_page_at h slot i)
  same_words i lt =
      let e : head_page_at h slot + (1 + i) ≡ word_page_at h slot i = omega arith in
      subst (λ (k : ℕ). pages' k ≡ pages k) e (same (head_page_at h slot + (1 + i)) (beside_slot h slot (1 + i) (omega (arith, lt))))

  same_ends_pages : (i : ℕ) → i < end_pages h → pages' (end_page_at h slot i) ≡ pages (end_page_at h slot i)
  same_ends_pages i lt =
      let e : head_page_at h slot + (1 + (word_pages h + i)) ≡ end_page_at h slot i = omega arith in
      subst (λ (k : ℕ). pages' k ≡ pages k) e (same (head_page_at h slot + (1 + (word_pages h + i))) (beside_slot h slot (1 + (word_pages h + i)) (omega (arith, lt))))

  pub same_journal : (q : ℕ) → pages' (journal_page_at h q) ≡ pages (journal_page_at h q)
  same_journal q = same (journal_page_at h q) (inr (omega (arith, journal_beside h (other slot))))

  pub same_standing : (q : ℕ) → is_standing pages' h q ≡ is_standing pages h q
  same_standing q = ap (λ (p : List ℕ). is_open p && (first_field p == q)) (same_journal q)

  pub journal_kept : (q v : ℕ) (css : List (List (List Command))) → HoldsJournal pages h q v css → HoldsJournal pages' h q v css
  journal_kept q v [] holds = tt
  journal_kept q v (cs ∷ css) holds = (
    subst (λ (p : List ℕ). (is_open p && (first_field p == q)) ≡ true) (sym (same_journal q)) holds.0,
    subst (λ (p : List ℕ). SpelledEntry h.format p (record { sequence = q; first_number = v + 1; groups = cs })) (sym (same_journal q)) holds.1,
    journal_kept (q + 1) (v + length cs) css holds.2,
  )

  pub arcs_kept : (net : Net) → HoldsArcs pages h net → HoldsArcs pages' h net
  arcs_kept net holds = record {
    nodes_are = holds.nodes_are;
    room_is = holds.room_is;
    count_from = holds.count_from;
    each = λ i lt. subst (λ (p : List ℕ). SpelledArcs h.nodes (places_in_use 511 i h.arcs) p (map ends_of (part 511 i (take h.arcs net.arcs)))) (sym (same_arcs i (omega (arith, lt)))) (holds.each i lt);
  }

  slot_kept : (head : Head) (net : Net) → HoldsSlot pages h slot head net → HoldsSlot pages' h slot head net
  slot_kept head net holds = record {
    head_is = subst (λ (p : List ℕ). SpelledHead h p head) (sym same_head_page) holds.head_is;
    words = λ i lt. subst (λ (p : List ℕ). SpelledWords (places_in_use 1023 i (length net.arcs)) p (map word_of (part 1023 i net.arcs))) (sym (same_words i (omega (arith, lt)))) (holds.words i lt);
    ends = λ i lt. subst (λ (p : List ℕ). SpelledArcs h.nodes (places_in_use 511 i (length net.arcs - h.arcs)) p (map ends_of (part 511 i (drop h.arcs net.arcs)))) (sym (same_ends_pages i (omega (arith, lt)))) (holds.ends i lt);
  }

  -- the other slot is closed
  current_kept : is_open (pages' (head_page_at h (other slot))) ≡ false → IsCurrent pages h slot → IsCurrent pages' h slot
  current_kept closed is = record {
    opened = subst (λ (p : List ℕ). is_open p ≡ true) (sym same_head_page) is.opened;
    above = λ o. let never : false ≡ true = sym closed ∙ o in absurd cc;
  }

pub stores_beside : (size : ℕ) (pages pages' : ℕ → List ℕ) (s : Stored) → Stores size pages s → SameBeside s.header (other s.slot) pages pages'
    → is_open (pages' (head_page_at s.header (other s.slot))) ≡ false → Stores size pages' s
stores_beside size pages pages' s is same closed = record {
  header = subst (λ (p : List ℕ). SpelledHeader p s.header) (sym (same_front pages pages' s.header s.slot same)) is.header;
  opened = subst (λ (p : List ℕ). is_open p ≡ true) (sym (same_front pages pages' s.header s.slot same)) is.opened;
  size_is = is.size_is;
  arcs = arcs_kept pages pages' s.header s.slot same s.network is.arcs;
  current = current_kept pages pages' s.header s.slot same closed is.current;
  held = slot_kept pages pages' s.header s.slot same (head_of s) s.network is.held;
  journal = journal_kept pages pages' s.header s.slot same s.sequence s.version s.unchecked is.journal;
  few = is.few;
  longest = λ lt. same_standing pages pages' s.header s.slot same (next_sequence s) ∙ is.longest lt;
  versions_to = is.versions_to;
}

pub closed_slot : ClosedSlotMeansNothing
closed_slot file file' s net v q old outside closed =
    let same : SameBeside s.header (other s.slot) (page file) (page file') = outside_pages (head_page_at s.header (other s.slot)) (slot_pages s.header + 1) file file' outside in
    record {
      is = subst (λ (n : ℕ). Stores n (page file') s) (sym outside.same_length) (stores_beside (length file) (page file) (page file') s old.is same closed);
      gives = old.gives;
      next_is = old.next_is;
    }

pub slots_keep_tidy : SlotsKeepTidy
slots_keep_tidy file file' h slot q tidy outside =
    λ r le. same_standing (page file) (page file') h slot (outside_pages (head_page_at h (other slot)) (slot_pages h + 1) file file' outside) r ∙ tidy r le

-- ---- the page that is written next

first_stands : (pages : ℕ → List ℕ) (h : Header) (q v : ℕ) (css : List (List (List Command))) → 1 ≤ length css → HoldsJournal pages h q v css → is_standing pages h q ≡ true
first_stands pages h q v [] some holds = absurd (omega (arith, some))
first_stands pages h q v (cs ∷ css) some holds = holds.0

one_sequence : (b : Bool) (f q r : ℕ) → (b && (f == q)) ≡ true → q < r → (b && (f == r)) ≡ false
one_sequence false f q r is lt = refl
one_sequence true f q r is lt = grind (arith, nat_tests)

-- It does not stand: behind fewer pages than the journal has, since their list is the longest; else since the page there is the first of them.
next_is_free : (size : ℕ) (pages : ℕ → List ℕ) (s : Stored) → Stores size pages s → is_standing pages s.header (next_sequence s) ≡ false
next_is_free size pages s is = elim (cases_lt (length s.unchecked) s.header.journal_pages) [
  | inl room ↦ is.longest room
  | inr full ↦
      let all : s.sequence + s.header.journal_pages ≡ next_sequence s = omega (arith, full, is.few) in
      let same : journal_page_at s.header (s.sequence + s.header.journal_pages) ≡ journal_page_at s.header s.sequence = ap (λ (p : ℕ). journal_start s.header + p) (add-mod_right s.sequence s.header.journal_pages) in
      let first = first_stands pages s.header s.sequence s.version s.unchecked (omega (arith, full, is.header.fits.some_page)) is.journal in
      let other_one : (is_open (pages (journal_page_at s.header s.sequence)) && (first_field (pages (journal_page_at s.header s.sequence)) == s.sequence + s.header.journal_pages)) ≡ false =
      one_sequence (is_open (pages (journal_page_at s.header s.sequence))) (first_field (pages (journal_page_at s.header s.sequence))) s.sequence (s.sequence + s.header.journal_pages) first (omega (arith, is.header.fits.some_page)) in
      subst (λ (n : ℕ). is_standing pages s.header n ≡ false) all
      (subst (λ (k : ℕ). (is_open (pages k) && (first_field (pages k) == s.sequence + s.header.journal_pages)) ≡ false) (sym same) other_one)
]

-- ---- commands keep the ends of arcs

update_ends : (f : RoadArc → RoadArc) → ((arc : RoadArc) → ends_of (f arc) ≡ ends_of arc) → (arcs : List RoadArc) (k : ℕ) → map ends_of (update_nth f arcs k) ≡ map ends_of arcs
update_ends f keeps arcs zero = refl
update_ends f keeps [] (suc k) = refl
update_ends f keeps (arc ∷ arcs) (suc zero) = ap (λ (e : Ends). e ∷ map ends_of arcs) (keeps arc)
update_ends f keeps (arc ∷ arcs) (suc (suc k)) = ap (λ (es : List Ends). ends_of arc ∷ es) (update_ends f keeps arcs (suc k))

-- The new network has the nodes and the room of the old one, and its arcs, those of the same numbers with the same ends; it may have more.
pub record KeepsEnds (old new : Net) : Type 0 where
  pub nodes : new.nodes ≡ old.nodes
  pub room : new.room ≡ old.room
  pub laid : List Ends
  pub ends : map ends_of new.arcs ≡ map ends_of old.arcs ++ laid

same_arcs_kept : (old new : Net) → new.nodes ≡ old.nodes → new.room ≡ old.room → map ends_of new.arcs ≡ map ends_of old.arcs → KeepsEnds old new
same_arcs_kept old new n r e = record { nodes = n; room = r; laid = []; ends = e ∙ sym (append-nil (map ends_of old.arcs)) }

changed_ends : (net : Net) (c : Command) → KeepsEnds net (changed net c)
changed_ends net (Set k w) = same_arcs_kept net (changed net (Set k w)) refl refl (update_ends (λ arc. record arc { length = w }) (λ arc. refl) net.arcs k)
changed_ends net (Close k) = same_arcs_kept net (changed net (Close k)) refl refl (update_ends (λ arc. record arc { opened = false }) (λ arc. refl) net.arcs k)
changed_ends net (Reopen k) = same_arcs_kept net (changed net (Reopen k)) refl refl (update_ends (λ arc. record arc { opened = true }) (λ arc. refl) net.arcs k)
changed_ends net (Mark x) = same_arcs_kept net (changed net (Mark x)) refl refl refl
changed_ends net (Unmark x) = same_arcs_kept net (changed net (Unmark x)) refl refl refl
changed_ends net (Lay t h w) = record { nodes = refl; room = refl; laid = ends_of (new_arc t h w) ∷ []; ends = map-append ends_of net.arcs (new_arc t h w ∷ []) }

keeps_then : (a b c : Net) → KeepsEnds a b → KeepsEnds b c → KeepsEnds a c
keeps_then a b c p q = record {
  nodes = q.nodes ∙ p.nodes;
  room = q.room ∙ p.room;
  laid = p.laid ++ q.laid;
  ends = q.ends ∙ ap (λ (es : List Ends). es ++ q.laid) p.ends ∙ append_assoc (map ends_of a.arcs) p.laid q.laid;
}

step_is : (b : Bool) (next mid : Net) → cond b (Some next) None ≡ Some mid → next ≡ mid
step_is true next mid e = cc
step_is false next mid e = absurd cc

first_step : (o : Option Net) (cs : List Command) (final : Net) → option_and_then (λ next. step_group next cs) o ≡ Some final → (mid : Net) × (o ≡ Some mid) × (step_group mid cs ≡ Some final)
first_step None cs final e = absurd cc
first_step (Some mid) cs final e = (mid, refl, e)

first_group : (o : Option Net) (gs : List (List Command)) (final : Net) → option_and_then (λ next. after next gs) o ≡ Some final → (mid : Net) × (o ≡ Some mid) × (after mid gs ≡ Some final)
first_group None gs final e = absurd cc
first_group (Some mid) gs final e = (mid, refl, e)

some_net : (a b : Net) → ◌≡◌ {A = Option Net} (Some a) (Some b) → a ≡ b
some_net a b e = cc

group_ends : (net final : Net) (cs : List Command) → step_group net cs ≡ Some final → KeepsEnds net final
group_ends net final [] e = subst (KeepsEnds net) (some_net net final e) (same_arcs_kept net net refl refl refl)
group_ends net final (c ∷ cs) e =
    let first = first_step (step net c) cs final e in
    let is : changed net c ≡ first.0 = step_is (is_none (refusal_of net c)) (changed net c) first.0 first.1 in
    keeps_then net first.0 final (subst (KeepsEnds net) is (changed_ends net c)) (group_ends first.0 final cs first.2)

pub after_ends : (net final : Net) (gs : List (List Command)) → after net gs ≡ Some final → KeepsEnds net final
after_ends net final [] e = subst (KeepsEnds net) (some_net net final e) (same_arcs_kept net net refl refl refl)
after_ends net final (g ∷ gs) e =
    let first = first_group (step_group net g) gs final e in
    keeps_then net first.0 final (group_ends net first.0 g first.1) (after_ends first.0 final gs first.2)

-- networks whose first arcs, so many, have the same ends
pub record SameFirst (n : ℕ) (a b : Net) : Type 0 where
  pub nodes : a.nodes ≡ b.nodes
  pub room : a.room ≡ b.room
  pub ends : map ends_of (take n a.arcs) ≡ map ends_of (take n b.arcs)

-- the first arcs of a network that leads on
pub first_kept : (n : ℕ) (old new : Net) → n ≤ length old.arcs → KeepsEnds old new → SameFirst n new old
first_kept n old new le keeps = record {
  nodes = keeps.nodes;
  room = keeps.room;
  ends = sym (take-map ends_of n new.arcs) ∙ ap (take n) keeps.ends ∙ take-append-le n (map ends_of old.arcs) keeps.laid (omega (arith, length-map old.arcs ends_of)) ∙ take-map ends_of n old.arcs;
}

arcs_of_frozen : (pages : ℕ → List ℕ) (h : Header) (net frozen : Net) → h.arcs ≤ length frozen.arcs → SameFirst h.arcs frozen net → HoldsArcs pages h net → HoldsArcs pages h frozen
arcs_of_frozen pages h net frozen many same holds = record {
  nodes_are = same.nodes ∙ holds.nodes_are;
  room_is = same.room ∙ holds.room_is;
  count_from = many;
  each = λ i lt. subst (λ (es : List Ends). SpelledArcs h.nodes (places_in_use 511 i h.arcs) (pages (arc_page_at i)) es)
      (part-map ends_of (511 * i) 511 (take h.arcs net.arcs) ∙ ap (λ (es : List Ends). take 511 (drop (511 * i) es)) (sym same.ends) ∙ sym (part-map ends_of (511 * i) 511 (take h.arcs frozen.arcs))) (holds.each i lt);
}

-- ---- the new slot is current

twice : (slot : Slot) → other (other slot) ≡ slot
twice A = refl
twice B = refl

-- The ends of the first arcs are those of each network that leads to the same.
same_first : (n : ℕ) (net from to : Net) (cs ds : List (List Command)) → n ≤ length net.arcs → n ≤ length from.arcs → after net cs ≡ Some to → after from ds ≡ Some to → SameFirst n from net
same_first n net from to cs ds many few goes leads =
    let a = first_kept n net to many (after_ends net to cs goes) in
    let b = first_kept n from to few (after_ends from to ds leads) in
    record { nodes = sym b.nodes ∙ a.nodes; room = sym b.room ∙ a.room; ends = sym b.ends ∙ a.ends }

pub leads_beside : (pages pages' : ℕ → List ℕ) (h : Header) (slot : Slot) (from net : Net) (w r v q : ℕ) (behind : List (List (List Command))) → SameBeside h (other slot) pages pages'
    → LeadsTo pages h from w r behind net v q → LeadsTo pages' h from w r behind net v q
leads_beside pages pages' h slot from net w r v q behind same leads = record {
  held = journal_kept pages pages' h slot same r w behind leads.held;
  network = leads.network;
  version_is = leads.version_is;
  next_is = leads.next_is;
}

pub slot_leads_on : OpenSlotIsCurrent
slot_leads_on file file' s net from v q epoch w r behind old outside opened later leads few holds =
    let same : SameBeside s.header (other s.slot) (page file) (page file') = outside_pages (head_page_at s.header (other s.slot)) (slot_pages s.header + 1) file file' outside in
    let is = old.is in
    let gives = old.gives in
    let new_epoch : first_field (page file' (head_page_at s.header (other s.slot))) ≡ epoch =
    (head_read s.header (page file' (head_page_at s.header (other s.slot))) (head_of (with_other_slot s epoch from w r behind)) is.header.fits holds.head_is).epoch in
    let old_epoch : first_field (page file' (head_page_at s.header s.slot)) ≡ s.epoch =
    ap first_field (same_head_page (page file) (page file') s.header s.slot same) ∙ (head_read s.header (page file (head_page_at s.header s.slot)) (head_of s) is.header.fits is.held.head_is).epoch in
    let greater : first_field (page file' (head_page_at s.header s.slot)) < first_field (page file' (head_page_at s.header (other s.slot))) = omega (arith, new_epoch, old_epoch, later) in
    let free : is_standing (page file) s.header q ≡ false = subst (λ (n : ℕ). is_standing (page file) s.header n ≡ false) (sym old.next_is) (next_is_free (length file) (page file) s is) in
    let stores : Stores (length file) (page file') (with_other_slot s epoch from w r behind) = record {
      header = subst (λ (p : List ℕ). SpelledHeader p s.header) (sym (same_front (page file) (page file') s.header s.slot same)) is.header;
      opened = subst (λ (p : List ℕ). is_open p ≡ true) (sym (same_front (page file) (page file') s.header s.slot same)) is.opened;
      size_is = is.size_is;
      arcs = arcs_of_frozen (page file') s.header s.network from holds.head_is.fits.arcs.0 (same_first s.header.arcs s.network from net (groups_of s) (flat_map (λ cs. cs) behind) is.arcs.count_from holds.head_is.fits.arcs.0 gives.network leads.network) (arcs_kept (page file) (page file') s.header s.slot same s.network is.arcs);
      current = record {
        opened = opened;
        above = λ o. subst (λ (t : Slot). first_field (page file' (head_page_at s.header t)) < first_field (page file' (head_page_at s.header (other s.slot)))) (sym (twice s.slot)) greater;
      };
      held = holds;
      journal = journal_kept (page file) (page file') s.header s.slot same r w behind leads.held;
      few = few;
      longest = λ lt. subst (λ (k : ℕ). is_standing (page file') s.header k ≡ false) leads.next_is (same_standing (page file) (page file') s.header s.slot same q ∙ free);
      versions_to = omega (arith, is.versions_to, gives.version_is, leads.version_is);
    } in
    record {
      is = subst (λ (n : ℕ). Stores n (page file') (with_other_slot s epoch from w r behind)) (sym outside.same_length) stores;
      gives = record { network = leads.network; version_is = leads.version_is };
      next_is = leads.next_is;
    }
