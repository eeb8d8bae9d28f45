-- What a slot that is written means for the store's file.
use Rattle.std.proofs.Common.{◌≡◌, ◌⊎◌, inl, inr, ⊎_elim, ℕ, true, false, ◌+◌, ◌-◌, ◌*◌, ◌^◌, ◌<◌, ◌≤◌, List, [], ◌∷◌, length, drop, map, refl, sym, ◌∙◌, ap, subst, arith, length-take, length-drop}
use Rattle.std.specs.List.{All, AllByRecursion}
use Rattle.std.proofs.lemmas.List.{length-map}
use Rattle.std.proofs.lemmas.List.Elements.{All-take, All-drop, recursion_from_All, All-from_recursion}
use Rattle.disk.specs.Contents.{Only}
use Rattle.disk.specs.Gated.{IsGateOpen, IsShut, IsOldOrShut}
use Rattle.disk.proofs.Gates.{shut_wider}
use Rattle.roadnet.specs.declared.arcs.RoadArc.{RoadArc}
use Rattle.roadnet.specs.Net.{Net, IsNetwork, IsArcAmong}
use Rattle.pages.specs.declared.header.Header.{Header}
use Rattle.pages.specs.declared.content.Slot.{Slot}
use Rattle.pages.specs.Contents.{Head}
use Rattle.pages.specs.Spelling.{AreHeadNumbersFit, IsWord, IsEnds, ends_of, word_of}
use Rattle.std.specs.Prelude.{nat_lt}
use Rattle.std.proofs.lemmas.Bool.Decides.{nat_tests}
use Rattle.pages.specs.Layout.{EndsOf, page_number, places_in_use, word_pages}
use Rattle.storefile.specs.StoreFile.{page, part, HoldsSlot}
use Rattle.checkpoint.specs.Writing.{slot_at, slot_size, slot_gate, words_page, ends_page, slot_page, slot_page_at, HoldsPages, IsSlotShut, LeavesSlotShut, IsSlotWhole}

-- ---- a slot whose gate is closed

module _ (h : Header) (slot : Slot) where
  -- the gate alone was closed
  pub gate_shut : (old c : List ℕ) → IsShut (slot_gate h slot) 1 (slot_gate h slot) old c → IsSlotShut h slot old c
  gate_shut old c shut = shut_wider (slot_gate h slot) 1 (slot_at h slot) (slot_size h) (slot_gate h slot) old c (omega arith) (omega arith) shut

  -- while the gate is closed
  pub while_beginning : (old c : List ℕ) → IsOldOrShut old (slot_gate h slot) c → IsSlotShut h slot old c ⊎ (c ≡ old)
  while_beginning old c way = ⊎_elim (λ shut. inl (gate_shut old c shut)) (λ same. inr same) way

  -- the content itself, where its gate is closed
  pub shut_itself : (c : List ℕ) → (IsGateOpen (slot_gate h slot) c → ⊥) → IsSlotShut h slot c c
  shut_itself c closed = record { outside = record { same_length = refl; below = λ i lt. refl; above = λ i ge. refl }; closed = closed }

  pub rests_shut : (content : List ℕ) (left : List ℕ → Type 0) → Only content left → (IsGateOpen (slot_gate h slot) content → ⊥) → LeavesSlotShut h slot content left
  rests_shut content left only closed c was = subst (λ (d : List ℕ). IsSlotShut h slot content d) (sym (only c was)) (shut_itself content closed)

  pub no_pages : (pages : ℕ → List ℕ) (net : Net) → HoldsPages pages h slot net 0
  no_pages pages net i lt = absurd (omega arith)

-- ---- a slot that is whole

from_all : {X : Type 0} (P : X → Type 0) (places i : ℕ) (xs : List X) → All P xs → AllByRecursion P (part places i xs)
from_all P places i xs h = recursion_from_All P (part places i xs) (All-take P places (drop (places * i) xs) (All-drop P (places * i) xs h))

words_fit : (nodes : ℕ) (arcs : List RoadArc) → AllByRecursion (IsArcAmong nodes) arcs → AllByRecursion IsWord (map word_of arcs)
words_fit nodes [] h = tt
words_fit nodes (arc ∷ arcs) h = (omega (arith, h.0.length_to), words_fit nodes arcs h.1)

pub short_from : (nodes : ℕ) (arcs : List RoadArc) → AllByRecursion (IsArcAmong nodes) arcs → AllByRecursion (λ arc. arc.length < 2 ^ 31) arcs
short_from nodes [] h = tt
short_from nodes (arc ∷ arcs) h = (omega (arith, h.0.length_to), short_from nodes arcs h.1)

-- no arc of a page is too long for its word
pub all_short : (net : Net) (i : ℕ) → IsNetwork net → All (λ arc. arc.length < 2 ^ 31) (part 1023 i net.arcs)
all_short net i is = All-from_recursion (λ arc. arc.length < 2 ^ 31) (part 1023 i net.arcs) (short_from net.nodes (part 1023 i net.arcs) (from_all (IsArcAmong net.nodes) 1023 i net.arcs is.each_arc))

count_of : (i : ℕ) (arcs : List RoadArc) → length (part 1023 i arcs) ≡ places_in_use 1023 i (length arcs)
count_of i arcs = omega (arith, length-take 1023 (drop (1023 * i) arcs), length-drop (1023 * i) arcs)

end_count : (i : ℕ) (arcs : List RoadArc) (n : ℕ) → length (part 511 i (drop n arcs)) ≡ places_in_use 511 i (length arcs - n)
end_count i arcs n = omega (arith, length-take 511 (drop (511 * i) (drop n arcs)), length-drop (511 * i) (drop n arcs), length-drop n arcs)

ends_fit : (nodes : ℕ) (arcs : List RoadArc) → AllByRecursion (IsArcAmong nodes) arcs → AllByRecursion (IsEnds nodes) (map ends_of arcs)
ends_fit nodes [] h = tt
ends_fit nodes (arc ∷ arcs) h = (record { tail_from = h.0.tail_from; tail_to = h.0.tail_to; head_from = h.0.head_from; head_to = h.0.head_to }, ends_fit nodes arcs h.1)

-- the pages behind a head are the word pages, and then the end pages
is_words : (h : Header) (net : Net) (i : ℕ) → i < word_pages h → slot_page h net i ≡ words_page net i
is_words h net i lt = let t : nat_lt i (word_pages h) ≡ true = grind (arith, nat_tests) in rw t refl

is_ends : (h : Header) (net : Net) (i : ℕ) → slot_page h net (word_pages h + i) ≡ ends_page h net i
is_ends h net i =
    let t : nat_lt (word_pages h + i) (word_pages h) ≡ false = grind (arith, nat_tests) in
    let e : word_pages h + i - word_pages h ≡ i = omega arith in
    rw t (ap (ends_page h net) e)

end_place : (h : Header) (slot : Slot) (i : ℕ) → page_number h (EndsOf slot i) ≡ slot_page_at h slot (word_pages h + i)
end_place h slot i = omega arith

-- A slot that is written whole holds the network with this head.
pub holds_slot : (h : Header) (slot : Slot) (head : Head) (net : Net) (old c : List ℕ) → IsSlotWhole h slot head net old c → IsNetwork net → net.nodes ≡ h.nodes → net.room ≡ h.room → h.arcs ≤ length net.arcs
    → head.arcs ≡ length net.arcs → head.landmarks ≡ net.landmarks → AreHeadNumbersFit head.epoch head.version head.next_sequence (length head.landmarks) → HoldsSlot (page c) h slot head net
holds_slot h slot head net old c whole is nodes room from arcs same numbers = record {
  head_is = record {
    fits = record {
      numbers = numbers;
      arcs = (omega (arith, arcs, from), omega (arith, arcs, room, is.arcs_to));
      ascending = rw same is.ascending;
      each = rw (same, sym nodes) (recursion_from_All (λ (x : ℕ). (1 ≤ x) × (x ≤ net.nodes)) net.landmarks is.each_landmark);
    };
    spelled = whole.head_is;
  };
  words = λ i lt. record {
    count_is = length-map (part 1023 i net.arcs) word_of ∙ count_of i net.arcs;
    fits = words_fit net.nodes (part 1023 i net.arcs) (from_all (IsArcAmong net.nodes) 1023 i net.arcs is.each_arc);
    spelled = whole.pages i (omega (arith, lt)) ∙ is_words h net i lt;
  };
  ends = λ i lt. record {
    count_is = length-map (part 511 i (drop h.arcs net.arcs)) ends_of ∙ end_count i net.arcs h.arcs;
    fits = subst (λ (n : ℕ). AllByRecursion (IsEnds n) (map ends_of (part 511 i (drop h.arcs net.arcs)))) nodes
        (ends_fit net.nodes (part 511 i (drop h.arcs net.arcs)) (from_all (IsArcAmong net.nodes) 511 i (drop h.arcs net.arcs) (All-drop (IsArcAmong net.nodes) h.arcs net.arcs is.each_arc)));
    spelled = ap (page c) (end_place h slot i) ∙ whole.pages (word_pages h + i) (omega (arith, lt)) ∙ is_ends h net i;
  };
}
