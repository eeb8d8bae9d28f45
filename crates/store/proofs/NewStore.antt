-- What the file of a new store stands for.
use Rattle.std.proofs.Common.{◌≡◌, ◌≢◌, ℕ, ◌+◌, ◌-◌, ◌*◌, ◌%◌, ◌^◌, ◌<◌, ◌≤◌, true, false, List, [], ◌∷◌, length, take, drop, map, Some, refl, sym, ◌∙◌, ap, subst, arith, length-take, length-drop}
use Rattle.std.specs.List.{All, AllByRecursion}
use Rattle.std.proofs.lemmas.List.{length-map, take_all}
use Rattle.std.proofs.lemmas.List.Elements.{All-take, All-drop, recursion_from_All, All-from_recursion}
use Rattle.std.proofs.Math.Nat.{mod-lt}
use Rattle.roadnet.specs.declared.arcs.RoadArc.{RoadArc}
use Rattle.roadnet.specs.Net.{Net, IsNetwork, IsArcAmong}
use Rattle.pages.specs.declared.header.Header.{Header}
use Rattle.pages.specs.declared.content.Slot.TheVariants.{A, B}
use Rattle.pages.specs.declared.content.Format.TheVariants.{Two}
use Rattle.pages.specs.Limits.{most_versions}
use Rattle.pages.specs.Spelling.{zeros, page_of, body, header_page, IsHeader, IsEnds, ends_of, SpelledArcs, IsWord, word_of, head_page}
use Rattle.pages.specs.Layout.{Front, Arcs, HeadOf, Words, EndsOf, Journal, places_in_use, slot_pages, page_number}
use Rattle.storefile.specs.StoreFile.{page, part, is_open, journal_page_at, is_standing, Stored, Stores, HoldsArcs, HoldsSlot, HoldsNetwork, StandsTidyFor, head_of}
use Rattle.storefile.specs.Standing.{IsStoredAs, IsTidyAt, standing_of, HasFitStoreNumbers}
use Rattle.storefile.proofs.PageBytes.{gate_pages, gate_body, gate_opens, gate_length}
use Rattle.storefile.proofs.Rests.{standing_is}
use Rattle.store.specs.Created.{header_of, first_head, blank_page, IsLaidOut, with_gate}

-- ---- what holds of each arc holds of those of a page

from_all : {X : Type 0} (P : X → Type 0) (places i : ℕ) (xs : List X) → All P xs → All P (part places i xs)
from_all P places i xs h = All-take P places (drop (places * i) xs) (All-drop P (places * i) xs h)

all_map : {X Y : Type 0} (f : X → Y) (P : Y → Type 0) (Q : X → Type 0) → ((x : X) → Q x → P (f x)) → (xs : List X) → AllByRecursion Q xs → AllByRecursion P (map f xs)
all_map f P Q each [] h = tt
all_map f P Q each (x ∷ xs) h = (each x h.0, all_map f P Q each xs h.1)

ends_fit : (nodes : ℕ) (arc : RoadArc) → IsArcAmong nodes arc → IsEnds nodes (ends_of arc)
ends_fit nodes arc is = record { tail_from = is.tail_from; tail_to = is.tail_to; head_from = is.head_from; head_to = is.head_to }

word_fits : (nodes : ℕ) (arc : RoadArc) → IsArcAmong nodes arc → IsWord (word_of arc)
word_fits nodes arc is = omega (arith, is.length_to)

short_from : (nodes : ℕ) (arcs : List RoadArc) → AllByRecursion (IsArcAmong nodes) arcs → AllByRecursion (λ arc. arc.length < 2 ^ 31) arcs
short_from nodes [] h = tt
short_from nodes (arc ∷ arcs) h = (omega (arith, h.0.length_to), short_from nodes arcs h.1)

-- no arc of a page is too long for its word
pub all_short : (net : Net) (places i : ℕ) → IsNetwork net → All (λ arc. arc.length < 2 ^ 31) (part places i net.arcs)
all_short net places i is = All-from_recursion (λ arc. arc.length < 2 ^ 31) (part places i net.arcs) (short_from net.nodes (part places i net.arcs) (recursion_from_All (IsArcAmong net.nodes) (part places i net.arcs) (from_all (IsArcAmong net.nodes) places i net.arcs is.each_arc)))

count_of : (places i : ℕ) (arcs : List RoadArc) → length (part places i arcs) ≡ places_in_use places i (length arcs)
count_of places i arcs = omega (arith, length-take places (drop (places * i) arcs), length-drop (places * i) arcs)

empty_list : (xs : List RoadArc) → length xs ≡ 0 → xs ≡ []
empty_list [] e = refl
empty_list (x ∷ xs) e = absurd cc

blank_closed : is_open blank_page ≡ false
unfolding page_of zeros
blank_closed = refl

pub sizes_fit : (net : Net) (j : ℕ) → IsNetwork net → 1 ≤ j → j ≤ 65536 → IsHeader (header_of net j)
sizes_fit net j is some few = record { some_node = is.some_node; nodes_to = is.nodes_to; arcs_to = is.arcs_to; room_to = is.room_to; room_fits = λ one. absurd cc; some_page = some; pages_to = few }

-- what a new store stores
abbrev pub first_stored : Net → ℕ → ℕ → Stored
first_stored net v j = record { header = header_of net j; slot = A; epoch = 1; version = v; sequence = 0; network = net; unchecked = [] }

module _ (file : List ℕ) (net : Net) (v j : ℕ) (few_versions : v ≤ most_versions) (network : IsNetwork net) (fits : IsHeader (header_of net j)) (laid : IsLaidOut file (header_of net j) net v) where
  abbrev h : Header
  h = header_of net j

  abbrev head_at : ℕ
  head_at = page_number h (HeadOf A)

  abbrev half : List ℕ
  half = with_gate file head_at

  abbrev pub whole : List ℕ
  whole = with_gate half 0

  first_fits : 4096 * head_at + 4096 ≤ length file
  first_fits = omega (arith, laid.size)

  half_length : length half ≡ length file
  half_length = gate_length head_at file first_fits

  second_fits : 4096 * 0 + 4096 ≤ length half
  second_fits = omega (arith, laid.size, half_length)

  whole_length : length whole ≡ length file
  whole_length = gate_length 0 half second_fits ∙ half_length

  other_page : (k : ℕ) → k ≢ 0 → k ≢ head_at → page whole k ≡ page file k
  other_page k no_front no_head = gate_pages 0 half second_fits k no_front ∙ gate_pages head_at file first_fits k no_head

  front_body : body (page whole 0) ≡ body (header_page h)
  front_body = gate_body 0 half second_fits ∙ ap body (gate_pages head_at file first_fits 0 (λ e. omega (arith, e)) ∙ laid.each Front tt)

  front_open : is_open (page whole 0) ≡ true
  front_open = gate_opens 0 half second_fits

  head_same : page whole head_at ≡ page half head_at
  head_same = gate_pages 0 half second_fits head_at (λ e. omega (arith, e))

  head_body : body (page whole head_at) ≡ body (head_page Two (first_head net v))
  head_body = ap body head_same ∙ gate_body head_at file first_fits ∙ ap body (laid.each (HeadOf A) tt)

  head_open : is_open (page whole head_at) ≡ true
  head_open = ap is_open head_same ∙ gate_opens head_at file first_fits

  other_closed : is_open (page whole (page_number h (HeadOf B))) ≡ false
  other_closed = ap is_open (other_page (page_number h (HeadOf B)) (λ e. omega (arith, e)) (λ e. omega (arith, e)) ∙ laid.each (HeadOf B) tt) ∙ blank_closed

  journal_closed : (q : ℕ) → is_open (page whole (journal_page_at h q)) ≡ false
  journal_closed q =
      let lt : q % j < j = mod-lt q (omega (arith, fits.some_page)) in
      ap is_open (other_page (journal_page_at h q) (λ e. omega (arith, e)) (λ e. omega (arith, e)) ∙ laid.each (Journal (q % j)) lt) ∙ blank_closed

  none_stands : (q : ℕ) → is_standing (page whole) h q ≡ false
  none_stands q = let closed : is_open (page whole (journal_page_at h q)) ≡ false = journal_closed q in rw closed refl

  all_arcs : take (length net.arcs) net.arcs ≡ net.arcs
  all_arcs = take_all (length net.arcs) net.arcs (omega arith)

  none_laid : (i : ℕ) → part 511 i (drop (length net.arcs) net.arcs) ≡ []
  none_laid i = empty_list (part 511 i (drop (length net.arcs) net.arcs))
      (omega (arith, length-take 511 (drop (511 * i) (drop (length net.arcs) net.arcs)), length-drop (511 * i) (drop (length net.arcs) net.arcs), length-drop (length net.arcs) net.arcs))

  holds_arcs : HoldsArcs (page whole) h net
  holds_arcs = record {
    nodes_are = refl;
    room_is = refl;
    count_from = omega arith;
    each = λ i lt. subst (λ (xs : List RoadArc). SpelledArcs net.nodes (places_in_use 511 i (length net.arcs)) (page whole (page_number h (Arcs i))) (map ends_of (part 511 i xs))) (sym all_arcs) (record {
      count_is = length-map (part 511 i net.arcs) ends_of ∙ count_of 511 i net.arcs;
      fits = all_map ends_of (IsEnds net.nodes) (IsArcAmong net.nodes) (ends_fit net.nodes) (part 511 i net.arcs) (recursion_from_All (IsArcAmong net.nodes) (part 511 i net.arcs) (from_all (IsArcAmong net.nodes) 511 i net.arcs network.each_arc));
      spelled = other_page (page_number h (Arcs i)) (λ e. omega (arith, e)) (λ e. omega (arith, e, lt)) ∙ laid.each (Arcs i) lt;
    });
  }

  holds_slot : HoldsSlot (page whole) h A (head_of (first_stored net v j)) net
  holds_slot = record {
    head_is = record {
      fits = record {
        numbers = record { epoch_from = omega arith; epoch_to = omega arith; sequence_to = omega arith; version_to = few_versions; count_to = network.landmarks_to };
        arcs = (omega arith, network.arcs_to);
        ascending = network.ascending;
        each = recursion_from_All (λ (x : ℕ). (1 ≤ x) × (x ≤ net.nodes)) net.landmarks network.each_landmark;
      };
      spelled = head_body;
    };
    words = λ i lt. record {
      count_is = length-map (part 1023 i net.arcs) word_of ∙ count_of 1023 i net.arcs;
      fits = all_map word_of IsWord (IsArcAmong net.nodes) (word_fits net.nodes) (part 1023 i net.arcs) (recursion_from_All (IsArcAmong net.nodes) (part 1023 i net.arcs) (from_all (IsArcAmong net.nodes) 1023 i net.arcs network.each_arc));
      spelled = other_page (page_number h (Words A i)) (λ e. omega (arith, e)) (λ e. omega (arith, e)) ∙ laid.each (Words A i) lt;
    };
    ends = λ i lt. subst (λ (xs : List RoadArc). SpelledArcs net.nodes (places_in_use 511 i (length net.arcs - length net.arcs)) (page whole (page_number h (EndsOf A i))) (map ends_of xs)) (sym (none_laid i)) (record {
      count_is = omega arith;
      fits = tt;
      spelled = other_page (page_number h (EndsOf A i)) (λ e. omega (arith, e)) (λ e. omega (arith, e)) ∙ laid.each (EndsOf A i) lt;
    });
  }

  stores : Stores (length whole) (page whole) (first_stored net v j)
  stores = record {
    header = record { fits = fits; spelled = front_body };
    opened = front_open;
    size_is = whole_length ∙ laid.size;
    arcs = holds_arcs;
    current = record { opened = head_open; above = λ o. let never : false ≡ true = sym other_closed ∙ o in absurd cc };
    held = holds_slot;
    journal = tt;
    few = omega arith;
    longest = λ lt. none_stands 0;
    versions_to = omega (arith, few_versions);
  }

  pub stands_by : HoldsNetwork whole (first_stored net v j) net v 0
  stands_by = record { is = stores; gives = record { network = refl; version_is = omega arith }; next_is = refl }

  pub tidy : IsTidyAt whole h 0
  tidy = λ q le. none_stands q

  pub stands_tidy : StandsTidyFor h.journal_pages (slot_pages h) whole net v
  stands_tidy = (first_stored net v j, 0, record { stands = stands_by; tidy = tidy }, refl, refl, refl)

  pub stored_as : IsStoredAs whole h A 1 net v 0 0
  stored_as = record { stored = first_stored net v j; stands = stands_by; header_is = refl; format_is = refl; slot_is = refl; epoch_is = refl; unchecked_is = refl }

  pub standing : standing_of whole ≡ Some (record { header = h; slot = A; epoch = 1; network = net; version = v; next = 0; unchecked = 0 })
  standing = standing_is whole h A 1 net v 0 0 stored_as

pub new_numbers : (h : Header) (v : ℕ) → IsHeader h → v ≤ most_versions → HasFitStoreNumbers h 1 v 0 0
new_numbers h v fits few = record { header = fits; version_to = few; next_to = omega arith; epoch_to = omega arith; unchecked_to = omega arith; unchecked_from = omega arith }

-- what `create` has made, whatever its disk
pub record IsCreated (content : List ℕ) (h : Header) (net : Net) (v : ℕ) : Type 0 where
  pub stands : StandsTidyFor h.journal_pages (slot_pages h) content net v
  pub tidy_at : IsTidyAt content h 0
  pub standing_is : standing_of content ≡ Some (record { header = h; slot = A; epoch = 1; network = net; version = v; next = 0; unchecked = 0 })

pub same_header : (net : Net) (j nodes room : ℕ) (arcs : List RoadArc) → nodes ≡ net.nodes → arcs ≡ net.arcs → room ≡ net.room → ◌≡◌ {A = Header} (record { format = Two; nodes = nodes; arcs = length arcs; room = room; journal_pages = j }) (header_of net j)
same_header net j nodes room arcs e f g = rw (e, f, g) refl

pub created : (content file : List ℕ) (h : Header) (net : Net) (v j : ℕ) → v ≤ most_versions → IsNetwork net → IsHeader (header_of net j) → h ≡ header_of net j → IsLaidOut file h net v → content ≡ with_gate (with_gate file (page_number h (HeadOf A))) 0
    → IsCreated content h net v
created content file h net v j few network fits is laid opened =
    let laid_as : IsLaidOut file (header_of net j) net v = subst (λ (x : Header). IsLaidOut file x net v) is laid in
    let opened_as : content ≡ whole file net v j few network fits laid_as = subst (λ (x : Header). content ≡ with_gate (with_gate file (page_number x (HeadOf A))) 0) is opened in
    let made : IsCreated (whole file net v j few network fits laid_as) (header_of net j) net v =
    record { stands = stands_tidy file net v j few network fits laid_as; tidy_at = tidy file net v j few network fits laid_as; standing_is = standing file net v j few network fits laid_as } in
    subst (λ (x : Header). IsCreated content x net v) (sym is) (subst (λ (d : List ℕ). IsCreated d (header_of net j) net v) (sym opened_as) made)
