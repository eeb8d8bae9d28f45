-- What is read has no flaw: a network can be made of it.
use Rattle.std.proofs.Common.{◌≡◌, ◌∙◌, ◌⊎◌, ⊎_elim, ℕ, ◌+◌, ◌-◌, ◌*◌, ◌^◌, ◌<◌, ◌≤◌, true, false, not, ◌&&◌, List, [], ◌∷◌, ◌++◌, length, take, drop, Option, Some, None, Ok, refl, sym, ap, subst, arith}
use Rattle.std.specs.Prelude.{map, min}
use Rattle.std.specs.List.{AllByRecursion}
use Rattle.std.proofs.lemmas.Bool.Decides.{nat_tests}
use Rattle.std.proofs.lemmas.List.{take_all, length-drop}
use Rattle.roadnet.specs.declared.arcs.RoadArc.{RoadArc}
use Rattle.roadnet.specs.declared.refusals.Refusal.{Refusal}
use Rattle.roadnet.specs.declared.refusals.Refusal.TheVariants.{TooManyLandmarks, OutOfMemory}
use Rattle.roadnet.specs.Members.{set_of}
use Rattle.roadnet.specs.Net.{Net}
use Rattle.roadnet.specs.Made.{is_node_among, is_node_count, is_long, is_stray, has_long_arc, has_stray_end, has_stray_landmark, flaw_of, MayRefuseParts}
use Rattle.roadnet.proofs.Flaws.{flaw-none, neither}
use Rattle.pages.specs.declared.header.Header.{Header}
use Rattle.pages.specs.declared.content.Slot.{Slot}
use Rattle.pages.specs.Contents.{Head}
use Rattle.pages.specs.Spelling.{IsHeader, IsHead, IsEnds, IsWord, ends_of, word_of}
use Rattle.pages.specs.Layout.{Words, EndsOf, page_number, places_in_use, word_pages, end_pages}
use Rattle.storefile.specs.Judging.{spelled_at, arcs_in, words_in}
use Rattle.storefile.proofs.Sound.{arcs_spelled, words_spelled}
use Rattle.storefile.proofs.Opening.{both_ends}
use Rattle.checkpoint.specs.Loading.{EndsArePut, WordsArePut, ends_told, words_of_page, laid_of_page, net_of}
use Rattle.checkpoint.proofs.Ascending.{set_of_ascending}

-- ---- what a page spells is fit

is_found : {X : Type 0} (k : ℕ) (found : Option X) (x : X) → spelled_at k found ≡ Ok x → found ≡ Some x
is_found k None x e = absurd cc
is_found k (Some y) x e = cc

all_joined : {X : Type 0} (P : X → Type 0) (xs ys : List X) → AllByRecursion P xs → AllByRecursion P ys → AllByRecursion P (xs ++ ys)
all_joined P [] ys first second = second
all_joined P (x ∷ xs) ys first second = (first.0, all_joined P xs ys first.1 second)

-- the ends of one page more
pub more_ends : (h : Header) (i : ℕ) (bytes : List ℕ) (old new : List RoadArc) → EndsArePut (ends_told h i bytes) old new → AllByRecursion (IsEnds h.nodes) (map ends_of old) → AllByRecursion (IsEnds h.nodes) (map ends_of new)
more_ends h i bytes old new put before =
    let spelled = arcs_spelled h.nodes (places_in_use 511 i h.arcs) bytes put.ends (is_found (1 + i) (arcs_in h.nodes (places_in_use 511 i h.arcs) bytes) put.ends put.said_is) in
    subst (AllByRecursion (IsEnds h.nodes)) (sym put.put) (all_joined (IsEnds h.nodes) (map ends_of old) put.ends before spelled.fits)

-- the words of one page more
pub more_words : (h : Header) (slot : Slot) (m i : ℕ) (bytes : List ℕ) (old new : List RoadArc) → WordsArePut (words_of_page h slot m i bytes) old new → AllByRecursion IsWord (map word_of old) → AllByRecursion IsWord (map word_of new)
more_words h slot m i bytes old new put before =
    let spelled = words_spelled (places_in_use 1023 i m) bytes put.words (is_found (page_number h (Words slot i)) (words_in (places_in_use 1023 i m) bytes) put.words put.said_is) in
    subst (AllByRecursion IsWord) (sym put.put) (all_joined IsWord (map word_of old) put.words before spelled.fits)

-- of no page
pub none_yet : (m : ℕ) (arcs : List RoadArc) → AllByRecursion IsWord (map word_of (take (min (1023 * 0) m) arcs))
none_yet m arcs =
    let none : 0 ≡ min (1023 * 0) m = omega arith in
    subst (λ (n : ℕ). AllByRecursion IsWord (map word_of (take n arcs))) none tt

-- behind the last page
pub whole_fits : (h : Header) (m : ℕ) (arcs : List RoadArc) (i : ℕ) → word_pages h ≤ i → length arcs ≡ m → m ≤ h.room → AllByRecursion IsWord (map word_of (take (min (1023 * i) m) arcs)) → AllByRecursion IsWord (map word_of arcs)
whole_fits h m arcs i past count within fit =
    let whole : length arcs ≤ min (1023 * i) m = omega arith in
    subst (λ (xs : List RoadArc). AllByRecursion IsWord (map word_of xs)) (take_all (min (1023 * i) m) arcs whole) fit

-- the ends of one page more
pub more_laid : (h : Header) (slot : Slot) (m i : ℕ) (bytes : List ℕ) (old new : List RoadArc) → EndsArePut (laid_of_page h slot m i bytes) old new → AllByRecursion (IsEnds h.nodes) (map ends_of old) → AllByRecursion (IsEnds h.nodes) (map ends_of new)
more_laid h slot m i bytes old new put before =
    let spelled = arcs_spelled h.nodes (places_in_use 511 i (m - h.arcs)) bytes put.ends (is_found (page_number h (EndsOf slot i)) (arcs_in h.nodes (places_in_use 511 i (m - h.arcs)) bytes) put.ends put.said_is) in
    subst (AllByRecursion (IsEnds h.nodes)) (sym put.put) (all_joined (IsEnds h.nodes) (map ends_of old) put.ends before spelled.fits)

pub none_laid : (h : Header) (m : ℕ) (arcs : List RoadArc) → AllByRecursion (IsEnds h.nodes) (map ends_of (take (min (511 * 0) (m - h.arcs)) (drop h.arcs arcs)))
none_laid h m arcs =
    let none : 0 ≡ min (511 * 0) (m - h.arcs) = omega arith in
    subst (λ (n : ℕ). AllByRecursion (IsEnds h.nodes) (map ends_of (take n (drop h.arcs arcs)))) none tt

-- the first arcs and the laid ones
pub all_ends : (h : Header) (m : ℕ) (arcs : List RoadArc) (i : ℕ) → end_pages h ≤ i → length arcs ≡ m → m ≤ h.room → AllByRecursion (IsEnds h.nodes) (map ends_of (take h.arcs arcs))
    → AllByRecursion (IsEnds h.nodes) (map ends_of (take (min (511 * i) (m - h.arcs)) (drop h.arcs arcs))) → AllByRecursion (IsEnds h.nodes) (map ends_of arcs)
all_ends h m arcs i past count within first laid =
    let whole : length (drop h.arcs arcs) ≤ min (511 * i) (m - h.arcs) = omega (arith, length-drop h.arcs arcs) in
    let others = subst (λ (xs : List RoadArc). AllByRecursion (IsEnds h.nodes) (map ends_of xs)) (take_all (min (511 * i) (m - h.arcs)) (drop h.arcs arcs) whole) laid in
    subst (AllByRecursion (IsEnds h.nodes)) (both_ends h.arcs arcs) (all_joined (IsEnds h.nodes) (map ends_of (take h.arcs arcs)) (map ends_of (drop h.arcs arcs)) first others)

-- ---- parts without a flaw

is_short : (arc : RoadArc) → arc.length < 2 ^ 31 → is_long arc ≡ false
is_short arc lt = grind (arith, nat_tests)

none_long : (arcs : List RoadArc) → AllByRecursion IsWord (map word_of arcs) → has_long_arc arcs ≡ false
none_long [] fit = refl
none_long (arc ∷ arcs) fit = neither (is_long arc) (has_long_arc arcs) (is_short arc fit.0) (none_long arcs fit.1)

is_among : (nodes x : ℕ) → 1 ≤ x → x ≤ nodes → is_node_among nodes x ≡ true
is_among nodes x from to = grind (arith, nat_tests)

both_among : (nodes x y : ℕ) → is_node_among nodes x ≡ true → is_node_among nodes y ≡ true → not (is_node_among nodes x && is_node_among nodes y) ≡ false
both_among nodes x y first second = rw (first, second) refl

none_stray : (nodes : ℕ) (arcs : List RoadArc) → AllByRecursion (IsEnds nodes) (map ends_of arcs) → has_stray_end nodes arcs ≡ false
none_stray nodes [] fit = refl
none_stray nodes (arc ∷ arcs) fit =
    neither (is_stray nodes arc) (has_stray_end nodes arcs)
    (both_among nodes arc.tail arc.head (is_among nodes arc.tail fit.0.tail_from fit.0.tail_to) (is_among nodes arc.head fit.0.head_from fit.0.head_to))
    (none_stray nodes arcs fit.1)

all_nodes : (nodes : ℕ) (xs : List ℕ) → AllByRecursion (λ x. (1 ≤ x) × (x ≤ nodes)) xs → has_stray_landmark nodes xs ≡ false
all_nodes nodes [] fit = refl
all_nodes nodes (x ∷ xs) fit = neither (not (is_node_among nodes x)) (has_stray_landmark nodes xs) (ap not (is_among nodes x fit.0.0 fit.0.1)) (all_nodes nodes xs fit.1)

fit_count : (nodes : ℕ) → 1 ≤ nodes → nodes ≤ 33554432 → is_node_count nodes ≡ true
fit_count nodes from to = grind (arith, nat_tests)

no_flaw : (h : Header) (arcs : List RoadArc) (head : Head) → IsHeader h → IsHead h head → length arcs ≡ head.arcs → AllByRecursion (IsEnds h.nodes) (map ends_of arcs) → AllByRecursion IsWord (map word_of arcs)
    → flaw_of h.nodes arcs head.landmarks ≡ None
no_flaw h arcs head fits is count ends words =
    let few : length arcs ≤ 67108864 = omega (arith, count, is.arcs.1, fits.room_to) in
    let all : set_of head.landmarks ≡ head.landmarks = set_of_ascending head.landmarks is.ascending in
    let landmarks_to : length (set_of head.landmarks) ≤ 1000 = omega (arith, ap length all, is.numbers.count_to) in
    flaw-none h.nodes arcs head.landmarks (fit_count h.nodes fits.some_node fits.nodes_to) few (none_long arcs words)
    (neither (has_stray_end h.nodes arcs) (has_stray_landmark h.nodes head.landmarks) (none_stray h.nodes arcs ends) (all_nodes h.nodes head.landmarks is.each)) landmarks_to

is_not_some : (refusal : Refusal) → ¬ (None ≡ Some refusal)
is_not_some refusal e = absurd cc

want_of_memory : (h : Header) (arcs : List RoadArc) (head : Head) (refusal : Refusal) → IsHeader h → IsHead h head → length arcs ≡ head.arcs → AllByRecursion (IsEnds h.nodes) (map ends_of arcs) → AllByRecursion IsWord (map word_of arcs)
    → MayRefuseParts h.nodes arcs head.landmarks refusal → refusal ≡ OutOfMemory
want_of_memory h arcs head refusal fits is count ends words may =
    ⊎_elim
    (λ (flaw : flaw_of h.nodes arcs head.landmarks ≡ Some refusal). absurd (is_not_some refusal (sym (no_flaw h arcs head fits is count ends words) ∙ flaw)))
    (λ (memory : (refusal ≡ OutOfMemory) × (0 < length head.landmarks) × ((flaw_of h.nodes arcs head.landmarks ≡ None) ⊎ (flaw_of h.nodes arcs head.landmarks ≡ Some TooManyLandmarks))). memory.0)
    may

-- The network that is made of them has room for its own arcs.
pub as_parts : (h : Header) (arcs : List RoadArc) (head : Head) (net : Net) (landmarks : List ℕ) → IsHead h head → landmarks ≡ head.landmarks
    → net ≡ record { nodes = h.nodes; arcs = arcs; landmarks = set_of landmarks; room = length arcs } → net ≡ net_of h arcs head (length arcs)
as_parts h arcs head net landmarks is same made =
    made ∙ ap (λ (xs : List ℕ). record { nodes = h.nodes; arcs = arcs; landmarks = xs; room = length arcs }) (ap set_of same ∙ set_of_ascending head.landmarks is.ascending)

-- Of such parts a network is refused for want of memory alone.
pub for_memory : (h : Header) (arcs : List RoadArc) (head : Head) (landmarks : List ℕ) (refusal : Refusal) → IsHeader h → IsHead h head → length arcs ≡ head.arcs → AllByRecursion (IsEnds h.nodes) (map ends_of arcs)
    → AllByRecursion IsWord (map word_of arcs) → landmarks ≡ head.landmarks → MayRefuseParts h.nodes arcs landmarks refusal → refusal ≡ OutOfMemory
for_memory h arcs head landmarks refusal fits is count ends words same may =
    want_of_memory h arcs head refusal fits is count ends words (subst (λ (xs : List ℕ). MayRefuseParts h.nodes arcs xs refusal) same may)
