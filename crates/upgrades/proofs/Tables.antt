-- Counts of arcs, over their numbers and over tables of their counterparts.
use Rattle.std.proofs.Common.{◌≡◌, ◌≢◌, ◌∙◌, ℕ, zero, suc, ◌+◌, ◌-◌, ◌*◌, ◌<◌, ◌≤◌, Bool, true, false, not, ◌&&◌, cond, eqb, ltb, List, [], ◌∷◌, length, get_or, take, drop, Option, Some, refl, ap, sym, subst, arith, inl, inr}
use Rattle.std.specs.Option.{option_map_or}
use Rattle.std.specs.List.{filter, range_with_len, slice_range, count_by}
use Rattle.std.proofs.lemmas.Bool.{cases_Bool, cases_eq, eqb-true, eq-eqb, ne_eqb, lt-ltb, and_left, and_right, and_parts, ltb-true, cases_lt}
use Rattle.std.proofs.lemmas.List.{length-drop, get_or-drop, get_or_default, take_all}
use Rattle.std.proofs.lemmas.List.Elements.{Contains-get_or}
use Rattle.std.proofs.lemmas.List.FromFn.{length-range_with_len, get_or-range_with_len}
use Rattle.std.proofs.lemmas.List.Sorted.{sum_by-IsPermutation}
use Rattle.std.proofs.lemmas.List.Sums.{count_by_more_yes, count_by_more_no, sum_by-cons}
use Rattle.std.proofs.lemmas.Option.{slice_get-get_or}
use Rattle.roadnet.specs.declared.arcs.RoadArc.{RoadArc}
use Rattle.roadnet.specs.Net.{Net, IsNetwork, nth}
use Rattle.upgrades.specs.Counterparts.{part_of, AreCounterparts}
use Rattle.upgrades.specs.Laws.{EachIsCounted}
use Rattle.upgrades.specs.Ordered.{pair_at, AreByEnds}
use Rattle.upgrades.specs.Upgrading.{agree, lacks, parallels, place_among, arcs_kept, arcs_alone}
use Rattle.upgrades.proofs.Joining.{contains_itself, few_arcs, parallels_rise, parallels_sorted, parallels_within, short_head, some_tail}
use Rattle.upgrades.proofs.Matching.{IsGroup, group_is, length_slice, part_by}
use Rattle.upgrades.proofs.Rising.{Contains-filter}
use Rattle.upgrades.proofs.Sorting.{lower_before, value_ascends}

-- ---- counting
pub count_same : {X Y : Type 0} (p : X → Bool) (q : Y → Bool) (xs : List X) (ys : List Y) → length xs ≡ length ys → ((k : ℕ) (d : X) (e : Y) → k < length ys → p (get_or xs k d) ≡ q (get_or ys k e)) → count_by p xs ≡ count_by q ys
count_same p q [] [] same each = refl
count_same p q [] (y ∷ ys) same each = absurd (omega (arith, same))
count_same p q (x ∷ xs) [] same each = absurd (omega (arith, same))
count_same p q (x ∷ xs) (y ∷ ys) same each =
    let first : p x ≡ q y = each zero x y (omega arith) in
    let rest : count_by p xs ≡ count_by q ys = count_same p q xs ys (omega (arith, same)) (λ k d e lt. each (suc k) d e (omega (arith, lt))) in
    sum_by-cons (λ a. cond (p a) 1 0) x xs ∙ (ap (λ (b : Bool). cond b 1 0 + count_by p xs) first ∙ (ap (λ (n : ℕ). cond (q y) 1 0 + n) rest ∙ sym (sum_by-cons (λ b. cond (q b) 1 0) y ys)))

one_way : (a b : Bool) → (a && b) ≡ false → cond a 1 0 + cond b 1 0 + cond (not a && not b) 1 0 ≡ 1
one_way true true e = absurd (let absurdity : ⊥ = cc in absurdity)
one_way true false e = refl
one_way false true e = refl
one_way false false e = refl

three_ways : {X : Type 0} (p q : X → Bool) (xs : List X) → ((k : ℕ) (d : X) → k < length xs → (p (get_or xs k d) && q (get_or xs k d)) ≡ false)
    → count_by p xs + count_by q xs + count_by (λ x. not (p x) && not (q x)) xs ≡ length xs
three_ways p q [] apart = refl
three_ways p q (x ∷ xs) apart =
    let rest : count_by p xs + count_by q xs + count_by (λ x. not (p x) && not (q x)) xs ≡ length xs = three_ways p q xs (λ k d lt. apart (suc k) d (omega (arith, lt))) in
    let here : cond (p x) 1 0 + cond (q x) 1 0 + cond (not (p x) && not (q x)) 1 0 ≡ 1 = one_way (p x) (q x) (apart zero x (omega arith)) in
    omega (arith, rest, here, sum_by-cons (λ a. cond (p a) 1 0) x xs, sum_by-cons (λ a. cond (q a) 1 0) x xs, sum_by-cons (λ a. cond (not (p a) && not (q a)) 1 0) x xs)

-- the arc at a place of the list
at_place : (arcs : List RoadArc) (k : ℕ) (d : RoadArc) → k < length arcs → nth arcs (suc k) ≡ Some (get_or arcs k d)
at_place arcs k d lt = slice_get-get_or arcs k d lt

-- an arc is among its parallel ones, so there is one
pub some_parallel : (arcs : List RoadArc) (k : ℕ) (arc : RoadArc) → nth arcs k ≡ Some arc → 0 < length (parallels arcs arc.tail arc.head)
some_parallel arcs k arc at = let found = contains_itself arcs k arc at in let lt = found.1 in omega (arith, lt)

pub each_is_counted : EachIsCounted
each_is_counted stored new = three_ways (λ (arc : RoadArc). agree stored new arc.tail arc.head) (λ (arc : RoadArc). lacks stored arc.tail arc.head) new (λ k d lt.
    let arc = get_or new k d in
    let some : 0 < length (parallels new arc.tail arc.head) = some_parallel new (suc k) arc (at_place new k d lt) in
    elim (cases_Bool (agree stored new arc.tail arc.head)) [
      | inl holds ↦
          let same : length (parallels stored arc.tail arc.head) ≡ length (parallels new arc.tail arc.head) = eqb-true _ _ holds in
          and_right (agree stored new arc.tail arc.head) (lacks stored arc.tail arc.head) (ne_eqb _ _ (λ e. omega (arith, some, same, e)))
      | inr fails ↦ and_left (agree stored new arc.tail arc.head) (lacks stored arc.tail arc.head) fails
    ])

-- ---- the arcs with a counterpart
pub place_within : (arcs : List RoadArc) (k : ℕ) (arc : RoadArc) → nth arcs k ≡ Some arc
    → (place_among (parallels arcs arc.tail arc.head) k < length (parallels arcs arc.tail arc.head)) × (get_or (parallels arcs arc.tail arc.head) (place_among (parallels arcs arc.tail arc.head) k) 0 ≡ k)
place_within arcs k arc at =
    let xs = parallels arcs arc.tail arc.head in
    let found = contains_itself arcs k arc at in
    let i = found.0 in
    let lt : i < length xs = found.1 in
    let is : get_or xs i 0 ≡ k = get_or_default xs i 0 k lt ∙ found.2 in
    let place : place_among xs k ≡ i = ap (place_among xs) (sym is) ∙ lower_before xs i (parallels_rise arcs arc.tail arc.head) lt in
    (omega (arith, lt, place), ap (λ (m : ℕ). get_or xs m 0) place ∙ is)

has_part : (stored new : List RoadArc) (k : ℕ) (arc : RoadArc) → nth new k ≡ Some arc → not (eqb (part_of stored new k) 0) ≡ agree stored new arc.tail arc.head
has_part stored new k arc at =
    ap (λ (n : ℕ). not (eqb n 0)) (part_by stored new k arc at)
    ∙ elim (cases_Bool (agree stored new arc.tail arc.head)) [
      | inl holds ↦
          let t = arc.tail in
          let h = arc.head in
          let same : length (parallels stored t h) ≡ length (parallels new t h) = eqb-true _ _ holds in
          let within = (place_within new k arc at).0 in
          let some = parallels_within stored t h (place_among (parallels new t h) k) 0 (omega (arith, same, within)) in
          let there : eqb (get_or (parallels stored t h) (place_among (parallels new t h) k) 0) 0 ≡ false = ne_eqb _ _ (λ e. let low = some.0 in omega (arith, low, e)) in
          ap (λ (b : Bool). not (eqb (cond b (get_or (parallels stored t h) (place_among (parallels new t h) k) 0) 0) 0)) holds ∙ (ap not there ∙ sym holds)
      | inr fails ↦ ap (λ (b : Bool). not (eqb (cond b (get_or (parallels stored arc.tail arc.head) (place_among (parallels new arc.tail arc.head) k) 0) 0) 0)) fails ∙ sym fails
    ]

pub kept_is : (stored new : List RoadArc) (parts : List ℕ) → AreCounterparts stored new parts → count_by (λ part. not (eqb part 0)) (drop 1 parts) ≡ arcs_kept stored new
kept_is stored new parts are =
    count_same (λ part. not (eqb part 0)) (λ (arc : RoadArc). agree stored new arc.tail arc.head) (drop 1 parts) new (omega (arith, length-drop 1 parts, are.count)) (λ k d e lt.
    let within : k < length (drop 1 parts) = omega (arith, length-drop 1 parts, are.count, lt) in
    let number : 1 + k ≡ suc k = omega arith in
    let at : get_or (drop 1 parts) k d ≡ part_of stored new (suc k) =
    get_or_default (drop 1 parts) k d 0 within ∙ (get_or-drop 1 parts k 0 ∙ (ap (λ (m : ℕ). get_or parts m 0) number ∙ are.each (suc k) (omega arith) (omega (arith, lt)))) in
    ap (λ (n : ℕ). not (eqb n 0)) at ∙ has_part stored new (suc k) (get_or new k e) (at_place new k e lt))

-- ---- the arcs whose ends no other has
-- no arc of the other network, whose sorted numbers these are, has the ends of arc k
abbrev pub is_alone : Net → Net → List ℕ → ℕ → Bool
is_alone network other others k = eqb (length (filter (λ j. eqb (pair_at other.arcs j) (pair_at network.arcs k)) others)) 0

-- those among the first numbers are counted; the other's arcs before place `from` are behind
pub record IsCounted (network other : Net) (numbers others : List ℕ) (count from index : ℕ) : Type 0 where
  pub within : from ≤ length others
  pub passed : (i : ℕ) → i < from → index < length numbers → pair_at other.arcs (get_or others i 0) < pair_at network.arcs (get_or numbers index 0)
  pub count_is : count ≡ count_by (is_alone network other others) (take index numbers)
  pub few : count ≤ index

module _ (network other : Net) (is_network : IsNetwork network) (is_other : IsNetwork other) (numbers others : List ℕ) (sorted : AreByEnds network.arcs numbers) (others_sorted : AreByEnds other.arcs others) where
  alone_by_arc : (k : ℕ) (arc : RoadArc) → nth network.arcs k ≡ Some arc → is_alone network other others k ≡ lacks other.arcs arc.tail arc.head
  alone_by_arc k arc at =
      let pair : pair_at network.arcs k ≡ arc.tail * 4294967296 + arc.head = ap (λ (o : Option RoadArc). option_map_or (λ (a : RoadArc). a.tail * 4294967296 + a.head) o 0) at in
      ap (λ (q : ℕ). eqb (length (filter (λ j. eqb (pair_at other.arcs j) q) others)) 0) pair
      ∙ ap (λ (xs : List ℕ). eqb (length xs) 0) (sym (parallels_sorted other is_other others others_sorted arc.tail arc.head (some_tail network is_network k arc at) (short_head network is_network k arc at)))

  pub alone_is : count_by (is_alone network other others) numbers ≡ arcs_alone network.arcs other.arcs
  alone_is =
      let long = length-range_with_len 1 (length network.arcs) in
      sum_by-IsPermutation (λ k. cond (is_alone network other others k) 1 0) (range_with_len 1 (length network.arcs)) numbers sorted.all
      ∙ count_same (is_alone network other others) (λ (arc : RoadArc). lacks other.arcs arc.tail arc.head) (range_with_len 1 (length network.arcs)) network.arcs long (λ k d e lt.
      let number : 1 + k ≡ suc k = omega arith in
      ap (is_alone network other others) (get_or-range_with_len 1 (length network.arcs) k d lt ∙ number) ∙ alone_by_arc (suc k) (get_or network.arcs k e) (at_place network.arcs k e lt))

  pub counted_none : IsCounted network other numbers others 0 0 0
  counted_none = record {
    within = omega arith;
    passed = λ i lt rest. absurd (omega (arith, lt));
    count_is = refl;
    few = omega arith;
  }

  module _ (count from index pair from' : ℕ) (so_far : IsCounted network other numbers others count from index) (lt : index < length numbers) (is : pair ≡ pair_at network.arcs (get_or numbers index 0)) (after : from ≤ from') (within : from' ≤ length others)
      (passed : (k : ℕ) → from ≤ k → k < from' → pair_at other.arcs (get_or others k 0) < pair) (stopped : from' < length others → pair ≤ pair_at other.arcs (get_or others from' 0)) where
    behind : (k : ℕ) → k < from' → pair_at other.arcs (get_or others k 0) < pair
    behind k less = elim (cases_lt k from) [ inl early ↦ (let low = so_far.passed k early lt in omega (arith, low, is)) | inr late ↦ passed k late less ]

    passed_next : (i : ℕ) → i < from' → index + 1 < length numbers → pair_at other.arcs (get_or others i 0) < pair_at network.arcs (get_or numbers (index + 1) 0)
    passed_next i less rest =
        let low = behind i less in
        let up : pair_at network.arcs (get_or numbers index 0) ≤ pair_at network.arcs (get_or numbers (index + 1) 0) = value_ascends (pair_at network.arcs) (length network.arcs) numbers sorted.all sorted.ascending (few_arcs network is_network) index (index + 1) (omega arith) rest in
        omega (arith, low, up, is)

    not_alone : from' < length others → pair_at other.arcs (get_or others from' 0) ≡ pair → is_alone network other others (get_or numbers index 0) ≡ false
    not_alone there same =
        let found = Contains-filter (λ j. eqb (pair_at other.arcs j) (pair_at network.arcs (get_or numbers index 0))) others (get_or others from' 0) (eq-eqb _ _ (same ∙ is)) (Contains-get_or others from' 0 there) in
        let some = found.1 in
        ne_eqb _ _ (λ e. omega (arith, some, e))

    alone_here : (from' < length others → pair_at other.arcs (get_or others from' 0) ≢ pair) → is_alone network other others (get_or numbers index 0) ≡ true
    alone_here other_ends =
        let group : IsGroup other.arcs others pair from' from' = record {
          order = omega arith;
          within = within;
          below = behind;
          here = λ k low high. absurd (omega (arith, low, high));
          above = λ k low high.
              let up : pair_at other.arcs (get_or others from' 0) ≤ pair_at other.arcs (get_or others k 0) = value_ascends (pair_at other.arcs) (length other.arcs) others others_sorted.all others_sorted.ascending (few_arcs other is_other) from' k low high in
              let least = stopped (omega (arith, low, high)) in
              elim (cases_eq (pair_at other.arcs (get_or others from' 0)) pair) [ inl e ↦ absurd (other_ends (omega (arith, low, high)) e) | inr ne ↦ omega (arith, up, least, ne) ];
        } in
        let none : filter (λ j. eqb (pair_at other.arcs j) pair) others ≡ slice_range others from' from' = group_is other.arcs others pair from' from' group in
        let empty : length (slice_range others from' from') ≡ from' - from' = length_slice others from' from' (omega arith) within in
        eq-eqb _ _ (ap (λ (q : ℕ). length (filter (λ j. eqb (pair_at other.arcs j) q) others)) (sym is) ∙ (ap length none ∙ (empty ∙ omega arith)))

    abbrev has : Bool
    has = ltb from' (length others) && eqb (pair_at other.arcs (get_or others from' 0)) pair

    pub counted_yes : has ≡ false → IsCounted network other numbers others (count + 1) from' (index + 1)
    counted_yes fails = record {
      within = within;
      passed = passed_next;
      count_is = ap (λ (n : ℕ). n + 1) so_far.count_is ∙ sym (count_by_more_yes (is_alone network other others) numbers index 0 lt (alone_here (λ there same.
          let holds : has ≡ true = rw (lt-ltb _ _ there, eq-eqb _ _ same) refl in
          let absurdity : ⊥ = cc in absurdity)));
      few = let few = so_far.few in omega (arith, few);
    }

    pub counted_no : has ≡ true → IsCounted network other numbers others count from' (index + 1)
    counted_no holds =
        let parts = and_parts (ltb from' (length others)) (eqb (pair_at other.arcs (get_or others from' 0)) pair) holds in
        record {
          within = within;
          passed = passed_next;
          count_is = so_far.count_is ∙ sym (count_by_more_no (is_alone network other others) numbers index 0 lt (not_alone (ltb-true _ _ parts.0) (eqb-true _ _ parts.1)));
          few = let few = so_far.few in omega (arith, few);
        }

    pub counted_more : (missing : ℕ) → missing ≡ cond has 0 1 → IsCounted network other numbers others (count + missing) from' (index + 1)
    counted_more missing told = subst (λ (m : ℕ). IsCounted network other numbers others (count + m) from' (index + 1)) (sym told) (elim (cases_Bool has) [
      | inl there ↦
          let same : count + cond has 0 1 ≡ count = ap (λ (b : Bool). count + cond b 0 1) there ∙ omega arith in
          subst (λ (m : ℕ). IsCounted network other numbers others m from' (index + 1)) (sym same) (counted_no there)
      | inr none ↦
          let one : count + cond has 0 1 ≡ count + 1 = ap (λ (b : Bool). count + cond b 0 1) none in
          subst (λ (m : ℕ). IsCounted network other numbers others m from' (index + 1)) (sym one) (counted_yes none)
    ])

  pub counted_all : (count from index : ℕ) → length numbers ≤ index → IsCounted network other numbers others count from index → count ≡ arcs_alone network.arcs other.arcs
  counted_all count from index end so_far = so_far.count_is ∙ (ap (count_by (is_alone network other others)) (take_all index numbers end) ∙ alone_is)
