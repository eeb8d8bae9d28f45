-- Parallel arcs that stand side by side in two sorted lists, and the counterparts that this tells.
use Rattle.std.proofs.Common.{◌≡◌, ◌≢◌, ◌∙◌, ℕ, ◌+◌, ◌-◌, ◌*◌, ◌<◌, ◌≤◌, Bool, true, false, cond, eqb, List, length, get_or, drop, set, Option, Some, None, slice_get, refl, ap, sym, subst, arith, inl, inr}
use Rattle.std.specs.Prelude.{option_and_then, unwrap_or}
use Rattle.std.specs.Option.{option_map_or}
use Rattle.std.specs.List.{filter, range_with_len, slice_range, All}
use Rattle.std.specs.List.Sorted.{IsStrictlyIncreasing}
use Rattle.std.proofs.lemmas.Bool.{cases_eq, cases_lt, eq-eqb, ne_eqb}
use Rattle.std.proofs.lemmas.List.{length-take, length-drop, get_or-take, get_or-drop, get_or_default, get_or-set_same, get_or-set_other}
use Rattle.std.proofs.lemmas.List.Elements.{All-take, All-drop}
use Rattle.std.proofs.lemmas.List.Sorted.{Contains-permutation}
use Rattle.std.proofs.lemmas.Option.{unwrap_or-slice_get}
use Rattle.roadnet.specs.declared.arcs.RoadArc.{RoadArc}
use Rattle.roadnet.specs.Net.{Net, IsNetwork, nth}
use Rattle.upgrades.specs.Counterparts.{part_of, SaysParts, AreCounterparts}
use Rattle.upgrades.specs.Ordered.{pair_at, AreByEnds}
use Rattle.upgrades.specs.Upgrading.{agree, parallels, place_among}
use Rattle.upgrades.proofs.Joining.{found_at, few_arcs, parallels_rise, parallels_sorted, short_head, some_tail}
use Rattle.upgrades.proofs.Sorting.{contains_range, lower_before, number_within, segment, value_ascends}

-- the arcs of these ends stand from place i up to place j
pub record IsGroup (arcs : List RoadArc) (numbers : List ℕ) (pair i j : ℕ) : Type 0 where
  pub order : i ≤ j
  pub within : j ≤ length numbers
  pub below : (k : ℕ) → k < i → pair_at arcs (get_or numbers k 0) < pair
  pub here : (k : ℕ) → i ≤ k → k < j → pair_at arcs (get_or numbers k 0) ≡ pair
  pub above : (k : ℕ) → j ≤ k → k < length numbers → pair < pair_at arcs (get_or numbers k 0)

pub group_is : (arcs : List RoadArc) (numbers : List ℕ) (pair i j : ℕ) → IsGroup arcs numbers pair i j → filter (λ k. eqb (pair_at arcs k) pair) numbers ≡ slice_range numbers i j
group_is arcs numbers pair i j group =
    segment (λ k. eqb (pair_at arcs k) pair) numbers i j group.order group.within
    (λ k lt. let low = group.below k lt in ne_eqb _ _ (λ e. omega (arith, low, e)))
    (λ k low high. eq-eqb _ _ (group.here k low high))
    (λ k low high. let up = group.above k low high in ne_eqb _ _ (λ e. omega (arith, up, e)))

-- from what is told of its two ends
pub group_from : (net : Net) → IsNetwork net → (numbers : List ℕ) → AreByEnds net.arcs numbers → (pair i j : ℕ) → i ≤ j → j ≤ length numbers
    → ((k : ℕ) → k < i → pair_at net.arcs (get_or numbers k 0) < pair)
    → (i < length numbers → pair ≤ pair_at net.arcs (get_or numbers i 0))
    → ((k : ℕ) → i ≤ k → k < j → pair_at net.arcs (get_or numbers k 0) ≡ pair)
    → (j < length numbers → pair_at net.arcs (get_or numbers j 0) ≢ pair)
    → IsGroup net.arcs numbers pair i j
group_from net is numbers sorted pair i j order within below first here last = record {
  order = order;
  within = within;
  below = below;
  here = here;
  above = λ k low high.
      let ascends = value_ascends (pair_at net.arcs) (length net.arcs) numbers sorted.all sorted.ascending (few_arcs net is) in
      let from_first : pair_at net.arcs (get_or numbers i 0) ≤ pair_at net.arcs (get_or numbers j 0) = ascends i j order (omega (arith, low, high)) in
      let to_here : pair_at net.arcs (get_or numbers j 0) ≤ pair_at net.arcs (get_or numbers k 0) = ascends j k low high in
      let least : pair ≤ pair_at net.arcs (get_or numbers i 0) = first (omega (arith, order, low, high)) in
      let other : pair_at net.arcs (get_or numbers j 0) ≢ pair = last (omega (arith, low, high)) in
      elim (cases_eq (pair_at net.arcs (get_or numbers j 0)) pair) [ inl e ↦ absurd (other e) | inr ne ↦ omega (arith, from_first, to_here, least, ne) ];
}

-- ---- one number written into a table
pub written_kept : (part : ℕ → ℕ) (xs : List ℕ) (n v k : ℕ) → n < length xs → v ≡ part n → get_or xs k 0 ≡ part k → get_or (set xs n v) k 0 ≡ part k
written_kept part xs n v k lt is was =
    elim (cases_eq k n) [
      | inl e ↦ ap (λ (j : ℕ). get_or (set xs n v) j 0) e ∙ (get_or-set_same xs n v 0 lt ∙ (is ∙ ap part (sym e)))
      | inr ne ↦ get_or-set_other xs n k v 0 ne ∙ was
    ]

-- ---- reading in a part of a list
pub get_or_slice : (xs : List ℕ) (i j k : ℕ) → i + k < j → get_or (slice_range xs i j) k 0 ≡ get_or xs (i + k) 0
get_or_slice xs i j k lt = get_or-take (j - i) (drop i xs) k 0 (omega (arith, lt)) ∙ get_or-drop i xs k 0

pub length_slice : (xs : List ℕ) (i j : ℕ) → i ≤ j → j ≤ length xs → length (slice_range xs i j) ≡ j - i
length_slice xs i j le within = omega (arith, length-take (j - i) (drop i xs), length-drop i xs, le, within)

unwrap_cond : (b : Bool) (o : Option ℕ) → unwrap_or (cond b o None) 0 ≡ cond b (unwrap_or o 0) 0
unwrap_cond true o = refl
unwrap_cond false o = refl

-- the counterpart of an arc, by the lists of its parallel ones and its place
pub part_by : (stored new : List RoadArc) (k : ℕ) (arc : RoadArc) → nth new k ≡ Some arc
    → part_of stored new k ≡ cond (agree stored new arc.tail arc.head) (get_or (parallels stored arc.tail arc.head) (place_among (parallels new arc.tail arc.head) k) 0) 0
part_by stored new k arc at =
    let t = arc.tail in
    let h = arc.head in
    ap (λ (o : Option RoadArc). unwrap_or (option_and_then (λ (a : RoadArc). cond (agree stored new a.tail a.head) (slice_get (parallels stored a.tail a.head) (place_among (parallels new a.tail a.head) k)) None) o) 0) at
    ∙ (unwrap_cond (agree stored new t h) (slice_get (parallels stored t h) (place_among (parallels new t h) k))
    ∙ ap (λ (x : ℕ). cond (agree stored new t h) x 0) (unwrap_or-slice_get (parallels stored t h) (place_among (parallels new t h) k) 0))

-- The counterparts of the arcs of the map `new` before place `next` of its sorted numbers are written; the stored arcs before place `from` of theirs are behind.
pub record IsSoFar (stored new : Net) (before after parts : List ℕ) (from next : ℕ) : Type 0 where
  pub from_within : from ≤ length before
  pub next_within : next ≤ length after
  pub count : length parts ≡ length new.arcs + 1
  pub done : (j : ℕ) → j < next → get_or parts (get_or after j 0) 0 ≡ part_of stored.arcs new.arcs (get_or after j 0)
  pub passed : (i : ℕ) → i < from → next < length after → pair_at stored.arcs (get_or before i 0) < pair_at new.arcs (get_or after next 0)
  pub behind : (j : ℕ) → j < next → next < length after → pair_at new.arcs (get_or after j 0) < pair_at new.arcs (get_or after next 0)

module _ (stored new : Net) (is_stored : IsNetwork stored) (is_new : IsNetwork new) (before after : List ℕ) (by_stored : AreByEnds stored.arcs before) (by_new : AreByEnds new.arcs after) where
  pub after_within : (k : ℕ) → k < length after → (1 ≤ get_or after k 0) × (get_or after k 0 ≤ length new.arcs)
  after_within k lt = number_within (pair_at new.arcs) (length new.arcs) after by_new.all by_new.ascending k lt

  -- two groups of the same ends tell the counterparts of all arcs of the second
  pub group_parts : (pair next end start from : ℕ) → IsGroup new.arcs after pair next end → IsGroup stored.arcs before pair start from
      → SaysParts (slice_range after next end) (slice_range before start from) (part_of stored.arcs new.arcs)
  group_parts pair next end start from mine theirs i lt =
      let group = slice_range after next end in
      let others = slice_range before start from in
      let k = get_or group i 0 in
      let long : length group ≡ end - next = length_slice after next end mine.order mine.within in
      let place : next + i < end = omega (arith, lt, long, mine.order) in
      let within : next + i < length after = omega (arith, place, mine.within) in
      let k_is : k ≡ get_or after (next + i) 0 = get_or_slice after next end i place in
      let bounds = after_within (next + i) within in
      let found = found_at new.arcs k (omega (arith, k_is, bounds.0)) (omega (arith, k_is, bounds.1)) in
      let arc = found.0 in
      let at : nth new.arcs k ≡ Some arc = found.1 in
      let ends : arc.tail * 4294967296 + arc.head ≡ pair =
      sym (ap (λ (o : Option RoadArc). option_map_or (λ (a : RoadArc). a.tail * 4294967296 + a.head) o 0) at) ∙ (ap (pair_at new.arcs) k_is ∙ mine.here (next + i) (omega arith) place) in
      let some : 1 ≤ arc.tail = some_tail new is_new k arc at in
      let short : arc.head < 4294967296 = short_head new is_new k arc at in
      let mine_are : parallels new.arcs arc.tail arc.head ≡ group =
      parallels_sorted new is_new after by_new arc.tail arc.head some short ∙ (ap (λ (q : ℕ). filter (λ x. eqb (pair_at new.arcs x) q) after) ends ∙ group_is new.arcs after pair next end mine) in
      let theirs_are : parallels stored.arcs arc.tail arc.head ≡ others =
      parallels_sorted stored is_stored before by_stored arc.tail arc.head some short ∙ (ap (λ (q : ℕ). filter (λ x. eqb (pair_at stored.arcs x) q) before) ends ∙ group_is stored.arcs before pair start from theirs) in
      let rises : IsStrictlyIncreasing group = subst IsStrictlyIncreasing mine_are (parallels_rise new.arcs arc.tail arc.head) in
      let at_place : place_among (parallels new.arcs arc.tail arc.head) k ≡ i = ap (λ (xs : List ℕ). place_among xs k) mine_are ∙ lower_before group i rises lt in
      sym (part_by stored.arcs new.arcs k arc at
      ∙ (ap (λ (x : ℕ). cond (agree stored.arcs new.arcs arc.tail arc.head) (get_or (parallels stored.arcs arc.tail arc.head) x 0) 0) at_place
      ∙ (ap (λ (xs : List ℕ). cond (eqb (length xs) (length (parallels new.arcs arc.tail arc.head))) (get_or xs i 0) 0) theirs_are
      ∙ ap (λ (xs : List ℕ). cond (eqb (length others) (length xs)) (get_or others i 0) 0) mine_are)))

  pub all_within : (parts : List ℕ) (next end : ℕ) → length parts ≡ length new.arcs + 1 → All (λ k. k < length parts) (slice_range after next end)
  all_within parts next end many =
      All-take (λ k. k < length parts) (end - next) (drop next after) (All-drop (λ k. k < length parts) next after (λ k d lt.
      let same : get_or after k d ≡ get_or after k 0 = get_or_default after k d 0 lt in
      let high = (after_within k lt).1 in
      omega (arith, same, high, many)))

  pub so_far_none : (parts : List ℕ) → length parts ≡ length new.arcs + 1 → IsSoFar stored new before after parts 0 0
  so_far_none parts many = record {
    from_within = omega arith;
    next_within = omega arith;
    count = many;
    done = λ j lt. absurd (omega (arith, lt));
    passed = λ i lt rest. absurd (omega (arith, lt));
    behind = λ j lt rest. absurd (omega (arith, lt));
  }

  module _ (parts : List ℕ) (from next pair end start : ℕ) (so_far : IsSoFar stored new before after parts from next) (lt : next < length after) (is : pair ≡ pair_at new.arcs (get_or after next 0))
      (end_after : next ≤ end) (end_within : end ≤ length after) (end_same : (k : ℕ) → next ≤ k → k < end → pair_at new.arcs (get_or after k 0) ≡ pair) (end_stopped : end < length after → pair_at new.arcs (get_or after end 0) ≢ pair) where
    pub end_moves : next < end
    end_moves = elim (cases_lt next end) [
      | inl less ↦ less
      | inr le ↦
          let same : end ≡ next = omega (arith, le, end_after) in
          absurd (end_stopped (omega (arith, same, lt)) (ap (λ (k : ℕ). pair_at new.arcs (get_or after k 0)) same ∙ sym is))
    ]

    pub mine : IsGroup new.arcs after pair next end
    mine = group_from new is_new after by_new pair next end end_after end_within
        (λ k less. let low = so_far.behind k less lt in omega (arith, low, is))
        (λ less. omega (arith, is)) end_same end_stopped

    module _ (from' : ℕ) (start_after : from ≤ start) (start_passed : (k : ℕ) → from ≤ k → k < start → pair_at stored.arcs (get_or before k 0) < pair) (start_stopped : start < length before → pair ≤ pair_at stored.arcs (get_or before start 0))
        (from_after : start ≤ from') (from_within : from' ≤ length before) (from_same : (k : ℕ) → start ≤ k → k < from' → pair_at stored.arcs (get_or before k 0) ≡ pair) (from_stopped : from' < length before → pair_at stored.arcs (get_or before from' 0) ≢ pair) where
      pub theirs : IsGroup stored.arcs before pair start from'
      theirs = group_from stored is_stored before by_stored pair start from' from_after from_within
          (λ k less. elim (cases_lt k from) [ inl early ↦ (let low = so_far.passed k early lt in omega (arith, low, is)) | inr late ↦ start_passed k late less ])
          start_stopped from_same from_stopped

      pub so_far_more : (parts' : List ℕ)
          → ((part : ℕ → ℕ) → SaysParts (slice_range after next end) (slice_range before start from') part → (k : ℕ) → get_or parts k 0 ≡ part k → get_or parts' k 0 ≡ part k)
          → ((part : ℕ → ℕ) → SaysParts (slice_range after next end) (slice_range before start from') part → (i : ℕ) → i < length (slice_range after next end)
          → get_or parts' (get_or (slice_range after next end) i 0) 0 ≡ part (get_or (slice_range after next end) i 0))
          → length parts' ≡ length parts → IsSoFar stored new before after parts' from' end
      so_far_more parts' kept put same =
          let says = group_parts pair next end start from' mine theirs in
          record {
            from_within = from_within;
            next_within = end_within;
            count = same ∙ so_far.count;
            done = λ j less. elim (cases_lt j next) [
              | inl early ↦ kept (part_of stored.arcs new.arcs) says (get_or after j 0) (so_far.done j early)
              | inr late ↦
                  let long : length (slice_range after next end) ≡ end - next = length_slice after next end end_after end_within in
                  let e : next + (j - next) ≡ j = omega (arith, late) in
                  let at : get_or (slice_range after next end) (j - next) 0 ≡ get_or after j 0 = get_or_slice after next end (j - next) (omega (arith, e, less)) ∙ ap (λ (m : ℕ). get_or after m 0) e in
                  subst (λ (k : ℕ). get_or parts' k 0 ≡ part_of stored.arcs new.arcs k) at (put (part_of stored.arcs new.arcs) says (j - next) (omega (arith, long, less, late)))
            ];
            passed = λ i less rest.
                let up : pair < pair_at new.arcs (get_or after end 0) = mine.above end (omega arith) rest in
                elim (cases_lt i start) [
                  | inl early ↦ (let low = theirs.below i early in omega (arith, low, up))
                  | inr late ↦ (let e = from_same i late less in omega (arith, e, up))
                ];
            behind = λ j less rest.
                let up : pair < pair_at new.arcs (get_or after end 0) = mine.above end (omega arith) rest in
                elim (cases_lt j next) [
                  | inl early ↦ (let low = mine.below j early in omega (arith, low, up))
                  | inr late ↦ (let e = end_same j late less in omega (arith, e, up))
                ];
          }

  pub all_written : (parts : List ℕ) (from next : ℕ) → IsSoFar stored new before after parts from next → length after ≤ next → AreCounterparts stored.arcs new.arcs parts
  all_written parts from next so_far end = record {
    count = so_far.count;
    each = λ k low high.
        let at = Contains-permutation (range_with_len 1 (length new.arcs)) after k by_new.all (contains_range (length new.arcs) k low high) in
        let lt : at.0 < length after = at.1 in
        let e : get_or after at.0 0 ≡ k = get_or_default after at.0 0 k lt ∙ at.2 in
        subst (λ (x : ℕ). get_or parts x 0 ≡ part_of stored.arcs new.arcs x) e (so_far.done at.0 (omega (arith, lt, end)));
  }
