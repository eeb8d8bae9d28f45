-- Parallel arcs, among numbers that are sorted by ends.
use Rattle.std.proofs.Common.{◌≡◌, ◌∙◌, ℕ, zero, suc, ◌+◌, ◌-◌, ◌*◌, ◌<◌, ◌≤◌, true, false, eqb, ◌&&◌, List, [], ◌∷◌, length, get_or, Option, Some, None, refl, ap, sym, arith, inl, inr, ◌⊎◌}
use Rattle.std.specs.Option.{option_map_or}
use Rattle.std.specs.List.{filter, range_with_len, All, Contains}
use Rattle.std.specs.List.Sorted.{IsStrictlyIncreasing}
use Rattle.std.proofs.lemmas.Bool.{ne_eqb, eq-eqb, cases_eq, and_from, and_left, and_right}
use Rattle.std.proofs.lemmas.List.Elements.{filter_agree, All-filter}
use Rattle.std.proofs.lemmas.List.Kept.{IsStrictlyIncreasing-filter}
use Rattle.std.proofs.lemmas.Option.{slice_get-get_or, slice_get_within}
use Rattle.roadnet.specs.declared.arcs.RoadArc.{RoadArc}
use Rattle.roadnet.specs.Net.{Net, IsNetwork, IsArcAmong, nth}
use Rattle.roadnet.proofs.Apart.{arc_among}
use Rattle.upgrades.specs.Ordered.{pair_at, AreByEnds}
use Rattle.upgrades.specs.Upgrading.{joins, parallels}
use Rattle.upgrades.proofs.Rising.{Contains-filter}
use Rattle.upgrades.proofs.Sorting.{range_rises, range_within, contains_range, same_value}

-- the arc of a number in range
pub found_at : (arcs : List RoadArc) (k : ℕ) → 1 ≤ k → k ≤ length arcs → (arc : RoadArc) × (nth arcs k ≡ Some arc)
found_at arcs zero low high = absurd (omega (arith, low))
found_at [] (suc k) low high = absurd (omega (arith, high))
found_at (a ∷ arcs) (suc k) low high = let lt : k < length (a ∷ arcs) = omega (arith, high) in (get_or (a ∷ arcs) k a, slice_get-get_or (a ∷ arcs) k a lt)

pub found_within : (arcs : List RoadArc) (k : ℕ) (arc : RoadArc) → nth arcs k ≡ Some arc → (1 ≤ k) × (k ≤ length arcs)
found_within arcs zero arc at = absurd (let no : None ≡ Some arc = at in let absurdity : ⊥ = cc in absurdity)
found_within arcs (suc k) arc at = let lt : k < length arcs = slice_get_within arcs k arc at in (omega arith, omega (arith, lt))

pub joins_found : (arcs : List RoadArc) (k : ℕ) (arc : RoadArc) → nth arcs k ≡ Some arc → joins arcs arc.tail arc.head k ≡ true
joins_found arcs k arc at =
    let same : joins arcs arc.tail arc.head k ≡ (eqb arc.tail arc.tail && eqb arc.head arc.head) = ap (λ (o : Option RoadArc). option_map_or (λ (a : RoadArc). eqb a.tail arc.tail && eqb a.head arc.head) o false) at in
    same ∙ and_from _ _ (eq-eqb arc.tail arc.tail refl) (eq-eqb arc.head arc.head refl)

-- an arc is one of its parallel ones, which ascend
pub contains_itself : (arcs : List RoadArc) (k : ℕ) (arc : RoadArc) → nth arcs k ≡ Some arc → Contains (parallels arcs arc.tail arc.head) k
contains_itself arcs k arc at =
    let within = found_within arcs k arc at in
    Contains-filter (joins arcs arc.tail arc.head) (range_with_len 1 (length arcs)) k (joins_found arcs k arc at) (contains_range (length arcs) k within.0 within.1)

pub parallels_rise : (arcs : List RoadArc) (t h : ℕ) → IsStrictlyIncreasing (parallels arcs t h)
parallels_rise arcs t h = IsStrictlyIncreasing-filter (joins arcs t h) (range_with_len 1 (length arcs)) (range_rises (length arcs))

pub parallels_within : (arcs : List RoadArc) (t h : ℕ) → All (λ k. (1 ≤ k) × (k ≤ length arcs)) (parallels arcs t h)
parallels_within arcs t h = All-filter (joins arcs t h) (λ k. (1 ≤ k) × (k ≤ length arcs)) (range_with_len 1 (length arcs)) (range_within (length arcs))

-- the ends of arcs whose heads are below 2^32, as one number
same_ends : (t h tail head : ℕ) → h < 4294967296 → head < 4294967296 → (eqb tail t && eqb head h) ≡ eqb (tail * 4294967296 + head) (t * 4294967296 + h)
same_ends t h tail head low low' =
    elim (cases_eq (tail * 4294967296 + head) (t * 4294967296 + h)) [
      | inl e ↦
          let tails : tail ≡ t = omega (arith, e, low, low') in
          let heads : head ≡ h = omega (arith, e, low, low') in
          and_from _ _ (eq-eqb tail t tails) (eq-eqb head h heads) ∙ sym (eq-eqb _ _ e)
      | inr ne ↦ other (cases_eq tail t) (cases_eq head h) ne ∙ sym (ne_eqb _ _ ne)
    ]
  where
    other : (tail ≡ t) ⊎ (tail ≡ t → ⊥) → (head ≡ h) ⊎ (head ≡ h → ⊥) → (tail * 4294967296 + head ≡ t * 4294967296 + h → ⊥) → (eqb tail t && eqb head h) ≡ false
    other (inr apart) heads ne = and_left _ _ (ne_eqb tail t apart)
    other (inl same) (inr apart) ne = and_right _ _ (ne_eqb head h apart)
    other (inl same) (inl same') ne = absurd (ne (omega (arith, same, same')))

joins_is_pair : (arcs : List RoadArc) (t h : ℕ) → 1 ≤ t → h < 4294967296 → ((k : ℕ) (arc : RoadArc) → nth arcs k ≡ Some arc → arc.head < 4294967296) → (k : ℕ) → joins arcs t h k ≡ eqb (pair_at arcs k) (t * 4294967296 + h)
joins_is_pair arcs t h some low heads k = go (nth arcs k) (heads k)
  where
    go : (o : Option RoadArc) → ((arc : RoadArc) → o ≡ Some arc → arc.head < 4294967296) → option_map_or (λ (arc : RoadArc). eqb arc.tail t && eqb arc.head h) o false ≡ eqb (option_map_or (λ (arc : RoadArc). arc.tail * 4294967296 + arc.head) o 0) (t * 4294967296 + h)
    go None short = sym (ne_eqb 0 (t * 4294967296 + h) (λ e. omega (arith, some, e)))
    go (Some arc) short = same_ends t h arc.tail arc.head low (short arc refl)

module _ (net : Net) (is : IsNetwork net) where
  pub short_head : (k : ℕ) (arc : RoadArc) → nth net.arcs k ≡ Some arc → arc.head < 4294967296
  short_head k arc at = let among : IsArcAmong net.nodes arc = arc_among net k arc is at in omega (arith, among.head_to, is.nodes_to)

  pub some_tail : (k : ℕ) (arc : RoadArc) → nth net.arcs k ≡ Some arc → 1 ≤ arc.tail
  some_tail k arc at = let among : IsArcAmong net.nodes arc = arc_among net k arc is at in among.tail_from

  pub few_arcs : length net.arcs < 4294967296
  few_arcs = omega (arith, is.arcs_to, is.room_to)

  pub parallels_sorted : (numbers : List ℕ) → AreByEnds net.arcs numbers → (t h : ℕ) → 1 ≤ t → h < 4294967296 → parallels net.arcs t h ≡ filter (λ k. eqb (pair_at net.arcs k) (t * 4294967296 + h)) numbers
  parallels_sorted numbers sorted t h some low =
      filter_agree (joins net.arcs t h) (λ k. eqb (pair_at net.arcs k) (t * 4294967296 + h)) (joins_is_pair net.arcs t h some low short_head) (range_with_len 1 (length net.arcs))
      ∙ sym (same_value (pair_at net.arcs) (length net.arcs) numbers sorted.all sorted.ascending (t * 4294967296 + h))
