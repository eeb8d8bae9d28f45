-- The potential of landmarks is consistent.
use Rattle.std.proofs.Common.{◌≡◌, ◌∙◌, ℕ, zero, suc, ◌+◌, ◌-◌, ◌≤◌, ◌++◌, max, List, [], ◌∷◌, length, map, fold, get_or, Option, None, Some, Contains, All, MatchOption, unwrap_or, refl, ap, subst, arith, inl, inr}
use Rattle.std.proofs.lemmas.Bool.{cases_eq, cases_lt}
use Rattle.std.proofs.lemmas.List.Sums.{sum_by-cons}
use Rattle.roadnet.specs.Net.{Net, IsNode}
use Rattle.roadnet.specs.Walks.{Walk, Least, NoWalk, RowOf, length_of, distance_at}
use Rattle.roadnet.proofs.Joined.{walks_join}
use Rattle.snapshot.specs.Groups.{Groups, IsGrouped, legs_of}
use Rattle.snapshot.specs.declared.legs.Leg.{Leg}
use Rattle.deltastep.specs.Guided.{IsLowerBound}
use Rattle.deltastep.specs.Words.{distance_of_short}
use Rattle.deltastep.proofs.Entries.{entry_none, entry_some}
use Rattle.deltastep.proofs.Finishing.{walk_of_trip}
use Rattle.deltastep.proofs.Guiding.{consistent_is_lower_bound}
use Rattle.kept_rows.specs.Told.{difference_of}
use Rattle.rows.specs.Guides.{potential_by, potential_of, AreOfSnapshot, PotentialIsConsistent, PotentialAtTarget}
use Rattle.rows.specs.declared.landmark_rows.Row.{Row}

-- ---- at the target

told_there : (o : Option ℕ) → unwrap_or (difference_of o o) 0 ≡ 0
told_there None = refl
told_there (Some a) = omega arith

all_zero : (f : Row → ℕ) → ((row : Row) → f row ≡ 0) → (rows : List Row) (a : ℕ) → fold max a (map f rows) ≡ a
all_zero f zeros [] a = refl
all_zero f zeros (row ∷ rows) a =
    let same : max a (f row) ≡ a = omega (arith, zeros row) in
    all_zero f zeros rows (max a (f row)) ∙ same

pub potential_at_target : PotentialAtTarget
potential_at_target rows target = all_zero (λ (row : Row). potential_by row.distances target target) (λ row. told_there (distance_at row.distances target)) rows 0

-- ---- along a leg

-- what one row tells falls by no more than the length of a walk
module _ (net : Net) (l u v : ℕ) (ks : List ℕ) (walk : Walk net u v ks) where
  by_entries : (to_u to_v to_t : Option ℕ) → MatchOption to_u (NoWalk net l u) (Least net l u) → MatchOption to_v (NoWalk net l v) (Least net l v)
      → unwrap_or (difference_of to_u to_t) 0 ≤ length_of net ks + unwrap_or (difference_of to_v to_t) 0
  by_entries None to_v to_t none any = omega arith
  by_entries (Some a) None to_t least none = absurd (none (least.walked.0 ++ ks) (walks_join net l u v least.walked.0 ks least.walked.1 walk).0)
  by_entries (Some a) (Some b) None to_u to_v = omega arith
  by_entries (Some a) (Some b) (Some t) to_u to_v =
      let both = walks_join net l u v to_u.walked.0 ks to_u.walked.1 walk in
      let most : b ≤ length_of net (to_u.walked.0 ++ ks) = to_v.least (to_u.walked.0 ++ ks) both.0 in
      let long : length_of net (to_u.walked.0 ++ ks) ≡ length_of net to_u.walked.0 + length_of net ks = both.1 in
      let its : length_of net to_u.walked.0 ≡ a = to_u.walked.2 in
      omega (arith, most, long, its)

  by_row : (row : List (Option ℕ)) (target : ℕ) → RowOf net l row → IsNode net u → IsNode net v → potential_by row target u ≤ length_of net ks + potential_by row target v
  by_row row target of node_u node_v = by_entries (distance_at row u) (distance_at row v) (distance_at row target) (of.each u node_u) (of.each v node_v)

-- the greatest falls by no more than each
greatest_falls : (f g : Row → ℕ) (w : ℕ) (rows : List Row) → All (λ row. f row ≤ w + g row) rows → (a b : ℕ) → a ≤ w + b → fold max a (map f rows) ≤ w + fold max b (map g rows)
greatest_falls f g w [] each a b h = h
greatest_falls f g w (row ∷ rows) each a b h =
    let here : f row ≤ w + g row = each 0 row (omega arith) in
    greatest_falls f g w rows (λ k d lt. each (suc k) d (omega arith)) (max a (f row)) (max b (g row)) (omega (arith, h, here))

no_leg : (legs : List Leg) (leg : Leg) → legs ≡ [] → Contains legs leg → ⊥
no_leg legs leg e (k, within, is) = omega (arith, within, ap length e)

pub potential_is_consistent : PotentialIsConsistent
potential_is_consistent rows target groups of grouped part u leg c =
    let low : 1 ≤ u = from u c in
    let high : u ≤ groups.nodes = elim (cases_lt groups.nodes u) as (λ _. u ≤ groups.nodes) [
      | inl beyond ↦ absurd (no_leg (legs_of groups part u) leg (grouped.beyond part u beyond) c)
      | inr le ↦ le
    ] in
    let walk = walk_of_trip of.network groups of.snapshot grouped u leg.head (leg ∷ []) low high (part, c, refl) in
    let long : length_of of.network walk.0 ≡ leg.length = omega (arith, walk.2, sum_by-cons (λ (l : Leg). l.length) leg []) in
    let node_u : IsNode of.network u = (low, omega (arith, high, of.snapshot.nodes)) in
    let node_v : IsNode of.network leg.head = (grouped.low part u leg c, omega (arith, grouped.high part u leg c, of.snapshot.nodes)) in
    subst (λ w. potential_of rows target u ≤ w + potential_of rows target leg.head) long
    (greatest_falls (λ (row : Row). potential_by row.distances target u) (λ (row : Row). potential_by row.distances target leg.head) (length_of of.network walk.0) rows
    (λ k d lt. by_row of.network (get_or rows k d).landmark u leg.head walk.0 walk.1 (get_or rows k d).distances target (of.each k d lt) node_u node_v) 0 0 (omega arith))
  where
    from : (u : ℕ) → Contains (legs_of groups part u) leg → 1 ≤ u
    from zero c = absurd (no_leg (legs_of groups part 0) leg (grouped.first part) c)
    from (suc k) c = omega arith

-- so it bounds each trip
pub potential_is_below : (rows : List Row) (target : ℕ) (groups : Groups) → AreOfSnapshot rows target groups → IsGrouped groups → (u : ℕ) → IsLowerBound groups target u (potential_of rows target u)
potential_is_below rows target groups of grouped u = consistent_is_lower_bound groups (potential_of rows target) target (potential_is_consistent rows target groups of grouped) (potential_at_target rows target) u

-- ---- by the words of a row

-- what the word of a node tells
pub told_by_word : (words : List ℕ) (to node : ℕ) → 1 ≤ node → node ≤ length words → to ≤ 4294967295 → to - get_or words (node - 1) 0 ≡ unwrap_or (difference_of (distance_at (map distance_of_short words) node) (Some to)) 0
told_by_word words to node from until small = elim (cases_eq (get_or words (node - 1) 0) 4294967295) as (λ _. to - get_or words (node - 1) 0 ≡ unwrap_or (difference_of (distance_at (map distance_of_short words) node) (Some to)) 0) [
  | inl e ↦
      let none : to - get_or words (node - 1) 0 ≡ 0 = omega (arith, e, small) in
      none ∙ ap (λ o. unwrap_or (difference_of o (Some to)) 0) (entry_none 4294967295 words node from until e)
  | inr ne ↦ ap (λ o. unwrap_or (difference_of o (Some to)) 0) (entry_some 4294967295 words node from until ne)
]
