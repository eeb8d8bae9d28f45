-- What lists of nodes with their distances say of the nodes within a limit, and of the nearest.
use Rattle.std.proofs.Common.{◌≡◌, ℕ, zero, suc, ◌+◌, ◌<◌, ◌≤◌, ◌⊎◌, ◌≢◌, ◌↔◌, min, Bool, true, false, cond, eqb, List, [], ◌∷◌, ◌++◌, length, map, filter, take, drop, count_by, Contains, Option, Some, None, IfSome, get_or, refl, sym, ap, subst, ◌∙◌, inl, inr, arith, le-leb, leb-true}
use Rattle.std.specs.List.{AllByRecursion, IsDistinct}
use Rattle.std.specs.List.Retain.{DiffersFromLast, IsFiltered}
use Rattle.std.specs.List.Sorted.{IsPermutation, IsSorted, IsStrictlyIncreasing, IsStrictlySortedBy}
use Rattle.std.specs.Cmp.{IsTotalOrder, nat_cmp_total, nat_cmp_is, eq_by_cmp_equiv}
use Rattle.std.specs.Ordering.{eq_by_cmp, is_eq, is_lt, nat_cmp, ordering_reverse, ordering_then}
use Rattle.std.specs.declared.cmp.Ordering.{Ordering}
use Rattle.std.specs.declared.cmp.Ordering.TheVariants.{Less, Equal, Greater}
use Rattle.std.proofs.lemmas.Bool.{cases_eq, cases_lt}
use Rattle.std.proofs.lemmas.Cmp.{on_total, then_total}
use Rattle.std.proofs.lemmas.List.{append-nil, length-drop, length-map, length-take, take-append-drop}
use Rattle.std.proofs.lemmas.List.Elements.{All-contains, Contains-append_cases, Contains-append_left, Contains-append_right, Contains-get_or, Contains-push, Contains-push_cases}
use Rattle.std.proofs.lemmas.List.Filters.{dedup_is}
use Rattle.std.proofs.lemmas.List.Kept.{Contains-dedup_nat, Contains-from_dedup, IsStrictlyIncreasing-filter}
use Rattle.std.proofs.lemmas.List.Sorted.{Contains-permutation, IsPermutation-sym, length_permutation}
use Rattle.std.proofs.lemmas.List.Sums.{count_by-le-length, length-filter, sum_by-cons}
use Rattle.std.proofs.lemmas.Map.Keys.{IsDistinct-from_sorted, IsDistinct-IsPermutation, IsStrictlyIncreasing-dedup, apart_from_distinct, sorted_from_all_adjacent, sorted_from_strictly_increasing, sorted_tail}
use Rattle.std.proofs.lemmas.Map.Views.{All-after_first}
use Rattle.relax.specs.Noted.{AreNoted}
use Rattle.relax.specs.Values.{value_at, value_or}
use Rattle.roadnet.specs.Net.{Net, IsNode}
use Rattle.roadnet.specs.Walks.{Least}
use Rattle.deltastep.specs.Reach.{AreAllWithin, AreEnough, AreFinal, AreNearest, AreNodesOfRow, ComeBefore, IsReach, IsWithinEnd, has_within, is_within, nearer_first, told_node, node_told_of}
use Rattle.deltastep.specs.declared.rows.known.NodeDistance.{NodeDistance}
use Rattle.deltastep.proofs.Ending.{Least-once, value_below}
use Rattle.deltastep.proofs.Finishing.{Contains-filter, Contains-of_filter}
use Rattle.deltastep.proofs.Lowering.{value_or-some}
use Rattle.frontier.proofs.Members.{Contains-map, Contains-nil, Contains-of_map}

-- ---- nodes that have values

within_of : (end o : Option ℕ) → is_within end o ≡ true → (d : ℕ) × (o ≡ Some d) × IsWithinEnd end d
within_of None None h = absurd (let absurdity : ⊥ = cc in absurdity)
within_of (Some e) None h = absurd (let absurdity : ⊥ = cc in absurdity)
within_of None (Some d) h = (d, refl, tt)
within_of (Some e) (Some d) h = (d, refl, leb-true d e h)

-- the value of a node that has one within the end
pub value_of_has : (t : List (Option ℕ)) (end : Option ℕ) (u : ℕ) → has_within t end u ≡ true → (d : ℕ) × (value_at t u ≡ Some d) × IsWithinEnd end d
value_of_has t end u h = within_of end (value_at t u) h

pub has_of_value : (t : List (Option ℕ)) (end : Option ℕ) (u d : ℕ) → value_at t u ≡ Some d → IsWithinEnd end d → has_within t end u ≡ true
has_of_value t None u d has within = ap (λ o. is_within None o) has
has_of_value t (Some e) u d has within = ap (λ o. is_within (Some e) o) has ∙ le-leb d e within

pub within_further : (end : Option ℕ) (limit d : ℕ) → IfSome end (λ e. limit ≤ e) → d ≤ limit → IsWithinEnd end d
within_further None limit d enough h = tt
within_further (Some e) limit d enough h = let far : limit ≤ e = enough in omega (arith, far, h)

-- ---- nodes as they are told

nodes_told : (t : List (Option ℕ)) (nodes : List ℕ) → map (λ (r : NodeDistance). r.node) (map (node_told_of t) nodes) ≡ nodes
nodes_told t [] = refl
nodes_told t (u ∷ us) = ap (λ xs. u ∷ xs) (nodes_told t us)

told_from : (t : List (Option ℕ)) (nodes : List ℕ) (u d : ℕ) → Contains (map (node_told_of t) nodes) (told_node u d) → Contains nodes u × (value_or 0 t u ≡ d)
told_from t nodes u d c =
    let r = Contains-of_map (node_told_of t) nodes (told_node u d) c in
    let node : r.0 ≡ u = ap (λ (r : NodeDistance). r.node) r.2 in
    let far : value_or 0 t r.0 ≡ d = ap (λ (r : NodeDistance). r.distance) r.2 in
    (subst (λ (x : ℕ). Contains nodes x) node r.1, subst (λ (x : ℕ). value_or 0 t x ≡ d) node far)

told_to : (t : List (Option ℕ)) (nodes : List ℕ) (u d : ℕ) → Contains nodes u → value_at t u ≡ Some d → Contains (map (node_told_of t) nodes) (told_node u d)
told_to t nodes u d c has = subst (λ (n : ℕ). Contains (map (node_told_of t) nodes) (told_node u n)) (value_or-some 0 t u d has) (Contains-map (node_told_of t) nodes u c)

-- ---- the nodes within a limit

pub set_has : (xs sorted kept : List ℕ) (u : ℕ) → IsPermutation xs sorted → IsFiltered (DiffersFromLast eqb) [] sorted kept → Contains kept u ↔ Contains xs u
set_has xs sorted kept u moved left =
    let is = dedup_is eqb sorted kept left in
    ((λ c. Contains-permutation sorted xs u (IsPermutation-sym xs sorted moved) (Contains-from_dedup eqb sorted u (subst (λ (l : List ℕ). Contains l u) is c))), (λ c. subst (λ (l : List ℕ). Contains l u) (sym is) (Contains-dedup_nat sorted u (Contains-permutation xs sorted u moved c))))

pub set_rises : (sorted kept : List ℕ) → IsSorted nat_cmp sorted → IsFiltered (DiffersFromLast eqb) [] sorted kept → IsStrictlyIncreasing kept
set_rises sorted kept up left = subst (λ (l : List ℕ). IsStrictlyIncreasing l) (sym (dedup_is eqb sorted kept left)) (IsStrictlyIncreasing-dedup sorted up)

pub AreAllWithin-same : (t : List (Option ℕ)) (limit : ℕ) (xs ys : List ℕ) → ((u : ℕ) → Contains ys u ↔ Contains xs u) → AreAllWithin t limit xs → AreAllWithin t limit ys
AreAllWithin-same t limit xs ys same all = record {
  right = λ u c. all.right u ((same u).0 c);
  each = λ u from has. (same u).1 (all.each u from has);
}

-- all nodes with values are among those that were noted
pub AreAllWithin-noted : (t : List (Option ℕ)) (limit : ℕ) (noted : List ℕ) → AreNoted t noted → AreAllWithin t limit (filter (has_within t (Some limit)) noted)
AreAllWithin-noted t limit noted are = record {
  right = λ u c.
      let f = Contains-of_filter (has_within t (Some limit)) noted u c in
      let w = are.within u f.0 in
      (w.0, w.1, f.1);
  each = λ u from has.
      let v = value_of_has t (Some limit) u has in
      Contains-filter (has_within t (Some limit)) noted u has (are.each u v.0 v.1);
}

pub ArePlaces-noted : (t : List (Option ℕ)) (noted : List ℕ) → AreNoted t noted → AreNodesOfRow t noted
ArePlaces-noted t noted are k d lt = are.within (get_or noted k d) (Contains-get_or noted k d lt)

pub ArePlaces-within : (t : List (Option ℕ)) (limit : ℕ) (nodes : List ℕ) → AreAllWithin t limit nodes → AreNodesOfRow t nodes
ArePlaces-within t limit nodes all k d lt = let w = all.right (get_or nodes k d) (Contains-get_or nodes k d lt) in (w.0, w.1)

pub ArePlaces-filter : (t : List (Option ℕ)) (p : ℕ → Bool) (nodes : List ℕ) → AreNodesOfRow t nodes → AreNodesOfRow t (filter p nodes)
ArePlaces-filter t p nodes all k d lt = All-contains (λ u. (1 ≤ u) × (u < length t)) nodes (get_or (filter p nodes) k d) all (Contains-of_filter p nodes (get_or (filter p nodes) k d) (Contains-get_or (filter p nodes) k d lt)).0

-- what is told of all nodes with values up to the limit, where these are final
pub IsReach-told : (net : Net) (source limit : ℕ) (end : Option ℕ) (t : List (Option ℕ)) (nodes : List ℕ) → AreFinal net source end t → IfSome end (λ e. limit ≤ e) → IsStrictlyIncreasing nodes → AreAllWithin t limit nodes → IsReach net source limit (map (node_told_of t) nodes)
IsReach-told net source limit end t nodes final enough up all = record {
  ascending = subst (λ (l : List ℕ). IsStrictlyIncreasing l) (sym (nodes_told t nodes)) up;
  right = λ u d c.
      let told = told_from t nodes u d c in
      let v = value_of_has t (Some limit) u (all.right u told.0).2 in
      let same : v.0 ≡ d = sym (value_or-some 0 t u v.0 v.1) ∙ told.1 in
      let is = final.right u v.0 v.1 (within_further end limit v.0 enough v.2) in
      let near : v.0 ≤ limit = v.2 in
      (is.0, subst (λ (n : ℕ). Least net source u n) same is.1, omega (arith, same, near));
  each = λ u d node least within.
      let has = final.each u d node least (within_further end limit d enough within) in
      told_to t nodes u d (all.each u node.0 (has_of_value t (Some limit) u d has within)) has;
}

-- ---- a pass over all nodes

module _ (t : List (Option ℕ)) (limit place : ℕ) (old new : List ℕ) (is : new ≡ old ++ cond (has_within t (Some limit) (place + 1)) ((place + 1) ∷ []) []) where
  added_or_old : (u : ℕ) (b : Bool) → has_within t (Some limit) (place + 1) ≡ b → Contains (old ++ cond b ((place + 1) ∷ []) []) u → Contains old u ⊎ ((place + 1 ≡ u) × (has_within t (Some limit) (place + 1) ≡ true))
  added_or_old u true has c = elim (Contains-push_cases old (place + 1) u c) as (λ _. Contains old u ⊎ ((place + 1 ≡ u) × (has_within t (Some limit) (place + 1) ≡ true))) [
    | inl there ↦ inl there
    | inr same ↦ inr (same, has)
  ]
  added_or_old u false has c = inl (subst (λ (l : List ℕ). Contains l u) (append-nil old) c)

  added_kept : (u : ℕ) (b : Bool) → Contains old u → Contains (old ++ cond b ((place + 1) ∷ []) []) u
  added_kept u b c = Contains-append_left old (cond b ((place + 1) ∷ []) []) u c

  pub all_right_more : ((u : ℕ) → Contains old u → (1 ≤ u) × (u ≤ place) × (has_within t (Some limit) u ≡ true)) → (u : ℕ) → Contains new u → (1 ≤ u) × (u ≤ place + 1) × (has_within t (Some limit) u ≡ true)
  all_right_more right u c = elim (added_or_old u (has_within t (Some limit) (place + 1)) refl (subst (λ (l : List ℕ). Contains l u) is c)) as (λ _. (1 ≤ u) × (u ≤ place + 1) × (has_within t (Some limit) u ≡ true)) [
    | inl there ↦ let w = right u there in (w.0, omega (arith, w.1), w.2)
    | inr added ↦ (omega (arith, added.0), omega (arith, added.0), subst (λ (v : ℕ). has_within t (Some limit) v ≡ true) added.0 added.1)
  ]

  pub all_each_more : ((u : ℕ) → 1 ≤ u → u ≤ place → has_within t (Some limit) u ≡ true → Contains old u) → (u : ℕ) → 1 ≤ u → u ≤ place + 1 → has_within t (Some limit) u ≡ true → Contains new u
  all_each_more each u from to has = subst (λ (l : List ℕ). Contains l u) (sym is) (here (cases_eq u (place + 1)))
    where
      here : (u ≡ place + 1) ⊎ (u ≢ place + 1) → Contains (old ++ cond (has_within t (Some limit) (place + 1)) ((place + 1) ∷ []) []) u
      here (inl same) =
          let passes : has_within t (Some limit) (place + 1) ≡ true = subst (λ (v : ℕ). has_within t (Some limit) v ≡ true) same has in
          let last : Contains (old ++ (place + 1) ∷ []) u = subst (λ (v : ℕ). Contains (old ++ (place + 1) ∷ []) v) (sym same) (Contains-push old (place + 1)) in
          subst (λ (b : Bool). Contains (old ++ cond b ((place + 1) ∷ []) []) u) (sym passes) last
      here (inr other) = added_kept u (has_within t (Some limit) (place + 1)) (each u from (omega (arith, to, other)) has)

pub AreAllWithin-all : (t : List (Option ℕ)) (limit nodes : ℕ) (known : List ℕ) → nodes + 1 ≡ length t → ((u : ℕ) → Contains known u → (1 ≤ u) × (u ≤ nodes) × (has_within t (Some limit) u ≡ true)) → ((u : ℕ) → 1 ≤ u → u ≤ nodes → has_within t (Some limit) u ≡ true → Contains known u) → AreAllWithin t limit known
AreAllWithin-all t limit nodes known many right each = record {
  right = λ u c. let w = right u c in (w.0, omega (arith, w.1, many), w.2);
  each = λ u from has. let v = value_of_has t (Some limit) u has in each u from (omega (arith, value_below t u v.0 v.1, many)) has;
}

-- ---- the order by distance and node

abbrev by_node : NodeDistance → NodeDistance → Ordering
by_node a b = nat_cmp a.node b.node

by_node_total : IsTotalOrder by_node
by_node_total = on_total (λ (r : NodeDistance). r.node) nat_cmp_total

nearer_total : IsTotalOrder nearer_first
nearer_total = then_total (on_total (λ (r : NodeDistance). r.distance) nat_cmp_total) by_node_total

then_equal : (o p : Ordering) → ordering_then o p ≡ Equal → p ≡ Equal
then_equal Less p e = absurd (let absurdity : ⊥ = cc in absurdity)
then_equal Equal p e = e
then_equal Greater p e = absurd (let absurdity : ⊥ = cc in absurdity)

-- of two nodes that are not out of order the first comes first
first_of_two : (a b : NodeDistance) → is_lt (nearer_first b a) ≡ false → eq_by_cmp by_node a b ≡ false → nearer_first a b ≡ Less
first_of_two a b up apart = by_order (nearer_first a b) refl
  where
    by_order : (o : Ordering) → nearer_first a b ≡ o → nearer_first a b ≡ Less
    by_order Less e = e
    by_order Equal e =
        let tied : by_node a b ≡ Equal = then_equal (nat_cmp a.distance b.distance) (by_node a b) e in
        let bad : true ≡ false = sym (ap is_eq tied) ∙ apart in
        absurd (let absurdity : ⊥ = cc in absurdity)
    by_order Greater e =
        let less : nearer_first b a ≡ Less = nearer_total.antisymm b a ∙ ap ordering_reverse e in
        let bad : true ≡ false = sym (ap is_lt less) ∙ up in
        absurd (let absurdity : ⊥ = cc in absurdity)

-- a sort of nodes that differ leaves each before those after it
pub strictly_sorted : (xs : List NodeDistance) → IsSorted nearer_first xs → IsDistinct (eq_by_cmp by_node) xs → IsStrictlySortedBy nearer_first xs
strictly_sorted xs up apart = sorted_from_all_adjacent nearer_total xs (told_node 0 0) (λ k lt. first_of_two (get_or xs k (told_node 0 0)) (get_or xs (k + 1) (told_node 0 0)) (up k (told_node 0 0) (omega arith) lt) (apart_from_distinct (eq_by_cmp by_node) xs k (k + 1) (told_node 0 0) apart (omega arith) lt))

below_nodes : (x : ℕ) (rs : List NodeDistance) → AllByRecursion (λ y. nat_cmp x y ≡ Less) (map (λ (r : NodeDistance). r.node) rs) → AllByRecursion (λ (r : NodeDistance). nat_cmp x r.node ≡ Less) rs
below_nodes x [] h = tt
below_nodes x (r ∷ rs) h = (h.0, below_nodes x rs h.1)

sorted_by_node : (rs : List NodeDistance) → IsStrictlySortedBy nat_cmp (map (λ (r : NodeDistance). r.node) rs) → IsStrictlySortedBy by_node rs
unfolding IsStrictlySortedBy
sorted_by_node [] s = tt
sorted_by_node (r ∷ rs) s = (below_nodes r.node rs s.0, sorted_by_node rs s.1)

-- what is told of ascending nodes differs
told_apart : (t : List (Option ℕ)) (nodes : List ℕ) → IsStrictlyIncreasing nodes → IsDistinct (eq_by_cmp by_node) (map (node_told_of t) nodes)
told_apart t nodes up = IsDistinct-from_sorted by_node (map (node_told_of t) nodes) (sorted_by_node (map (node_told_of t) nodes) (subst (λ (l : List ℕ). IsStrictlySortedBy nat_cmp l) (sym (nodes_told t nodes)) (sorted_from_strictly_increasing nodes up)))

module _ (c : NodeDistance → NodeDistance → Ordering) where
  take_all : (P : NodeDistance → Type 0) (n : ℕ) (xs : List NodeDistance) → AllByRecursion P xs → AllByRecursion P (take n xs)
  take_all P zero xs h = tt
  take_all P (suc n) [] h = tt
  take_all P (suc n) (x ∷ xs) h = (h.0, take_all P n xs h.1)

  sorted_take : (n : ℕ) (xs : List NodeDistance) → IsStrictlySortedBy c xs → IsStrictlySortedBy c (take n xs)
  unfolding IsStrictlySortedBy
  sorted_take zero xs s = tt
  sorted_take (suc n) [] s = tt
  sorted_take (suc n) (x ∷ xs) s = (take_all (λ y. c x y ≡ Less) n xs s.0, sorted_take n xs s.1)

  -- what is taken comes before what is left
  before_rest : (n : ℕ) (xs : List NodeDistance) (a b : NodeDistance) → IsStrictlySortedBy c xs → Contains (take n xs) a → Contains (drop n xs) b → c a b ≡ Less
  before_rest zero xs a b s taken left = absurd (Contains-nil a taken)
  before_rest (suc n) [] a b s taken left = absurd (Contains-nil a taken)
  before_rest (suc n) (x ∷ xs) a b s (zero, within, e) left =
      let later : Contains xs b = subst (λ (l : List NodeDistance). Contains l b) (take-append-drop n xs) (Contains-append_right (take n xs) (drop n xs) b left) in
      subst (λ (y : NodeDistance). c y b ≡ Less) e (All-contains (λ q. c x q ≡ Less) xs b (All-after_first c x xs s) later)
  before_rest (suc n) (x ∷ xs) a b s (suc k, within, e) left = before_rest n xs a b (sorted_tail c x xs s) (k, omega (arith, within), e) left

taken_within : (n : ℕ) (xs : List NodeDistance) (r : NodeDistance) → Contains (take n xs) r → Contains xs r
taken_within n xs r c = subst (λ (l : List NodeDistance). Contains l r) (take-append-drop n xs) (Contains-append_left (take n xs) (drop n xs) r c)

taken_or_left : (n : ℕ) (xs : List NodeDistance) (r : NodeDistance) → Contains xs r → Contains (take n xs) r ⊎ Contains (drop n xs) r
taken_or_left n xs r c = Contains-append_cases (take n xs) (drop n xs) r (subst (λ (l : List NodeDistance). Contains l r) (sym (take-append-drop n xs)) c)

-- ---- the nearest

-- how many one is, if it passes
abbrev count_of_one : Bool → ℕ
count_of_one passes = cond passes 1 0

one_at_most : (b : Bool) → count_of_one b ≤ 1
one_at_most true = let one : 1 ≤ 1 = omega arith in one
one_at_most false = let one : 0 ≤ 1 = omega arith in one

-- where as many pass as there are, each passes
each_passes : (p : ℕ → Bool) (xs : List ℕ) (x : ℕ) → length xs ≤ count_by p xs → Contains xs x → p x ≡ true
each_passes p [] x many c = absurd (Contains-nil x c)
each_passes p (y ∷ ys) x many (zero, within, e) = subst (λ (z : ℕ). p z ≡ true) e (here (p y) refl)
  where
    here : (b : Bool) → p y ≡ b → p y ≡ true
    here true is = is
    here false is =
        let none : count_of_one (p y) ≡ 0 = ap count_of_one is in
        absurd (omega (arith, many, none, sum_by-cons (λ (z : ℕ). cond (p z) 1 0) y ys, count_by-le-length p ys))
each_passes p (y ∷ ys) x many (suc k, within, e) = each_passes p ys x (omega (arith, many, one_at_most (p y), sum_by-cons (λ (z : ℕ). cond (p z) 1 0) y ys)) (k, omega (arith, within), e)

less_far : (a b : NodeDistance) → a.distance < b.distance → nearer_first a b ≡ Less
less_far a b less = ap (λ (o : Ordering). ordering_then o (nat_cmp a.node b.node)) (sym (nat_cmp_is a.distance b.distance Less less))

-- within the end, or beyond it
decide_within : (end : Option ℕ) (d : ℕ) → IsWithinEnd end d ⊎ ((e : ℕ) × (end ≡ Some e) × (e < d))
decide_within None d = inl tt
decide_within (Some e) d = elim (cases_lt e d) as (λ _. IsWithinEnd (Some e) d ⊎ ((e' : ℕ) × (Some e ≡ Some e') × (e' < d))) [
  | inl less ↦ inr (e, refl, less)
  | inr low ↦ inl low
]

far_enough : (t : List (Option ℕ)) (among : List ℕ) (count : ℕ) (end : Option ℕ) (e : ℕ) → end ≡ Some e → IfSome end (λ e. AreEnough t among count e) → min (length among) count ≤ count_by (has_within t end) among
far_enough t among count None e is enough = absurd (let absurdity : ⊥ = cc in absurdity)
far_enough t among count (Some e') e is enough = enough

module _ (net : Net) (source : ℕ) (among : List ℕ) (count : ℕ) (end : Option ℕ) (t : List (Option ℕ)) (sorted : List NodeDistance) (final : AreFinal net source end t) (places : AreNodesOfRow t among) (up : IsStrictlyIncreasing among) (enough : IfSome end (λ e. AreEnough t among count e)) (moved : IsPermutation (map (node_told_of t) (filter (has_within t end) among)) sorted) (order : IsSorted nearer_first sorted) where
  node_of : (x : ℕ) → Contains among x → IsNode net x
  node_of x c = let w = All-contains (λ u. (1 ≤ u) × (u < length t)) among x places c in (w.0, omega (arith, w.1, final.places))

  rises : IsStrictlySortedBy nearer_first sorted
  rises = strictly_sorted sorted order (IsDistinct-IsPermutation (eq_by_cmp by_node) ((eq_by_cmp_equiv by_node_total).symm) (map (node_told_of t) (filter (has_within t end) among)) sorted moved (told_apart t (filter (has_within t end) among) (IsStrictlyIncreasing-filter (has_within t end) among up)))

  -- what is in the list is one of these, with its distance, which is within the end
  right_of : (x d : ℕ) → Contains sorted (told_node x d) → Contains among x × Least net source x d × IsWithinEnd end d
  right_of x d c =
      let told = told_from t (filter (has_within t end) among) x d (Contains-permutation sorted (map (node_told_of t) (filter (has_within t end) among)) (told_node x d) (IsPermutation-sym (map (node_told_of t) (filter (has_within t end) among)) sorted moved) c) in
      let f = Contains-of_filter (has_within t end) among x told.0 in
      let v = value_of_has t end x f.1 in
      let same : v.0 ≡ d = sym (value_or-some 0 t x v.0 v.1) ∙ told.1 in
      let least = (final.right x v.0 v.1 v.2).1 in
      (f.0, subst (λ (n : ℕ). Least net source x n) same least, subst (λ (n : ℕ). IsWithinEnd end n) same v.2)

  -- each of these with a distance within the end is in the list
  in_list : (x d : ℕ) → Contains among x → Least net source x d → IsWithinEnd end d → Contains sorted (told_node x d)
  in_list x d c least within =
      let has = final.each x d (node_of x c) least within in
      let kept = Contains-filter (has_within t end) among x (has_of_value t end x d has within) c in
      Contains-permutation (map (node_told_of t) (filter (has_within t end) among)) sorted (told_node x d) moved (told_to t (filter (has_within t end) among) x d kept has)

  long : length sorted ≡ count_by (has_within t end) among
  long = length_permutation (map (node_told_of t) (filter (has_within t end) among)) sorted moved ∙ (length-map (filter (has_within t end) among) (node_told_of t) ∙ length-filter (has_within t end) among)

  -- one in the list is told, or comes after those that are
  told_or_after : (x d : ℕ) → Contains sorted (told_node x d) → Contains (take count sorted) (told_node x d) ⊎ ComeBefore count (take count sorted) (told_node x d)
  told_or_after x d c = elim (taken_or_left count sorted (told_node x d) c) as (λ _. Contains (take count sorted) (told_node x d) ⊎ ComeBefore count (take count sorted) (told_node x d)) [
    | inl taken ↦ inl taken
    | inr left ↦ inr (record {
      full = omega (arith, left.1, length-drop count sorted, length-take count sorted);
      before = λ y n taken. before_rest nearer_first count sorted (told_node y n) (told_node x d) rises taken left;
    })
  ]

  -- one beyond the end comes after all that are told, and these are as many as were asked for
  far_after : (x d e : ℕ) → Contains among x → Least net source x d → end ≡ Some e → e < d → ComeBefore count (take count sorted) (told_node x d)
  far_after x d e c least is beyond = by_number (cases_lt count (length among))
    where
      at_end : min (length among) count ≤ count_by (has_within t end) among
      at_end = far_enough t among count end e is enough

      far_of : (y n : ℕ) → Contains sorted (told_node y n) → n < d
      far_of y n c' = let near : n ≤ e = subst (λ (o : Option ℕ). IsWithinEnd o n) is (right_of y n c').2 in omega (arith, near, beyond)

      by_number : (count < length among) ⊎ (length among ≤ count) → ComeBefore count (take count sorted) (told_node x d)
      by_number (inl fewer) = record {
        full = omega (arith, fewer, at_end, long, length-take count sorted);
        before = λ y n taken. less_far (told_node y n) (told_node x d) (far_of y n (taken_within count sorted (told_node y n) taken));
      }
      by_number (inr all) =
          let has = each_passes (has_within t end) among x (omega (arith, all, at_end)) c in
          let v = value_of_has t end x has in
          let near : v.0 ≤ e = subst (λ (o : Option ℕ). IsWithinEnd o v.0) is v.2 in
          let same : v.0 ≡ d = Least-once net source x v.0 d (final.right x v.0 v.1 v.2).1 least in
          absurd (omega (arith, near, same, beyond))

  pub AreNearest-told : AreNearest net source among count (take count sorted)
  AreNearest-told = record {
    ascending = sorted_take nearer_first count sorted rises;
    few = omega (arith, length-take count sorted);
    right = λ x d c. let r = right_of x d (taken_within count sorted (told_node x d) c) in (r.0, r.1);
    nearest = λ x d c least. elim (decide_within end d) as (λ _. Contains (take count sorted) (told_node x d) ⊎ ComeBefore count (take count sorted) (told_node x d)) [
      | inl within ↦ told_or_after x d (in_list x d c least within)
      | inr far ↦ inr (far_after x d far.0 c least far.1 far.2)
    ];
  }
