-- A walk can be cut to one that visits no node twice, and so a least distance is bounded.
use Rattle.std.proofs.Common.{◌≡◌, ℕ, zero, suc, ◌+◌, ◌-◌, ◌*◌, ◌<◌, ◌≤◌, ◌⊎◌, false, List, [], ◌∷◌, Some, length, refl, sym, ap, subst, ◌∙◌, inl, inr, arith, le_refl, eqb, eqb-true, ne_eqb}
use Rattle.std.specs.Option.{option_map_or}
use Rattle.std.specs.List.{Contains, IsDistinct, AllByRecursion}
use Rattle.std.proofs.lemmas.Bool.{cases_eq}
use Rattle.std.proofs.lemmas.List.Sums.{sum_by-cons}
use Rattle.std.proofs.lemmas.Map.Steps.{length-le_from_distinct_below}
use Rattle.std.proofs.lemmas.Map.Views.{Contains-from_any}
use Rattle.std.proofs.lemmas.Option.{slice_get_within, get_or_from_slice_get}
use Rattle.roadnet.specs.declared.arcs.RoadArc.{RoadArc}
use Rattle.roadnet.specs.Net.{Net, IsNode, IsNetwork, IsArcAmong, arc_at}
use Rattle.roadnet.specs.Walks.{Walk, length_of, length_of_arc}
use Rattle.roadnet.specs.WalkLaws.{LeastIsBounded}

-- an arc that a network has is among its nodes
pub arc_among : (net : Net) (k : ℕ) (arc : RoadArc) → IsNetwork net → arc_at net k ≡ Some arc → IsArcAmong net.nodes arc
arc_among net zero arc ok is = absurd (let absurdity : ⊥ = cc in absurdity)
arc_among net (suc k) arc ok is = subst (λ (a : RoadArc). IsArcAmong net.nodes a) (get_or_from_slice_get net.arcs k arc arc is) (ok.each_arc k arc (slice_get_within net.arcs k arc is))

head_of : Net → ℕ → ℕ
head_of net k = option_map_or (λ (arc : RoadArc). arc.head) (arc_at net k) 0

head_is : (net : Net) (k : ℕ) (arc : RoadArc) → arc_at net k ≡ Some arc → head_of net k ≡ arc.head
unfolding head_of
head_is net k arc is = ap (λ o. option_map_or (λ (a : RoadArc). a.head) o 0) is

pub length_is : (net : Net) (k : ℕ) (arc : RoadArc) → arc_at net k ≡ Some arc → length_of_arc net k ≡ arc.length
length_is net k arc is = ap (λ o. option_map_or (λ (a : RoadArc). a.length) o 0) is

pub length_of-cons : (net : Net) (k : ℕ) (walk : List ℕ) → length_of net (k ∷ walk) ≡ length_of_arc net k + length_of net walk
length_of-cons net k walk = sum_by-cons (length_of_arc net) k walk

-- the nodes that a walk from s visits
visited : Net → ℕ → List ℕ → List ℕ
visited net s [] = s ∷ []
visited net s (k ∷ walk) = s ∷ visited net (head_of net k) walk

AreApart : List ℕ → Type 0
AreApart [] = Unit {0}
AreApart (x ∷ xs) = (Contains xs x → ⊥) × AreApart xs

-- a walk that is no longer than d and visits no node twice
record ShortWalk (net : Net) (s t d : ℕ) : Type 0 where
  walk : List ℕ
  walks : Walk net s t walk
  short : length_of net walk ≤ d
  apart : AreApart (visited net s walk)

Contains-nil : (x : ℕ) → Contains [] x → ⊥
Contains-nil x (k, within, e) = absurd (omega arith)

Contains-head : (x : ℕ) (xs : List ℕ) → Contains (x ∷ xs) x
Contains-head x xs = (0, omega arith, refl)

Contains-tail : (y : ℕ) (xs : List ℕ) (x : ℕ) → Contains xs x → Contains (y ∷ xs) x
Contains-tail y xs x (k, within, e) = (suc k, omega arith, e)

-- what is left of a walk from a node that it visits
from_visited : (net : Net) (s t u : ℕ) (walk : List ℕ) → Walk net s t walk → AreApart (visited net s walk) → Contains (visited net s walk) u → ShortWalk net u t (length_of net walk)
unfolding visited AreApart
from_visited net s t u [] (node, same) apart (zero, within, e) = record { walk = []; walks = (subst (IsNode net) e node, sym e ∙ same); short = le_refl 0; apart = ((λ c. Contains-nil u c), tt) }
from_visited net s t u [] walks apart (suc k, within, e) = absurd (omega arith)
from_visited net s t u (k ∷ walk) walks apart (zero, within, e) =
    let P : ℕ → Type 0 = λ v. ShortWalk net v t (length_of net (k ∷ walk)) in
    subst P e (record { walk = k ∷ walk; walks = walks; short = le_refl (length_of net (k ∷ walk)); apart = apart })
from_visited net s t u (k ∷ walk) (arc, is, opened, tail, rest) apart (suc j, within, e) =
    let Q : ℕ → Type 0 = λ v. AreApart (visited net v walk) in
    let R : ℕ → Type 0 = λ v. Contains (visited net v walk) u in
    let r = from_visited net arc.head t u walk rest (subst Q (head_is net k arc is) apart.1) (subst R (head_is net k arc is) (j, omega arith, e)) in
    record { walk = r.walk; walks = r.walks; short = omega (arith, r.short, length_of-cons net k walk); apart = r.apart }

not_member : (y : ℕ) (xs : List ℕ) (x : ℕ) → (y ≡ x → ⊥) → (Contains xs x → ⊥) → Contains (y ∷ xs) x → ⊥
not_member y xs x ne not_in (zero, within, e) = ne e
not_member y xs x ne not_in (suc k, within, e) = not_in (k, omega arith, e)

-- a number is a member of a list, or is not
pub decide_member : (xs : List ℕ) (x : ℕ) → Contains xs x ⊎ (Contains xs x → ⊥)
decide_member [] x = inr (λ c. Contains-nil x c)
decide_member (y ∷ xs) x = elim (cases_eq y x) as (λ _. Contains (y ∷ xs) x ⊎ (Contains (y ∷ xs) x → ⊥)) [
  | inl e ↦ inl (subst (λ z. Contains (y ∷ xs) z) e (Contains-head y xs))
  | inr ne ↦ elim (decide_member xs x) as (λ _. Contains (y ∷ xs) x ⊎ (Contains (y ∷ xs) x → ⊥)) [
    | inl c ↦ inl (Contains-tail y xs x c)
    | inr not_in ↦ inr (not_member y xs x ne not_in)
  ]
]

-- each walk can be cut to one that visits no node twice
short_walk : (net : Net) (s t : ℕ) (walk : List ℕ) → Walk net s t walk → ShortWalk net s t (length_of net walk)
unfolding visited AreApart
short_walk net s t [] walks = record { walk = []; walks = walks; short = le_refl 0; apart = ((λ c. Contains-nil s c), tt) }
short_walk net s t (k ∷ walk) (arc, is, opened, tail, rest) =
    let r = short_walk net arc.head t walk rest in
    elim (decide_member (visited net arc.head r.walk) s) as (λ _. ShortWalk net s t (length_of net (k ∷ walk))) [
      | inl again ↦
          let cut = from_visited net arc.head t s r.walk r.walks r.apart again in
          record { walk = cut.walk; walks = cut.walks; short = omega (arith, cut.short, r.short, length_of-cons net k walk); apart = cut.apart }
      | inr new ↦
          let P : ℕ → Type 0 = λ v. AreApart (s ∷ visited net v r.walk) in
          let apart : AreApart (s ∷ visited net arc.head r.walk) = (new, r.apart) in
          record { walk = k ∷ r.walk; walks = (arc, is, opened, tail, r.walks); short = omega (arith, r.short, length_of-cons net k walk, length_of-cons net k r.walk); apart = subst P (sym (head_is net k arc is)) apart }
    ]

differs_from_all : (x : ℕ) (xs : List ℕ) → (Contains xs x → ⊥) → AllByRecursion (λ y. eqb x y ≡ false) xs
differs_from_all x [] not_in = tt
differs_from_all x (y ∷ ys) not_in = (ne_eqb x y (λ e. not_in (subst (λ z. Contains (y ∷ ys) z) (sym e) (Contains-head y ys))), differs_from_all x ys (λ c. not_in (Contains-tail y ys x c)))

distinct_from_apart : (xs : List ℕ) → AreApart xs → IsDistinct eqb xs
unfolding IsDistinct AreApart
distinct_from_apart [] apart = tt
distinct_from_apart (x ∷ xs) apart = (differs_from_all x xs apart.0, distinct_from_apart xs apart.1)

-- nodes that differ are at most as many as there are nodes
apart_length : (n : ℕ) (xs : List ℕ) → AreApart xs → ((x : ℕ) → Contains xs x → (1 ≤ x) × (x ≤ n)) → length xs ≤ n
unfolding AreApart
apart_length n xs apart within =
    let zero_new : Contains xs 0 → ⊥ = λ c. absurd (omega (arith, (within 0 c).0)) in
    let bound : length (0 ∷ xs) ≤ n + 1 = length-le_from_distinct_below (0 ∷ xs) (n + 1) (distinct_from_apart (0 ∷ xs) (zero_new, apart)) (λ q h. below q (Contains-from_any (λ a b e. eqb-true a b e) q (0 ∷ xs) h)) in
    omega (arith, bound)
  where
    below : (q : ℕ) → Contains (0 ∷ xs) q → q < n + 1
    below q (zero, inside, e) = omega arith
    below q (suc k, inside, e) = let w = within q (k, omega arith, e) in omega (arith, w.1)

length-visited : (net : Net) (s : ℕ) (walk : List ℕ) → length (visited net s walk) ≡ length walk + 1
unfolding visited
length-visited net s [] = refl
length-visited net s (k ∷ walk) = omega (arith, length-visited net (head_of net k) walk)

start_is_node : (net : Net) (s t : ℕ) (walk : List ℕ) → IsNetwork net → Walk net s t walk → IsNode net s
start_is_node net s t [] ok walks = walks.0
start_is_node net s t (k ∷ walk) ok (arc, is, opened, tail, rest) = let among = arc_among net k arc ok is in subst (IsNode net) tail (among.tail_from, among.tail_to)

visited_nodes : (net : Net) (s t : ℕ) (walk : List ℕ) → IsNetwork net → Walk net s t walk → (x : ℕ) → Contains (visited net s walk) x → (1 ≤ x) × (x ≤ net.nodes)
unfolding visited
visited_nodes net s t [] ok walks x (zero, inside, e) = subst (IsNode net) e walks.0
visited_nodes net s t [] ok walks x (suc k, inside, e) = absurd (omega arith)
visited_nodes net s t (k ∷ walk) ok walks x (zero, inside, e) = subst (IsNode net) e (start_is_node net s t (k ∷ walk) ok walks)
visited_nodes net s t (k ∷ walk) ok (arc, is, opened, tail, rest) x (suc j, inside, e) =
    let R : ℕ → Type 0 = λ v. Contains (visited net v walk) x in
    visited_nodes net arc.head t walk ok rest x (subst R (head_is net k arc is) (j, omega arith, e))

length_of-le : (net : Net) (s t : ℕ) (walk : List ℕ) → IsNetwork net → Walk net s t walk → length_of net walk ≤ length walk * 2147483647
length_of-le net s t [] ok walks = omega arith
length_of-le net s t (k ∷ walk) ok (arc, is, opened, tail, rest) =
    let among = arc_among net k arc ok is in
    omega (arith, length_of-le net arc.head t walk ok rest, among.length_to, length_is net k arc is, length_of-cons net k walk)

bounded_by : (n count d : ℕ) → count + 1 ≤ n → d ≤ count * 2147483647 → d ≤ (n - 1) * 2147483647
bounded_by n count d few le = omega arith

pub least_is_bounded : LeastIsBounded
least_is_bounded net s t d ok least =
    let (walk, walks, long) = least.walked in
    let cut = short_walk net s t walk walks in
    let few : length (visited net s cut.walk) ≤ net.nodes = apart_length net.nodes (visited net s cut.walk) cut.apart (visited_nodes net s t cut.walk ok cut.walks) in
    let low : d ≤ length_of net cut.walk = least.least cut.walk cut.walks in
    let high : length_of net cut.walk ≤ length cut.walk * 2147483647 = length_of-le net s t cut.walk ok cut.walks in
    bounded_by net.nodes (length cut.walk) d (omega (arith, few, length-visited net s cut.walk)) (omega arith)
