-- A search over legs that were narrowed is one over those from which they were.
use Rattle.std.proofs.Common.{◌≡◌, ℕ, ◌+◌, ◌-◌, ◌*◌, ◌/◌, ◌^◌, ◌<◌, ◌≤◌, ◌⊎◌, List, [], ◌∷◌, Contains, Option, None, Some, IsSome, MatchOption, refl, ap, subst, ◌∙◌, inl, inr, ⊎_elim, arith}
use Rattle.std.specs.FinMap.{get, empty}
use Rattle.std.proofs.Math.Nat.{div-le_of_le-mul, mul-add, mul-le-mul_right}
use Rattle.roadnet.specs.Net.{Net, IsNode}
use Rattle.roadnet.specs.Walks.{NoWalk, RowOf}
use Rattle.snapshot.specs.Groups.{Groups, IsGrouped, IsNarrowed, IsSnapshotOf}
use Rattle.snapshot.proofs.Narrowing.{LegOf, LegOf-narrow, LegOf-wide}
use Rattle.snapshot.specs.declared.legs.Leg.{Leg}
use Rattle.snapshot.specs.declared.legs.Part.{Part}
use Rattle.snapshot.specs.declared.legs.Part.TheVariants.{Light, Heavy}
use Rattle.relax.specs.Values.{value_at, value_or}
use Rattle.buckets.specs.Queue.{Entries}
use Rattle.deltastep.specs.Search.{IsBetweenBuckets, IsNarrowedOf, IsRelaxed, IsRelaxedBut, Suits, Trip, ring_buckets, top_of}
use Rattle.deltastep.specs.Reach.{AreFinal, IsBeyond, IsLeastLength, IsKnownTo, Knows}
use Rattle.deltastep.proofs.Ending.{AreFinal-beyond}
use Rattle.deltastep.proofs.Finishing.{IsFinal-over, RowOf-over, entry_of_final}

pub IsNarrowed-self : (groups : Groups) → IsNarrowed groups groups
IsNarrowed-self groups = record { nodes = refl; delta = omega arith; greatest = refl; legs = λ u. refl }

pub IsNarrowedOf-of : (net : Net) (wide narrow : Groups) → IsGrouped wide → IsNarrowed wide narrow → IsSnapshotOf net wide → IsNarrowedOf net narrow
IsNarrowedOf-of net wide narrow grouped is snapshot = record { wide = wide; grouped = grouped; snapshot = snapshot; narrowed = is }

module _ (wide narrow : Groups) (is : IsNarrowed wide narrow) where
  top_is : top_of narrow ≡ top_of wide
  unfolding top_of
  top_is = ap (λ n. (n - 1) * 2147483647 + 1) is.nodes

  Trip-wide : (s t : ℕ) (legs : List Leg) → Trip narrow s t legs → Trip wide s t legs
  Trip-wide s t [] trip = trip
  Trip-wide s t (leg ∷ legs) (part, c, trip) = let there : LegOf wide s leg = LegOf-wide wide narrow is s leg part c in (there.part, there.among, Trip-wide leg.head t legs trip)

  IsRelaxed-wide : (part : Part) (t : List (Option ℕ)) (u : ℕ) → ((p : Part) → IsRelaxed narrow p t u) → IsRelaxed wide part t u
  IsRelaxed-wide part t u relaxed leg c =
      let there : LegOf narrow u leg = LegOf-narrow wide narrow is u leg part c in
      subst (λ (top : ℕ). value_or top t leg.head ≤ value_or top t u + leg.length) top_is (relaxed there.part leg there.among)

  both : (t : List (Option ℕ)) (u : ℕ) → IsRelaxed narrow Light t u → IsRelaxed narrow Heavy t u → (p : Part) → IsRelaxed narrow p t u
  both t u light heavy Light = light
  both t u light heavy Heavy = heavy

  -- what a node owes that owes nothing else
  owes : (part : Part) (t : List (Option ℕ)) (queue : Entries) (u : ℕ) → IsSome (get queue u) ⊎ (Contains [] u ⊎ IsRelaxed narrow part t u) → IsSome (get queue u) ⊎ IsRelaxed narrow part t u
  owes part t queue u (inl queued) = inl queued
  owes part t queue u (inr (inl owed)) = absurd (let absurdity : ⊥ = omega (arith, owed.1) in absurdity)
  owes part t queue u (inr (inr relaxed)) = inr relaxed

  IsRelaxedBut-wide : (part : Part) (t : List (Option ℕ)) (queue : Entries) → IsRelaxedBut narrow Light t queue [] → IsRelaxedBut narrow Heavy t queue [] → IsRelaxedBut wide part t queue []
  IsRelaxedBut-wide part t queue light heavy u =
      ⊎_elim
      (λ (queued : IsSome (get queue u)). inl queued)
      (λ (l : IsRelaxed narrow Light t u). ⊎_elim
      (λ (queued : IsSome (get queue u)). inl queued)
      (λ (h : IsRelaxed narrow Heavy t u). inr (inr (IsRelaxed-wide part t u (both t u l h))))
      (owes Heavy t queue u (heavy u)))
      (owes Light t queue u (light u))

  pub IsBetweenBuckets-wide : (source : ℕ) (t : List (Option ℕ)) (queue : Entries) → IsBetweenBuckets narrow source t queue → IsBetweenBuckets wide source t queue
  IsBetweenBuckets-wide source t queue between = record {
    search = record {
      places = between.search.places ∙ ap (λ n. n + 1) is.nodes;
      node = between.search.node;
      below_top = λ u x e. subst (λ (top : ℕ). x < top) top_is (between.search.below_top u x e);
      queued = between.search.queued;
      above = λ u x e. omega arith;
    };
    reached = record {
      starts = between.reached.starts;
      reached = λ u x e. let r = between.reached.reached u x e in record { legs = r.legs; trip = Trip-wide source u r.legs r.trip; long = r.long };
    };
    light = IsRelaxedBut-wide Light t queue between.light between.heavy;
    heavy = IsRelaxedBut-wide Heavy t queue between.light between.heavy;
  }

-- a search that is over leaves the row of its source
pub RowOf-narrowed : (net : Net) (groups : Groups) → IsNarrowedOf net groups → (source : ℕ) (t row : List (Option ℕ)) → 1 ≤ source → source ≤ groups.nodes → IsBetweenBuckets groups source t empty → t ≡ None ∷ row → RowOf net source row
RowOf-narrowed net groups of source t row low high over is =
    RowOf-over net of.wide of.snapshot of.grouped source t row low (subst (λ (n : ℕ). source ≤ n) of.narrowed.nodes high) (IsBetweenBuckets-wide of.wide groups of.narrowed source t empty over) is

-- a search that ends before what is queued knows all up to its end
pub knows_narrowed : (net : Net) (groups : Groups) → IsNarrowedOf net groups → (source : ℕ) → 1 ≤ source → source ≤ groups.nodes → (t : List (Option ℕ)) (queue : Entries) → IsBetweenBuckets groups source t queue → (end : Option ℕ) → IsBeyond end queue → Knows net source end t
knows_narrowed net groups of source low high t queue between end beyond =
    let inside : source ≤ of.wide.nodes = subst (λ (n : ℕ). source ≤ n) of.narrowed.nodes high in
    let wide : IsBetweenBuckets of.wide source t queue = IsBetweenBuckets-wide of.wide groups of.narrowed source t queue between in
    record {
      final = AreFinal-beyond net of.wide of.snapshot of.grouped source low inside t queue wide end beyond;
      over = λ none target node. entry_of_final net of.wide of.snapshot of.grouped source t queue target low inside wide (IsFinal-over of.wide t queue target (subst (λ (e : Option ℕ). IsBeyond e queue) none beyond));
    }

-- .. and one that ends before what is queued behind the target knows the target
pub known_narrowed : (net : Net) (groups : Groups) → IsNarrowedOf net groups → (source target : ℕ) → (1 ≤ source) × (source ≤ groups.nodes) → (1 ≤ target) × (target ≤ groups.nodes) → (t : List (Option ℕ)) (queue : Entries) → IsBetweenBuckets groups source t queue → IsBeyond (value_at t target) queue → IsKnownTo net source target t
known_narrowed net groups of source target from to t queue between beyond =
    let knows = knows_narrowed net groups of source from.0 from.1 t queue between (value_at t target) beyond in
    by (value_at t target) refl knows.final
  where
    node : IsNode net target
    node = (to.0, omega (arith, to.1, of.narrowed.nodes, of.snapshot.nodes))

    by : (o : Option ℕ) → value_at t target ≡ o → AreFinal net source o t → MatchOption o (NoWalk net source target) (λ far. AreFinal net source (Some far) t)
    by None e final = subst (λ (o : Option ℕ). IsLeastLength net source target o) e ((knows_narrowed net groups of source from.0 from.1 t queue between (value_at t target) beyond).over e target node)
    by (Some far) e final = final

-- ---- a frontier in which all buckets fit

ring_buckets-few : (g d : ℕ) → 1 ≤ d → ring_buckets g d ≤ g + 2
ring_buckets-few g d positive =
    let more : 1 * g ≤ d * g = mul-le-mul_right g positive in
    let split : d * (g + 1) ≡ d * g + d * 1 = mul-add d g 1 in
    let small : (g + (d - 1)) / d ≤ g + 1 = div-le_of_le-mul d (omega (arith, more, split)) in
    omega (arith, small)

pub Suits-endless : (groups : Groups) (entries : Entries) (accepts : ℕ → Type 0) (width span : ℕ) → IsGrouped groups → entries ≡ empty → accepts 0 → width ≡ groups.delta → span ≡ 2 ^ 64 → Suits groups entries accepts width span
Suits-endless groups entries accepts width span grouped none first is endless = record {
  empty = none;
  first = first;
  suited = record {
    width = is;
    window = let few : ring_buckets groups.greatest groups.delta ≤ groups.greatest + 2 = ring_buckets-few groups.greatest groups.delta grouped.delta in omega (arith, few, grouped.greatest, endless);
  };
}
