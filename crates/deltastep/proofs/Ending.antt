-- Up to which length the values of a search are final that ends before all nodes are settled.
use Rattle.std.proofs.Common.{◌≡◌, ◌↔◌, ℕ, zero, suc, ◌+◌, ◌-◌, ◌*◌, ◌/◌, ◌<◌, ◌≤◌, Bool, true, false, IsTrue, List, [], ◌∷◌, length, Option, Some, None, IsSome, MatchOption, refl, sym, ap, subst, ◌∙◌, inl, inr, arith, le_refl, div-lt_iff_lt-mul}
use Rattle.std.proofs.lemmas.Bool.{cases_lt}
use Rattle.std.proofs.lemmas.List.{get_or_past}
use Rattle.std.specs.FinMap.{empty, get, get-empty}
use Rattle.std.specs.Ordering.{nat_cmp}
use Rattle.relax.specs.Values.{value_at, value_or}
use Rattle.roadnet.specs.Net.{Net, IsNode}
use Rattle.roadnet.specs.Walks.{Least, NoWalk, RowOf, distance_at}
use Rattle.snapshot.specs.Groups.{Groups, IsGrouped, IsSnapshotOf}
use Rattle.buckets.specs.Queue.{Entries}
use Rattle.deltastep.specs.Reach.{AreFinal, IsBeyond, IsLeastLength, IsKnownTo, IsWithinEnd}
use Rattle.deltastep.specs.Search.{AreLater, IsBetweenBuckets, IsFinal, IsRelaxedBut, Trip, top_of, trip_length}
use Rattle.snapshot.specs.declared.legs.Leg.{Leg}
use Rattle.snapshot.specs.declared.legs.Part.{Part}
use Rattle.snapshot.specs.declared.legs.Part.TheVariants.{Light, Heavy}
use Rattle.deltastep.proofs.Division.{div-le_div}
use Rattle.deltastep.proofs.Finishing.{IsFinal-over, bound-le_trip, distance_at-value_at, entry_of_final, trip_of_walk}
use Rattle.deltastep.proofs.Lowering.{value_or-some}

-- a number up to the last one of a bucket is in that bucket or an earlier one
pub div-le_last : (n b d : ℕ) → 1 ≤ d → n ≤ b * d + (d - 1) → n / d ≤ b
div-le_last n b d positive h =
    let below : n / d < b + 1 = (div-lt_iff_lt-mul positive).1 (omega arith) in
    omega (arith, below)

-- what is queued in later buckets is beyond a number of this bucket or an earlier one
pub beyond_later : (d b end : ℕ) (queue : Entries) → 1 ≤ d → end / d ≤ b → AreLater d b queue → IsBeyond (Some end) queue
beyond_later d b end queue positive within later u x queued =
    elim (cases_lt end x) as (λ _. end < x) [
      | inl less ↦ less
      | inr low ↦ absurd (omega (arith, div-le_div x end d positive low, later u x queued, within))
    ]

-- where nothing is queued, nothing is before an end
pub beyond_over : (end : Option ℕ) (queue : Entries) → queue ≡ empty → IsBeyond end queue
beyond_over None queue none = none
beyond_over (Some e) queue none = λ u x has. absurd (let no : None ≡ Some x = sym (ap (λ (m : Entries). get m u) none ∙ get-empty nat_cmp u) ∙ has in let absurdity : ⊥ = cc in absurdity)

-- by a test whether a node's value is in a bucket or an earlier one
pub beyond_within : (t : List (Option ℕ)) (queue : Entries) (v delta width b : ℕ) (within : Bool) → 1 ≤ delta → width ≡ delta → MatchOption (value_at t v) (within ≡ false) (λ value. IsTrue within ↔ (value / width ≤ b)) → within ≡ true → AreLater delta b queue → IsBeyond (value_at t v) queue
beyond_within t queue v delta width b within positive same test passed later =
    elim (value_at t v) as (λ o. MatchOption o (within ≡ false) (λ value. IsTrue within ↔ (value / width ≤ b)) → IsBeyond o queue) [
      | None ↦ λ no. absurd (let absurdity : ⊥ = cc in absurdity)
      | Some value ↦ λ here. beyond_later delta b value queue positive (subst (λ w. value / w ≤ b) same (here.0 passed)) later
    ] test

-- a node has one distance
pub Least-once : (net : Net) (s t d e : ℕ) → Least net s t d → Least net s t e → d ≡ e
Least-once net s t d e a b = omega (arith, a.least b.walked.0 b.walked.1, b.walked.2, b.least a.walked.0 a.walked.1, a.walked.2)

-- an entry is the distance
pub entry_is : (net : Net) (s t d : ℕ) (o : Option ℕ) → MatchOption o (NoWalk net s t) (Least net s t) → Least net s t d → o ≡ Some d
entry_is net s t d None none least = absurd (none least.walked.0 least.walked.1)
entry_is net s t d (Some e) known least = ap (λ n. Some n) (Least-once net s t e d known least)

-- .. and its least length
pub entry_least : (net : Net) (s t d : ℕ) (o : Option ℕ) → MatchOption o (NoWalk net s t) (Least net s t) → o ≡ Some d → Least net s t d
entry_least net s t d None known e = absurd (let absurdity : ⊥ = cc in absurdity)
entry_least net s t d (Some x) known e = let same : x ≡ d = cc in subst (λ n. Least net s t n) same known

-- what has a value has a place
pub value_below : (t : List (Option ℕ)) (u d : ℕ) → value_at t u ≡ Some d → u < length t
value_below t u d has = elim (cases_lt u (length t)) as (λ _. u < length t) [
  | inl less ↦ less
  | inr past ↦ absurd (let no : None ≡ Some d = sym (get_or_past t u None past) ∙ has in let absurdity : ⊥ = cc in absurdity)
]

module _ (net : Net) (groups : Groups) (snapshot : IsSnapshotOf net groups) (grouped : IsGrouped groups) (source : ℕ) (low : 1 ≤ source) (high : source ≤ groups.nodes) (t : List (Option ℕ)) (queue : Entries) (between : IsBetweenBuckets groups source t queue) where
  node_of_value : (u d : ℕ) → value_at t u ≡ Some d → IsNode net u
  node_of_value u d has = (between.search.node u d has, omega (arith, value_below t u d has, between.search.places, snapshot.nodes))

  -- a node whose value is at most the end, if it has one
  final_within : (end : Option ℕ) (u d : ℕ) → IsBeyond end queue → value_at t u ≡ Some d → IsWithinEnd end d → IsFinal groups t queue u
  final_within None u d beyond has within v x queued = IsFinal-over groups t queue u beyond v x queued
  final_within (Some e) u d beyond has within v x queued = let near : d ≤ e = within in omega (arith, beyond v x queued, near, value_or-some (top_of groups) t u d has)

  -- a distance within the end is the value
  value_within : (end : Option ℕ) (u d : ℕ) → IsBeyond end queue → Least net source u d → IsWithinEnd end d → value_at t u ≡ Some d
  value_within None u d beyond least within = entry_is net source u d (value_at t u) (entry_of_final net groups snapshot grouped source t queue u low high between (IsFinal-over groups t queue u beyond)) least
  value_within (Some e) u d beyond least within =
      elim (cases_lt e (value_or (top_of groups) t u)) as (λ _. value_at t u ≡ Some d) [
        | inl above ↦
            let trip = trip_of_walk net groups snapshot grouped source u least.walked.0 low high least.walked.1 in
            let begins : value_or (top_of groups) t source ≡ 0 = value_or-some (top_of groups) t source 0 between.reached.starts in
            let bound : e + 1 ≤ value_or (top_of groups) t source + d = bound_of above trip.0 trip.1 (trip.2 ∙ least.walked.2) in
            let near : d ≤ e = within in
            absurd (omega (arith, bound, begins, near))
        | inr below ↦
            let final : IsFinal groups t queue u = λ v x queued. omega (arith, beyond v x queued, below) in
            entry_is net source u d (value_at t u) (entry_of_final net groups snapshot grouped source t queue u low high between final) least
      ]
    where
      relaxed : (part : Part) → IsRelaxedBut groups part t queue []
      relaxed Light = between.light
      relaxed Heavy = between.heavy

      queued_above : (v : ℕ) (o : Option ℕ) → get queue v ≡ o → IsSome o → e + 1 ≤ value_or (top_of groups) t v
      queued_above v None is some = absurd (let absurdity : ⊥ = cc in absurdity)
      queued_above v (Some x) is some = omega (arith, beyond v x is, value_or-some (top_of groups) t v x (between.search.queued v x is))

      bound_of : e < value_or (top_of groups) t u → (legs : List Leg) → Trip groups source u legs → trip_length legs ≡ d → e + 1 ≤ value_or (top_of groups) t source + d
      bound_of above legs trip long = omega (arith, long, bound-le_trip groups t queue u (e + 1) relaxed (omega (arith, above)) (λ v some. queued_above v (get queue v) refl some) source legs trip)

  -- where all that is queued is beyond an end, the values are final up to it
  pub AreFinal-beyond : (end : Option ℕ) → IsBeyond end queue → AreFinal net source end t
  AreFinal-beyond end beyond = record {
    places = omega (arith, between.search.places, snapshot.nodes);
    right = λ u d has within. (node_of_value u d has, entry_least net source u d (value_at t u) (entry_of_final net groups snapshot grouped source t queue u low high between (final_within end u d beyond has within)) has);
    each = λ u d node least within. value_within end u d beyond least within;
  }

-- what is known of the target is its distance
pub IsDistance-known : (net : Net) (source target : ℕ) (t : List (Option ℕ)) → IsKnownTo net source target t → IsLeastLength net source target (value_at t target)
IsDistance-known net source target t known = of (value_at t target) refl known
  where
    of : (o : Option ℕ) → value_at t target ≡ o → MatchOption o (NoWalk net source target) (λ far. AreFinal net source (Some far) t) → IsLeastLength net source target o
    of None e none = none
    of (Some far) e final = (final.right target far e (le_refl far)).1

-- all entries of a row are final
pub AreFinal-row : (net : Net) (source : ℕ) (row : List (Option ℕ)) → RowOf net source row → AreFinal net source None (None ∷ row)
AreFinal-row net source row is = record {
  places = omega (arith, is.size);
  right = λ u d has _. (node u d has, entry_least net source u d (distance_at row u) (is.each u (node u d has)) (distance_at-value_at row u ∙ has));
  each = λ u d within least _. sym (distance_at-value_at row u) ∙ entry_is net source u d (distance_at row u) (is.each u within) least;
}
  where
    above : (u d : ℕ) → value_at (None ∷ row) u ≡ Some d → 1 ≤ u
    above zero d has = absurd (let absurdity : ⊥ = cc in absurdity)
    above (suc u) d has = omega arith

    node : (u d : ℕ) → value_at (None ∷ row) u ≡ Some d → IsNode net u
    node u d has = (above u d has, omega (arith, value_below (None ∷ row) u d has, is.size))
