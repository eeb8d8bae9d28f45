-- What a search knows that goes on from values which are lengths of trips.
use Rattle.std.proofs.Common.{◌≡◌, ℕ, zero, suc, ◌≤◌, ◌⊎◌, List, [], Contains, IsSome, Option, sym, subst, ◌∙◌, inl, inr, arith}
use Rattle.std.proofs.lemmas.Bool.{cases_lt}
use Rattle.std.specs.FinMap.{get, empty}
use Rattle.snapshot.specs.Groups.{Groups, legs_of, IsGrouped}
use Rattle.snapshot.specs.declared.legs.Leg.{Leg}
use Rattle.snapshot.specs.declared.legs.Part.{Part}
use Rattle.snapshot.specs.declared.legs.Part.TheVariants.{Light, Heavy}
use Rattle.buckets.specs.Queue.{Entries}
use Rattle.deltastep.specs.Search.{AreReached, IsSearch, IsRelaxed, IsRelaxedBut, IsBetweenBuckets, top_of}
use Rattle.deltastep.specs.Repair.{AreChanged, AreQueued}
use Rattle.frontier.proofs.Members.{Contains-nil}

pub top_small : (groups : Groups) → IsGrouped groups → top_of groups ≤ 72057594037927936
unfolding top_of
top_small groups grouped = let few : groups.nodes ≤ 33554432 = grouped.nodes in omega arith

-- what is no node has no legs
no_legs : (groups : Groups) (part : Part) (t : List (Option ℕ)) (u : ℕ) → legs_of groups part u ≡ [] → IsRelaxed groups part t u
no_legs groups part t u none leg c = absurd (Contains-nil leg (subst (λ (l : List Leg). Contains l leg) none c))

module _ (groups : Groups) (grouped : IsGrouped groups) (t : List (Option ℕ)) (search : IsSearch groups t empty 0) (q : Entries) (queued : AreQueued t q) (owing : (u : ℕ) → 1 ≤ u → u ≤ groups.nodes → IsSome (get q u) ⊎ ((part : Part) → IsRelaxed groups part t u)) where
  relaxed_but : (part : Part) → IsRelaxedBut groups part t q []
  relaxed_but part zero = inr (inr (no_legs groups part t 0 (grouped.first part)))
  relaxed_but part (suc u) = elim (cases_lt groups.nodes (suc u)) as (λ _. IsSome (get q (suc u)) ⊎ (Contains [] (suc u) ⊎ IsRelaxed groups part t (suc u))) [
    | inl beyond ↦ inr (inr (no_legs groups part t (suc u) (grouped.beyond part (suc u) beyond)))
    | inr within ↦ elim (owing (suc u) (omega arith) (omega arith)) as (λ _. IsSome (get q (suc u)) ⊎ (Contains [] (suc u) ⊎ IsRelaxed groups part t (suc u))) [
      | inl some ↦ inl some
      | inr relaxed ↦ inr (inr (relaxed part))
    ]
  ]

  pub IsBetweenBuckets-resumed : (source : ℕ) → AreReached groups source t → IsBetweenBuckets groups source t q
  IsBetweenBuckets-resumed source reached = record {
    search = record { places = search.places; node = search.node; below_top = search.below_top; queued = queued; above = λ u x e. omega arith };
    reached = reached;
    light = relaxed_but Light;
    heavy = relaxed_but Heavy;
  }

-- nodes of which each was looked at, and what is no node has no legs in either snapshot
pub AreChanged-all : (before after : Groups) (changed : List ℕ) → IsGrouped before → IsGrouped after → before.nodes ≡ after.nodes → ((u : ℕ) → 1 ≤ u → u ≤ after.nodes → Contains changed u ⊎ ((part : Part) → legs_of before part u ≡ legs_of after part u)) → AreChanged before after changed
AreChanged-all before after changed grouped grouped' same looked zero = inr (λ part. grouped.first part ∙ sym (grouped'.first part))
AreChanged-all before after changed grouped grouped' same looked (suc u) = elim (cases_lt after.nodes (suc u)) as (λ _. Contains changed (suc u) ⊎ ((part : Part) → legs_of before part (suc u) ≡ legs_of after part (suc u))) [
  | inl beyond ↦ inr (λ part. grouped.beyond part (suc u) (omega arith) ∙ sym (grouped'.beyond part (suc u) beyond))
  | inr within ↦ looked (suc u) (omega arith) (omega arith)
]
