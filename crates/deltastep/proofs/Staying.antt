-- A row that no change touches is the row of the new network.
use Rattle.std.proofs.Common.{◌≡◌, ℕ, ◌+◌, ◌≤◌, List, [], ◌∷◌, get_or, All, Contains, Option, Some, None, refl, sym, ap, subst, ◌∙◌, inl, inr, arith, unwrap_or}
use Rattle.std.proofs.lemmas.Option.{same_Some}
use Rattle.std.proofs.lemmas.List.Elements.{Contains-get_or}
use Rattle.std.specs.FinMap.{empty}
use Rattle.relax.specs.Values.{value_at, value_or}
use Rattle.roadnet.specs.Net.{Net}
use Rattle.roadnet.specs.Walks.{RowOf, distance_at}
use Rattle.snapshot.specs.Groups.{Groups, legs_of, IsSnapshotOf, IsGrouped}
use Rattle.snapshot.specs.declared.legs.Leg.{Leg}
use Rattle.snapshot.specs.declared.legs.Part.{Part}
use Rattle.snapshot.specs.declared.legs.Part.TheVariants.{Light, Heavy}
use Rattle.deltastep.specs.Search.{IsRelaxed, IsSearch, AreReached, IsBetweenBuckets, top_of}
use Rattle.deltastep.specs.Repair.{AreChanged, AreFeasible, AreGoneLost, AreThere, IsClosedBut, IsKeptOf, IsUntouched}
use Rattle.deltastep.proofs.Finishing.{distance_at-value_at, RowOf-over}
use Rattle.deltastep.proofs.Lowering.{value_or-some}
use Rattle.deltastep.proofs.Looking.{AreQueued-empty}
use Rattle.deltastep.proofs.Remaining.{IsRowIn, All-member, IsSearch-remaining, AreReached-remaining}
use Rattle.deltastep.proofs.Resuming.{IsBetweenBuckets-resumed}
use Rattle.deltastep.proofs.Thinning.{no_distance}

-- the parts of a node
pub IsUntouched-parts : (before after : Groups) (row : List (Option ℕ)) (u value : ℕ) → distance_at row u ≡ Some value → AreThere after row u value (legs_of before Light u) → AreFeasible row value (legs_of after Light u) → AreThere after row u value (legs_of before Heavy u) → AreFeasible row value (legs_of after Heavy u) → IsUntouched before after row u
IsUntouched-parts before after row u value has there feasible there' feasible' value' has' part =
    let same : value ≡ value' = same_Some value value' (sym has ∙ has') in
    subst (λ v. AreThere after row u v (legs_of before part u) × AreFeasible row v (legs_of after part u)) same
    (elim part as (λ p. AreThere after row u value (legs_of before p u) × AreFeasible row value (legs_of after p u)) [ Light ↦ (there, feasible) | Heavy ↦ (there', feasible') ])

module _ (before after : Groups) (source : ℕ) (row : List (Option ℕ)) (changed : List ℕ) (grouped : IsGrouped after) (nodes : before.nodes ≡ after.nodes) (of_row : IsRowIn before source row) (are : AreChanged before after changed) (untouched : All (IsUntouched before after row) changed) where
  has_row : (u x : ℕ) → value_at (None ∷ row) u ≡ Some x → distance_at row u ≡ Some x
  has_row u x has = distance_at-value_at row u ∙ has

  kept : IsKeptOf source row (None ∷ row)
  kept = record {
    places = refl;
    starts = sym (distance_at-value_at row source) ∙ of_row.starts;
    kept = λ u. inr (sym (distance_at-value_at row u));
  }

  gone : (u : ℕ) → AreGoneLost before after source row (None ∷ row) u
  gone u = elim (are u) as (λ _. AreGoneLost before after source row (None ∷ row) u) [
    | inl c ↦ λ value has part k d lt tight. inl ((All-member (IsUntouched before after row) changed u untouched c value has part).0 k d lt tight)
    | inr same ↦ λ value has part k d lt tight. inl (part, subst (λ (l : List Leg). Contains l (get_or (legs_of before part u) k d)) (same part) (Contains-get_or (legs_of before part u) k d lt))
  ]

  closed : IsClosedBut after source row (None ∷ row) []
  closed u none = inr (λ value has part. no_distance row u value (distance_at-value_at row u ∙ none) has)

  search_of : IsSearch after (None ∷ row) empty 0
  search_of = IsSearch-remaining before after source row (None ∷ row) nodes of_row kept

  -- no leg of a node with a distance leads to less
  at_leg : (u x : ℕ) (part : Part) (leg : Leg) → Contains (legs_of after part u) leg → distance_at row u ≡ Some x → unwrap_or (distance_at row leg.head) (top_of after) ≤ x + leg.length
  at_leg u x part leg c has = elim (are u) as (λ _. unwrap_or (distance_at row leg.head) (top_of after) ≤ x + leg.length) [
    | inl c' ↦ All-member (λ (l : Leg). unwrap_or (distance_at row l.head) (top_of after) ≤ x + l.length) (legs_of after part u) leg ((All-member (IsUntouched before after row) changed u untouched c' x has part).1 (top_of after)) c
    | inr same ↦
        let step = of_row.onward u x part leg (subst (λ (l : List Leg). Contains l leg) (sym (same part)) c) has in
        let is : unwrap_or (distance_at row leg.head) (top_of after) ≡ step.0 = ap (λ o. unwrap_or o (top_of after)) step.1 in
        omega (arith, is, step.2)
  ]

  relaxed : (u : ℕ) (part : Part) → IsRelaxed after part (None ∷ row) u
  relaxed u part leg c =
      let Goal = value_or (top_of after) (None ∷ row) leg.head ≤ value_or (top_of after) (None ∷ row) u + leg.length in
      let head : unwrap_or (distance_at row leg.head) (top_of after) ≡ value_or (top_of after) (None ∷ row) leg.head = ap (λ o. unwrap_or o (top_of after)) (distance_at-value_at row leg.head) in
      elim (value_at (None ∷ row) u) as (λ o. value_at (None ∷ row) u ≡ o → Goal) [
        | Some x ↦ λ e.
            let here : value_or (top_of after) (None ∷ row) u ≡ x = value_or-some (top_of after) (None ∷ row) u x e in
            omega (arith, head, here, at_leg u x part leg c (has_row u x e))
        | None ↦ λ e.
            let top : value_or (top_of after) (None ∷ row) u ≡ top_of after = ap (λ o. unwrap_or o (top_of after)) e in
            let at_most : value_or (top_of after) (None ∷ row) leg.head ≤ top_of after = elim (value_at (None ∷ row) leg.head) as (λ o. value_at (None ∷ row) leg.head ≡ o → unwrap_or o (top_of after) ≤ top_of after) [
              | None ↦ λ _. omega arith
              | Some x ↦ λ e'. let below = search_of.below_top leg.head x e' in omega arith
            ] refl in
            omega (arith, top, at_most)
      ] refl

  pub RowOf-untouched : 1 ≤ source → source ≤ after.nodes → (net : Net) → IsSnapshotOf net after → RowOf net source row
  RowOf-untouched low high net snapshot =
      let reached : AreReached after source (None ∷ row) = AreReached-remaining before after source row (None ∷ row) of_row kept gone closed in
      let between : IsBetweenBuckets after source (None ∷ row) empty = IsBetweenBuckets-resumed after grouped (None ∷ row) search_of empty (AreQueued-empty (None ∷ row) empty refl) (λ u _ _. inr (relaxed u)) source reached in
      RowOf-over net after snapshot grouped source (None ∷ row) row low high between refl
