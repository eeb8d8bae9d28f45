-- A bag with an entry for each of some nodes.
use Rattle.std.proofs.Common.{◌≡◌, ℕ, ◌/◌, ◌%◌, ◌<◌, ◌≤◌, ◌==◌, ◌&&◌, ◌||◌, true, false, not, List, [], ◌∷◌, length, unwrap_or, Contains, Option, Some, None, IsSome, refl, ap, subst, ◌∙◌, inl, inr, arith}
use Rattle.std.specs.List.{list_any, IsDistinct, AllByRecursion}
use Rattle.relax.specs.Values.{value_at, value_or}
use Rattle.snapshot.proofs.Built.{Contains-map, Contains-of_map}
use Rattle.frontier.specs.Entries.{EntryLists, entries_at}
use Rattle.frontier.specs.Live.{AreEntriesKept, AreJustQueued, IsBag, all_queued, are_once, is_same, standing}
use Rattle.frontier.proofs.Bags.{all_get, all_has, is_at_most-live}
use Rattle.frontier.proofs.EntryLists.{Contains-none}
use Rattle.frontier.proofs.Live.{AreEntriesOf-none, has_live}

module _ (t : List (Option ℕ)) where
  none_same : (u v : ℕ) (nodes : List ℕ) → AllByRecursion (λ y. (u == y) ≡ false) nodes → list_any (is_same (u, v)) (standing t nodes) ≡ false
  none_same u v [] apart = refl
  none_same u v (y ∷ nodes) apart = ap (λ b. (b && (v == value_or 0 t y)) || list_any (is_same (u, v)) (standing t nodes)) apart.0 ∙ none_same u v nodes apart.1

  once-standing : (nodes : List ℕ) → IsDistinct (λ a b. a == b) nodes → are_once (standing t nodes) ≡ true
  unfolding IsDistinct
  once-standing [] distinct = refl
  once-standing (u ∷ nodes) distinct = ap (λ b. not b && are_once (standing t nodes)) (none_same u (value_or 0 t u) nodes distinct.0) ∙ once-standing nodes distinct.1

  -- a value that is there is the one that value_or tells
  had : (u : ℕ) → IsSome (value_at t u) → value_at t u ≡ Some (value_or 0 t u)
  had u some = elim (value_at t u) as (λ o. IsSome o → o ≡ Some (unwrap_or o 0)) [
    | None ↦ λ wrong. absurd (let absurdity : ⊥ = cc in absurdity)
    | Some x ↦ λ _. refl
  ] some

  module _ (nodes : List ℕ) (each : (u : ℕ) → Contains nodes u → (1 ≤ u) × IsSome (value_at t u) × (value_or 0 t u < 18446744073709551615)) where
    from_node : (e : ℕ × ℕ) → Contains (standing t nodes) e → Contains nodes e.0 × (value_at t e.0 ≡ Some e.1)
    from_node e c =
        let found = Contains-of_map (λ (u : ℕ). (u, value_or 0 t u)) nodes e c in
        let same : value_at t found.0 ≡ Some (value_or 0 t found.0) = had found.0 (each found.0 found.1).1 in
        subst (λ (f : ℕ × ℕ). Contains nodes f.0 × (value_at t f.0 ≡ Some f.1)) found.2 (found.1, same)

    pub IsBag-standing : (width : ℕ) → IsDistinct (λ a b. a == b) nodes → IsBag t width 0 (standing t nodes)
    IsBag-standing width distinct = record {
      node = λ e c. (each e.0 (from_node e c).0).0;
      above = λ e c. is_at_most-live t e (has_live t e (from_node e c).1);
      beyond = λ e c. omega arith;
      small = λ e c. let had_small : value_or 0 t e.0 < 18446744073709551615 = (each e.0 (from_node e c).0).2 in subst (λ (x : ℕ). x < 18446744073709551615) (ap (λ (o : Option ℕ). unwrap_or o 0) (from_node e c).1) had_small;
      once = once-standing nodes distinct;
    }

    pub AreJustQueued-standing : (width : ℕ) (lists : EntryLists) → ((p : ℕ) → entries_at lists p ≡ []) → AreJustQueued t nodes (all_queued width lists (standing t nodes) t)
    AreJustQueued-standing width lists none u x = (
      λ there.
          let has = all_has width lists (standing t nodes) t u x there in (
            elim has.1 as (λ _. Contains nodes u) [
              | inl c ↦ absurd (Contains-none (u, x) (subst (λ (l : List (ℕ × ℕ)). Contains l (u, x)) (none ((x / width) % length lists)) c))
              | inr c ↦ (from_node (u, x) c).0
            ],
            has.0,
          ),
      λ of.
          let value : value_or 0 t u ≡ x = ap (λ (o : Option ℕ). unwrap_or o 0) of.1 in
          all_get width lists (standing t nodes) t u x of.1 (inr (subst (λ (y : ℕ). Contains (standing t nodes) (u, y)) value (Contains-map (λ (v : ℕ). (v, value_or 0 t v)) nodes u of.0))),
    )

pub AreKept-standing : (t : List (Option ℕ)) (width : ℕ) (lists : EntryLists) (bag : List (ℕ × ℕ)) → ((p : ℕ) → entries_at lists p ≡ []) → IsBag t width 0 bag → AreEntriesKept t width 0 lists bag
AreKept-standing t width lists bag none is = record {
  stand = AreEntriesOf-none t lists none;
  below = λ p e c. absurd (Contains-none e (subst (λ (l : List (ℕ × ℕ)). Contains l e) (none p) c));
  rest = is;
}
