-- Places of a list, and replies that are put at their places.
use Rattle.std.proofs.Common.{◌≡◌, ◌≢◌, ◌⊎◌, ◌∙◌, ℕ, suc, ◌+◌, ◌<◌, true, false, eqb, List, [], ◌∷◌, ◌++◌, length, get_or, take, set, All, Contains, IsPermutation, sym, subst, arith, inl, inr, ⊎_elim}
use Rattle.std.proofs.lemmas.Bool.Decides.{eqb_tells}
use Rattle.std.proofs.lemmas.List.{get_or_default, get_or-set_same, get_or-set_other}
use Rattle.std.proofs.lemmas.List.Elements.{All-contains, All-more, All-push, Contains-append_left, Contains-push}
use Rattle.std.proofs.lemmas.List.Sorted.{All-permutation, Contains-permutation}
use Rattle.roadnet.specs.Net.{Net}
use Rattle.rows.specs.declared.queries.Query.TheVariants.{Dist}
use Rattle.rows.specs.declared.queries.Reply.{Reply}
use Rattle.rows.specs.Replies.{IsRight}
use Rattle.rows.specs.Batches.{AreRightBy, ArePlaces}

pub no_places : ArePlaces 0 []
no_places = record {
  each = λ i lt. absurd (omega (arith, lt));
  within = λ k d lt. absurd (omega (arith, lt));
}

module _ (count : ℕ) (places : List ℕ) where
  last_or_before : (i : ℕ) → i < count + 1 → (i < count) ⊎ (i ≡ count)
  last_or_before i lt = ⊎_elim (λ (same : (eqb i count ≡ true) × (i ≡ count)). inr same.1) (λ (other : (eqb i count ≡ false) × (i ≢ count)). inl (omega (arith, lt, other.1))) (eqb_tells i count)

  pub place_more : ArePlaces count places → ArePlaces (count + 1) (places ++ count ∷ [])
  place_more are = record {
    each = λ i lt. ⊎_elim (λ (before : i < count). Contains-append_left places (count ∷ []) i (are.each i before))
        (λ (last : i ≡ count). subst (λ (x : ℕ). Contains (places ++ count ∷ []) x) (sym last) (Contains-push places count))
        (last_or_before i lt);
    within = All-push (λ place. place < count + 1) places count (λ k d lt. let here = are.within k d lt in omega (arith, here)) (omega arith);
  }

  pub places_sorted : (sorted : List ℕ) → IsPermutation places sorted → ArePlaces count places → ArePlaces count sorted
  places_sorted sorted moved are = record {
    each = λ i lt. Contains-permutation places sorted i moved (are.each i lt);
    within = All-permutation (λ place. place < count) places sorted moved are.within;
  }

module _ {P : Type 0} (net : Net) (source target : P → ℕ) where
  -- the reply at a place is right
  abbrev pub IsRightAt : List P → List Reply → ℕ → Type 0
  IsRightAt pairs replies k = (d : P) (e : Reply) → IsRight net (Dist (source (get_or pairs k d)) (target (get_or pairs k d))) (get_or replies k e)

  from_places : (pairs : List P) (replies : List Reply) → length replies ≡ length pairs → ((k : ℕ) → k < length pairs → IsRightAt pairs replies k) → AreRightBy net source target pairs replies
  from_places [] [] same each = tt
  from_places [] (r ∷ rs) same each = absurd (omega (arith, same))
  from_places (p ∷ ps) [] same each = absurd (omega (arith, same))
  from_places (p ∷ ps) (r ∷ rs) same each = (each 0 (omega arith) p r, from_places ps rs (omega (arith, same)) (λ k lt. each (suc k) (omega (arith, lt))))

  -- where the reply at each place is right, they all are
  pub all_right : (pairs : List P) (replies : List Reply) (places : List ℕ) → length replies ≡ length pairs → ArePlaces (length pairs) places → All (IsRightAt pairs replies) places
      → AreRightBy net source target pairs replies
  all_right pairs replies places same are each = from_places pairs replies same (λ k lt. All-contains (IsRightAt pairs replies) places k each (are.each k lt))

  module _ (pairs : List P) (replies : List Reply) (place : ℕ) (pair : P) (reply : Reply) where
    put_here : place < length replies → place < length pairs → (d : P) → pair ≡ get_or pairs place d → IsRight net (Dist (source pair) (target pair)) reply → IsRightAt pairs (set replies place reply) place
    put_here lt lt' d is right d' e =
        let here : get_or (set replies place reply) place e ≡ reply = get_or-set_same replies place reply e lt in
        let same : get_or pairs place d' ≡ pair = get_or_default pairs place d' d lt' ∙ sym is in
        subst (λ (r : Reply). IsRight net (Dist (source (get_or pairs place d')) (target (get_or pairs place d'))) r) (sym here)
        (subst (λ (p : P). IsRight net (Dist (source p) (target p)) reply) (sym same) right)

    put_elsewhere : (k : ℕ) → k ≢ place → IsRightAt pairs replies k → IsRightAt pairs (set replies place reply) k
    put_elsewhere k other right d e =
        subst (λ (r : Reply). IsRight net (Dist (source (get_or pairs k d)) (target (get_or pairs k d))) r) (sym (get_or-set_other replies place k reply e other)) (right d e)

    put : place < length replies → place < length pairs → (d : P) → pair ≡ get_or pairs place d → IsRight net (Dist (source pair) (target pair)) reply → (k : ℕ) → IsRightAt pairs replies k → IsRightAt pairs (set replies place reply) k
    put lt lt' d is right k was =
        ⊎_elim (λ (same : (eqb k place ≡ true) × (k ≡ place)). subst (IsRightAt pairs (set replies place reply)) (sym same.1) (put_here lt lt' d is right))
        (λ (other : (eqb k place ≡ false) × (k ≢ place)). put_elsewhere k other.1 was)
        (eqb_tells k place)

    -- a right reply is put at the place of its pair: those at the places before are still right
    pub put_more : (places : List ℕ) (i z : ℕ) (d : P) → i < length places → place ≡ get_or places i z → place < length replies → place < length pairs → pair ≡ get_or pairs place d
        → IsRight net (Dist (source pair) (target pair)) reply → All (IsRightAt pairs replies) (take i places) → All (IsRightAt pairs (set replies place reply)) (take (i + 1) places)
    put_more places i z d within at lt lt' is right before =
        All-more (IsRightAt pairs (set replies place reply)) places i z within (λ k e less. put lt lt' d is right (get_or (take i places) k e) (before k e less))
        (subst (IsRightAt pairs (set replies place reply)) at (put_here lt lt' d is right))
