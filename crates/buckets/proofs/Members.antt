-- Members of lists of numbers, by a test; ascending lists with the same members are equal.
use Rattle.std.proofs.Common.{◌≡◌, ◌≢◌, ℕ, ◌<◌, ◌||◌, ◌&&◌, Bool, true, false, T, List, [], ◌∷◌, map, nat_cmp, refl, sym, ap, ◌∙◌, inl, inr, arith, eq-eqb, eqb-true, ne_eqb, is_some}
use Rattle.std.specs.declared.cmp.Ordering.{Ordering}
use Rattle.std.specs.declared.cmp.Ordering.TheVariants.{Less, Equal, Greater}
use Rattle.std.specs.List.{list_any, AllByRecursion}
use Rattle.std.specs.Ordering.{is_lt}
use Rattle.std.specs.Cmp.{unsigned_tied}
use Rattle.std.specs.List.Sorted.{IsStrictlySortedBy}
use Rattle.std.specs.FinMap.{keys, entries, entries_sorted, contains_key-keys, get, is_sorted}
use Rattle.std.specs.FinMap.Entries.{below_all}
use Rattle.std.proofs.lemmas.Bool.{cases_eq, cases_order}
use Rattle.std.proofs.lemmas.Cmp.{ranked}
use Rattle.std.proofs.lemmas.List.Elements.{All-contains}
use Rattle.std.proofs.lemmas.Map.Keys.{sorted_tail}
use Rattle.std.proofs.lemmas.Map.Views.{All-after_first, Contains-from_any}
use Rattle.buckets.specs.Lists.{has_node}
use Rattle.buckets.specs.Queue.{Entries}

pub has_node-head : (x : ℕ) (xs : List ℕ) → has_node (x ∷ xs) x ≡ true
has_node-head x xs = ap (λ b. b || has_node xs x) (eq-eqb x x refl)

pub has_node-tail : (x : ℕ) (xs : List ℕ) (z : ℕ) → z ≢ x → has_node (x ∷ xs) z ≡ has_node xs z
has_node-tail x xs z h = ap (λ b. b || has_node xs z) (ne_eqb z x h)

-- what follows in an ascending list is greater
above : (x : ℕ) (xs : List ℕ) → IsStrictlySortedBy nat_cmp (x ∷ xs) → (z : ℕ) → has_node xs z ≡ true → x < z
above x xs s z h = ranked x z Less (sym (All-contains (λ q. nat_cmp x q ≡ Less) xs z (All-after_first nat_cmp x xs s) (Contains-from_any (λ a b e. eqb-true a b e) z xs h)))

pub same_ascending : (xs ys : List ℕ) → IsStrictlySortedBy nat_cmp xs → IsStrictlySortedBy nat_cmp ys → ((z : ℕ) → has_node xs z ≡ has_node ys z) → xs ≡ ys
same_ascending [] [] s t h = refl
same_ascending [] (y ∷ ys) s t h = absurd (let wrong : false ≡ true = h y ∙ has_node-head y ys in let absurdity : ⊥ = cc in absurdity)
same_ascending (x ∷ xs) [] s t h = absurd (let wrong : true ≡ false = sym (has_node-head x xs) ∙ h x in let absurdity : ⊥ = cc in absurdity)
same_ascending (x ∷ xs) (y ∷ ys) s t h =
    let first : x ≡ y =
    elim (cases_order x y) as (λ _. x ≡ y) [
      | inl e ↦ e
      | inr (inl lt) ↦ absurd (let gt : y < x = above y ys t x (sym (has_node-tail y ys x (λ e. omega arith)) ∙ (sym (h x) ∙ has_node-head x xs)) in omega arith)
      | inr (inr lt) ↦ absurd (let gt : x < y = above x xs s y (sym (has_node-tail x xs y (λ e. omega arith)) ∙ (h y ∙ has_node-head y ys)) in omega arith)
    ] in
    let not_after : (z : ℕ) → z ≡ x → has_node xs z ≡ false = λ z e. elim (has_node xs z) as (λ b. has_node xs z ≡ b → b ≡ false) [ true ↦ λ is. absurd (let gt : x < z = above x xs s z is in omega arith) | false ↦ λ _. refl ] refl in
    let nor_after : (z : ℕ) → z ≡ x → has_node ys z ≡ false = λ z e. elim (has_node ys z) as (λ b. has_node ys z ≡ b → b ≡ false) [ true ↦ λ is. absurd (let gt : y < z = above y ys t z is in omega arith) | false ↦ λ _. refl ] refl in
    let others : (z : ℕ) → has_node xs z ≡ has_node ys z = λ z.
    elim (cases_eq z x) as (λ _. has_node xs z ≡ has_node ys z) [
      | inl e ↦ not_after z e ∙ sym (nor_after z e)
      | inr ne ↦ sym (has_node-tail x xs z ne) ∙ (h z ∙ has_node-tail y ys z (λ e. ne (e ∙ sym first)))
    ] in
    λ i. first i ∷ same_ascending xs ys (sorted_tail nat_cmp x xs s) (sorted_tail nat_cmp y ys t) others i

-- the keys of a map, as members and in order
pub has_node-keys : (m : Entries) (q : ℕ) → has_node (keys m) q ≡ is_some (get m q)
has_node-keys m q = sym (contains_key-keys m q ∙ ap (λ (test : ℕ → Bool). list_any test (keys m)) (λ i x. unsigned_tied q x i))

first : (a b : Bool) → T (a && b) → T a
first true b h = tt
first false b h = h

second : (a b : Bool) → T (a && b) → T b
second true b h = h
second false b h = absurd h

less : (o : Ordering) → T (is_lt o) → o ≡ Less
less Less h = refl
less Equal h = absurd h
less Greater h = absurd h

keys_above : (x : ℕ) (es : List (ℕ × ℕ)) → T (below_all nat_cmp x es) → AllByRecursion (λ y. nat_cmp x y ≡ Less) (map (λ e. e.0) es)
keys_above x [] h = tt
keys_above x (e ∷ es) h = (less (nat_cmp x e.0) (first _ _ h), keys_above x es (second _ _ h))

keys_ascend : (es : List (ℕ × ℕ)) → T (is_sorted nat_cmp es) → IsStrictlySortedBy nat_cmp (map (λ e. e.0) es)
unfolding IsStrictlySortedBy
keys_ascend [] h = tt
keys_ascend (e ∷ es) h = (keys_above e.0 es (first _ _ h), keys_ascend es (second _ _ h))

pub IsStrictlySortedBy-keys : (m : Entries) → IsStrictlySortedBy nat_cmp (keys m)
IsStrictlySortedBy-keys m = keys_ascend (entries m) (entries_sorted m)
