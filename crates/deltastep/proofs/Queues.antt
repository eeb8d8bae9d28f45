-- What the map of a queue has after a put and after a take.
use Rattle.std.proofs.Common.{◌≡◌, ◌≢◌, ℕ, zero, suc, le_refl, le_trans, ◌+◌, ◌-◌, ◌/◌, ◌<◌, ◌≤◌, ◌⊎◌, ◌==◌, Bool, true, false, cond, not, List, [], ◌∷◌, ◌++◌, length, Contains, IsSome, Option, Some, None, nat_cmp, refl, sym, ap, subst, ◌∙◌, inl, inr, arith, eq-eqb, ne_eqb, is_some, eqb-true}
use Rattle.std.specs.FinMap.{get, insert, len, keys, retain_keys, get-insert, get-retain_keys, len-insert, contains_key, contains_key-keys, nat_cmp-IsAntisymmetric, remove, get-remove, len-remove, empty_of_len, get-empty, same_map}
use Rattle.std.specs.Cmp.{nat_cmp_total, unsigned_tied, eq_by_cmp_equiv}
use Rattle.std.proofs.lemmas.Bool.{cases_eq}
use Rattle.std.proofs.lemmas.Map.Views.{Contains-from_any, list_any-from_Contains}
use Rattle.std.specs.Ordering.{eq_by_cmp}
use Rattle.frontier.proofs.Members.{Contains-head, Contains-tail, Contains-nil}
use Rattle.buckets.specs.Queue.{Entries, bucket, outside, is_in_bucket}
use Rattle.frontier.specs.Frontier.{TakesAny}

tied : (q k : ℕ) (b : Bool) → (q == k) ≡ b → eq_by_cmp nat_cmp q k ≡ b
tied q k b e = unsigned_tied q k ∙ e

pub get-insert_same : (m : Entries) (u x : ℕ) → get (insert m u x) u ≡ Some x
get-insert_same m u x = get-insert nat_cmp_total m u x u ∙ ap (λ b. cond b (Some x) (get m u)) (tied u u true (eq-eqb u u refl))

pub get-insert_other : (m : Entries) (u x v : ℕ) → v ≢ u → get (insert m u x) v ≡ get m v
get-insert_other m u x v h = get-insert nat_cmp_total m u x v ∙ ap (λ b. cond b (Some x) (get m v)) (tied v u false (ne_eqb v u h))

pub len-insert_le : (m : Entries) (u x : ℕ) → len (insert m u x) ≤ len m + 1
len-insert_le m u x = elim (contains_key m u) as (λ b. len (insert m u x) ≡ cond b (len m) (len m + 1) → len (insert m u x) ≤ len m + 1) [ true ↦ λ e. omega arith | false ↦ λ e. omega arith ] (len-insert nat_cmp_total m u x)

-- what a map keeps of the keys that pass a test
pub get_kept : (m : Entries) (p : ℕ → Bool) (q : ℕ) → get (retain_keys m p) q ≡ cond (p q) (get m q) None
get_kept m p q = get-retain_keys m p q (λ x e. ap p (sym (nat_cmp-IsAntisymmetric q x e)))

in_some : (width b : ℕ) (o : Option ℕ) → is_in_bucket width b o ≡ true → (x : ℕ) × (o ≡ Some x) × (x / width ≡ b)
in_some width b None e = cc
in_some width b (Some x) e = (x, refl, eqb-true (x / width) b e)

-- a node of a bucket is among its keys, and each of these is of the bucket
pub Contains-bucket : (width b : ℕ) (m : Entries) (u : ℕ) → is_in_bucket width b (get m u) ≡ true → Contains (keys (bucket width b m)) u
Contains-bucket width b m u h =
    let some = in_some width b (get m u) h in
    let kept : get (bucket width b m) u ≡ Some some.0 = get_kept m (λ node. is_in_bucket width b (get m node)) u ∙ ap (λ t. cond t (get m u) None) h ∙ some.1 in
    Contains-from_any (λ x y e. eqb-true x y (sym (unsigned_tied x y) ∙ e)) u (keys (bucket width b m)) (sym (contains_key-keys (bucket width b m) u) ∙ ap is_some kept)

pub is_in_bucket-key : (width b : ℕ) (m : Entries) (u : ℕ) → Contains (keys (bucket width b m)) u → is_in_bucket width b (get m u) ≡ true
is_in_bucket-key width b m u c =
    let has : is_some (get (bucket width b m) u) ≡ true = contains_key-keys (bucket width b m) u ∙ list_any-from_Contains (eq_by_cmp_equiv nat_cmp_total) u (keys (bucket width b m)) c in
    let kept : get (bucket width b m) u ≡ cond (is_in_bucket width b (get m u)) (get m u) None = get_kept m (λ node. is_in_bucket width b (get m node)) u in
    elim (is_in_bucket width b (get m u)) as (λ t. get (bucket width b m) u ≡ cond t (get m u) None → t ≡ true) [
      | true ↦ λ _. refl
      | false ↦ λ e. sym (ap is_some e) ∙ has
    ] kept

-- the value of a key of a bucket
pub value_in_bucket : (width b : ℕ) (m : Entries) (u : ℕ) → Contains (keys (bucket width b m)) u → (x : ℕ) × (get m u ≡ Some x) × (x / width ≡ b)
value_in_bucket width b m u c = in_some width b (get m u) (is_in_bucket-key width b m u c)

get-outside : (width b : ℕ) (m : Entries) (u : ℕ) → get (outside width b m) u ≡ cond (not (is_in_bucket width b (get m u))) (get m u) None
get-outside width b m u = get_kept m (λ node. not (is_in_bucket width b (get m node))) u

-- what is left was there
pub get-outside_some : (width b : ℕ) (m : Entries) (u x : ℕ) → get (outside width b m) u ≡ Some x → get m u ≡ Some x
get-outside_some width b m u x e =
    elim (not (is_in_bucket width b (get m u))) as (λ t. get (outside width b m) u ≡ cond t (get m u) None → get m u ≡ Some x) [
      | true ↦ λ is. sym is ∙ e
      | false ↦ λ is. let no : None ≡ Some x = sym is ∙ e in cc
    ] (get-outside width b m u)

-- a queued node stays or is of the bucket
pub stays_or_taken : (width b : ℕ) (m : Entries) (u : ℕ) → IsSome (get m u) → IsSome (get (outside width b m) u) ⊎ Contains (keys (bucket width b m)) u
stays_or_taken width b m u h =
    elim (is_in_bucket width b (get m u)) as (λ t. is_in_bucket width b (get m u) ≡ t → IsSome (get (outside width b m) u) ⊎ Contains (keys (bucket width b m)) u) [
      | true ↦ λ e. inr (Contains-bucket width b m u e)
      | false ↦ λ e. inl (subst (λ o. IsSome o) (sym (get-outside width b m u ∙ ap (λ t. cond (not t) (get m u) None) e)) h)
    ] refl

-- a map without some keys, one after the other
unfoldable pub without : List ℕ → Entries → Entries
without [] m = m
without (k ∷ ks) m = without ks (remove m k)

pub without-push : (ks : List ℕ) (k : ℕ) (m : Entries) → without (ks ++ k ∷ []) m ≡ remove (without ks m) k
unfolding without
without-push [] k m = refl
without-push (j ∷ ks) k m = without-push ks k (remove m j)

get-remove_same : (m : Entries) (k q : ℕ) → k ≡ q → get (remove m k) q ≡ None
get-remove_same m k q e = get-remove nat_cmp_total m k q ∙ ap (λ b. cond b None (get m q)) (tied q k true (eq-eqb q k (sym e)))

get-remove_other : (m : Entries) (k q : ℕ) → q ≢ k → get (remove m k) q ≡ get m q
get-remove_other m k q h = get-remove nat_cmp_total m k q ∙ ap (λ b. cond b None (get m q)) (tied q k false (ne_eqb q k h))

get-remove_none : (m : Entries) (k q : ℕ) → get m q ≡ None → get (remove m k) q ≡ None
get-remove_none m k q e = elim (cases_eq q k) as (λ _. get (remove m k) q ≡ None) [ inl same ↦ get-remove_same m k q (sym same) | inr ne ↦ get-remove_other m k q ne ∙ e ]

get-without_none : (ks : List ℕ) (m : Entries) (q : ℕ) → get m q ≡ None → get (without ks m) q ≡ None
unfolding without
get-without_none [] m q e = e
get-without_none (k ∷ ks) m q e = get-without_none ks (remove m k) q (get-remove_none m k q e)

get-without_other : (ks : List ℕ) (m : Entries) (q : ℕ) → (Contains ks q → ⊥) → get (without ks m) q ≡ get m q
unfolding without
get-without_other [] m q h = refl
get-without_other (k ∷ ks) m q h =
    get-without_other ks (remove m k) q (λ c. h (Contains-tail k ks q c))
    ∙ get-remove_other m k q (λ e. h (subst (λ z. Contains (k ∷ ks) z) (sym e) (Contains-head k ks)))

get-without_same : (ks : List ℕ) (m : Entries) (q : ℕ) → Contains ks q → get (without ks m) q ≡ None
unfolding without
get-without_same [] m q c = absurd (Contains-nil q c)
get-without_same (k ∷ ks) m q (zero, within, e) = get-without_none ks (remove m k) q (get-remove_same m k q e)
get-without_same (k ∷ ks) m q (suc i, within, e) = get-without_same ks (remove m k) q (i, omega arith, e)

len-without : (ks : List ℕ) (m : Entries) → len (without ks m) ≤ len m
unfolding without
len-without [] m = le_refl (len m)
len-without (k ∷ ks) m = le_trans (len-without ks (remove m k)) (elim (contains_key m k) as (λ b. len (remove m k) ≡ cond b (len m - 1) (len m) → len (remove m k) ≤ len m) [ true ↦ λ e. omega arith | false ↦ λ e. omega arith ] (len-remove nat_cmp_total m k))

some_len : (m : Entries) (q : ℕ) → is_some (get m q) ≡ true → len m ≡ 0 → ⊥
some_len m q has none =
    let no : is_some {T = ℕ} None ≡ true = sym (ap (λ n. is_some (get n q)) (empty_of_len m none) ∙ ap is_some (get-empty nat_cmp q)) ∙ has in
    let absurdity : ⊥ = cc in absurdity

len-without_less : (ks : List ℕ) (m : Entries) → 0 < length ks → ((q : ℕ) → Contains ks q → IsSome (get m q)) → len (without ks m) < len m
unfolding without
len-without_less [] m h all = absurd (omega arith)
len-without_less (k ∷ ks) m h all =
    let has : contains_key m k ≡ true = all k (Contains-head k ks) in
    let one : len (remove m k) ≡ len m - 1 = len-remove nat_cmp_total m k ∙ ap (λ b. cond b (len m - 1) (len m)) has in
    let some : len m ≡ 0 → ⊥ = some_len m k has in
    omega (arith, len-without ks (remove m k), one, some)

pub outside_is : (width b : ℕ) (m : Entries) → outside width b m ≡ without (keys (bucket width b m)) m
outside_is width b m = same_map nat_cmp_total nat_cmp-IsAntisymmetric _ _ (λ q.
    elim (is_in_bucket width b (get m q)) as (λ t. is_in_bucket width b (get m q) ≡ t → get (outside width b m) q ≡ get (without (keys (bucket width b m)) m) q) [
      | true ↦ λ e. (get-outside width b m q ∙ ap (λ t. cond (not t) (get m q) None) e) ∙ sym (get-without_same _ m q (Contains-bucket width b m q e))
      | false ↦ λ e. (get-outside width b m q ∙ ap (λ t. cond (not t) (get m q) None) e) ∙ sym (get-without_other _ m q (λ c. let no : false ≡ true = sym e ∙ is_in_bucket-key width b m q c in let absurdity : ⊥ = cc in absurdity))
    ] refl)

first_of : (xs : List ℕ) → 0 < length xs → (x : ℕ) × Contains xs x
first_of [] some = absurd (omega arith)
first_of (x ∷ xs) some = (x, Contains-head x xs)

some_in : (xs : List ℕ) (x : ℕ) → Contains xs x → 0 < length xs
some_in xs x (k, within, e) = omega arith

-- what a take leaves is less
pub len-taken : (width b : ℕ) (old : Entries) (taken : List ℕ) (new : Entries) → TakesAny width old b taken new → len new < len old
len-taken width b old taken new takes =
    let first = first_of taken takes.some_node in
    let some : 0 < length (keys (bucket width b old)) = some_in (keys (bucket width b old)) first.0 ((takes.nodes first.0).0 first.1) in
    subst (λ n. len n < len old) (sym (takes.rest ∙ outside_is width b old))
    (len-without_less (keys (bucket width b old)) old some (λ q c. let v = value_in_bucket width b old q c in ap is_some v.1))

-- what is left is in another bucket
pub not_in_outside : (width b : ℕ) (m : Entries) (u x : ℕ) → get (outside width b m) u ≡ Some x → x / width ≡ b → ⊥
not_in_outside width b m u x has within =
    let had : get m u ≡ Some x = get-outside_some width b m u x has in
    let in_it : is_in_bucket width b (get m u) ≡ true = ap (is_in_bucket width b) had ∙ eq-eqb (x / width) b within in
    let gone : get (outside width b m) u ≡ None = get-outside width b m u ∙ ap (λ t. cond (not t) (get m u) None) in_it in
    let no : None ≡ Some x = sym gone ∙ has in
    let absurdity : ⊥ = cc in
    absurdity
