-- The nodes of a bucket, and what is left without them.
use Rattle.std.proofs.Common.{◌≡◌, ◌≢◌, ℕ, ◌/◌, ◌==◌, ◌&&◌, ◌||◌, Bool, true, false, cond, not, List, [], ◌∷◌, ◌++◌, Option, Some, None, nat_cmp, refl, sym, ap, subst, ◌∙◌, inl, inr, eq-eqb, eqb-true, ne_eqb, is_some, eqb, Result, Ok, Err, OnOk, OnErr}
use Rattle.std.specs.List.{filter, dedup, Contains}
use Rattle.std.specs.List.Sorted.{IsStrictlySortedBy, IsSorted, IsPermutation}
use Rattle.std.specs.FinMap.{get, insert, keys, retain_keys, remove, empty, get-empty, get-retain_keys, nat_cmp-IsAntisymmetric}
use Rattle.std.proofs.lemmas.Bool.{cases_eq, or_right}
use Rattle.std.proofs.lemmas.List.Folds.{list_any-append}
use Rattle.std.specs.Cmp.{nat_eq_equiv}
use Rattle.std.proofs.lemmas.List.Kept.{Contains-dedup_nat, Contains-from_dedup}
use Rattle.std.proofs.lemmas.List.Sorted.{Contains-permutation, IsPermutation-sym}
use Rattle.std.proofs.lemmas.Map.Keys.{IsStrictlyIncreasing-dedup, sorted_from_strictly_increasing}
use Rattle.std.proofs.lemmas.Map.Views.{Contains-from_any, list_any-from_Contains, any-filter_same}
use Rattle.buckets.specs.Lists.{has_node}
use Rattle.buckets.specs.Queue.{Entries, bucket, outside, is_in_bucket}
use Rattle.buckets.specs.Tables.{without}
use Rattle.buckets.proofs.Members.{has_node-keys, IsStrictlySortedBy-keys, same_ascending}
use Rattle.buckets.proofs.Tables.{same_entries, get-insert_same, get-insert_other, get-remove_same, get-remove_other}

-- what a map keeps of the keys that pass a test
pub get_kept : (m : Entries) (p : ℕ → Bool) (q : ℕ) → get (retain_keys m p) q ≡ cond (p q) (get m q) None
get_kept m p q = get-retain_keys m p q (λ x e. ap p (sym (nat_cmp-IsAntisymmetric q x e)))

some_in : (width b : ℕ) (o : Option ℕ) → is_some (cond (is_in_bucket width b o) o None) ≡ is_in_bucket width b o
some_in width b None = refl
some_in width b (Some x) = elim (x / width == b) as (λ t. is_some (cond t (Some x) None) ≡ t) [ true ↦ refl | false ↦ refl ]

-- the nodes of a bucket are those whose value is in it
pub has_node-bucket : (width b : ℕ) (m : Entries) (q : ℕ) → has_node (keys (bucket width b m)) q ≡ is_in_bucket width b (get m q)
has_node-bucket width b m q = has_node-keys (bucket width b m) q ∙ (ap is_some (get_kept m (λ node. is_in_bucket width b (get m node)) q) ∙ some_in width b (get m q))

pub value_in : (width b : ℕ) (o : Option ℕ) → is_in_bucket width b o ≡ true → (x : ℕ) × (o ≡ Some x) × (x / width ≡ b)
value_in width b None e = absurd (let absurdity : ⊥ = cc in absurdity)
value_in width b (Some x) e = (x, refl, eqb-true (x / width) b e)

-- an ascending list of just the nodes of a bucket
pub bucket_is : (width b : ℕ) (m : Entries) (old new : List ℕ) → ((node value : ℕ) → get m node ≡ Some value → value / width ≡ b → has_node old node ≡ true) → IsStrictlySortedBy nat_cmp new → ((q : ℕ) → has_node new q ≡ (is_in_bucket width b (get m q) && has_node old q)) → new ≡ keys (bucket width b m)
bucket_is width b m old new all sorted members = same_ascending new (keys (bucket width b m)) sorted (IsStrictlySortedBy-keys (bucket width b m)) (λ q.
    members q ∙ (elim (is_in_bucket width b (get m q)) as (λ t. is_in_bucket width b (get m q) ≡ t → (t && has_node old q) ≡ t) [
      | true ↦ λ e. let v = value_in width b (get m q) e in all q v.0 v.1 v.2
      | false ↦ λ _. refl
    ] refl ∙ sym (has_node-bucket width b m q)))

-- to take away the nodes of a bucket leaves what is outside it
pub without-bucket : (width b : ℕ) (m : Entries) → without (keys (bucket width b m)) m ≡ outside width b m
without-bucket width b m = ap (retain_keys m) (λ i node. not (has_node-bucket width b m node i))

pub get-without : (nodes : List ℕ) (m : Entries) (q : ℕ) → get (without nodes m) q ≡ cond (not (has_node nodes q)) (get m q) None
get-without nodes m q = get_kept m (λ node. not (has_node nodes node)) q

pub without-none : (m : Entries) → without [] m ≡ m
without-none m = same_entries _ _ (λ q. get-without [] m q)

pub has_node-push : (nodes : List ℕ) (k q : ℕ) → has_node (nodes ++ k ∷ []) q ≡ (has_node nodes q || (q == k))
has_node-push nodes k q = list_any-append (λ x. q == x) nodes (k ∷ []) ∙ elim (q == k) as (λ b. (has_node nodes q || (b || false)) ≡ (has_node nodes q || b)) [ true ↦ refl | false ↦ refl ]

-- one node more
pub without-push : (nodes : List ℕ) (k : ℕ) (m : Entries) → without (nodes ++ k ∷ []) m ≡ remove (without nodes m) k
without-push nodes k m = same_entries _ _ (λ q.
    get-without (nodes ++ k ∷ []) m q ∙ (ap (λ b. cond (not b) (get m q) None) (has_node-push nodes k q)
    ∙ elim (cases_eq q k) as (λ _. cond (not (has_node nodes q || (q == k))) (get m q) None ≡ get (remove (without nodes m) k) q) [
      | inl e ↦ rw (or_right (has_node nodes q) (q == k) (eq-eqb q k e)) (sym (get-remove_same (without nodes m) k q e))
      | inr ne ↦ rw (ne_eqb q k ne) (ap (λ b. cond (not b) (get m q) None) (elim (has_node nodes q) as (λ b. (b || false) ≡ b) [ true ↦ refl | false ↦ refl ]) ∙ sym (get-remove_other (without nodes m) k q ne ∙ get-without nodes m q))
    ]))

has_node-same : (xs ys : List ℕ) (q : ℕ) → (Contains xs q → Contains ys q) → (Contains ys q → Contains xs q) → has_node xs q ≡ has_node ys q
has_node-same xs ys q f g =
    let to : has_node xs q ≡ true → has_node ys q ≡ true = λ h. list_any-from_Contains nat_eq_equiv q ys (f (Contains-from_any (λ a b e. eqb-true a b e) q xs h)) in
    let fro : has_node ys q ≡ true → has_node xs q ≡ true = λ h. list_any-from_Contains nat_eq_equiv q xs (g (Contains-from_any (λ a b e. eqb-true a b e) q ys h)) in
    elim (has_node xs q) as (λ b. (b ≡ true → has_node ys q ≡ true) → (has_node ys q ≡ true → b ≡ true) → b ≡ has_node ys q) [
      | true ↦ λ t _. sym (t refl)
      | false ↦ λ _ u. elim (has_node ys q) as (λ b. (b ≡ true → false ≡ true) → false ≡ b) [ true ↦ λ w. w refl | false ↦ λ _. refl ] u
    ] to fro

-- the nodes of a bucket among a list's, sorted, and each once
pub bucket_from_list : (width b : ℕ) (m : Entries) (old kept sorted new : List ℕ) → ((node value : ℕ) → get m node ≡ Some value → value / width ≡ b → has_node old node ≡ true) → kept ≡ filter (λ node. is_in_bucket width b (get m node)) old → IsPermutation kept sorted → IsSorted nat_cmp sorted → new ≡ dedup eqb sorted → new ≡ keys (bucket width b m)
bucket_from_list width b m old kept sorted new all filtered moved order is =
    let ascends : IsStrictlySortedBy nat_cmp new = sorted_from_strictly_increasing new (rw is (IsStrictlyIncreasing-dedup sorted order)) in
    bucket_is width b m old new all ascends (λ q.
    ap (λ xs. has_node xs q) is
    ∙ (has_node-same (dedup eqb sorted) kept q (λ c. Contains-permutation sorted kept q (IsPermutation-sym kept sorted moved) (Contains-from_dedup eqb sorted q c)) (λ c. Contains-dedup_nat sorted q (Contains-permutation kept sorted q moved c))
    ∙ (ap (λ xs. has_node xs q) filtered
    ∙ any-filter_same (λ x. q == x) (λ node. is_in_bucket width b (get m node)) (is_in_bucket width b (get m q)) (λ k e. ap (λ j. is_in_bucket width b (get m j)) (sym (eqb-true q k e))) old)))

-- what is left without a bucket's nodes was there, outside of it
pub left_outside : (width b : ℕ) (m : Entries) (q v : ℕ) → get (without (keys (bucket width b m)) m) q ≡ Some v → (get m q ≡ Some v) × (v / width ≢ b)
left_outside width b m q v e =
    let got : cond (not (has_node (keys (bucket width b m)) q)) (get m q) None ≡ Some v = sym (get-without (keys (bucket width b m)) m q) ∙ e in
    let told : cond (not (is_in_bucket width b (get m q))) (get m q) None ≡ Some v = ap (λ t. cond (not t) (get m q) None) (sym (has_node-bucket width b m q)) ∙ got in
    elim (is_in_bucket width b (get m q)) as (λ t. is_in_bucket width b (get m q) ≡ t → cond (not t) (get m q) None ≡ Some v → (get m q ≡ Some v) × (v / width ≢ b)) [
      | true ↦ λ _ wrong. absurd (let absurdity : ⊥ = cc in absurdity)
      | false ↦ λ out here. (here, λ same. let wrong : false ≡ true = sym out ∙ (ap (is_in_bucket width b) here ∙ eq-eqb (v / width) b same) in let absurdity : ⊥ = cc in absurdity)
    ] refl told

-- a map of no node
pub empty_from_nothing : (m : Entries) → ((q v : ℕ) → get m q ≡ Some v → ⊥) → m ≡ empty
empty_from_nothing m nothing = same_entries m empty (λ q. elim (get m q) as (λ o. ((v : ℕ) → o ≡ Some v → ⊥) → o ≡ None) [ None ↦ λ _. refl | Some v ↦ λ h. absurd (h v refl) ] (nothing q) ∙ sym (get-empty nat_cmp q))

pub nothing_in_empty : (q v : ℕ) → get {R = nat_cmp} empty q ≡ Some v → ⊥
nothing_in_empty q v e = let wrong : None ≡ Some v = sym (get-empty nat_cmp q) ∙ e in let absurdity : ⊥ = cc in absurdity

-- what holds of each entry, after a value is set or is not for want of memory
pub each-set : {A E : Type 0} (r : Result A E) (P : ℕ → ℕ → Type 0) (m n : Entries) (node value : ℕ) → ((q v : ℕ) → get m q ≡ Some v → P q v) → OnOk r (n ≡ insert m node value) → OnErr r (n ≡ m) → P node value → (q v : ℕ) → get n q ≡ Some v → P q v
each-set (Err x) P m n node value each ok err this q v e = each q v (ap (λ (k : Entries). get k q) (sym err) ∙ e)
each-set (Ok x) P m n node value each ok err this q v e =
    let got : get (insert m node value) q ≡ Some v = ap (λ (k : Entries). get k q) (sym ok) ∙ e in
    elim (cases_eq q node) as (λ _. P q v) [
      | inl same ↦
          let values : Some value ≡ Some v = sym (get-insert_same m node value q same) ∙ got in
          let one : value ≡ v = cc in
          subst (λ k. P k v) (sym same) (subst (λ k. P node k) one this)
      | inr other ↦ each q v (sym (get-insert_other m node value q other) ∙ got)
    ]
