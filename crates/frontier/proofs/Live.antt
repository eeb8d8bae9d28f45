-- The nodes that have live entries, after a value is lowered, and after a list is taken.
use Rattle.std.proofs.Common.{◌≡◌, ◌≢◌, ℕ, zero, suc, ◌+◌, ◌/◌, ◌%◌, ◌<◌, ◌≤◌, ◌++◌, ◌==◌, ◌&&◌, nat_le, Bool, true, false, cond, not, List, [], ◌∷◌, length, map, get_or, Contains, Option, Some, None, nat_cmp, eqb, refl, sym, ap, subst, ◌∙◌, inl, inr, arith, eq-eqb, eqb-true, ne_eqb, le-leb, leb-true, filter}
use Rattle.std.specs.Option.{option_map_or}
use Rattle.std.specs.List.{list_any, AllByRecursion, IsDistinct}
use Rattle.std.specs.FinMap.{get, empty, find, get-from_entries, keys}
use Rattle.std.specs.Cmp.{nat_cmp_total, nat_eq_equiv}
use Rattle.std.proofs.lemmas.Bool.{cases_eq, cases_lt, or_left, or_right}
use Rattle.std.proofs.lemmas.List.{get_or_past}
use Rattle.std.proofs.lemmas.List.Elements.{Contains-push_cases}
use Rattle.std.proofs.lemmas.Map.Views.{Contains-from_any, list_any-from_Contains}
use Rattle.std.proofs.lemmas.Option.{same_Some}
use Rattle.relax.specs.Values.{value_at}
use Rattle.buckets.specs.Queue.{Entries, bucket, outside, is_in_bucket}
use Rattle.buckets.proofs.Ringed.{mod_apart}
use Rattle.buckets.proofs.Tables.{tied, same_entries}
use Rattle.buckets.proofs.Taken.{get_kept, has_node-bucket, left_outside, value_in, without-bucket, empty_from_nothing}
use Rattle.frontier.specs.Entries.{EntryLists, entries_at, AreInPlace, TakesFirst}
use Rattle.frontier.specs.Frontier.{TakesAny}
use Rattle.frontier.specs.Live.{AreEntriesOf, are_once, is_live, is_queued, is_same, live_nodes, queued, values_from, values_of}
use Rattle.frontier.proofs.EntryLists.{Contains-none}

-- ---- tests

pub both : (a b : Bool) → (a && b) ≡ true → (a ≡ true) × (b ≡ true)
both true b e = (refl, e)
both false b e = absurd (let absurdity : ⊥ = cc in absurdity)

and_true : (a b : Bool) → a ≡ true → b ≡ true → (a && b) ≡ true
and_true a b e f = ap (λ t. t && b) e ∙ f

pub not_true : (a : Bool) → not a ≡ true → a ≡ false
not_true true e = absurd (let absurdity : ⊥ = cc in absurdity)
not_true false e = refl

no_true : (a : Bool) → (a ≡ true → ⊥) → a ≡ false
no_true true h = absurd (h refl)
no_true false h = refl

pub same_entry : (a b : ℕ × ℕ) → is_same a b ≡ true → a ≡ b
same_entry a b e =
    let parts = both (a.0 == b.0) (a.1 == b.1) e in
    let p : a.0 ≡ b.0 = eqb-true a.0 b.0 parts.0 in
    let q : a.1 ≡ b.1 = eqb-true a.1 b.1 parts.1 in
    λ i. (p i, q i)

pub is_same-of : (a b : ℕ × ℕ) → a.0 ≡ b.0 → a.1 ≡ b.1 → is_same a b ≡ true
is_same-of a b p q = and_true (a.0 == b.0) (a.1 == b.1) (eq-eqb a.0 b.0 p) (eq-eqb a.1 b.1 q)

pub any_here : (xs : List (ℕ × ℕ)) (e : ℕ × ℕ) → Contains xs e → list_any (is_same e) xs ≡ true
any_here [] e c = absurd (Contains-none e c)
any_here (x ∷ xs) e (zero, lt, is) = or_left (is_same e x) (list_any (is_same e) xs) (is_same-of e x (ap (λ (z : ℕ × ℕ). z.0) (sym is)) (ap (λ (z : ℕ × ℕ). z.1) (sym is)))
any_here (x ∷ xs) e (suc k, lt, is) = or_right (is_same e x) (list_any (is_same e) xs) (any_here xs e (k, omega arith, is))

pub here_any : (xs : List (ℕ × ℕ)) (e : ℕ × ℕ) → list_any (is_same e) xs ≡ true → Contains xs e
here_any xs e h = Contains-from_any (λ a b f. same_entry a b f) e xs h

Contains-first : {X : Type 0} (x : X) (xs : List X) → Contains (x ∷ xs) x
Contains-first x xs = (0, omega arith, refl)

Contains-later : {X : Type 0} (x : X) (xs : List X) (y : X) → Contains xs y → Contains (x ∷ xs) y
Contains-later x xs y (k, within, e) = (suc k, omega arith, e)

pub same_option : (a b : Option ℕ) → ((x : ℕ) → a ≡ Some x → b ≡ Some x) → ((x : ℕ) → b ≡ Some x → a ≡ Some x) → a ≡ b
same_option None None f g = refl
same_option None (Some y) f g = g y refl
same_option (Some x) b f g = sym (f x refl)

-- ---- the map of the values

find-before : (first q : ℕ) (t : List (Option ℕ)) → q < first → find nat_cmp q (values_from first t) ≡ None
find-before first q [] h = refl
find-before first q (None ∷ t) h = find-before (suc first) q t (omega arith)
find-before first q (Some v ∷ t) h = ap (λ b. cond b (Some v) (find nat_cmp q (values_from (suc first) t))) (tied q first false (ne_eqb q first (λ e. omega arith))) ∙ find-before (suc first) q t (omega arith)

find-at : (first q k : ℕ) (t : List (Option ℕ)) → q ≡ first + k → find nat_cmp q (values_from first t) ≡ get_or t k None
find-at first q k [] e = refl
find-at first q zero (None ∷ t) e = find-before (suc first) q t (omega arith)
find-at first q zero (Some v ∷ t) e = ap (λ b. cond b (Some v) (find nat_cmp q (values_from (suc first) t))) (tied q first true (eq-eqb q first (omega arith)))
find-at first q (suc k) (None ∷ t) e = find-at (suc first) q k t (omega arith)
find-at first q (suc k) (Some v ∷ t) e = ap (λ b. cond b (Some v) (find nat_cmp q (values_from (suc first) t))) (tied q first false (ne_eqb q first (λ same. omega arith))) ∙ find-at (suc first) q k t (omega arith)

pub get-values_of : (t : List (Option ℕ)) (q : ℕ) → get (values_of t) q ≡ value_at t q
unfolding values_of
get-values_of t q = get-from_entries nat_cmp_total (values_from 0 t) q ∙ find-at 0 q q t (omega arith)

-- ---- what is queued

get-queued : (width : ℕ) (lists : EntryLists) (t : List (Option ℕ)) (q : ℕ) → get (queued width lists t) q ≡ cond (is_queued width lists t q) (value_at t q) None
get-queued width lists t q = get_kept (values_of t) (is_queued width lists t) q ∙ ap (λ o. cond (is_queued width lists t q) o None) (get-values_of t q)

module _ (width : ℕ) (lists : EntryLists) (q : ℕ) where
  abbrev list_for : ℕ → List (ℕ × ℕ)
  list_for x = entries_at lists ((x / width) % length lists)

  abbrev stands : Option ℕ → Bool
  stands o = option_map_or (λ x. list_any (is_same (q, x)) (list_for x)) o false

  told : (o : Option ℕ) (x : ℕ) → cond (stands o) o None ≡ Some x → (o ≡ Some x) × Contains (list_for x) (q, x)
  told None x e = absurd (let absurdity : ⊥ = cc in absurdity)
  told (Some y) x e =
      elim (list_any (is_same (q, y)) (list_for y)) as (λ b. list_any (is_same (q, y)) (list_for y) ≡ b → cond b (Some y) None ≡ Some x → (Some y ≡ Some x) × Contains (list_for x) (q, x)) [
        | true ↦ λ any is. (is, subst (λ z. Contains (list_for z) (q, z)) (same_Some y x is) (here_any (list_for y) (q, y) any))
        | false ↦ λ _ wrong. absurd (let absurdity : ⊥ = cc in absurdity)
      ] refl e

pub queued_has : (width : ℕ) (lists : EntryLists) (t : List (Option ℕ)) (q x : ℕ) → get (queued width lists t) q ≡ Some x → (value_at t q ≡ Some x) × Contains (entries_at lists ((x / width) % length lists)) (q, x)
queued_has width lists t q x e = told width lists q (value_at t q) x (sym (get-queued width lists t q) ∙ e)

pub queued_get : (width : ℕ) (lists : EntryLists) (t : List (Option ℕ)) (q x : ℕ) → value_at t q ≡ Some x → Contains (entries_at lists ((x / width) % length lists)) (q, x) → get (queued width lists t) q ≡ Some x
queued_get width lists t q x has c =
    get-queued width lists t q
    ∙ (ap (λ o. cond (stands width lists q o) o None) has
    ∙ ap (λ b. cond b (Some x) None) (any_here (list_for width lists q x) (q, x) c))

-- ---- each once

pub once-push : (xs : List (ℕ × ℕ)) (e : ℕ × ℕ) → are_once xs ≡ true → (Contains xs e → ⊥) → are_once (xs ++ e ∷ []) ≡ true
once-push [] e h lone = refl
once-push (x ∷ xs) e h lone =
    let parts = both (not (list_any (is_same x) xs)) (are_once xs) h in
    and_true (not (list_any (is_same x) (xs ++ e ∷ []))) (are_once (xs ++ e ∷ []))
    (ap not (no_true (list_any (is_same x) (xs ++ e ∷ [])) (λ any.
    elim (Contains-push_cases xs e x (here_any (xs ++ e ∷ []) x any)) as (λ _. ⊥) [
      | inl c ↦ let yes : list_any (is_same x) xs ≡ true = any_here xs x c in let off : list_any (is_same x) xs ≡ false = not_true (list_any (is_same x) xs) parts.0 in let absurdity : ⊥ = cc in absurdity
      | inr is ↦ lone (subst (λ (z : ℕ × ℕ). Contains (x ∷ xs) z) (sym is) (Contains-first x xs))
    ])))
    (once-push xs e parts.1 (λ c. lone (Contains-later x xs e c)))

-- ---- live entries

value_of_live : (v : ℕ) (o : Option ℕ) → option_map_or (λ x. v == x) o false ≡ true → o ≡ Some v
value_of_live v None e = absurd (let absurdity : ⊥ = cc in absurdity)
value_of_live v (Some x) e = ap (λ n. Some n) (sym (eqb-true v x e))

pub live_has : (t : List (Option ℕ)) (e : ℕ × ℕ) → is_live t e ≡ true → value_at t e.0 ≡ Some e.1
live_has t e h = value_of_live e.1 (value_at t e.0) h

pub has_live : (t : List (Option ℕ)) (e : ℕ × ℕ) → value_at t e.0 ≡ Some e.1 → is_live t e ≡ true
has_live t e h = ap (λ o. option_map_or (λ x. e.1 == x) o false) h ∙ eq-eqb e.1 e.1 refl

-- a live entry of a node
pub record IsLiveIn (t : List (Option ℕ)) (entries : List (ℕ × ℕ)) (u : ℕ) : Type 0 where
  pub value : ℕ
  pub member : Contains entries (u, value)
  pub has : value_at t u ≡ Some value

live_later : (t : List (Option ℕ)) (y : ℕ × ℕ) (ys : List (ℕ × ℕ)) (u : ℕ) → IsLiveIn t ys u → IsLiveIn t (y ∷ ys) u
live_later t y ys u is = record { value = is.value; member = Contains-later y ys (u, is.value) is.member; has = is.has }

live_first : (t : List (Option ℕ)) (y : ℕ × ℕ) (ys : List (ℕ × ℕ)) (u : ℕ) → is_live t y ≡ true → (Contains (live_nodes t ys) u → IsLiveIn t ys u) → Contains (y.0 ∷ live_nodes t ys) u → IsLiveIn t (y ∷ ys) u
live_first t y ys u live rest (zero, lt, e) =
    let p : y.0 ≡ u = e in
    let is : y ≡ (u, y.1) = λ i. (p i, y.1) in
    record { value = y.1; member = subst (λ (z : ℕ × ℕ). Contains (y ∷ ys) z) is (Contains-first y ys); has = ap (value_at t) (sym p) ∙ live_has t y live }
live_first t y ys u live rest (suc k, lt, e) = live_later t y ys u (rest (k, omega arith, e))

live_member : (t : List (Option ℕ)) (xs : List (ℕ × ℕ)) (u : ℕ) → Contains (live_nodes t xs) u → IsLiveIn t xs u
live_member t [] u c = absurd (Contains-none u c)
live_member t (y ∷ ys) u c =
    elim (is_live t y) as (λ b. is_live t y ≡ b → Contains (map (λ (e : ℕ × ℕ). e.0) (cond b (y ∷ filter (is_live t) ys) (filter (is_live t) ys))) u → IsLiveIn t (y ∷ ys) u) [
      | true ↦ λ live c. live_first t y ys u live (live_member t ys u) c
      | false ↦ λ _ c. live_later t y ys u (live_member t ys u c)
    ] refl c

member_live : (t : List (Option ℕ)) (xs : List (ℕ × ℕ)) (u x : ℕ) → Contains xs (u, x) → value_at t u ≡ Some x → Contains (live_nodes t xs) u
member_live t [] u x c has = absurd (Contains-none (u, x) c)
member_live t (y ∷ ys) u x (zero, lt, is) has =
    let live : is_live t y ≡ true = ap (is_live t) is ∙ has_live t (u, x) has in
    subst (λ b. Contains (map (λ (e : ℕ × ℕ). e.0) (cond b (y ∷ filter (is_live t) ys) (filter (is_live t) ys))) u) (sym live)
    (subst (λ z. Contains (y.0 ∷ live_nodes t ys) z) (let p : y.0 ≡ u = ap (λ (z : ℕ × ℕ). z.0) is in p) (Contains-first y.0 (live_nodes t ys)))
member_live t (y ∷ ys) u x (suc k, lt, is) has =
    let rest : Contains (live_nodes t ys) u = member_live t ys u x (k, omega arith, is) has in
    elim (is_live t y) as (λ b. Contains (map (λ (e : ℕ × ℕ). e.0) (cond b (y ∷ filter (is_live t) ys) (filter (is_live t) ys))) u) [
      | true ↦ Contains-later y.0 (live_nodes t ys) u rest
      | false ↦ rest
    ]

apart_live : (t : List (Option ℕ)) (x : ℕ × ℕ) (ys : List (ℕ × ℕ)) → is_live t x ≡ true → list_any (is_same x) ys ≡ false → AllByRecursion (λ z. eqb x.0 z ≡ false) (live_nodes t ys)
apart_live t x [] live off = tt
apart_live t x (y ∷ ys) live off =
    let rest : list_any (is_same x) ys ≡ false = no_true (list_any (is_same x) ys) (λ h. let yes : list_any (is_same x) (y ∷ ys) ≡ true = or_right (is_same x y) (list_any (is_same x) ys) h in let absurdity : ⊥ = cc in absurdity) in
    elim (is_live t y) as (λ b. is_live t y ≡ b → AllByRecursion (λ z. eqb x.0 z ≡ false) (map (λ (e : ℕ × ℕ). e.0) (cond b (y ∷ filter (is_live t) ys) (filter (is_live t) ys)))) [
      | true ↦ λ lives. (
        ne_eqb x.0 y.0 (λ same.
            let one : Some x.1 ≡ Some y.1 = sym (live_has t x live) ∙ (ap (value_at t) same ∙ live_has t y lives) in
            let yes : list_any (is_same x) (y ∷ ys) ≡ true = or_left (is_same x y) (list_any (is_same x) ys) (is_same-of x y same (same_Some x.1 y.1 one)) in
            let absurdity : ⊥ = cc in absurdity),
        apart_live t x ys live rest,
      )
      | false ↦ λ _. apart_live t x ys live rest
    ] refl

pub live_once : (t : List (Option ℕ)) (xs : List (ℕ × ℕ)) → are_once xs ≡ true → IsDistinct eqb (live_nodes t xs)
unfolding IsDistinct
live_once t [] h = tt
live_once t (x ∷ xs) h =
    let parts = both (not (list_any (is_same x) xs)) (are_once xs) h in
    elim (is_live t x) as (λ b. is_live t x ≡ b → IsDistinct eqb (map (λ (e : ℕ × ℕ). e.0) (cond b (x ∷ filter (is_live t) xs) (filter (is_live t) xs)))) [
      | true ↦ λ live. (apart_live t x xs live (not_true (list_any (is_same x) xs) parts.0), live_once t xs parts.1)
      | false ↦ λ _. live_once t xs parts.1
    ] refl

-- ---- a value is lowered

pub at_most_of : (v : ℕ) (o : Option ℕ) → option_map_or (λ x. nat_le x v) o false ≡ true → (x : ℕ) × (o ≡ Some x) × (x ≤ v)
at_most_of v None e = absurd (let absurdity : ⊥ = cc in absurdity)
at_most_of v (Some x) e = (x, refl, leb-true x v e)

pub of_at_most : (v : ℕ) (o : Option ℕ) (x : ℕ) → o ≡ Some x → x ≤ v → option_map_or (λ x. nat_le x v) o false ≡ true
of_at_most v o x is le = ap (λ p. option_map_or (λ x. nat_le x v) p false) is ∙ le-leb x v le

-- ---- nothing is lowered, or there is nothing
pub AreEntriesOf-same : (t : List (Option ℕ)) (old new : EntryLists) → ((p : ℕ) → entries_at new p ≡ entries_at old p) → AreEntriesOf t old → AreEntriesOf t new
AreEntriesOf-same t old new same was = record {
  node = λ p e c. was.node p e (subst (λ (l : List (ℕ × ℕ)). Contains l e) (same p) c);
  above = λ p e c. was.above p e (subst (λ (l : List (ℕ × ℕ)). Contains l e) (same p) c);
  once = λ p. ap are_once (same p) ∙ was.once p;
}

pub AreEntriesOf-none : (t : List (Option ℕ)) (lists : EntryLists) → ((p : ℕ) → entries_at lists p ≡ []) → AreEntriesOf t lists
AreEntriesOf-none t lists none = record {
  node = λ p e c. absurd (Contains-none e (subst (λ (l : List (ℕ × ℕ)). Contains l e) (none p) c));
  above = λ p e c. absurd (Contains-none e (subst (λ (l : List (ℕ × ℕ)). Contains l e) (none p) c));
  once = λ p. ap are_once (none p);
}

pub queued-none : (width : ℕ) (t : List (Option ℕ)) (lists : EntryLists) → ((p : ℕ) → entries_at lists p ≡ []) → queued width lists t ≡ empty
queued-none width t lists none = empty_from_nothing (queued width lists t) (λ q x e. Contains-none (q, x) (subst (λ (l : List (ℕ × ℕ)). Contains l (q, x)) (none ((x / width) % length lists)) (queued_has width lists t q x e).1))

value_within : (t : List (Option ℕ)) (u x : ℕ) → value_at t u ≡ Some x → u < length t
value_within t u x has = elim (cases_lt u (length t)) as (λ _. u < length t) [
  | inl lt ↦ lt
  | inr past ↦ absurd (let no : None ≡ Some x = sym (get_or_past t u None past) ∙ has in let absurdity : ⊥ = cc in absurdity)
]

-- the nodes of entries have places
pub entry_nodes : (t : List (Option ℕ)) (lists : EntryLists) → AreEntriesOf t lists → (p : ℕ) (e : ℕ × ℕ) → Contains (entries_at lists p) e → (1 ≤ e.0) × (e.0 < length t)
entry_nodes t lists was p e c =
    let had = at_most_of e.1 (value_at t e.0) (was.above p e c) in
    (was.node p e c, value_within t e.0 had.0 had.1)

-- ---- a bucket of a map
module _ (width b : ℕ) (m : Entries) where
  pub in_bucket : (q x : ℕ) → get m q ≡ Some x → x / width ≡ b → is_in_bucket width b (get m q) ≡ true
  in_bucket q x e is = ap (is_in_bucket width b) e ∙ eq-eqb (x / width) b is

  pub key_of : (q : ℕ) → is_in_bucket width b (get m q) ≡ true → Contains (keys (bucket width b m)) q
  key_of q h = Contains-from_any (λ x y e. eqb-true x y e) q (keys (bucket width b m)) (has_node-bucket width b m q ∙ h)

  pub of_key : (q : ℕ) → Contains (keys (bucket width b m)) q → is_in_bucket width b (get m q) ≡ true
  of_key q c = sym (has_node-bucket width b m q) ∙ list_any-from_Contains nat_eq_equiv q (keys (bucket width b m)) c

  get-outside : (q : ℕ) → get (outside width b m) q ≡ cond (not (is_in_bucket width b (get m q))) (get m q) None
  get-outside q = get_kept m (λ node. not (is_in_bucket width b (get m node))) q

  pub outside_kept : (q x : ℕ) → get m q ≡ Some x → x / width ≢ b → get (outside width b m) q ≡ Some x
  outside_kept q x e ne = get-outside q ∙ (ap (λ c. cond (not c) (get m q) None) (ap (is_in_bucket width b) e ∙ ne_eqb (x / width) b ne) ∙ e)

  pub outside_left : (q x : ℕ) → get (outside width b m) q ≡ Some x → (get m q ≡ Some x) × (x / width ≢ b)
  outside_left q x e = left_outside width b m q x (subst (λ (n : Entries). get n q ≡ Some x) (sym (without-bucket width b m)) e)

  -- a map that has just what another one has in other buckets
  pub rest_is : (rest : Entries) → ((q x : ℕ) → get rest q ≡ Some x → (get m q ≡ Some x) × (x / width ≢ b)) → ((q x : ℕ) → get m q ≡ Some x → x / width ≢ b → get rest q ≡ Some x) → rest ≡ outside width b m
  rest_is rest left kept = same_entries _ _ (λ q. same_option _ _
      (λ x e.
      let was_there = left q x e in
      let out : is_in_bucket width b (get m q) ≡ false = ap (is_in_bucket width b) was_there.0 ∙ ne_eqb (x / width) b was_there.1 in
      get-outside q ∙ (ap (λ c. cond (not c) (get m q) None) out ∙ was_there.0))
      (λ x e.
      let got : cond (not (is_in_bucket width b (get m q))) (get m q) None ≡ Some x = sym (get-outside q) ∙ e in
      elim (is_in_bucket width b (get m q)) as (λ c. is_in_bucket width b (get m q) ≡ c → cond (not c) (get m q) None ≡ Some x → get rest q ≡ Some x) [
        | true ↦ λ _ wrong. absurd (let absurdity : ⊥ = cc in absurdity)
        | false ↦ λ out has. kept q x has (λ is. let yes : is_in_bucket width b (get m q) ≡ true = in_bucket q x has is in let absurdity : ⊥ = cc in absurdity)
      ] refl got))

-- ---- a list is taken
module _ (width last b : ℕ) (old new : EntryLists) (t : List (Option ℕ)) (entries : List (ℕ × ℕ)) (size : length new ≡ length old) (within : AreInPlace width last old) (was : AreEntriesOf t old) (far : last ≤ b) (takes : TakesFirst width old new b entries) where
  -- all but the taken ones stay
  pub stays : (p : ℕ) (e : ℕ × ℕ) → Contains (entries_at new p) e → Contains (entries_at old p) e × (p ≢ b % length old)
  stays p e c = elim (cases_eq p (b % length old)) as (λ _. Contains (entries_at old p) e × (p ≢ b % length old)) [
    | inl is ↦ absurd (Contains-none e (subst (λ (l : List (ℕ × ℕ)). Contains l e) (ap (entries_at new) is ∙ takes.emptied) c))
    | inr ne ↦ (subst (λ (l : List (ℕ × ℕ)). Contains l e) (takes.others p ne) c, ne)
  ]

  pub AreEntriesOf-taken : AreEntriesOf t new
  AreEntriesOf-taken = record {
    node = λ p e c. was.node p e (stays p e c).0;
    above = λ p e c. was.above p e (stays p e c).0;
    once = λ p. elim (cases_eq p (b % length old)) as (λ _. are_once (entries_at new p) ≡ true) [
      | inl is ↦ ap are_once (ap (entries_at new) is ∙ takes.emptied)
      | inr ne ↦ ap are_once (takes.others p ne) ∙ was.once p
    ];
  }

  -- what is queued in another bucket stays, and nothing else does
  left : (q x : ℕ) → get (queued width new t) q ≡ Some x → (get (queued width old t) q ≡ Some x) × (x / width ≢ b)
  left q x e =
      let had = queued_has width new t q x e in
      let here : Contains (entries_at new ((x / width) % length old)) (q, x) = subst (λ n. Contains (entries_at new ((x / width) % n)) (q, x)) size had.1 in
      let there = stays ((x / width) % length old) (q, x) here in
      (queued_get width old t q x had.0 there.0, λ is. there.1 (ap (λ k. k % length old) is))

  kept : (q x : ℕ) → get (queued width old t) q ≡ Some x → x / width ≢ b → get (queued width new t) q ≡ Some x
  kept q x e ne =
      let had = queued_has width old t q x e in
      let is = within ((x / width) % length old) (q, x) had.1 in
      let low : b ≤ x / width = takes.least ((x / width) % length old) (q, x) had.1 in
      let high : x / width < last + length old = is.window.1 in
      let apart : (x / width) % length old ≢ b % length old = mod_apart b (x / width) (length old) (omega arith) (omega arith) in
      queued_get width new t q x had.0 (subst (λ n. Contains (entries_at new ((x / width) % n)) (q, x)) (sym size) (subst (λ (l : List (ℕ × ℕ)). Contains l (q, x)) (sym (takes.others ((x / width) % length old) apart)) had.1))

  -- a node of the bucket has a live entry among the taken ones
  live_there : (q x : ℕ) → get (queued width old t) q ≡ Some x → x / width ≡ b → Contains (live_nodes t entries) q
  live_there q x e is =
      let had = queued_has width old t q x e in
      let here : Contains entries (q, x) = subst (λ (l : List (ℕ × ℕ)). Contains l (q, x)) (ap (λ k. entries_at old (k % length old)) is ∙ sym takes.taken) had.1 in
      member_live t entries q x here had.0

  there_live : (q : ℕ) → Contains (live_nodes t entries) q → (x : ℕ) × (get (queued width old t) q ≡ Some x) × (x / width ≡ b)
  there_live q c =
      let live = live_member t entries q c in
      let is : live.value / width ≡ b = takes.within (q, live.value) live.member in
      let here : Contains (entries_at old ((live.value / width) % length old)) (q, live.value) = subst (λ (l : List (ℕ × ℕ)). Contains l (q, live.value)) (takes.taken ∙ ap (λ k. entries_at old (k % length old)) (sym is)) live.member in
      (live.value, queued_get width old t q live.value live.has here, is)

  pub TakesAny-taken : 0 < length (live_nodes t entries) → TakesAny width (queued width old t) b (live_nodes t entries) (queued width new t)
  TakesAny-taken some = record {
    some_node = some;
    nodes = λ u. (λ c. let has = there_live u c in key_of width b (queued width old t) u (in_bucket width b (queued width old t) u has.0 has.1 has.2), λ c. let v = value_in width b (get (queued width old t) u) (of_key width b (queued width old t) u c) in live_there u v.0 v.1 v.2);
    once = live_once t entries (ap are_once takes.taken ∙ was.once (b % length old));
    least = λ q v e. takes.least ((v / width) % length old) (q, v) (queued_has width old t q v e).1;
    rest = rest_is width b (queued width old t) (queued width new t) left kept;
  }

  -- where none of them is live, nothing changes
  pub queued-dead : live_nodes t entries ≡ [] → queued width new t ≡ queued width old t
  queued-dead none = same_entries _ _ (λ q. same_option _ _
      (λ x e. (left q x e).0)
      (λ x e. elim (cases_eq (x / width) b) as (λ _. get (queued width new t) q ≡ Some x) [
        | inl is ↦ absurd (Contains-none q (subst (λ (l : List ℕ). Contains l q) none (live_there q x e is)))
        | inr ne ↦ kept q x e ne
      ]))

  pub taken_nodes : (e : ℕ × ℕ) → Contains entries e → (1 ≤ e.0) × (e.0 < length t)
  taken_nodes e c = entry_nodes t old was (b % length old) e (subst (λ (l : List (ℕ × ℕ)). Contains l e) takes.taken c)
