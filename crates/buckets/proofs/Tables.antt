-- The map that two tables stand for: what it has at a node, and after a change of the tables.
use Rattle.std.proofs.Common.{◌≡◌, ◌≢◌, ℕ, zero, suc, ◌+◌, ◌-◌, ◌<◌, ◌≤◌, ◌==◌, Bool, true, false, cond, List, [], ◌∷◌, ◌++◌, length, replicate, get_or, set, take, Option, Some, None, nat_cmp, refl, sym, ap, subst, ◌∙◌, inl, inr, arith, eq-eqb, eqb-true, ne_eqb, is_some}
use Rattle.std.specs.FinMap.{get, insert, remove, len, get-insert, get-remove, get-from_entries, get-empty, from_entries, find, same_map, nat_cmp-IsAntisymmetric, len-insert, len-remove, len-empty, empty, empty_of_len, contains_key}
use Rattle.std.specs.Cmp.{nat_cmp_total, unsigned_tied}
use Rattle.std.specs.Ordering.{eq_by_cmp}
use Rattle.std.proofs.lemmas.Bool.{cases_Bool, cases_eq, cases_lt}
use Rattle.std.proofs.lemmas.List.{get_or-set_same, get_or-set_other, get_or_append_left, get_or_past, length-set, set-get_or, take_all, length-append, length-replicate}
use Rattle.buckets.specs.Queue.{Entries}
use Rattle.buckets.specs.Tables.{queued_from, entries_of, IsTable}

pub tied : (q k : ℕ) (b : Bool) → (q == k) ≡ b → eq_by_cmp nat_cmp q k ≡ b
tied q k b e = unsigned_tied q k ∙ e

-- equal maps have the same at each node
pub same_entries : (m n : Entries) → ((q : ℕ) → get m q ≡ get n q) → m ≡ n
same_entries m n h = same_map nat_cmp_total nat_cmp-IsAntisymmetric m n h

pub get-insert_same : (m : Entries) (u x q : ℕ) → q ≡ u → get (insert m u x) q ≡ Some x
get-insert_same m u x q e = get-insert nat_cmp_total m u x q ∙ ap (λ b. cond b (Some x) (get m q)) (tied q u true (eq-eqb q u e))

pub get-insert_other : (m : Entries) (u x q : ℕ) → q ≢ u → get (insert m u x) q ≡ get m q
get-insert_other m u x q h = get-insert nat_cmp_total m u x q ∙ ap (λ b. cond b (Some x) (get m q)) (tied q u false (ne_eqb q u h))

pub get-remove_same : (m : Entries) (u q : ℕ) → q ≡ u → get (remove m u) q ≡ None
get-remove_same m u q e = get-remove nat_cmp_total m u q ∙ ap (λ b. cond b None (get m q)) (tied q u true (eq-eqb q u e))

pub get-remove_other : (m : Entries) (u q : ℕ) → q ≢ u → get (remove m u) q ≡ get m q
get-remove_other m u q h = get-remove nat_cmp_total m u q ∙ ap (λ b. cond b None (get m q)) (tied q u false (ne_eqb q u h))

-- what the tables say of a node
abbrev pub value_at : List ℕ → List Bool → ℕ → Option ℕ
value_at values queued k = cond (get_or queued k false) (Some (get_or values k 0)) None

find-before : (first q : ℕ) (vs : List ℕ) (qs : List Bool) → q < first → find nat_cmp q (queued_from first vs qs) ≡ None
find-before first q [] qs h = refl
find-before first q (v ∷ vs) [] h = refl
find-before first q (v ∷ vs) (true ∷ qs) h = ap (λ b. cond b (Some v) (find nat_cmp q (queued_from (suc first) vs qs))) (tied q first false (ne_eqb q first (λ e. omega arith))) ∙ find-before (suc first) q vs qs (omega arith)
find-before first q (v ∷ vs) (false ∷ qs) h = find-before (suc first) q vs qs (omega arith)

find-at : (first q k : ℕ) (vs : List ℕ) (qs : List Bool) → q ≡ first + k → length qs ≤ length vs → find nat_cmp q (queued_from first vs qs) ≡ value_at vs qs k
find-at first q k [] [] e h = refl
find-at first q k [] (b ∷ qs) e h = absurd (omega arith)
find-at first q k (v ∷ vs) [] e h = refl
find-at first q zero (v ∷ vs) (true ∷ qs) e h = ap (λ b. cond b (Some v) (find nat_cmp q (queued_from (suc first) vs qs))) (tied q first true (eq-eqb q first (omega arith)))
find-at first q zero (v ∷ vs) (false ∷ qs) e h = find-before (suc first) q vs qs (omega arith)
find-at first q (suc k) (v ∷ vs) (true ∷ qs) e h = ap (λ b. cond b (Some v) (find nat_cmp q (queued_from (suc first) vs qs))) (tied q first false (ne_eqb q first (λ same. omega arith))) ∙ find-at (suc first) q k vs qs (omega arith) (omega arith)
find-at first q (suc k) (v ∷ vs) (false ∷ qs) e h = find-at (suc first) q k vs qs (omega arith) (omega arith)

pub get-entries_of : (vs : List ℕ) (qs : List Bool) → length qs ≤ length vs → (q : ℕ) → get (entries_of vs qs) q ≡ value_at vs qs q
unfolding entries_of
get-entries_of vs qs h q = get-from_entries nat_cmp_total (queued_from 0 vs qs) q ∙ find-at 0 q q vs qs (omega arith) h

-- tables that say the same stand for one map
same_tables : (vs ws : List ℕ) (ps qs : List Bool) → length ps ≤ length vs → length qs ≤ length ws → ((q : ℕ) → value_at vs ps q ≡ value_at ws qs q) → entries_of vs ps ≡ entries_of ws qs
same_tables vs ws ps qs f g h = same_entries _ _ (λ q. get-entries_of vs ps f q ∙ (h q ∙ sym (get-entries_of ws qs g q)))

pub entries_of-none : entries_of [] [] ≡ empty
unfolding entries_of
entries_of-none = refl

pub entries_of-set : (vs : List ℕ) (qs : List Bool) (k v : ℕ) → length qs ≤ length vs → k < length qs → entries_of (set vs k v) (set qs k true) ≡ insert (entries_of vs qs) k v
entries_of-set vs qs k v h lt = same_entries _ _ (λ q.
    get-entries_of (set vs k v) (set qs k true) (simp length-set h) q
    ∙ elim (cases_eq q k) as (λ _. value_at (set vs k v) (set qs k true) q ≡ get (insert (entries_of vs qs) k v) q) [
      | inl e ↦ subst (λ j. value_at (set vs k v) (set qs k true) j ≡ Some v) (sym e) (rw (get_or-set_same qs k true false lt, get_or-set_same vs k v 0 (omega arith))) ∙ sym (get-insert_same (entries_of vs qs) k v q e)
      | inr ne ↦ rw (get_or-set_other qs k q true false ne, get_or-set_other vs k q v 0 ne) (sym (get-insert_other (entries_of vs qs) k v q ne ∙ get-entries_of vs qs h q))
    ])

pub entries_of-unset : (vs : List ℕ) (qs : List Bool) (k : ℕ) → length qs ≤ length vs → k < length qs → entries_of vs (set qs k false) ≡ remove (entries_of vs qs) k
entries_of-unset vs qs k h lt = same_entries _ _ (λ q.
    get-entries_of vs (set qs k false) (simp length-set h) q
    ∙ elim (cases_eq q k) as (λ _. value_at vs (set qs k false) q ≡ get (remove (entries_of vs qs) k) q) [
      | inl e ↦ subst (λ j. value_at vs (set qs k false) j ≡ None) (sym e) (rw (get_or-set_same qs k false false lt)) ∙ sym (get-remove_same (entries_of vs qs) k q e)
      | inr ne ↦ rw (get_or-set_other qs k q false false ne) (sym (get-remove_other (entries_of vs qs) k q ne ∙ get-entries_of vs qs h q))
    ])

-- a node that is not queued has nothing to lose
pub remove_none : (m : Entries) (k : ℕ) → get m k ≡ None → remove m k ≡ m
remove_none m k h = same_entries _ _ (λ q. elim (cases_eq q k) as (λ _. get (remove m k) q ≡ get m q) [ inl e ↦ get-remove_same m k q e ∙ sym (subst (λ j. get m j ≡ None) (sym e) h) | inr ne ↦ get-remove_other m k q ne ])

get_or-more : (qs : List Bool) (n q : ℕ) → get_or (qs ++ replicate n false) q false ≡ get_or qs q false
get_or-more [] zero q = refl
get_or-more [] (suc n) zero = refl
get_or-more [] (suc n) (suc q) = get_or-more [] n q
get_or-more (b ∷ qs) n zero = refl
get_or-more (b ∷ qs) n (suc q) = get_or-more qs n q

-- room for more nodes changes nothing
pub entries_of-more_values : (vs : List ℕ) (qs : List Bool) (n : ℕ) → length qs ≤ length vs → entries_of (vs ++ replicate n 0) qs ≡ entries_of vs qs
entries_of-more_values vs qs n h = same_tables (vs ++ replicate n 0) vs qs qs (omega (arith, length-append vs (replicate n 0))) h (λ q.
    elim (cases_lt q (length qs)) as (λ _. value_at (vs ++ replicate n 0) qs q ≡ value_at vs qs q) [
      | inl lt ↦ rw (get_or_append_left vs (replicate n 0) 0 q (omega arith))
      | inr past ↦ rw (get_or_past qs q false past)
    ])

pub entries_of-more_places : (vs : List ℕ) (qs : List Bool) (n : ℕ) → length qs + n ≤ length vs → entries_of vs (qs ++ replicate n false) ≡ entries_of vs qs
entries_of-more_places vs qs n h = same_tables vs vs (qs ++ replicate n false) qs (omega (arith, length-append qs (replicate n false), length-replicate n false)) (omega arith) (λ q. rw (get_or-more qs n q))

pub entries_of-resized_values : (vs : List ℕ) (qs : List Bool) (n k : ℕ) → length qs ≤ length vs → length vs ≤ n → entries_of (take n vs ++ replicate k 0) qs ≡ entries_of vs qs
entries_of-resized_values vs qs n k h le = rw (take_all n vs le) (entries_of-more_values vs qs k h)

pub entries_of-resized_places : (vs : List ℕ) (qs : List Bool) (n k : ℕ) → length qs + k ≤ length vs → length qs ≤ n → entries_of vs (take n qs ++ replicate k false) ≡ entries_of vs qs
entries_of-resized_places vs qs n k h le = rw (take_all n qs le) (entries_of-more_places vs qs k h)

-- no more nodes are queued than the tables have places
len-queued_from : (first : ℕ) (vs : List ℕ) (qs : List Bool) → len (from_entries {R = nat_cmp} (queued_from first vs qs)) ≤ length qs
len-queued_from first [] qs = omega (arith, len-empty nat_cmp ℕ)
len-queued_from first (v ∷ vs) [] = omega (arith, len-empty nat_cmp ℕ)
len-queued_from first (v ∷ vs) (false ∷ qs) = omega (arith, len-queued_from (suc first) vs qs)
len-queued_from first (v ∷ vs) (true ∷ qs) =
    let rest = from_entries {R = nat_cmp} (queued_from (suc first) vs qs) in
    elim (contains_key rest first) as (λ b. len (insert rest first v) ≡ cond b (len rest) (len rest + 1) → len (insert rest first v) ≤ suc (length qs)) [
      | true ↦ λ e. omega (arith, len-queued_from (suc first) vs qs)
      | false ↦ λ e. omega (arith, len-queued_from (suc first) vs qs)
    ] (len-insert nat_cmp_total rest first v)

pub len-entries_of : (vs : List ℕ) (qs : List Bool) → len (entries_of vs qs) ≤ length qs
unfolding entries_of
len-entries_of vs qs = len-queued_from 0 vs qs

-- no node is queued where the count is 0, and only there
pub empty_iff : (count : ℕ) (m : Entries) → count ≡ len m → (((count == 0) ≡ true) → m ≡ empty) × (m ≡ empty → (count == 0) ≡ true)
empty_iff count m e = (λ h. empty_of_len m (sym e ∙ eqb-true count 0 h), λ h. eq-eqb count 0 (e ∙ (ap len h ∙ len-empty nat_cmp ℕ)))

-- what the tables answer
pub got_some : (vs : List ℕ) (qs : List Bool) (m : Entries) (q x : ℕ) → length qs ≤ length vs → entries_of vs qs ≡ m → get_or qs q false ≡ true → x ≡ get_or vs q 0 → Some x ≡ get m q
got_some vs qs m q x h is set_there e = rw (← is, get-entries_of vs qs h q, set_there, e)

pub got_none : (vs : List ℕ) (qs : List Bool) (m : Entries) (q : ℕ) → length qs ≤ length vs → entries_of vs qs ≡ m → get_or qs q false ≡ false → None ≡ get m q
got_none vs qs m q h is absent = rw (← is, get-entries_of vs qs h q, absent)

pub IsTable-none : IsTable 0 [] []
IsTable-none = record { sized = omega arith; counted = sym (ap len entries_of-none ∙ len-empty nat_cmp ℕ) }

pub IsTable-grown : (count : ℕ) (vs ws : List ℕ) (ps qs : List Bool) → IsTable count vs ps → length qs ≤ length ws → entries_of ws qs ≡ entries_of vs ps → IsTable count ws qs
IsTable-grown count vs ws ps qs t h e = record { sized = h; counted = t.counted ∙ ap len (sym e) }

pub IsTable-new : (count : ℕ) (vs : List ℕ) (qs : List Bool) (k v : ℕ) → IsTable count vs qs → k < length qs → get_or qs k false ≡ false → IsTable (count + 1) (set vs k v) (set qs k true)
IsTable-new count vs qs k v t lt absent = record {
  sized = simp length-set t.sized;
  counted = rw (entries_of-set vs qs k v t.sized lt)
      (sym (len-insert nat_cmp_total (entries_of vs qs) k v
      ∙ (ap (λ (o : Option ℕ). cond (is_some o) (len (entries_of vs qs)) (len (entries_of vs qs) + 1)) (sym (got_none vs qs (entries_of vs qs) k t.sized refl absent))
      ∙ ap (λ n. n + 1) (sym t.counted))));
}

-- a value is written at a node that is queued already, or that is not queued
pub entries_of-again : (vs : List ℕ) (qs : List Bool) (k v : ℕ) → length qs ≤ length vs → k < length qs → get_or qs k false ≡ true → entries_of (set vs k v) qs ≡ insert (entries_of vs qs) k v
entries_of-again vs qs k v h lt set_there =
    let same : set qs k true ≡ qs = ap (λ b. set qs k b) (sym set_there) ∙ set-get_or qs k false in
    ap (λ ps. entries_of (set vs k v) ps) (sym same) ∙ entries_of-set vs qs k v h lt

pub IsTable-again : (count : ℕ) (vs : List ℕ) (qs : List Bool) (k v : ℕ) → IsTable count vs qs → k < length qs → get_or qs k false ≡ true → IsTable count (set vs k v) qs
IsTable-again count vs qs k v t lt set_there = record {
  sized = simp length-set t.sized;
  counted = rw (entries_of-again vs qs k v t.sized lt set_there)
      (sym (len-insert nat_cmp_total (entries_of vs qs) k v
      ∙ (ap (λ (o : Option ℕ). cond (is_some o) (len (entries_of vs qs)) (len (entries_of vs qs) + 1)) (sym (got_some vs qs (entries_of vs qs) k (get_or vs k 0) t.sized refl set_there refl))
      ∙ sym t.counted)));
}

pub IsTable-less : (count : ℕ) (vs : List ℕ) (qs : List Bool) (k : ℕ) → IsTable count vs qs → k < length qs → get_or qs k false ≡ true → IsTable (count - 1) vs (set qs k false)
IsTable-less count vs qs k t lt set_there = record {
  sized = simp length-set t.sized;
  counted = rw (entries_of-unset vs qs k t.sized lt)
      (sym (len-remove nat_cmp_total (entries_of vs qs) k
      ∙ (ap (λ (o : Option ℕ). cond (is_some o) (len (entries_of vs qs) - 1) (len (entries_of vs qs))) (sym (got_some vs qs (entries_of vs qs) k (get_or vs k 0) t.sized refl set_there refl))
      ∙ ap (λ n. n - 1) (sym t.counted))));
}

pub count-room : (count : ℕ) (vs : List ℕ) (qs : List Bool) (k : ℕ) → IsTable count vs qs → k < length qs → get_or qs k false ≡ false → count + 1 ≤ length qs
count-room count vs qs k t lt absent = let t2 = IsTable-new count vs qs k 0 t lt absent in omega (arith, t2.counted, len-entries_of (set vs k 0) (set qs k true), length-set qs k true)

pub count-positive : (count : ℕ) (vs : List ℕ) (qs : List Bool) (k : ℕ) → IsTable count vs qs → get_or qs k false ≡ true → 1 ≤ count
count-positive count vs qs k t set_there =
    elim (cases_eq count 0) as (λ _. 1 ≤ count) [
      | inl none ↦
          let gone : get (entries_of vs qs) k ≡ None = ap (λ m. get m k) (empty_of_len (entries_of vs qs) (sym t.counted ∙ none)) ∙ get-empty nat_cmp k in
          let wrong : None ≡ Some (get_or vs k 0) = sym gone ∙ sym (got_some vs qs (entries_of vs qs) k (get_or vs k 0) t.sized refl set_there refl) in
          absurd (let absurdity : ⊥ = cc in absurdity)
      | inr some ↦ omega arith
    ]

-- a node that has a value is queued
pub queued_flag : (vs : List ℕ) (qs : List Bool) (m : Entries) (k : ℕ) → length qs ≤ length vs → entries_of vs qs ≡ m → is_some (get m k) ≡ true → get_or qs k false ≡ true
queued_flag vs qs m k h is some = elim (cases_Bool (get_or qs k false)) as (λ _. get_or qs k false ≡ true) [
  | inl on ↦ on
  | inr off ↦ absurd (let none : is_some (get m k) ≡ false = ap (λ (o : Option ℕ). is_some o) (sym (got_none vs qs m k h is off)) in let absurdity : ⊥ = cc in absurdity)
]

-- a node that has none is not queued
pub unqueued_flag : (vs : List ℕ) (qs : List Bool) (m : Entries) (k : ℕ) → length qs ≤ length vs → entries_of vs qs ≡ m → get m k ≡ None → get_or qs k false ≡ false
unqueued_flag vs qs m k h is none = elim (cases_Bool (get_or qs k false)) as (λ _. get_or qs k false ≡ false) [
  | inl on ↦ absurd (let some : Some (get_or vs k 0) ≡ None = got_some vs qs m k (get_or vs k 0) h is on refl ∙ none in let absurdity : ⊥ = cc in absurdity)
  | inr off ↦ off
]

pub queued_within : (qs : List Bool) (k : ℕ) → get_or qs k false ≡ true → k < length qs
queued_within qs k on = elim (cases_lt k (length qs)) as (λ _. k < length qs) [
  | inl lt ↦ lt
  | inr past ↦ absurd (let off : get_or qs k false ≡ false = get_or_past qs k false past in let absurdity : ⊥ = cc in absurdity)
]
