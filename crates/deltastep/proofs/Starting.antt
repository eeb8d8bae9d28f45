-- What a search knows at its start.
use Rattle.std.proofs.Common.{◌≡◌, ◌≢◌, ℕ, ◌+◌, ◌<◌, ◌≤◌, ◌⊎◌, List, [], length, set, replicate, Contains, IsSome, Option, Some, None, Bool, true, false, refl, sym, ap, subst, ◌∙◌, inl, inr, arith, unwrap_or, is_some, MatchBool, length-set, get_or-set_same, get_or-set_other}
use Rattle.relax.specs.Values.{value_at, value_or}
use Rattle.std.specs.FinMap.{get, insert, empty, get-empty}
use Rattle.std.specs.Ordering.{nat_cmp}
use Rattle.std.proofs.lemmas.Bool.{cases_eq, cases_lt}
use Rattle.std.proofs.lemmas.List.{length-replicate, get_or-replicate, get_or_past}
use Rattle.snapshot.specs.Groups.{Groups}
use Rattle.buckets.specs.Queue.{Entries}
use Rattle.deltastep.specs.Search.{top_of, IsRelaxed, IsRelaxedBut, IsBetweenBuckets}
use Rattle.snapshot.specs.declared.legs.Part.{Part}
use Rattle.snapshot.specs.declared.legs.Part.TheVariants.{Light, Heavy}
use Rattle.deltastep.proofs.Queues.{get-insert_same, get-insert_other}

pub blank : (n u : ℕ) → value_at (replicate n None) u ≡ None
blank n u = elim (cases_lt u n) as (λ _. value_at (replicate n None) u ≡ None) [
  | inl lt ↦ get_or-replicate n u None None lt
  | inr past ↦ get_or_past (replicate n None) u None (omega (arith, length-replicate {A = Option ℕ} n None))
]

pub positive_top : (groups : Groups) → 0 < top_of groups
unfolding top_of
positive_top groups = omega arith

module _ (groups : Groups) (source : ℕ) (low : 1 ≤ source) (high : source ≤ groups.nodes) where
  first : List (Option ℕ)
  first = set (replicate (groups.nodes + 1) None) source (Some 0)

  first_length : length first ≡ groups.nodes + 1
  unfolding first
  first_length = length-set (replicate (groups.nodes + 1) None) source (Some 0) ∙ length-replicate {A = Option ℕ} (groups.nodes + 1) None

  first-source : value_at first source ≡ Some 0
  unfolding first
  first-source = get_or-set_same (replicate (groups.nodes + 1) None) source (Some 0) None (omega (arith, length-replicate {A = Option ℕ} (groups.nodes + 1) None))

  first-other : (u : ℕ) → u ≢ source → value_at first u ≡ None
  unfolding first
  first-other u ne = get_or-set_other (replicate (groups.nodes + 1) None) source u (Some 0) None ne ∙ blank (groups.nodes + 1) u

  queue : Entries
  queue = insert empty source 0

  queue-source : get queue source ≡ Some 0
  unfolding queue
  queue-source = get-insert_same empty source 0

  queue-other : (u : ℕ) → u ≢ source → get queue u ≡ None
  unfolding queue
  queue-other u ne = get-insert_other empty source 0 u ne ∙ get-empty nat_cmp u

  -- what has a value is the source, and the value is 0
  is_first : (u x : ℕ) → value_at first u ≡ Some x → (u ≡ source) × (x ≡ 0)
  is_first u x has = elim (cases_eq u source) as (λ _. (u ≡ source) × (x ≡ 0)) [
    | inl e ↦
        let same : Some x ≡ Some 0 = sym has ∙ (subst (λ v. value_at first v ≡ Some 0) (sym e) first-source) in
        let zero_it : x ≡ 0 = cc in
        (e, zero_it)
    | inr ne ↦ absurd (let no : None ≡ Some x = sym (first-other u ne) ∙ has in let absurdity : ⊥ = cc in absurdity)
  ]

  is_queued : (u x : ℕ) → get queue u ≡ Some x → value_at first u ≡ Some x
  is_queued u x has = elim (cases_eq u source) as (λ _. value_at first u ≡ Some x) [
    | inl e ↦
        let queued : get queue u ≡ Some 0 = subst (λ v. get queue v ≡ Some 0) (sym e) queue-source in
        subst (λ v. value_at first v ≡ Some 0) (sym e) first-source ∙ (sym queued ∙ has)
    | inr ne ↦ absurd (let no : None ≡ Some x = sym (queue-other u ne) ∙ has in let absurdity : ⊥ = cc in absurdity)
  ]

  first_relaxed : (part : Part) → IsRelaxedBut groups part first queue []
  first_relaxed part u = elim (cases_eq u source) as (λ _. IsSome (get queue u) ⊎ (Contains [] u ⊎ IsRelaxed groups part first u)) [
    | inl e ↦ inl (ap is_some (subst (λ v. get queue v ≡ Some 0) (sym e) queue-source))
    | inr ne ↦ inr (inr (λ leg c.
        let unknown : value_or (top_of groups) first u ≡ top_of groups = ap (λ o. unwrap_or o (top_of groups)) (first-other u ne) in
        let at_most : value_or (top_of groups) first leg.head ≤ top_of groups = elim (value_at first leg.head) as (λ o. value_at first leg.head ≡ o → unwrap_or o (top_of groups) ≤ top_of groups) [
          | None ↦ λ e. omega arith
          | Some x ↦ λ e. omega (arith, (is_first leg.head x e).1)
        ] refl in
        omega (arith, unknown, at_most)))
  ]

  first_settled : IsBetweenBuckets groups source first queue
  first_settled = record {
    search = record {
      places = first_length;
      node = λ u x has. omega (arith, low, (is_first u x has).0);
      below_top = λ u x has. omega (arith, (is_first u x has).1, positive_top groups);
      queued = is_queued;
      above = λ u x e. omega arith;
    };
    reached = record {
      starts = first-source;
      reached = λ u x has. record { legs = []; trip = sym (is_first u x has).0; long = sym (is_first u x has).1 };
    };
    light = first_relaxed Light;
    heavy = first_relaxed Heavy;
  }

  -- the state after the source was lowered to 0
  pub IsBetweenBuckets-first : (blank_list t : List (Option ℕ)) (q m : Entries) (lowers : Bool) → blank_list ≡ replicate (groups.nodes + 1) None → m ≡ empty → MatchBool lowers (0 < value_or (top_of groups) blank_list source) (value_or (top_of groups) blank_list source ≤ 0) → MatchBool lowers (t ≡ set blank_list source (Some 0)) (t ≡ blank_list) → MatchBool lowers (q ≡ insert m source 0) (q ≡ m) → IsBetweenBuckets groups source t q
  unfolding first queue
  IsBetweenBuckets-first blank_list t q m true e e' _ is is' =
      subst (λ s. IsBetweenBuckets groups source s q) (sym (is ∙ ap (λ s. set s source (Some 0)) e)) (subst (λ p. IsBetweenBuckets groups source first p) (sym (is' ∙ ap (λ n. insert n source 0) e')) first_settled)
  IsBetweenBuckets-first blank_list t q m false e e' at_zero is is' =
      let unknown : value_or (top_of groups) blank_list source ≡ top_of groups = ap (λ o. unwrap_or o (top_of groups)) (ap (λ s. value_at s source) e ∙ blank (groups.nodes + 1) source) in
      absurd (omega (arith, at_zero, unknown, positive_top groups))
