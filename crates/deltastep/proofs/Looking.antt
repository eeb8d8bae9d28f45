-- That a repair looks at each node that may owe something: one with other legs than before, or with a leg to a node that lost its value.
use Rattle.std.proofs.Common.{◌≡◌, ℕ, ◌+◌, ◌≤◌, List, get_or, All, Contains, IsSome, Option, Some, None, refl, sym, ap, subst, ◌∙◌, inl, inr, arith, unwrap_or, is_some, true}
use Rattle.std.proofs.lemmas.Option.{same_Some}
use Rattle.std.proofs.lemmas.List.Elements.{Contains-get_or}
use Rattle.std.specs.FinMap.{get, empty, get-empty}
use Rattle.std.specs.Ordering.{nat_cmp}
use Rattle.relax.specs.Values.{value_at, value_or}
use Rattle.roadnet.specs.Walks.{distance_at}
use Rattle.snapshot.specs.Groups.{Groups, legs_of, IsGrouped}
use Rattle.snapshot.specs.declared.legs.Leg.{Leg}
use Rattle.snapshot.specs.declared.legs.Part.{Part}
use Rattle.snapshot.specs.declared.legs.Part.TheVariants.{Light, Heavy}
use Rattle.buckets.specs.Queue.{Entries}
use Rattle.deltastep.specs.Search.{IsRelaxed, IsSearch, top_of}
use Rattle.deltastep.specs.Repair.{AreChanged, AreListed, AreQueued, AreTails, AreTailsLooked, IsKeptOf, IsNodeLooked}
use Rattle.deltastep.proofs.Lowering.{value_or-some}
use Rattle.deltastep.proofs.Remaining.{IsRowIn, All-member}

pub AreQueued-empty : (t : List (Option ℕ)) (q : Entries) → q ≡ empty → AreQueued t q
AreQueued-empty t q is u x has = absurd (let no : None ≡ Some x = sym (ap (λ (m : Entries). get m u) is ∙ get-empty nat_cmp u) ∙ has in let absurdity : ⊥ = cc in absurdity)

pub IsLooked-on : (groups : Groups) (t : List (Option ℕ)) (P Q : ℕ → Type 0) → ((u : ℕ) → P u → Q u) → (u : ℕ) → IsNodeLooked groups t P u → IsNodeLooked groups t Q u
IsLooked-on groups t P Q keeps u (inl some) = inl (keeps u some)
IsLooked-on groups t P Q keeps u (inr relaxed) = inr relaxed

pub All-looked_on : (groups : Groups) (t : List (Option ℕ)) (P Q : ℕ → Type 0) (legs : List Leg) → ((u : ℕ) → P u → Q u) → All (λ (leg : Leg). IsNodeLooked groups t P leg.head) legs → All (λ (leg : Leg). IsNodeLooked groups t Q leg.head) legs
All-looked_on groups t P Q legs keeps all k d lt = IsLooked-on groups t P Q keeps (get_or legs k d).head (all k d lt)

pub All-changed_on : (groups : Groups) (t : List (Option ℕ)) (P Q : ℕ → Type 0) (nodes : List ℕ) → ((u : ℕ) → P u → Q u) → All (λ u. 1 ≤ u → u ≤ groups.nodes → IsNodeLooked groups t P u) nodes → All (λ u. 1 ≤ u → u ≤ groups.nodes → IsNodeLooked groups t Q u) nodes
All-changed_on groups t P Q nodes keeps all k d lt low high = IsLooked-on groups t P Q keeps (get_or nodes k d) (all k d lt low high)

pub AreTailsLooked-on : (groups back : Groups) (t : List (Option ℕ)) (P Q : ℕ → Type 0) (w : ℕ) → ((u : ℕ) → P u → Q u) → AreTailsLooked groups back t P w → AreTailsLooked groups back t Q w
AreTailsLooked-on groups back t P Q w keeps looked part = All-looked_on groups t P Q (legs_of back part w) keeps (looked part)

pub AreTailsLooked-parts : (groups back : Groups) (t : List (Option ℕ)) (P : ℕ → Type 0) (w : ℕ) → All (λ (leg : Leg). IsNodeLooked groups t P leg.head) (legs_of back Light w) → All (λ (leg : Leg). IsNodeLooked groups t P leg.head) (legs_of back Heavy w) → AreTailsLooked groups back t P w
AreTailsLooked-parts groups back t P w light heavy part = elim part as (λ p. All (λ (leg : Leg). IsNodeLooked groups t P leg.head) (legs_of back p w)) [ Light ↦ light | Heavy ↦ heavy ]

pub heads_to : (groups : Groups) (n : ℕ) (part : Part) (u : ℕ) (legs : List Leg) → IsGrouped groups → groups.nodes ≡ n → legs ≡ legs_of groups part u → All (λ (leg : Leg). (1 ≤ leg.head) × (leg.head ≤ n)) legs
heads_to groups n part u legs grouped nodes is k d lt =
    let c : Contains (legs_of groups part u) (get_or legs k d) = subst (λ (l : List Leg). Contains l (get_or legs k d)) is (Contains-get_or legs k d lt) in
    (grouped.low part u (get_or legs k d) c, omega (arith, grouped.high part u (get_or legs k d) c))

module _ (before after back : Groups) (source : ℕ) (row t : List (Option ℕ)) (q : Entries) (changed lost : List ℕ) (grouped : IsGrouped after) (of_row : IsRowIn before source row) (kept : IsKeptOf source row t) (search : IsSearch after t empty 0) (are : AreChanged before after changed) (tails : AreTails back after) (looked : All (λ u. 1 ≤ u → u ≤ after.nodes → IsNodeLooked after t (λ v. IsSome (get q v)) u) changed) (listed : AreListed row t lost) (tails_looked : All (AreTailsLooked after back t (λ v. IsSome (get q v))) lost) where
  has_kept : (u x : ℕ) → value_at t u ≡ Some x → distance_at row u ≡ Some x
  has_kept u x has = elim (kept.kept u) as (λ _. distance_at row u ≡ Some x) [
    | inl none ↦ absurd (let no : None ≡ Some x = sym none ∙ has in let absurdity : ⊥ = cc in absurdity)
    | inr same ↦ sym same ∙ has
  ]

  -- a node without a value owes nothing
  unknown : (u : ℕ) → value_at t u ≡ None → (part : Part) → IsRelaxed after part t u
  unknown u none part leg c =
      let top : value_or (top_of after) t u ≡ top_of after = ap (λ o. unwrap_or o (top_of after)) none in
      let at_most : value_or (top_of after) t leg.head ≤ top_of after = elim (value_at t leg.head) as (λ o. value_at t leg.head ≡ o → unwrap_or o (top_of after) ≤ top_of after) [
        | None ↦ λ e. omega arith
        | Some x ↦ λ e. let below = search.below_top leg.head x e in omega arith
      ] refl in
      omega (arith, top, at_most)

  of_looked : (u : ℕ) → get q u ≡ None → IsNodeLooked after t (λ w. IsSome (get q w)) u → (part : Part) → IsRelaxed after part t u
  of_looked u none (inl some) part = absurd (let no : is_some {T = ℕ} None ≡ true = ap is_some (sym none) ∙ some in let absurdity : ⊥ = cc in absurdity)
  of_looked u none (inr relaxed) part = relaxed part

  at_leg : (u x : ℕ) → 1 ≤ u → u ≤ after.nodes → value_at t u ≡ Some x → get q u ≡ None → (part : Part) → IsRelaxed after part t u
  at_leg u x low high has none part leg c =
      let Goal = value_or (top_of after) t leg.head ≤ value_or (top_of after) t u + leg.length in
      elim (are u) as (λ _. Goal) [
        | inl c' ↦ of_looked u none (All-member (λ v. 1 ≤ v → v ≤ after.nodes → IsNodeLooked after t (λ w. IsSome (get q w)) v) changed u looked c' low high) part leg c
        | inr same ↦
            let step = of_row.onward u x part leg (subst (λ (l : List Leg). Contains l leg) (sym (same part)) c) (has_kept u x has) in
            let here : value_or (top_of after) t u ≡ x = value_or-some (top_of after) t u x has in
            elim (value_at t leg.head) as (λ o. value_at t leg.head ≡ o → Goal) [
              | Some z ↦ λ e.
                  let same_z : z ≡ step.0 = same_Some z step.0 (sym (has_kept leg.head z e) ∙ step.1) in
                  let there : value_or (top_of after) t leg.head ≡ z = value_or-some (top_of after) t leg.head z e in
                  omega (arith, here, there, step.2, same_z)
              | None ↦ λ e.
                  let way = tails part u leg c in
                  elim (listed leg.head e) as (λ _. Goal) [
                    | inl there ↦
                        let all = All-member (AreTailsLooked after back t (λ w. IsSome (get q w))) lost leg.head tails_looked there way.0 in
                        let at : IsNodeLooked after t (λ w. IsSome (get q w)) way.1.head = All-member (λ (l : Leg). IsNodeLooked after t (λ w. IsSome (get q w)) l.head) (legs_of back way.0 leg.head) way.1 all way.2 in
                        of_looked u none (subst (λ v. IsNodeLooked after t (λ w. IsSome (get q w)) v) way.3 at) part leg c
                    | inr gone ↦ absurd (let no : None ≡ Some step.0 = sym gone ∙ step.1 in let absurdity : ⊥ = cc in absurdity)
                  ]
            ] refl
      ]

  pub each_looked : (u : ℕ) → 1 ≤ u → u ≤ after.nodes → IsNodeLooked after t (λ w. IsSome (get q w)) u
  each_looked u low high = elim (value_at t u) as (λ o. value_at t u ≡ o → IsNodeLooked after t (λ w. IsSome (get q w)) u) [
    | None ↦ λ e. inr (unknown u e)
    | Some x ↦ λ e. elim (get q u) as (λ o. get q u ≡ o → IsNodeLooked after t (λ w. IsSome (get q w)) u) [
      | Some y ↦ λ e'. inl (ap is_some e')
      | None ↦ λ e'. inr (at_leg u x low high e e')
    ] refl
  ] refl
