-- Nodes that are remembered since they owe: one more of them.
use Rattle.std.proofs.Common.{◌≡◌, ℕ, zero, suc, ◌<◌, ◌≤◌, ◌⊎◌, List, get_or, length, All, [], ◌∷◌, Contains, IsSome, Option, Some, None, refl, sym, ap, subst, inl, inr, arith, is_some}
use Rattle.std.proofs.lemmas.List.Elements.{Contains-get_or}
use Rattle.relax.specs.Values.{value_at}
use Rattle.snapshot.specs.Groups.{Groups}
use Rattle.std.specs.FinMap.{get, empty}
use Rattle.buckets.specs.Queue.{Entries}
use Rattle.frontier.specs.Live.{AreJustQueued}
use Rattle.frontier.specs.Remembered.{Memory, remember}
use Rattle.frontier.proofs.Members.{Contains-nil}
use Rattle.frontier.proofs.Flags.{remember_all-has, remember_all-kept, remember_all-of}
use Rattle.frontier.proofs.Bags.{value_within}
use Rattle.deltastep.specs.Search.{IsSearch}
use Rattle.deltastep.specs.Repair.{HaveValues}

alone : (node : ℕ) → Contains (node ∷ []) node
alone node = (0, omega arith, refl)

alone_is : (node u : ℕ) → Contains (node ∷ []) u → node ≡ u
alone_is node u (zero, within, e) = e
alone_is node u (suc k, within, e) = absurd (omega arith)

module _ (nodes more : List ℕ) (node : ℕ) (is : more ≡ remember nodes node) where
  pub has_here : Contains more node
  has_here = subst (λ (l : List ℕ). Contains l node) (sym is) (remember_all-has nodes (node ∷ []) node (alone node))

  pub keeps_more : (u : ℕ) → Contains nodes u → Contains more u
  keeps_more u c = subst (λ (l : List ℕ). Contains l u) (sym is) (remember_all-kept nodes (node ∷ []) u c)

  more_of : (u : ℕ) → Contains more u → Contains nodes u ⊎ (node ≡ u)
  more_of u c = elim (remember_all-of nodes (node ∷ []) u (subst (λ (l : List ℕ). Contains l u) is c)) as (λ _. Contains nodes u ⊎ (node ≡ u)) [
    | inl was ↦ inl was
    | inr new ↦ inr (alone_is node u new)
  ]

pub HaveValues-more : (t : List (Option ℕ)) (nodes more : List ℕ) (node value : ℕ) → more ≡ remember nodes node → Some value ≡ value_at t node → HaveValues t nodes → HaveValues t more
HaveValues-more t nodes more node value is has all u c = elim (more_of nodes more node is u c) as (λ _. IsSome (value_at t u)) [
  | inl was ↦ all u was
  | inr here ↦ subst (λ v. IsSome (value_at t v)) here (ap is_some (sym has))
]

pub HaveValues-none : (t : List (Option ℕ)) (limit : ℕ) (memory : Memory) → memory ≡ record { limit = limit; nodes = [] } → HaveValues t memory.nodes
HaveValues-none t limit memory is u c = absurd (Contains-nil u (subst (λ (l : List ℕ). Contains l u) (ap (λ (m : Memory). m.nodes) is) c))

-- a node that owes has a value, so it is queued where just those are
pub queued_if_owing : (t : List (Option ℕ)) (nodes : List ℕ) (queue : Entries) → AreJustQueued t nodes queue → HaveValues t nodes → (u : ℕ) → Contains nodes u → IsSome (get queue u)
queued_if_owing t nodes queue just values u c = elim (value_at t u) as (λ o. value_at t u ≡ o → IsSome o → IsSome (get queue u)) [
  | None ↦ λ e wrong. absurd (let absurdity : ⊥ = cc in absurdity)
  | Some x ↦ λ e _. ap is_some ((just u x).1 (c, e))
] refl (values u c)

-- what a search knows of a node that has a value
module _ (groups : Groups) (t : List (Option ℕ)) (search : IsSearch groups t empty 0) where
  known : (u : ℕ) → IsSome (value_at t u) → (x : ℕ) × (value_at t u ≡ Some x)
  known u some = elim (value_at t u) as (λ o. value_at t u ≡ o → IsSome o → (x : ℕ) × (value_at t u ≡ Some x)) [
    | None ↦ λ e wrong. absurd (let absurdity : ⊥ = cc in absurdity)
    | Some x ↦ λ e _. (x, e)
  ] refl some

  pub are_nodes : (nodes : List ℕ) → HaveValues t nodes → All (λ u. (1 ≤ u) × (u < length t)) nodes
  are_nodes nodes values k d lt =
      let u = get_or nodes k d in
      let of = known u (values u (Contains-get_or nodes k d lt)) in
      (search.node u of.0 of.1, value_within t u of.0 of.1)
