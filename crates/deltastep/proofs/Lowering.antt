-- What requests that are met one after the other leave.
use Rattle.std.proofs.Common.{◌≡◌, ◌≢◌, ℕ, ◌/◌, ◌<◌, ◌≤◌, ◌⊎◌, Bool, true, false, List, [], ◌∷◌, ◌++◌, length, set, Contains, Option, Some, None, refl, sym, ap, subst, ◌∙◌, inl, inr, arith, unwrap_or, length-set, get_or-set_same, get_or-set_other, le_refl, le_trans, le_of_eq, le_antisymm, MatchBool}
use Rattle.relax.specs.Values.{value_at, value_or}
use Rattle.std.specs.FinMap.{get, insert}
use Rattle.std.proofs.lemmas.Bool.{cases_eq}
use Rattle.std.proofs.lemmas.List.Elements.{Contains-append_left, Contains-push, Contains-push_cases}
use Rattle.std.proofs.lemmas.List.Sums.{sum_by-set}
use Rattle.buckets.specs.Queue.{Entries}
use Rattle.deltastep.specs.Search.{MeetsRequests, TookRequest, HasQueued, weight}
use Rattle.deltastep.proofs.Division.{div-le_div}
use Rattle.deltastep.proofs.Queues.{get-insert_same, get-insert_other, len-insert_le}

pub value_or-set_same : (top : ℕ) (t : List (Option ℕ)) (u x : ℕ) → u < length t → value_or top (set t u (Some x)) u ≡ x
value_or-set_same top t u x h = ap (λ o. unwrap_or o top) (get_or-set_same t u (Some x) None h)

pub value_or-set_other : (top : ℕ) (t : List (Option ℕ)) (u x v : ℕ) → v ≢ u → value_or top (set t u (Some x)) v ≡ value_or top t v
value_or-set_other top t u x v h = ap (λ o. unwrap_or o top) (get_or-set_other t u v (Some x) None h)

pub value_or-set-le : (top : ℕ) (t : List (Option ℕ)) (u x v : ℕ) → u < length t → x < value_or top t u → value_or top (set t u (Some x)) v ≤ value_or top t v
value_or-set-le top t u x v h lower = elim (cases_eq v u) as (λ _. value_or top (set t u (Some x)) v ≤ value_or top t v) [
  | inl e ↦ subst (λ w. value_or top (set t u (Some x)) w ≤ value_or top t w) (sym e) (omega (arith, value_or-set_same top t u x h))
  | inr ne ↦ le_of_eq (value_or-set_other top t u x v ne)
]

-- a value that is known is that of the list with its default
pub value_or-some : (top : ℕ) (t : List (Option ℕ)) (u x : ℕ) → value_at t u ≡ Some x → value_or top t u ≡ x
value_or-some top t u x e = ap (λ o. unwrap_or o top) e

module _ (top : ℕ) (requests : List (ℕ × ℕ)) (old : List (Option ℕ)) (queue : Entries) (new : List (Option ℕ)) (queue' : Entries) (lowered : MeetsRequests top requests old queue new queue') where
  pub value_or-le : (u : ℕ) → value_or top new u ≤ value_or top old u
  value_or-le u = elim (lowered.moves u) as (λ _. value_or top new u ≤ value_or top old u) [
    | inl stays ↦ le_of_eq (ap (λ o. unwrap_or o top) stays.0)
    | inr took ↦ omega (arith, value_or-some top new u took.value took.has, took.lower)
  ]

  -- a request that asks for no less
  pub MeetsRequests-kept : (node value : ℕ) → value_or top new node ≤ value → MeetsRequests top (requests ++ (node, value) ∷ []) old queue new queue'
  MeetsRequests-kept node value h = record {
    places = lowered.places;
    moves = λ u. elim (lowered.moves u) as (λ _. ((value_at new u ≡ value_at old u) × (get queue' u ≡ get queue u)) ⊎ TookRequest top (requests ++ (node, value) ∷ []) old new queue' u) [
      | inl stays ↦ inl stays
      | inr took ↦ inr (record { value = took.value; asked = Contains-append_left requests _ _ took.asked; lower = took.lower; has = took.has; queued = took.queued })
    ];
    met = λ u x asked. elim (Contains-push_cases requests (node, value) (u, x) asked) as (λ _. value_or top new u ≤ x) [
      | inl before ↦ lowered.met u x before
      | inr e ↦ subst (λ (r : ℕ × ℕ). value_or top new r.0 ≤ r.1) e h
    ];
  }

  -- a request that lowers its node
  pub MeetsRequests-put : (node value : ℕ) → node < length new → value < value_or top new node → MeetsRequests top (requests ++ (node, value) ∷ []) old queue (set new node (Some value)) (insert queue' node value)
  MeetsRequests-put node value within lower = record {
    places = length-set new node (Some value) ∙ lowered.places;
    moves = λ u. elim (cases_eq u node) as (λ _. ((value_at (set new node (Some value)) u ≡ value_at old u) × (get (insert queue' node value) u ≡ get queue u)) ⊎ TookRequest top (requests ++ (node, value) ∷ []) old (set new node (Some value)) (insert queue' node value) u) [
      | inl e ↦ inr (record {
        value = value;
        asked = subst (λ w. Contains (requests ++ (node, value) ∷ []) (w, value)) (sym e) (Contains-push requests (node, value));
        lower = subst (λ w. value < value_or top old w) (sym e) (omega (arith, value_or-le node));
        has = subst (λ w. value_at (set new node (Some value)) w ≡ Some value) (sym e) (get_or-set_same new node (Some value) None within);
        queued = subst (λ w. get (insert queue' node value) w ≡ Some value) (sym e) (get-insert_same queue' node value);
      })
      | inr ne ↦ elim (lowered.moves u) as (λ _. ((value_at (set new node (Some value)) u ≡ value_at old u) × (get (insert queue' node value) u ≡ get queue u)) ⊎ TookRequest top (requests ++ (node, value) ∷ []) old (set new node (Some value)) (insert queue' node value) u) [
        | inl stays ↦ inl (get_or-set_other new node u (Some value) None ne ∙ stays.0, get-insert_other queue' node value u ne ∙ stays.1)
        | inr took ↦ inr (record { value = took.value; asked = Contains-append_left requests _ _ took.asked; lower = took.lower; has = get_or-set_other new node u (Some value) None ne ∙ took.has; queued = get-insert_other queue' node value u ne ∙ took.queued })
      ]
    ];
    met = λ u x asked. elim (Contains-push_cases requests (node, value) (u, x) asked) as (λ _. value_or top (set new node (Some value)) u ≤ x) [
      | inl before ↦ le_trans (value_or-set-le top new node value u within lower) (lowered.met u x before)
      | inr e ↦ subst (λ (r : ℕ × ℕ). value_or top (set new node (Some value)) r.0 ≤ r.1) e (le_of_eq (value_or-set_same top new node value within))
    ];
  }

pub MeetsRequests-none : (top : ℕ) (old : List (Option ℕ)) (queue : Entries) → MeetsRequests top [] old queue old queue
MeetsRequests-none top old queue = record { places = refl; moves = λ u. inl (refl, refl); met = λ u x asked. absurd (omega (arith, asked.1)) }

-- a put that lowers its node takes from the weight
pub weight-put : (top : ℕ) (t : List (Option ℕ)) (queue : Entries) (node value : ℕ) → node < length t → value < value_or top t node → weight top (set t node (Some value)) (insert queue node value) ≤ weight top t queue
weight-put top t queue node value within lower =
    omega (arith, sum_by-set (λ o. unwrap_or o top) t node (Some value) None within, len-insert_le queue node value)

-- one request more, that was met or lowered its node
pub MeetsRequests-more : (top : ℕ) (requests : List (ℕ × ℕ)) (old : List (Option ℕ)) (queue : Entries) (new : List (Option ℕ)) (queue' : Entries) → MeetsRequests top requests old queue new queue' → (node value : ℕ) → node < length new → (lowers : Bool) (next : List (Option ℕ)) (queue'' : Entries) → MatchBool lowers (value < value_or top new node) (value_or top new node ≤ value) → MatchBool lowers (next ≡ set new node (Some value)) (next ≡ new) → MatchBool lowers (queue'' ≡ insert queue' node value) (queue'' ≡ queue') → MeetsRequests top (requests ++ (node, value) ∷ []) old queue next queue''
MeetsRequests-more top requests old queue new queue' lowered node value within true next queue'' lower e e' =
    subst (λ t. MeetsRequests top (requests ++ (node, value) ∷ []) old queue t queue'') (sym e) (subst (λ q. MeetsRequests top (requests ++ (node, value) ∷ []) old queue (set new node (Some value)) q) (sym e') (MeetsRequests-put top requests old queue new queue' lowered node value within lower))
MeetsRequests-more top requests old queue new queue' lowered node value within false next queue'' lower e e' =
    subst (λ t. MeetsRequests top (requests ++ (node, value) ∷ []) old queue t queue'') (sym e) (subst (λ q. MeetsRequests top (requests ++ (node, value) ∷ []) old queue new q) (sym e') (MeetsRequests-kept top requests old queue new queue' lowered node value lower))

pub weight-more : (top : ℕ) (new : List (Option ℕ)) (queue' : Entries) (node value : ℕ) → node < length new → (lowers : Bool) (next : List (Option ℕ)) (queue'' : Entries) → MatchBool lowers (value < value_or top new node) (value_or top new node ≤ value) → MatchBool lowers (next ≡ set new node (Some value)) (next ≡ new) → MatchBool lowers (queue'' ≡ insert queue' node value) (queue'' ≡ queue') → weight top next queue'' ≤ weight top new queue'
weight-more top new queue' node value within true next queue'' lower e e' =
    subst (λ t. weight top t queue'' ≤ weight top new queue') (sym e) (subst (λ q. weight top (set new node (Some value)) q ≤ weight top new queue') (sym e') (weight-put top new queue' node value within lower))
weight-more top new queue' node value within false next queue'' lower e e' =
    subst (λ t. weight top t queue'' ≤ weight top new queue') (sym e) (subst (λ q. weight top new q ≤ weight top new queue') (sym e') (le_refl (weight top new queue')))

-- a node that was queued in the bucket still is, or with less
put_again : (top : ℕ) (new : List (Option ℕ)) (queue' : Entries) (width b node value : ℕ) → 1 ≤ width → node < length new → value < value_or top new node → b ≤ value / width → HasQueued new queue' width b → HasQueued (set new node (Some value)) (insert queue' node value) width b
put_again top new queue' width b node value positive within lower above queued =
    elim (cases_eq queued.node node) as (λ _. HasQueued (set new node (Some value)) (insert queue' node value) width b) [
      | inl e ↦
          let known : value_or top new node ≡ queued.value = subst (λ u. value_or top new u ≡ queued.value) e (value_or-some top new queued.node queued.value queued.has) in
          let smaller : value / width ≤ queued.value / width = div-le_div value queued.value width positive (omega arith) in
          record { node = node; value = value; has = get_or-set_same new node (Some value) None within; queued = get-insert_same queue' node value; within = le_antisymm (omega (arith, smaller, queued.within)) above }
      | inr ne ↦ record { node = queued.node; value = queued.value; has = get_or-set_other new node queued.node (Some value) None ne ∙ queued.has; queued = get-insert_other queue' node value queued.node ne ∙ queued.queued; within = queued.within }
    ]

pub HasQueued-more : (top : ℕ) (new : List (Option ℕ)) (queue' : Entries) (width b node value : ℕ) → 1 ≤ width → node < length new → b ≤ value / width → (lowers : Bool) (next : List (Option ℕ)) (queue'' : Entries) → MatchBool lowers (value < value_or top new node) (value_or top new node ≤ value) → MatchBool lowers (next ≡ set new node (Some value)) (next ≡ new) → MatchBool lowers (queue'' ≡ insert queue' node value) (queue'' ≡ queue') → HasQueued new queue' width b → HasQueued next queue'' width b
HasQueued-more top new queue' width b node value positive within above true next queue'' lower e e' queued =
    subst (λ t. HasQueued t queue'' width b) (sym e) (subst (λ q. HasQueued (set new node (Some value)) q width b) (sym e') (put_again top new queue' width b node value positive within lower above queued))
HasQueued-more top new queue' width b node value positive within above false next queue'' lower e e' queued =
    subst (λ t. HasQueued t queue'' width b) (sym e) (subst (λ q. HasQueued new q width b) (sym e') queued)

pub HasQueued-put : (new : List (Option ℕ)) (queue' : Entries) (width b node value : ℕ) → node < length new → value / width ≡ b → (lowers : Bool) (next : List (Option ℕ)) (queue'' : Entries) → lowers ≡ true → MatchBool lowers (next ≡ set new node (Some value)) (next ≡ new) → MatchBool lowers (queue'' ≡ insert queue' node value) (queue'' ≡ queue') → HasQueued next queue'' width b
HasQueued-put new queue' width b node value within is true next queue'' _ e e' =
    subst (λ t. HasQueued t queue'' width b) (sym e) (subst (λ q. HasQueued (set new node (Some value)) q width b) (sym e') (record { node = node; value = value; has = get_or-set_same new node (Some value) None within; queued = get-insert_same queue' node value; within = is }))
HasQueued-put new queue' width b node value within is false next queue'' impossible e e' = absurd (let absurdity : ⊥ = cc in absurdity)
