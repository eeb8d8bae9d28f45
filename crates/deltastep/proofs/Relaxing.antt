-- What a phase leaves of what a search knows.
use Rattle.std.proofs.Common.{◌≡◌, ℕ, zero, suc, ◌+◌, ◌/◌, ◌<◌, ◌≤◌, ◌^◌, ◌⊎◌, List, [], ◌∷◌, ◌++◌, length, Contains, IsSome, Option, Some, None, refl, sym, ap, subst, ◌∙◌, inl, inr, arith, unwrap_or, is_some, le_antisymm, All, get_or, append-nil}
use Rattle.relax.specs.Values.{value_at, value_or}
use Rattle.std.specs.FinMap.{get}
use Rattle.std.proofs.lemmas.List.Elements.{Contains-append_left, Contains-append_right, Contains-append_cases, Contains-get_or}
use Rattle.std.proofs.lemmas.List.{get_or_past}
use Rattle.std.proofs.lemmas.Bool.{cases_lt}
use Rattle.std.proofs.lemmas.List.Sums.{sum_by_push}
use Rattle.snapshot.specs.Groups.{Groups, legs_of, IsGrouped}
use Rattle.buckets.specs.Queue.{Entries}
use Rattle.frontier.specs.Frontier.{TakesAny}
use Rattle.relax.specs.Requests.{requests_from, requests_of}
use Rattle.deltastep.specs.Search.{top_of, Trip, Reaches, AreReached, IsSearch, IsRelaxed, IsRelaxedBut, IsInBucket, AreInBucket, MeetsRequests, HasQueued, FitsFrom, ring_buckets, IsBucketEmpty}
use Rattle.snapshot.specs.declared.legs.Leg.{Leg}
use Rattle.snapshot.specs.declared.legs.Part.{Part}
use Rattle.snapshot.specs.declared.legs.Part.TheVariants.{Heavy}
use Rattle.deltastep.proofs.Division.{div-le_div, add-in_window, next_bucket}
use Rattle.frontier.proofs.Members.{Contains-head, Contains-tail, Contains-nil, Contains-map, Contains-of_map, head_of, Contains-head_of}
use Rattle.deltastep.proofs.Queues.{stays_or_taken, value_in_bucket, get-outside_some, not_in_outside}
use Rattle.deltastep.proofs.Lowering.{value_or-le, value_or-some}

-- a request of a node for a leg of the part
pub record IsAsked (groups : Groups) (nodes : List ℕ) (tentative : List (Option ℕ)) (part : Part) (request : ℕ × ℕ) : Type 0 where
  pub node : ℕ
  pub leg : Leg
  pub member : Contains nodes node
  pub legs : Contains (legs_of groups part node) leg
  pub head : leg.head ≡ request.0
  pub sum : value_or 0 tentative node + leg.length ≡ request.1

pub IsAsked-of_requests : (groups : Groups) (nodes : List ℕ) (tentative : List (Option ℕ)) (part : Part) (request : ℕ × ℕ) → Contains (requests_of groups nodes tentative part) request → IsAsked groups nodes tentative part request
IsAsked-of_requests groups [] tentative part request c = absurd (Contains-nil request c)
IsAsked-of_requests groups (u ∷ us) tentative part request c =
    elim (Contains-append_cases (requests_from groups tentative part u) (requests_of groups us tentative part) request c) as (λ _. IsAsked groups (u ∷ us) tentative part request) [
      | inl here ↦
          let r = Contains-of_map (λ (leg : Leg). (leg.head, value_or 0 tentative u + leg.length)) (legs_of groups part u) request here in
          record { node = u; leg = r.0; member = Contains-head u us; legs = r.1; head = ap (λ (p : ℕ × ℕ). p.0) r.2; sum = ap (λ (p : ℕ × ℕ). p.1) r.2 }
      | inr later ↦
          let r = IsAsked-of_requests groups us tentative part request later in
          record { node = r.node; leg = r.leg; member = Contains-tail u us r.node r.member; legs = r.legs; head = r.head; sum = r.sum }
    ]

pub Contains-requests : (groups : Groups) (nodes : List ℕ) (tentative : List (Option ℕ)) (part : Part) (u : ℕ) (leg : Leg) → Contains nodes u → Contains (legs_of groups part u) leg → Contains (requests_of groups nodes tentative part) (leg.head, value_or 0 tentative u + leg.length)
Contains-requests groups [] tentative part u leg c c' = absurd (Contains-nil u c)
Contains-requests groups (v ∷ vs) tentative part u leg (zero, within, e) c' =
    let c'' : Contains (legs_of groups part v) leg = subst (λ z. Contains (legs_of groups part z) leg) (sym e) c' in
    subst (λ z. Contains (requests_of groups (v ∷ vs) tentative part) (leg.head, value_or 0 tentative z + leg.length)) e
    (Contains-append_left (requests_from groups tentative part v) (requests_of groups vs tentative part) _ (Contains-map (λ (leg : Leg). (leg.head, value_or 0 tentative v + leg.length)) (legs_of groups part v) leg c''))
Contains-requests groups (v ∷ vs) tentative part u leg (suc k, within, e) c' =
    Contains-append_right (requests_from groups tentative part v) (requests_of groups vs tentative part) _ (Contains-requests groups vs tentative part u leg (k, omega arith, e) c')

module _ (groups : Groups) (nodes : List ℕ) (part : Part) (old : List (Option ℕ)) (queue : Entries) (new : List (Option ℕ)) (queue' : Entries) (lowered : MeetsRequests (top_of groups) (requests_of groups nodes old part) old queue new queue') where
  -- the other part: what was relaxed still is
  pub IsRelaxedBut-kept : (other : Part) (owed : List ℕ) → IsRelaxedBut groups other old queue owed → IsRelaxedBut groups other new queue' owed
  IsRelaxedBut-kept other owed but u = elim (lowered.moves u) as (λ _. IsSome (get queue' u) ⊎ (Contains owed u ⊎ IsRelaxed groups other new u)) [
    | inr took ↦ inl (ap is_some took.queued)
    | inl same ↦ elim (but u) as (λ _. IsSome (get queue' u) ⊎ (Contains owed u ⊎ IsRelaxed groups other new u)) [
      | inl queued ↦ inl (ap is_some same.1 ∙ queued)
      | inr rest ↦ elim rest as (λ _. IsSome (get queue' u) ⊎ (Contains owed u ⊎ IsRelaxed groups other new u)) [
        | inl owes ↦ inr (inl owes)
        | inr relaxed ↦ inr (inr (λ leg c.
            let now : value_or (top_of groups) new u ≡ value_or (top_of groups) old u = ap (λ o. unwrap_or o (top_of groups)) same.0 in
            omega (arith, relaxed leg c, now, value_or-le (top_of groups) _ old queue new queue' lowered leg.head)))
      ]
    ]
  ]

  -- the part, where other nodes owe it too
  pub IsRelaxedBut-rest : (width b : ℕ) → AreInBucket old width b nodes → (owed : List ℕ) → IsRelaxedBut groups part old queue (nodes ++ owed) → IsRelaxedBut groups part new queue' owed
  IsRelaxedBut-rest width b values owed but u = elim (lowered.moves u) as (λ _. IsSome (get queue' u) ⊎ (Contains owed u ⊎ IsRelaxed groups part new u)) [
    | inr took ↦ inl (ap is_some took.queued)
    | inl same ↦
        let now : value_or (top_of groups) new u ≡ value_or (top_of groups) old u = ap (λ o. unwrap_or o (top_of groups)) same.0 in
        elim (but u) as (λ _. IsSome (get queue' u) ⊎ (Contains owed u ⊎ IsRelaxed groups part new u)) [
          | inl queued ↦ inl (ap is_some same.1 ∙ queued)
          | inr rest ↦ elim rest as (λ _. IsSome (get queue' u) ⊎ (Contains owed u ⊎ IsRelaxed groups part new u)) [
            | inl owes ↦ elim (Contains-append_cases nodes owed u owes) as (λ _. IsSome (get queue' u) ⊎ (Contains owed u ⊎ IsRelaxed groups part new u)) [
              | inl here ↦ inr (inr (λ leg c.
                  let has = values u here in
                  let at_zero : value_or 0 old u ≡ has.value = value_or-some 0 old u has.value has.has in
                  let at_top : value_or (top_of groups) old u ≡ has.value = value_or-some (top_of groups) old u has.value has.has in
                  omega (arith, now, at_zero, at_top, lowered.met leg.head (value_or 0 old u + leg.length) (Contains-requests groups nodes old part u leg here c))))
              | inr other ↦ inr (inl other)
            ]
            | inr relaxed ↦ inr (inr (λ leg c.
                omega (arith, relaxed leg c, now, value_or-le (top_of groups) _ old queue new queue' lowered leg.head)))
          ]
        ]
  ]

  -- .. so that nothing is owed any more where these alone owed it
  pub IsRelaxedBut-met : (width b : ℕ) → AreInBucket old width b nodes → IsRelaxedBut groups part old queue nodes → IsRelaxedBut groups part new queue' []
  IsRelaxedBut-met width b values but = IsRelaxedBut-rest width b values [] (subst (λ (l : List ℕ). IsRelaxedBut groups part old queue l) (sym (append-nil nodes)) but)

  -- what a request asks for, where its node's value is in the bucket
  pub bucket-le_request : (b : ℕ) → 1 ≤ groups.delta → AreInBucket old groups.delta b nodes → (u value : ℕ) → Contains (requests_of groups nodes old part) (u, value) → b ≤ value / groups.delta
  bucket-le_request b positive values u value c =
      let asked = IsAsked-of_requests groups nodes old part (u, value) c in
      let has = values asked.node asked.member in
      let at_zero : value_or 0 old asked.node ≡ has.value = value_or-some 0 old asked.node has.value has.has in
      let above : has.value / groups.delta ≤ value / groups.delta = div-le_div has.value value groups.delta positive (omega (arith, at_zero, asked.sum)) in
      omega (arith, above, has.within)

  -- the nodes of the bucket stay in it
  pub AreInBucket-stays : (b : ℕ) → 1 ≤ groups.delta → AreInBucket old groups.delta b nodes → (others : List ℕ) → AreInBucket old groups.delta b others → AreInBucket new groups.delta b others
  AreInBucket-stays b positive values others in_bucket u c =
      let has = in_bucket u c in
      elim (lowered.moves u) as (λ _. IsInBucket new groups.delta b u) [
        | inl same ↦ record { value = has.value; has = same.0 ∙ has.has; within = has.within }
        | inr took ↦
            let known : value_or (top_of groups) old u ≡ has.value = value_or-some (top_of groups) old u has.value has.has in
            let smaller : took.value / groups.delta ≤ has.value / groups.delta = div-le_div took.value has.value groups.delta positive (omega (arith, known, took.lower)) in
            let above : b ≤ took.value / groups.delta = bucket-le_request b positive values u took.value took.asked in
            record { value = took.value; has = took.has; within = le_antisymm (omega (arith, smaller, has.within)) above }
      ]

  value_or-le_top : (b : ℕ) → IsSearch groups old queue b → (u : ℕ) → value_or (top_of groups) old u ≤ top_of groups
  value_or-le_top b search u = elim (value_at old u) as (λ o. value_at old u ≡ o → unwrap_or o (top_of groups) ≤ top_of groups) [
    | None ↦ λ e. omega arith
    | Some x ↦ λ e. omega (arith, search.below_top u x e)
  ] refl

  pub IsSearch-lowered : (b : ℕ) → IsGrouped groups → AreInBucket old groups.delta b nodes → IsSearch groups old queue b → IsSearch groups new queue' b
  IsSearch-lowered b grouped values search = record {
    places = lowered.places ∙ search.places;
    node = λ u x has. elim (lowered.moves u) as (λ _. 1 ≤ u) [
      | inl same ↦ search.node u x (sym same.0 ∙ has)
      | inr took ↦ let asked = IsAsked-of_requests groups nodes old part (u, took.value) took.asked in omega (arith, grouped.low part asked.node asked.leg asked.legs, asked.head)
    ];
    below_top = λ u x has. elim (lowered.moves u) as (λ _. x < top_of groups) [
      | inl same ↦ search.below_top u x (sym same.0 ∙ has)
      | inr took ↦
          let e : Some took.value ≡ Some x = sym took.has ∙ has in
          let same : took.value ≡ x = cc in
          omega (arith, took.lower, value_or-le_top b search u, same)
    ];
    queued = λ u x queued. elim (lowered.moves u) as (λ _. value_at new u ≡ Some x) [
      | inl same ↦ same.0 ∙ search.queued u x (sym same.1 ∙ queued)
      | inr took ↦ took.has ∙ (sym took.queued ∙ queued)
    ];
    above = λ u x queued. elim (lowered.moves u) as (λ _. b ≤ x / groups.delta) [
      | inl same ↦ search.above u x (sym same.1 ∙ queued)
      | inr took ↦
          let e : Some took.value ≡ Some x = sym took.queued ∙ queued in
          let same : took.value ≡ x = cc in
          subst (λ y. b ≤ y / groups.delta) same (bucket-le_request b grouped.delta values u took.value took.asked)
    ];
  }

-- a trip with one more leg
Trip-push : (groups : Groups) (s u : ℕ) (legs : List Leg) (part : Part) (leg : Leg) → Trip groups s u legs → Contains (legs_of groups part u) leg → Trip groups s leg.head (legs ++ leg ∷ [])
Trip-push groups s u [] part leg e c = (part, subst (λ z. Contains (legs_of groups part z) leg) (sym e) c, refl)
Trip-push groups s u (first ∷ legs) part leg (p, c', trip) c = (p, c', Trip-push groups first.head u legs part leg trip c)

pub Reaches-push : (groups : Groups) (s u d : ℕ) (part : Part) (leg : Leg) → Reaches groups s u d → Contains (legs_of groups part u) leg → Reaches groups s leg.head (d + leg.length)
Reaches-push groups s u d part leg r c = record {
  legs = r.legs ++ leg ∷ [];
  trip = Trip-push groups s u r.legs part leg r.trip c;
  long = sum_by_push (λ (l : Leg). l.length) r.legs leg ∙ ap (λ n. n + leg.length) r.long;
}

-- each new value is the length of a trip
pub AreReached-lowered : (groups : Groups) (nodes : List ℕ) (part : Part) (old : List (Option ℕ)) (queue : Entries) (new : List (Option ℕ)) (queue' : Entries) → MeetsRequests (top_of groups) (requests_of groups nodes old part) old queue new queue' → (width b : ℕ) → AreInBucket old width b nodes → (source : ℕ) → AreReached groups source old → AreReached groups source new
AreReached-lowered groups nodes part old queue new queue' lowered width b values source reached = record {
  starts = elim (lowered.moves source) as (λ _. value_at new source ≡ Some 0) [
    | inl same ↦ same.0 ∙ reached.starts
    | inr took ↦ absurd (omega (arith, took.lower, value_or-some (top_of groups) old source 0 reached.starts))
  ];
  reached = λ u x has. elim (lowered.moves u) as (λ _. Reaches groups source u x) [
    | inl same ↦ reached.reached u x (sym same.0 ∙ has)
    | inr took ↦
        let e : Some took.value ≡ Some x = sym took.has ∙ has in
        let same : took.value ≡ x = cc in
        let asked = IsAsked-of_requests groups nodes old part (u, took.value) took.asked in
        let from = values asked.node asked.member in
        let r = Reaches-push groups source asked.node from.value part asked.leg (reached.reached asked.node from.value from.has) asked.legs in
        subst (λ v. Reaches groups source v x) asked.head
        (subst (λ d. Reaches groups source asked.leg.head d) (ap (λ n. n + asked.leg.length) (sym (value_or-some 0 old asked.node from.value from.has)) ∙ (asked.sum ∙ same)) r)
  ];
}

module _ (groups : Groups) (tentative : List (Option ℕ)) (old : Entries) (b : ℕ) (taken : List ℕ) (new : Entries) (takes : TakesAny groups.delta old b taken new) where
  -- the nodes that were taken are owed
  pub IsRelaxedBut-taken : (part : Part) (owed : List ℕ) → IsRelaxedBut groups part tentative old owed → IsRelaxedBut groups part tentative new (owed ++ taken)
  IsRelaxedBut-taken part owed but u = elim (but u) as (λ _. IsSome (get new u) ⊎ (Contains (owed ++ taken) u ⊎ IsRelaxed groups part tentative u)) [
    | inl queued ↦ elim (stays_or_taken groups.delta b old u queued) as (λ _. IsSome (get new u) ⊎ (Contains (owed ++ taken) u ⊎ IsRelaxed groups part tentative u)) [
      | inl stays ↦ inl (subst (λ m. IsSome (get m u)) (sym takes.rest) stays)
      | inr c ↦ inr (inl (Contains-append_right owed taken u ((takes.nodes u).1 c)))
    ]
    | inr rest ↦ elim rest as (λ _. IsSome (get new u) ⊎ (Contains (owed ++ taken) u ⊎ IsRelaxed groups part tentative u)) [
      | inl owes ↦ inr (inl (Contains-append_left owed taken u owes))
      | inr relaxed ↦ inr (inr relaxed)
    ]
  ]

  pub AreInBucket-taken : (b' : ℕ) → IsSearch groups tentative old b' → AreInBucket tentative groups.delta b taken
  AreInBucket-taken b' search u c =
      let v = value_in_bucket groups.delta b old u ((takes.nodes u).0 c) in
      record { value = v.0; has = search.queued u v.0 v.1; within = v.2 }

  pub IsSearch-taken : (b' : ℕ) → IsSearch groups tentative old b' → IsSearch groups tentative new b
  IsSearch-taken b' search =
      let was : (u x : ℕ) → get new u ≡ Some x → get old u ≡ Some x = λ u x e. get-outside_some groups.delta b old u x (subst (λ m. get m u ≡ Some x) takes.rest e) in
      record {
        places = search.places;
        node = search.node;
        below_top = search.below_top;
        queued = λ u x e. search.queued u x (was u x e);
        above = λ u x e. takes.least u x (was u x e);
      }

  -- where a node is queued in the least bucket there may be, it is that one
  pub bucket_is : (least : ℕ) → IsSearch groups tentative old least → HasQueued tentative old groups.delta least → b ≡ least
  bucket_is least search queued =
      let first : Contains taken (head_of taken) = Contains-head_of taken takes.some_node in
      let v = value_in_bucket groups.delta b old (head_of taken) ((takes.nodes (head_of taken)).0 first) in
      le_antisymm (omega (arith, takes.least queued.node queued.value queued.queued, queued.within)) (omega (arith, search.above (head_of taken) v.0 v.1, v.2))

pub value_at_within : (t : List (Option ℕ)) (u x : ℕ) → value_at t u ≡ Some x → u < length t
value_at_within t u x has = elim (cases_lt u (length t)) as (λ _. u < length t) [
  | inl lt ↦ lt
  | inr past ↦ absurd (let no : None ≡ Some x = sym (get_or_past t u None past) ∙ has in let absurdity : ⊥ = cc in absurdity)
]

-- what a team and the queue ask of the nodes of a phase and of their requests
module _ (groups : Groups) (nodes : List ℕ) (tentative : List (Option ℕ)) (queue : Entries) (b : ℕ) (search : IsSearch groups tentative queue b) (width : ℕ) (values : AreInBucket tentative width b nodes) where
  pub nodes_in_range : All (λ u. (1 ≤ u) × (u ≤ groups.nodes)) nodes
  nodes_in_range k d lt =
      let u = get_or nodes k d in
      let has = values u (Contains-get_or nodes k d lt) in
      let within : u < length tentative = value_at_within tentative u has.value has.has in
      (search.node u has.value has.has, omega (arith, within, search.places))

  pub values_below : top_of groups ≤ 2 ^ 56 → All (λ u. IsSome (value_at tentative u) × (value_or 0 tentative u < 2 ^ 56)) nodes
  values_below small k d lt =
      let u = get_or nodes k d in
      let has = values u (Contains-get_or nodes k d lt) in
      let at_zero : value_or 0 tentative u ≡ has.value = value_or-some 0 tentative u has.value has.has in
      (ap is_some has.has, omega (arith, small, at_zero, search.below_top u has.value has.has))

module _ (groups : Groups) (grouped : IsGrouped groups) (nodes : List ℕ) (tentative : List (Option ℕ)) (part : Part) where
  pub heads_within : All (λ (r : ℕ × ℕ). (1 ≤ r.0) × (r.0 < groups.nodes + 1)) (requests_of groups nodes tentative part)
  heads_within k d lt =
      let asked = IsAsked-of_requests groups nodes tentative part _ (Contains-get_or (requests_of groups nodes tentative part) k d lt) in
      (omega (arith, grouped.low part asked.node asked.leg asked.legs, asked.head), omega (arith, grouped.high part asked.node asked.leg asked.legs, asked.head))

  pub sums_above : (b : ℕ) → AreInBucket tentative groups.delta b nodes → All (λ (r : ℕ × ℕ). b ≤ r.1 / groups.delta) (requests_of groups nodes tentative part)
  sums_above b values k d lt =
      let asked = IsAsked-of_requests groups nodes tentative part _ (Contains-get_or (requests_of groups nodes tentative part) k d lt) in
      let has = values asked.node asked.member in
      let at_zero : value_or 0 tentative asked.node ≡ has.value = value_or-some 0 tentative asked.node has.value has.has in
      let above : has.value / groups.delta ≤ (get_or (requests_of groups nodes tentative part) k d).1 / groups.delta = div-le_div has.value _ groups.delta grouped.delta (omega (arith, at_zero, asked.sum)) in
      omega (arith, above, has.within)

  pub sums_fit : (accepts : ℕ → Type 0) (b : ℕ) → AreInBucket tentative groups.delta b nodes → FitsFrom accepts groups b → All (λ (r : ℕ × ℕ). accepts r.1) (requests_of groups nodes tentative part)
  sums_fit accepts b values fits k d lt =
      let asked = IsAsked-of_requests groups nodes tentative part _ (Contains-get_or (requests_of groups nodes tentative part) k d lt) in
      let has = values asked.node asked.member in
      let at_zero : value_or 0 tentative asked.node ≡ has.value = value_or-some 0 tentative asked.node has.value has.has in
      let window : (has.value + asked.leg.length) / groups.delta < b + ring_buckets groups.greatest groups.delta = add-in_window has.value asked.leg.length groups.greatest groups.delta b grouped.delta has.within (grouped.length part asked.node asked.leg asked.legs) in
      let sum : has.value + asked.leg.length ≡ (get_or (requests_of groups nodes tentative part) k d).1 = ap (λ n. n + asked.leg.length) (sym at_zero) ∙ asked.sum in
      fits _ (sums_above b values k d lt) (subst (λ n. n / groups.delta < b + ring_buckets groups.greatest groups.delta) sum window)

  -- a heavy leg leads out of the bucket
  pub sums_beyond : (b u value : ℕ) → AreInBucket tentative groups.delta b nodes → part ≡ Heavy → Contains (requests_of groups nodes tentative part) (u, value) → value / groups.delta ≡ b → ⊥
  sums_beyond b u value values heavy asks within =
      let asked = IsAsked-of_requests groups nodes tentative part (u, value) asks in
      let has = values asked.node asked.member in
      let at_zero : value_or 0 tentative asked.node ≡ has.value = value_or-some 0 tentative asked.node has.value has.has in
      let far : groups.delta < asked.leg.length = grouped.longer asked.node asked.leg (subst (λ (p : Part). Contains (legs_of groups p asked.node) asked.leg) heavy asked.legs) in
      let more : has.value / groups.delta + 1 ≤ value / groups.delta = next_bucket has.value value groups.delta grouped.delta (omega (arith, at_zero, asked.sum, far)) in
      omega (arith, more, has.within)

-- relaxing heavy legs brings nothing into the bucket
pub IsBucketEmpty-heavy : (groups : Groups) (grouped : IsGrouped groups) (nodes : List ℕ) (part : Part) (old : List (Option ℕ)) (queue : Entries) (new : List (Option ℕ)) (queue' : Entries) (b : ℕ) → MeetsRequests (top_of groups) (requests_of groups nodes old part) old queue new queue' → AreInBucket old groups.delta b nodes → part ≡ Heavy → IsBucketEmpty groups.delta b queue → IsBucketEmpty groups.delta b queue'
IsBucketEmpty-heavy groups grouped nodes part old queue new queue' b met values heavy empty u x has within =
    elim (met.moves u) as (λ _. ⊥) [
      | inl stays ↦ empty u x (sym stays.1 ∙ has) within
      | inr took ↦
          let same : Some took.value ≡ Some x = sym took.queued ∙ has in
          let is : took.value ≡ x = cc in
          sums_beyond groups grouped nodes old part b u took.value values heavy took.asked (ap (λ n. n / groups.delta) is ∙ within)
    ]

-- nothing is left of a bucket that was taken
pub IsBucketEmpty-taken : (width b : ℕ) (old : Entries) (taken : List ℕ) (new : Entries) → TakesAny width old b taken new → IsBucketEmpty width b new
IsBucketEmpty-taken width b old taken new takes u x has within =
    not_in_outside width b old u x (subst (λ (m : Entries). get m u ≡ Some x) takes.rest has) within
