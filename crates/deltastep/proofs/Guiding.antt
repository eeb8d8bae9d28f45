-- What a guided search keeps, and why what it finds is least.
use Rattle.std.proofs.Common.{◌≡◌, ◌≢◌, ℕ, ◌+◌, ◌*◌, ◌/◌, ◌%◌, ◌<◌, ◌≤◌, ◌^◌, ◌⊎◌, List, [], ◌∷◌, ◌++◌, length, set, replicate, Contains, IsSome, Option, Some, None, refl, sym, ap, subst, ◌∙◌, inl, inr, arith, unwrap_or, length-set, get_or-set_same, get_or-set_other, le_refl, le_trans, MatchOption, IfSome, Bool, true, false, IsTrue, ◌↔◌, div-mul-le_self, lt_of_le_of_lt}
use Rattle.relax.specs.Values.{value_at, value_or}
use Rattle.std.specs.FinMap.{empty, get, insert, get-empty}
use Rattle.std.specs.Ordering.{nat_cmp}
use Rattle.std.proofs.lemmas.Bool.{cases_eq}
use Rattle.std.proofs.lemmas.List.Sums.{sum_by-cons, sum_by-set}
use Rattle.std.proofs.lemmas.List.Elements.{Contains-push_cases}
use Rattle.std.proofs.lemmas.Nat.{le-div}
use Rattle.std.proofs.Math.Nat.{mul-le-mul_right}
use Rattle.snapshot.specs.Groups.{Groups, legs_of, IsGrouped}
use Rattle.snapshot.specs.declared.legs.Leg.{Leg}
use Rattle.snapshot.specs.declared.legs.Part.{Part}
use Rattle.snapshot.specs.declared.legs.Part.TheVariants.{Light, Heavy}
use Rattle.buckets.specs.Rings.{IsBucketWithin}
use Rattle.frontier.specs.declared.entries.EntryRing.{EntryRing}
use Rattle.frontier.specs.Entries.{IsAdded, entry_count}
use Rattle.frontier.specs.Keyed.{IsPutInto, StandsAt, TakesBucket}
use Rattle.deltastep.specs.declared.questions.guided.KeyedSearch.{KeyedSearch}
use Rattle.deltastep.specs.Search.{top_of, Trip, trip_length, Reaches, IsRelaxedBut, IsBetweenBuckets}
use Rattle.deltastep.specs.Guided.{ConsistentIsLowerBound, GoesOnTo, HasDone, IsStart, IsKey, IsGuided, IsLive, IsDone, IsUnderWayTo, KeepsWindow, LowersByKey, SearchGoesOn, IsBest, entry_weight, stands_in}
use Rattle.deltastep.proofs.Division.{div-le_div}
use Rattle.deltastep.proofs.Lowering.{value_or-some, value_or-set_same, value_or-set_other, value_or-set-le}
use Rattle.deltastep.proofs.Queues.{get-insert_other}
use Rattle.deltastep.proofs.Relaxing.{Reaches-push}
use Rattle.deltastep.proofs.Starting.{IsBetweenBuckets-first, blank, positive_top}
use Rattle.frontier.proofs.Keying.{IsPutInto-added}
use Rattle.frontier.proofs.Members.{Contains-head, Contains-nil}

trip_length-cons : (leg : Leg) (legs : List Leg) → trip_length (leg ∷ legs) ≡ leg.length + trip_length legs
trip_length-cons leg legs = sum_by-cons (λ (l : Leg). l.length) leg legs

pub consistent_is_lower_bound : ConsistentIsLowerBound
consistent_is_lower_bound groups potential target consistent zero_there u [] e = omega (arith, ap potential e, zero_there)
consistent_is_lower_bound groups potential target consistent zero_there u (leg ∷ legs) (part, c, trip) =
    omega (arith, consistent part u leg c, consistent_is_lower_bound groups potential target consistent zero_there leg.head legs trip, trip_length-cons leg legs)

-- ---- steps one after the other

pub GoesOn-none : (groups : Groups) (target width start : ℕ) (t : List (Option ℕ)) (queue : ℕ → ℕ × ℕ → Type 0) (n : ℕ) → SearchGoesOn groups target width start t queue n t queue n
GoesOn-none groups target width start t queue n = record {
  state = λ source h. h;
  moves = λ u. inl refl;
  adds = λ b e h. h;
  falls = λ u. le_refl (value_or (top_of groups) t u);
  stays = λ u h. h;
  weighs = le_refl (entry_weight (top_of groups) t n);
}

IsLive-moved : (a b : List (Option ℕ)) (p q : ℕ → ℕ × ℕ → Type 0) (u : ℕ) → value_at b u ≡ value_at a u → ((k : ℕ) (e : ℕ × ℕ) → p k e → q k e) → IsLive a p u → IsLive b q u
IsLive-moved a b p q u same adds is = record { value = is.value; has = same ∙ is.has; bucket = is.bucket; stands = adds is.bucket (u, is.value) is.stands }

module _ (groups : Groups) (target width start : ℕ) (a : List (Option ℕ)) (p : ℕ → ℕ × ℕ → Type 0) (n : ℕ) (b : List (Option ℕ)) (q : ℕ → ℕ × ℕ → Type 0) (m : ℕ) (first : SearchGoesOn groups target width start a p n b q m) where
  pub GoesOn-then : (c : List (Option ℕ)) (r : ℕ → ℕ × ℕ → Type 0) (k : ℕ) → SearchGoesOn groups target width start b q m c r k → SearchGoesOn groups target width start a p n c r k
  GoesOn-then c r k next = record {
    state = λ source h. next.state source (first.state source h);
    moves = λ u. elim (next.moves u) as (λ _. (value_at c u ≡ value_at a u) ⊎ IsLive c r u) [
      | inl same ↦ elim (first.moves u) as (λ _. (value_at c u ≡ value_at a u) ⊎ IsLive c r u) [
        | inl was ↦ inl (same ∙ was)
        | inr live ↦ inr (IsLive-moved b c q r u same next.adds live)
      ]
      | inr live ↦ inr live
    ];
    adds = λ d e h. next.adds d e (first.adds d e h);
    falls = λ u. le_trans (next.falls u) (first.falls u);
    stays = λ u h. next.stays u (first.stays u h);
    weighs = le_trans next.weighs first.weighs;
  }

  -- what is done stays done
  pub IsDone-kept : (part : Part) (u : ℕ) → IsDone groups part a p u → IsDone groups part b q u
  IsDone-kept part u done = elim (first.moves u) as (λ _. IsDone groups part b q u) [
    | inr live ↦ inl live
    | inl same ↦ elim done as (λ _. IsDone groups part b q u) [
      | inl live ↦ inl (IsLive-moved a b p q u same first.adds live)
      | inr relaxed ↦ inr (λ leg c.
          let now : value_or (top_of groups) b u ≡ value_or (top_of groups) a u = ap (λ o. unwrap_or o (top_of groups)) same in
          omega (arith, relaxed leg c, now, first.falls leg.head))
    ]
  ]

-- ---- a node is lowered by way of a leg

-- the legs of a node that are met: the node has a live entry, or has its value still, and no leg of these leads to less than is known
pub record HasMet (groups : Groups) (target width start u x : ℕ) (legs : List Leg) (old : List (Option ℕ)) (queue : ℕ → ℕ × ℕ → Type 0) (n : ℕ) (new : List (Option ℕ)) (queue' : ℕ → ℕ × ℕ → Type 0) (n' : ℕ) : Type 0 where
  pub goes_on : SearchGoesOn groups target width start old queue n new queue' n'
  pub met : IsLive new queue' u ⊎ ((value_or (top_of groups) new u ≡ x) × ((leg : Leg) → Contains legs leg → value_or (top_of groups) new leg.head ≤ x + leg.length))

-- an entry that lowers its node adds nothing to the weight
weight-entry : (top : ℕ) (t : List (Option ℕ)) (node value n : ℕ) → node < length t → value < value_or top t node → entry_weight top (set t node (Some value)) (n + 1) ≤ entry_weight top t n
weight-entry top t node value n within lower = omega (arith, sum_by-set (λ o. unwrap_or o top) t node (Some value) None within)

module _ (groups : Groups) (grouped : IsGrouped groups) (target width start : ℕ) (old : List (Option ℕ)) (queue : ℕ → ℕ × ℕ → Type 0) (n : ℕ) (part : Part) (u x : ℕ) (has : value_at old u ≡ Some x) (key : IsKey groups target old u start) (leg : Leg) (c : Contains (legs_of groups part u) leg) (through : ℕ) (through_is : through ≡ x + leg.length) where
  value_is : key.value ≡ x
  value_is = let e : Some key.value ≡ Some x = sym key.has ∙ has in let same : key.value ≡ x = cc in same

  -- no trip by way of the leg is below the start
  start_below : (legs : List Leg) → Trip groups leg.head target legs → start ≤ through + trip_length legs
  start_below legs trip = omega (arith, key.below (leg ∷ legs) (part, c, trip), trip_length-cons leg legs, value_is, through_is)

  module _ (t : List (Option ℕ)) (q q' : ℕ → ℕ × ℕ → Type 0) (m k : ℕ) (small : k < 2 ^ 64) (within : leg.head < length t) (lower : through < value_or (top_of groups) t leg.head)
      (below : (legs : List Leg) → Trip groups leg.head target legs → start ≤ through + trip_length legs → k ≤ through + trip_length legs) (put : IsPutInto q q' (k / width) (leg.head, through)) where
    after : List (Option ℕ)
    after = set t leg.head (Some through)

    after-same : value_at after leg.head ≡ Some through
    unfolding after
    after-same = get_or-set_same t leg.head (Some through) None within

    after-other : (v : ℕ) → v ≢ leg.head → value_at after v ≡ value_at t v
    unfolding after
    after-other v ne = get_or-set_other t leg.head v (Some through) None ne

    -- what a node has afterwards
    cases : (v y : ℕ) → value_at after v ≡ Some y → ((v ≡ leg.head) × (through ≡ y)) ⊎ (value_at t v ≡ Some y)
    cases v y now = elim (cases_eq v leg.head) as (λ _. ((v ≡ leg.head) × (through ≡ y)) ⊎ (value_at t v ≡ Some y)) [
      | inl e ↦
          let is : Some through ≡ Some y = sym (subst (λ w. value_at after w ≡ Some through) (sym e) after-same) ∙ now in
          let same : through ≡ y = cc in
          inl (e, same)
      | inr ne ↦ inr (sym (after-other v ne) ∙ now)
    ]

    below_top : ((v y : ℕ) → value_at t v ≡ Some y → y < top_of groups) → through < top_of groups
    below_top each = elim (value_at t leg.head) as (λ o. value_at t leg.head ≡ o → through < top_of groups) [
      | None ↦ λ e. let known : value_or (top_of groups) t leg.head ≡ top_of groups = ap (λ o. unwrap_or o (top_of groups)) e in omega (arith, lower, known)
      | Some y ↦ λ e. omega (arith, each leg.head y e, lower, value_or-some (top_of groups) t leg.head y e)
    ] refl

    IsKey-other : (v key' : ℕ) → v ≢ leg.head → IsKey groups target t v key' → IsKey groups target after v key'
    IsKey-other v key' ne is = record { value = is.value; has = after-other v ne ∙ is.has; below = is.below }

    IsKey-here : (v key' : ℕ) → v ≡ leg.head → ((legs : List Leg) → Trip groups leg.head target legs → key' ≤ through + trip_length legs) → IsKey groups target after v key'
    IsKey-here v key' e far = subst (λ w. IsKey groups target after w key') (sym e) (record { value = through; has = after-same; below = far })

    -- an entry of the queue afterwards
    entry_cases : (b : ℕ) (e : ℕ × ℕ) → q' b e → q b e ⊎ ((b ≡ k / width) × ((leg.head, through) ≡ e))
    entry_cases b e = (put b e).0

    kept : (b : ℕ) (e : ℕ × ℕ) → q b e → q' b e
    kept b e h = (put b e).1 (inl h)

    live : IsLive after q' leg.head
    live = record { value = through; has = after-same; bucket = k / width; stands = (put (k / width) (leg.head, through)).1 (inr (refl, refl)) }

    key_start : k / width * width ≤ k
    key_start = div-mul-le_self k width

    put_start : IsStart groups target leg.head through (k / width * width)
    put_start legs trip = omega (arith, key_start, below legs trip (start_below legs trip))

    state : (source : ℕ) → Reaches groups source u x → IsGuided groups source target width t q → IsGuided groups source target width after q'
    unfolding after
    state source reaches was = record {
      places = length-set t leg.head (Some through) ∙ was.places;
      node = λ v y now. elim (cases v y now) as (λ _. 1 ≤ v) [ inl here ↦ omega (arith, here.0, grouped.low part u leg c) | inr other ↦ was.node v y other ];
      below_top = λ v y now. elim (cases v y now) as (λ _. y < top_of groups) [ inl here ↦ omega (arith, here.1, below_top was.below_top) | inr other ↦ was.below_top v y other ];
      reached = record {
        starts = elim (cases_eq source leg.head) as (λ _. value_at after source ≡ Some 0) [
          | inl e ↦ absurd (omega (arith, lower, value_or-some (top_of groups) t leg.head 0 (subst (λ w. value_at t w ≡ Some 0) e was.reached.starts)))
          | inr ne ↦ after-other source ne ∙ was.reached.starts
        ];
        reached = λ v y now. elim (cases v y now) as (λ _. Reaches groups source v y) [
          | inl here ↦ subst (λ w. Reaches groups source w y) (sym here.0) (subst (λ d. Reaches groups source leg.head d) (sym through_is ∙ here.1) (Reaches-push groups source u x part leg reaches c))
          | inr other ↦ was.reached.reached v y other
        ];
      };
      nodes = λ b e h. elim (entry_cases b e h) as (λ _. (1 ≤ e.0) × (e.0 ≤ groups.nodes)) [
        | inl old ↦ was.nodes b e old
        | inr is ↦ subst (λ (f : ℕ × ℕ). (1 ≤ f.0) × (f.0 ≤ groups.nodes)) is.1 (grouped.low part u leg c, grouped.high part u leg c)
      ];
      keys = λ b e h. elim (entry_cases b e h) as (λ _. IsStart groups target e.0 e.1 (b * width)) [
        | inl old ↦ was.keys b e old
        | inr is ↦ subst (λ d. IsStart groups target e.0 e.1 (d * width)) (sym is.0) (subst (λ (f : ℕ × ℕ). IsStart groups target f.0 f.1 (k / width * width)) is.1 put_start)
      ];
      small = λ b e h. elim (entry_cases b e h) as (λ _. b * width < 2 ^ 64) [
        | inl old ↦ was.small b e old
        | inr is ↦ subst (λ d. d * width < 2 ^ 64) (sym is.0) (omega (arith, key_start, small))
      ];
    }

    pub GoesOn-lowered : SearchGoesOn groups target width start old queue n t q m → SearchGoesOn groups target width start old queue n (set t leg.head (Some through)) q' (m + 1)
    unfolding after
    GoesOn-lowered so_far = record {
      state = λ source h. state source (h.reached.reached u x has) (so_far.state source h);
      moves = λ v. elim (cases_eq v leg.head) as (λ _. (value_at after v ≡ value_at old v) ⊎ IsLive after q' v) [
        | inl e ↦ inr (subst (λ w. IsLive after q' w) (sym e) live)
        | inr ne ↦ elim (so_far.moves v) as (λ _. (value_at after v ≡ value_at old v) ⊎ IsLive after q' v) [
          | inl same ↦ inl (after-other v ne ∙ same)
          | inr was ↦ inr (IsLive-moved t after q q' v (after-other v ne) kept was)
        ]
      ];
      adds = λ b e h. kept b e (so_far.adds b e h);
      falls = λ v. le_trans (value_or-set-le (top_of groups) t leg.head through v within lower) (so_far.falls v);
      stays = λ v is. elim (cases_eq v leg.head) as (λ _. IsKey groups target after v start) [
        | inl e ↦ IsKey-here v start e start_below
        | inr ne ↦ IsKey-other v start ne (so_far.stays v is)
      ];
      weighs = le_trans (weight-entry (top_of groups) t leg.head through m within lower) so_far.weighs;
    }

    pub HasMet-lowered : (legs : List Leg) → HasMet groups target width start u x legs old queue n t q m → HasMet groups target width start u x (legs ++ leg ∷ []) old queue n (set t leg.head (Some through)) q' (m + 1)
    unfolding after
    HasMet-lowered legs so_far = record {
      goes_on = GoesOn-lowered so_far.goes_on;
      met = elim (cases_eq u leg.head) as (λ _. IsLive after q' u ⊎ ((value_or (top_of groups) after u ≡ x) × ((l : Leg) → Contains (legs ++ leg ∷ []) l → value_or (top_of groups) after l.head ≤ x + l.length))) [
        | inl e ↦ inl (subst (λ w. IsLive after q' w) (sym e) live)
        | inr ne ↦ elim so_far.met as (λ _. IsLive after q' u ⊎ ((value_or (top_of groups) after u ≡ x) × ((l : Leg) → Contains (legs ++ leg ∷ []) l → value_or (top_of groups) after l.head ≤ x + l.length))) [
          | inl was ↦ inl (IsLive-moved t after q q' u (after-other u ne) kept was)
          | inr met ↦ inr (
            value_or-set_other (top_of groups) t leg.head through u ne ∙ met.0,
            λ l among. elim (Contains-push_cases legs leg l among) as (λ _. value_or (top_of groups) after l.head ≤ x + l.length) [
              | inl before ↦ le_trans (value_or-set-le (top_of groups) t leg.head through l.head within lower) (met.1 l before)
              | inr e ↦ subst (λ (l : Leg). value_or (top_of groups) after l.head ≤ x + l.length) e (omega (arith, value_or-set_same (top_of groups) t leg.head through within, through_is))
            ],
          )
        ]
      ];
    }

  -- a leg that lowers nothing is met
  pub HasMet-kept : (legs : List Leg) (t : List (Option ℕ)) (q : ℕ → ℕ × ℕ → Type 0) (m : ℕ) → HasMet groups target width start u x legs old queue n t q m → value_or (top_of groups) t leg.head ≤ through → HasMet groups target width start u x (legs ++ leg ∷ []) old queue n t q m
  HasMet-kept legs t q m so_far low = record {
    goes_on = so_far.goes_on;
    met = elim so_far.met as (λ _. IsLive t q u ⊎ ((value_or (top_of groups) t u ≡ x) × ((l : Leg) → Contains (legs ++ leg ∷ []) l → value_or (top_of groups) t l.head ≤ x + l.length))) [
      | inl live ↦ inl live
      | inr met ↦ inr (
        met.0,
        λ l among. elim (Contains-push_cases legs leg l among) as (λ _. value_or (top_of groups) t l.head ≤ x + l.length) [
          | inl before ↦ met.1 l before
          | inr e ↦ subst (λ (l : Leg). value_or (top_of groups) t l.head ≤ x + l.length) e (omega (arith, low, through_is))
        ],
      )
    ];
  }

  -- one leg more is met
  pub HasMet-more : (legs : List Leg) (s s' : KeyedSearch) → s.ring.delta ≡ width → HasMet groups target width start u x legs old queue n s.tentative (stands_in s.ring) (entry_count s.ring.lists.items) → leg.head < length s.tentative → (end : ℕ) → end < 2 ^ 64 → (key : Option ℕ)
      → MatchOption key (value_or (top_of groups) s.tentative leg.head ≤ through) (λ _. through < value_or (top_of groups) s.tentative leg.head)
      → LowersByKey leg.head through s s' key
      → IfSome key (λ k. k ≤ end)
      → IfSome key (λ k. (legs : List Leg) → Trip groups leg.head target legs → start ≤ through + trip_length legs → k ≤ through + trip_length legs)
      → HasMet groups target width start u x (legs ++ leg ∷ []) old queue n s'.tentative (stands_in s'.ring) (entry_count s'.ring.lists.items)
  HasMet-more legs s s' wide so_far within end small None low same to below =
      subst (λ t. HasMet groups target width start u x (legs ++ leg ∷ []) old queue n t (stands_in s'.ring) (entry_count s'.ring.lists.items)) (sym same.0)
      (subst (λ (r : EntryRing). HasMet groups target width start u x (legs ++ leg ∷ []) old queue n s.tentative (stands_in r) (entry_count r.lists.items)) (sym same.1)
      (HasMet-kept legs s.tentative (stands_in s.ring) (entry_count s.ring.lists.items) so_far low))
  HasMet-more legs s s' wide so_far within end small (Some k) lower changed to below =
      let put : IsPutInto (stands_in s.ring) (stands_in s'.ring) (k / width) (leg.head, through) = subst (λ w. IsPutInto (stands_in s.ring) (stands_in s'.ring) (k / w) (leg.head, through)) wide changed.queued in
      subst (λ t. HasMet groups target width start u x (legs ++ leg ∷ []) old queue n t (stands_in s'.ring) (entry_count s'.ring.lists.items)) (sym changed.tentative)
      (subst (λ m. HasMet groups target width start u x (legs ++ leg ∷ []) old queue n (set s.tentative leg.head (Some through)) (stands_in s'.ring) m) (sym changed.more)
      (HasMet-lowered s.tentative (stands_in s.ring) (stands_in s'.ring) (entry_count s.ring.lists.items) k (omega (arith, to, small)) within lower below put legs so_far))

pub HasMet-none : (groups : Groups) (target width start u x : ℕ) (t : List (Option ℕ)) (queue : ℕ → ℕ × ℕ → Type 0) (n : ℕ) → value_at t u ≡ Some x → HasMet groups target width start u x [] t queue n t queue n
HasMet-none groups target width start u x t queue n has = record {
  goes_on = GoesOn-none groups target width start t queue n;
  met = inr (value_or-some (top_of groups) t u x has, λ l among. absurd (Contains-nil l among));
}

-- where all legs of the part are met, it is done
pub IsDone-met : (groups : Groups) (target width start u x : ℕ) (part : Part) (legs : List Leg) (old : List (Option ℕ)) (queue : ℕ → ℕ × ℕ → Type 0) (n : ℕ) (new : List (Option ℕ)) (queue' : ℕ → ℕ × ℕ → Type 0) (n' : ℕ) → HasMet groups target width start u x legs old queue n new queue' n' → legs ≡ legs_of groups part u → IsDone groups part new queue' u
IsDone-met groups target width start u x part legs old queue n new queue' n' has all = elim has.met as (λ _. IsDone groups part new queue' u) [
  | inl live ↦ inl live
  | inr met ↦ inr (λ leg c. omega (arith, met.0, met.1 leg (subst (λ ls. Contains ls leg) (sym all) c)))
]

-- the value of a node that has a key
pub value_of_key : (groups : Groups) (target u key : ℕ) (t : List (Option ℕ)) (found : Option ℕ) (x : ℕ) → IsKey groups target t u key → found ≡ value_at t u → x ≡ unwrap_or found 0 → value_at t u ≡ Some x
value_of_key groups target u key t found x is e e' =
    let same : x ≡ is.value = e' ∙ ap (λ o. unwrap_or o 0) (e ∙ is.has) in
    is.has ∙ ap (λ n. Some n) (sym same)

-- ---- what is known at the end

-- where each node has a live entry or is relaxed, and no entry stands before the target's value, that is least
pub IsBest-final : (groups : Groups) (source target width : ℕ) (t : List (Option ℕ)) (queue : ℕ → ℕ × ℕ → Type 0) → IsGuided groups source target width t queue → ((part : Part) (u : ℕ) → IsDone groups part t queue u) → ((b : ℕ) (e : ℕ × ℕ) → queue b e → value_or (top_of groups) t target ≤ b * width) → IsBest groups t target
IsBest-final groups source target width t queue guided done final u [] e = subst (λ w. value_or (top_of groups) t w ≤ value_or (top_of groups) t u + 0) e (omega arith)
IsBest-final groups source target width t queue guided done final u (leg ∷ legs) (part, c, trip) =
    elim (done part u) as (λ _. value_or (top_of groups) t target ≤ value_or (top_of groups) t u + trip_length (leg ∷ legs)) [
      | inl live ↦ omega (arith, final live.bucket (u, live.value) live.stands, guided.keys live.bucket (u, live.value) live.stands (leg ∷ legs) (part, c, trip), value_or-some (top_of groups) t u live.value live.has)
      | inr known ↦ omega (arith, IsBest-final groups source target width t queue guided done final leg.head legs trip, known leg c, trip_length-cons leg legs)
    ]

-- ---- a bucket is taken
module _ (groups : Groups) (target width : ℕ) (t : List (Option ℕ)) (old new : ℕ → ℕ × ℕ → Type 0) (b : ℕ) (taken : List (ℕ × ℕ)) (takes : TakesBucket old new b taken) where
  pub IsGuided-taken : (source : ℕ) → IsGuided groups source target width t old → IsGuided groups source target width t new
  IsGuided-taken source guided = record {
    places = guided.places;
    node = guided.node;
    below_top = guided.below_top;
    reached = guided.reached;
    nodes = λ d e h. guided.nodes d e ((takes.rest d e).0 h).0;
    keys = λ d e h. guided.keys d e ((takes.rest d e).0 h).0;
    small = λ d e h. guided.small d e ((takes.rest d e).0 h).0;
  }

  -- no entry stands before the start of the bucket
  pub starts_at : (d : ℕ) (e : ℕ × ℕ) → old d e → b * width ≤ d * width
  starts_at d e h = mul-le-mul_right width (takes.least d e h)

  -- what is done, but for the nodes of the live entries that are taken
  pub IsDone-taken : (part : Part) (u : ℕ) → IsDone groups part t old u → ((x : ℕ) × (value_at t u ≡ Some x) × Contains taken (u, x)) ⊎ IsDone groups part t new u
  IsDone-taken part u done = elim done as (λ _. ((x : ℕ) × (value_at t u ≡ Some x) × Contains taken (u, x)) ⊎ IsDone groups part t new u) [
    | inr relaxed ↦ inr (inr relaxed)
    | inl live ↦ elim (cases_eq live.bucket b) as (λ _. ((x : ℕ) × (value_at t u ≡ Some x) × Contains taken (u, x)) ⊎ IsDone groups part t new u) [
      | inl e ↦ inl (live.value, live.has, (takes.all (u, live.value)).1 (subst (λ d. old d (u, live.value)) e live.stands))
      | inr ne ↦ inr (inl (record { value = live.value; has = live.has; bucket = live.bucket; stands = (takes.rest live.bucket (u, live.value)).1 (live.stands, ne) }))
    ]
  ]

pub some_entry : (xs : List (ℕ × ℕ)) → 0 < length xs → (e : ℕ × ℕ) × Contains xs e
some_entry [] some = absurd (omega arith)
some_entry (x ∷ xs) some = (x, Contains-head x xs)

-- what lies from the start of a bucket on, and up to the end of the window, fits
pub window_fits : (b size width end : ℕ) → 1 ≤ width → end / width < b + size → (v : ℕ) → b * width ≤ v → v ≤ end → IsBucketWithin b size (v / width)
window_fits b size width end positive to v from until = (le-div b v width positive from, lt_of_le_of_lt (div-le_div v end width positive until) to)

-- ---- before the first bucket is taken

none_is_none : (o : Option ℕ) → o ≡ None → IsSome o → ⊥
none_is_none None e h = absurd (let absurdity : ⊥ = cc in absurdity)
none_is_none (Some x) e h = absurd (let absurdity : ⊥ = cc in absurdity)

-- an entry that was added to a list stands in its bucket
pub put_in : (old new : EntryRing) (b : ℕ) (e : ℕ × ℕ) → IsAdded old.lists.items new.lists.items (b % length old.lists.items) e → length new.lists.items ≡ length old.lists.items → new.last ≡ old.last → IsBucketWithin old.last (length old.lists.items) b → IsPutInto (stands_in old) (stands_in new) b e
put_in old new b e added size last fits = subst (λ l. IsPutInto (stands_in old) (StandsAt l new.lists.items) b e) (sym last) (IsPutInto-added old.last b old.lists.items new.lists.items e added size fits)

pub put_first : (old new : ℕ → ℕ × ℕ → Type 0) (b : ℕ) (e : ℕ × ℕ) → ((c : ℕ) (f : ℕ × ℕ) → old c f → ⊥) → IsPutInto old new b e → IsPutInto (λ c f. ⊥) new b e
put_first old new b e none put c f = (λ h. elim ((put c f).0 h) as (λ _. ⊥ ⊎ ((c ≡ b) × (e ≡ f))) [ inl was ↦ inl (none c f was) | inr is ↦ inr is ], λ either. elim either as (λ _. new c f) [ inl was ↦ absurd was | inr is ↦ (put c f).1 (inr is) ])

module _ (groups : Groups) (source : ℕ) (low : 1 ≤ source) (high : source ≤ groups.nodes) (width : ℕ) (queue : ℕ → ℕ × ℕ → Type 0) (put : IsPutInto (λ b e. ⊥) queue (0 / width) (source, 0)) where
  first : List (Option ℕ)
  first = set (replicate (groups.nodes + 1) None) source (Some 0)

  settled : IsBetweenBuckets groups source first (insert empty source 0)
  unfolding first
  settled =
      let unknown : value_or (top_of groups) (replicate (groups.nodes + 1) None) source ≡ top_of groups = ap (λ o. unwrap_or o (top_of groups)) (blank (groups.nodes + 1) source) in
      IsBetweenBuckets-first groups source low high (replicate (groups.nodes + 1) None) first (insert empty source 0) empty true refl refl (omega (arith, unknown, positive_top groups)) refl refl

  only : (b : ℕ) (e : ℕ × ℕ) → queue b e → (b * width ≤ 0) × ((source, 0) ≡ e)
  only b e h = elim ((put b e).0 h) as (λ _. (b * width ≤ 0) × ((source, 0) ≡ e)) [
    | inl was ↦ absurd was
    | inr is ↦ (subst (λ d. d * width ≤ 0) (sym is.0) (div-mul-le_self 0 width), is.1)
  ]

  guided_first : (target : ℕ) → IsGuided groups source target width first queue
  guided_first target = record {
    places = settled.search.places;
    node = settled.search.node;
    below_top = settled.search.below_top;
    reached = settled.reached;
    nodes = λ b e h. subst (λ (f : ℕ × ℕ). (1 ≤ f.0) × (f.0 ≤ groups.nodes)) (only b e h).1 (low, high);
    keys = λ b e h legs trip. omega (arith, (only b e h).0);
    small = λ b e h. omega (arith, (only b e h).0);
  }

  done_first : (part : Part) (u : ℕ) → IsDone groups part first queue u
  done_first part u = elim (relaxed part u) as (λ _. IsDone groups part first queue u) [
    | inl queued ↦ elim (cases_eq u source) as (λ _. IsDone groups part first queue u) [
      | inl e ↦ inl (subst (λ w. IsLive first queue w) (sym e) (record { value = 0; has = settled.reached.starts; bucket = 0 / width; stands = (put (0 / width) (source, 0)).1 (inr (refl, refl)) }))
      | inr ne ↦ absurd (none_is_none (get (insert empty source 0) u) (get-insert_other empty source 0 u ne ∙ get-empty nat_cmp u) queued)
    ]
    | inr rest ↦ elim rest as (λ _. IsDone groups part first queue u) [ inl owes ↦ absurd (Contains-nil u owes) | inr known ↦ inr known ]
  ]
    where
      relaxed : (p : Part) → IsRelaxedBut groups p first (insert empty source 0) []
      relaxed p = elim p as (λ p. IsRelaxedBut groups p first (insert empty source 0) []) [ Light ↦ settled.light | Heavy ↦ settled.heavy ]

  pub IsGuided-first : (t : List (Option ℕ)) → t ≡ set (replicate (groups.nodes + 1) None) source (Some 0) → (target : ℕ) → IsGuided groups source target width t queue
  unfolding first
  IsGuided-first t e target = subst (λ s. IsGuided groups source target width s queue) (sym e) (guided_first target)

  pub IsDone-first : (t : List (Option ℕ)) → t ≡ set (replicate (groups.nodes + 1) None) source (Some 0) → (part : Part) (u : ℕ) → IsDone groups part t queue u
  unfolding first
  IsDone-first t e part u = subst (λ s. IsDone groups part s queue u) (sym e) (done_first part u)

-- what a guide says of the keys, of the snapshot at hand
pub known_below : (knows : Groups → Type 0) (groups : Groups) (target start node through : ℕ) → knows groups → IsGrouped groups → 1 ≤ node → node ≤ groups.nodes → (key : Option ℕ)
    → IfSome key (λ k. (gs : Groups) → knows gs → IsGrouped gs → 1 ≤ node → node ≤ gs.nodes → (legs : List Leg) → Trip gs node target legs → start ≤ through + trip_length legs → k ≤ through + trip_length legs)
    → IfSome key (λ k. (legs : List Leg) → Trip groups node target legs → start ≤ through + trip_length legs → k ≤ through + trip_length legs)
known_below knows groups target start node through known grouped low high None h = h
known_below knows groups target start node through known grouped low high (Some k) h = h groups known grouped low high

-- a value that a test says is at most a number
pub value_at_most : (groups : Groups) (t : List (Option ℕ)) (v most : ℕ) (within : Bool) → MatchOption (value_at t v) (within ≡ false) (λ value. IsTrue within ↔ (value ≤ most)) → within ≡ true → value_or (top_of groups) t v ≤ most
value_at_most groups t v most within test passed =
    elim (value_at t v) as (λ o. value_at t v ≡ o → MatchOption o (within ≡ false) (λ value. IsTrue within ↔ (value ≤ most)) → value_or (top_of groups) t v ≤ most) [
      | None ↦ λ none no. absurd (let absurdity : ⊥ = cc in absurdity)
      | Some value ↦ λ some here. omega (arith, here.0 passed, value_or-some (top_of groups) t v value some)
    ] refl test

-- ---- of a search by keys

pub KeepsWindow-none : (a : EntryRing) → KeepsWindow a a
KeepsWindow-none a = record { width = refl; last = refl; size = refl }

pub KeepsWindow-then : (a b c : EntryRing) → KeepsWindow a b → KeepsWindow b c → KeepsWindow a c
KeepsWindow-then a b c first next = record { width = next.width ∙ first.width; last = next.last ∙ first.last; size = next.size ∙ first.size }

pub fits_kept : (a b : EntryRing) (start end : ℕ) → KeepsWindow a b → ((v : ℕ) → start ≤ v → v ≤ end → IsBucketWithin a.last (length a.lists.items) (v / a.delta)) → (v : ℕ) → start ≤ v → v ≤ end → IsBucketWithin b.last (length b.lists.items) (v / b.delta)
fits_kept a b start end keeps fits v low high =
    subst (λ d. IsBucketWithin b.last (length b.lists.items) (v / d)) (sym keeps.width)
    (subst (λ n. IsBucketWithin b.last n (v / a.delta)) (sym keeps.size)
    (subst (λ l. IsBucketWithin l (length a.lists.items) (v / a.delta)) (sym keeps.last) (fits v low high)))

module _ (groups : Groups) (target start : ℕ) (old mid : KeyedSearch) (keeps : KeepsWindow old.ring mid.ring) (first : GoesOnTo groups target start old mid) where
  pub under_way : (source : ℕ) → IsUnderWayTo groups source target old → IsUnderWayTo groups source target mid
  under_way source h = subst (λ w. IsGuided groups source target w mid.tentative (stands_in mid.ring)) (sym keeps.width) (first.state source h)

  pub GoesOnTo-then : (new : KeyedSearch) → GoesOnTo groups target start mid new → GoesOnTo groups target start old new
  GoesOnTo-then new next =
      GoesOn-then groups target old.ring.delta start old.tentative (stands_in old.ring) (entry_count old.ring.lists.items) mid.tentative (stands_in mid.ring) (entry_count mid.ring.lists.items) first new.tentative (stands_in new.ring) (entry_count new.ring.lists.items)
      (subst (λ w. SearchGoesOn groups target w start mid.tentative (stands_in mid.ring) (entry_count mid.ring.lists.items) new.tentative (stands_in new.ring) (entry_count new.ring.lists.items)) keeps.width next)

  pub HasDone-kept : (part : Part) (u : ℕ) → HasDone groups part old u → HasDone groups part mid u
  HasDone-kept part u done = IsDone-kept groups target old.ring.delta start old.tentative (stands_in old.ring) (entry_count old.ring.lists.items) mid.tentative (stands_in mid.ring) (entry_count mid.ring.lists.items) first part u done

  -- a node of an entry that was done as long as that was live
  pub HasDone-live : (part : Part) (u x : ℕ) → (value_at old.tentative u ≡ Some x → HasDone groups part old u) → value_at mid.tentative u ≡ Some x → HasDone groups part mid u
  HasDone-live part u x done now = elim (first.moves u) as (λ _. HasDone groups part mid u) [
    | inl same ↦ HasDone-kept part u (done (sym same ∙ now))
    | inr live ↦ inl live
  ]
