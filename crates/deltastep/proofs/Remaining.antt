-- What is left of a row after a change are lengths of trips in the new snapshot.
use Rattle.std.proofs.Common.{◌≡◌, ℕ, zero, suc, ◌+◌, ◌*◌, ◌-◌, ◌<◌, ◌≤◌, ◌⊎◌, List, [], ◌∷◌, ◌++◌, length, get_or, All, Contains, Option, Some, None, refl, sym, ap, subst, ◌∙◌, inl, inr, arith, MatchOption}
use Rattle.std.proofs.lemmas.Bool.{cases_eq, cases_lt}
use Rattle.std.proofs.lemmas.Option.{same_Some}
use Rattle.std.proofs.lemmas.List.{get_or_past}
use Rattle.relax.specs.Values.{value_at}
use Rattle.roadnet.specs.Net.{Net, IsNode}
use Rattle.roadnet.specs.Walks.{Least, NoWalk, RowOf, distance_at}
use Rattle.snapshot.specs.Groups.{Groups, legs_of, IsSnapshotOf, IsGrouped}
use Rattle.snapshot.specs.declared.legs.Leg.{Leg}
use Rattle.snapshot.specs.declared.legs.Part.{Part}
use Rattle.deltastep.specs.Search.{IsSearch, Trip, trip_length, Reaches, AreReached, top_of}
use Rattle.deltastep.specs.Repair.{AreChanged, AreListed, HasLeg, IsLost, IsKeptOf, AreGoneLost, IsSpread, IsClosedBut, IsThinner, Thins}
use Rattle.deltastep.proofs.Finishing.{distance_at-value_at, walk_of_trip, trip_of_walk, trip_length-cons, ShortTrip-of, ShortTrip-below_top}
use Rattle.frontier.proofs.Members.{Contains-nil}
use Rattle.deltastep.proofs.Thinning.{AreGoneLost-on, no_distance}
use Rattle.std.specs.FinMap.{empty, get-empty}
use Rattle.std.specs.Ordering.{nat_cmp}
use Rattle.std.proofs.lemmas.List.Elements.{Contains-get_or}

-- what a row says, in the words of the snapshot whose network it is of
pub record IsRowIn (groups : Groups) (source : ℕ) (row : List (Option ℕ)) : Type 0 where
  pub places : suc (length row) ≡ groups.nodes + 1
  pub starts : distance_at row source ≡ Some 0
  pub reached : (u x : ℕ) → distance_at row u ≡ Some x → Reaches groups source u x
  pub onward : (u x : ℕ) (part : Part) (leg : Leg) → Contains (legs_of groups part u) leg → distance_at row u ≡ Some x → (y : ℕ) × (distance_at row leg.head ≡ Some y) × (y ≤ x + leg.length)
  pub below_top : (u x : ℕ) → distance_at row u ≡ Some x → x < top_of groups
  pub node : (u x : ℕ) → distance_at row u ≡ Some x → 1 ≤ u

pub All-member : {X : Type 0} (P : X → Type 0) (xs : List X) (x : X) → All P xs → Contains xs x → P x
All-member P xs x all (k, within, e) = subst P e (all k x within)

-- ---- trips that go on
Trip-on : (groups : Groups) (s u : ℕ) (part : Part) (leg : Leg) (legs : List Leg) → Trip groups s u legs → Contains (legs_of groups part u) leg → Trip groups s leg.head (legs ++ leg ∷ [])
Trip-on groups s u part leg [] e c = (part, subst (λ v. Contains (legs_of groups part v) leg) (sym e) c, refl)
Trip-on groups s u part leg (first ∷ legs) (p, c', trip) c = (p, c', Trip-on groups first.head u part leg legs trip c)

trip_length-on : (leg : Leg) (legs : List Leg) → trip_length (legs ++ leg ∷ []) ≡ trip_length legs + leg.length
trip_length-on leg [] = omega (arith, trip_length-cons leg [])
trip_length-on leg (first ∷ legs) = omega (arith, trip_length-on leg legs, trip_length-cons first (legs ++ leg ∷ []), trip_length-cons first legs)

module _ (net : Net) (groups : Groups) (snapshot : IsSnapshotOf net groups) (grouped : IsGrouped groups) (source : ℕ) (low : 1 ≤ source) (high : source ≤ groups.nodes) (row : List (Option ℕ)) (is : RowOf net source row) where
  -- a trip to a node bounds its distance
  by_trip : (v : ℕ) (legs : List Leg) → 1 ≤ v → v ≤ groups.nodes → Trip groups source v legs → (y : ℕ) × (distance_at row v ≡ Some y) × (y ≤ trip_length legs)
  by_trip v legs v_low v_high trip =
      let walk = walk_of_trip net groups snapshot grouped source v legs low high trip in
      let node : IsNode net v = (v_low, omega (arith, snapshot.nodes)) in
      elim (distance_at row v) as (λ o. distance_at row v ≡ o → MatchOption o (NoWalk net source v) (Least net source v) → (y : ℕ) × (o ≡ Some y) × (y ≤ trip_length legs)) [
        | None ↦ λ e none. absurd (none walk.0 walk.1)
        | Some y ↦ λ e least. (y, refl, omega (arith, least.least walk.0 walk.1, walk.2))
      ] refl (is.each v node)

  -- a node that has a distance is one of the network
  is_node : (u x : ℕ) → distance_at row u ≡ Some x → (1 ≤ u) × (u ≤ groups.nodes)
  is_node zero x has = absurd (let no : None ≡ Some x = has in let absurdity : ⊥ = cc in absurdity)
  is_node (suc u) x has =
      let at : value_at (None ∷ row) (suc u) ≡ Some x = sym (distance_at-value_at row (suc u)) ∙ has in
      elim (cases_lt (suc u) (suc (length row))) as (λ _. (1 ≤ suc u) × (suc u ≤ groups.nodes)) [
        | inl lt ↦ (omega arith, omega (arith, is.size, snapshot.nodes))
        | inr past ↦ absurd (let no : None ≡ Some x = sym (get_or_past (None ∷ row) (suc u) None past) ∙ at in let absurdity : ⊥ = cc in absurdity)
      ]

  least_of : (u x : ℕ) → distance_at row u ≡ Some x → Least net source u x
  least_of u x has =
      let node = is_node u x has in
      subst (λ o. MatchOption o (NoWalk net source u) (Least net source u)) has (is.each u (node.0, omega (arith, node.1, snapshot.nodes)))

  reaches : (u x : ℕ) → distance_at row u ≡ Some x → Reaches groups source u x
  reaches u x has =
      let least = least_of u x has in
      let trip = trip_of_walk net groups snapshot grouped source u least.walked.0 low high least.walked.1 in
      record { legs = trip.0; trip = trip.1; long = trip.2 ∙ least.walked.2 }

  begins : distance_at row source ≡ Some 0
  begins =
      let there = by_trip source [] low high refl in
      let zero_it : there.0 ≡ 0 = omega (arith, there.2) in
      there.1 ∙ ap (λ n. Some n) zero_it

  pub IsRowIn-of : IsRowIn groups source row
  IsRowIn-of = record {
    places = omega (arith, is.size, snapshot.nodes);
    starts = begins;
    reached = reaches;
    onward = λ u x part leg c has.
        let r = reaches u x has in
        let there = by_trip leg.head (r.legs ++ leg ∷ []) (grouped.low part u leg c) (grouped.high part u leg c) (Trip-on groups source u part leg r.legs r.trip c) in
        (there.0, there.1, omega (arith, there.2, trip_length-on leg r.legs, r.long));
    below_top = λ u x has.
        let r = reaches u x has in
        let short = ShortTrip-of groups source u r.legs r.trip in
        let below = ShortTrip-below_top groups grouped source u (trip_length r.legs) low high short in
        let node = is_node u x has in
        let there = by_trip u short.legs node.0 node.1 short.trip in
        let same : there.0 ≡ x = same_Some there.0 x (sym there.1 ∙ has) in
        omega (arith, below, there.2, same);
    node = λ u x has. (is_node u x has).0;
  }

-- ---- what is left
module _ (before after : Groups) (source : ℕ) (row t : List (Option ℕ)) (of_row : IsRowIn before source row) (kept : IsKeptOf source row t) (gone : (u : ℕ) → AreGoneLost before after source row t u) (closed : IsClosedBut after source row t []) where
  -- along a trip the distance grows by no more than its length
  onward : (u v x : ℕ) (legs : List Leg) → Trip before u v legs → distance_at row u ≡ Some x → (y : ℕ) × (distance_at row v ≡ Some y) × (y ≤ x + trip_length legs)
  onward u v x [] e has = (x, subst (λ w. distance_at row w ≡ Some x) e has, omega arith)
  onward u v x (leg ∷ legs) (part, c, trip) has =
      let step = of_row.onward u x part leg c has in
      let rest = onward leg.head v step.0 legs trip step.1 in
      (rest.0, rest.1, omega (arith, rest.2, step.2, trip_length-cons leg legs))

  -- a node that has a value has that of the row
  is_kept : (u x : ℕ) → value_at t u ≡ Some x → distance_at row u ≡ Some x
  is_kept u x has = elim (kept.kept u) as (λ _. distance_at row u ≡ Some x) [
    | inl none ↦ absurd (let no : None ≡ Some x = sym none ∙ has in let absurdity : ⊥ = cc in absurdity)
    | inr same ↦ sym same ∙ has
  ]

  -- a trip of the row's own length, from a node on it to one that kept its value
  along : (u v x : ℕ) (legs : List Leg) → Trip before u v legs → distance_at row u ≡ Some x → value_at t v ≡ Some (x + trip_length legs) → Reaches after source v (x + trip_length legs) ⊎ ((value_at t u ≡ Some x) × Trip after u v legs)
  along u v x [] e has at = inr (subst (λ w. value_at t w ≡ Some x) (sym e) (at ∙ ap (λ n. Some n) (let zero_it : x + 0 ≡ x = omega arith in zero_it)), e)
  along u v x (leg ∷ legs) (part, c, trip) has at =
      let w = leg.head in
      let Goal = Reaches after source v (x + trip_length (leg ∷ legs)) ⊎ ((value_at t u ≡ Some x) × Trip after u v (leg ∷ legs)) in
      let long = trip_length-cons leg legs in
      let step = of_row.onward u x part leg c has in
      let rest = onward w v step.0 legs trip step.1 in
      let end : rest.0 ≡ x + trip_length (leg ∷ legs) = same_Some rest.0 _ (sym rest.1 ∙ is_kept v _ at) in
      let tight : step.0 ≡ x + leg.length = omega (arith, rest.2, step.2) in
      let head : distance_at row w ≡ Some (x + leg.length) = step.1 ∙ ap (λ n. Some n) tight in
      let sums : (x + leg.length) + trip_length legs ≡ x + trip_length (leg ∷ legs) = omega arith in
      elim (along w v (x + leg.length) legs trip head (at ∙ ap (λ n. Some n) (sym sums))) as (λ _. Goal) [
        | inl reaches ↦ inl (subst (λ n. Reaches after source v n) sums reaches)
        | inr (has_w, trip') ↦ elim (cases_eq w source) as (λ _. Goal) [
          | inl e ↦
              let zero_it : x + leg.length ≡ 0 = same_Some _ 0 (sym has_w ∙ subst (λ k. value_at t k ≡ Some 0) (sym e) kept.starts) in
              inl (record { legs = legs; trip = subst (λ k. Trip after k v legs) e trip'; long = omega (arith, sums, zero_it) })
          | inr other ↦
              let not_lost : IsLost source t w → ⊥ = λ lost. elim lost as (λ _. ⊥) [
                | inl e ↦ other e
                | inr none ↦ let no : None ≡ Some (x + leg.length) = sym none ∙ has_w in let absurdity : ⊥ = cc in absurdity
              ] in
              let there : HasLeg after u leg = elim (All-member (λ (z : Leg). distance_at row z.head ≡ Some (x + z.length) → HasLeg after u z ⊎ IsLost source t z.head) (legs_of before part u) leg (gone u x has part) c head) as (λ _. HasLeg after u leg) [ inl there ↦ there | inr lost ↦ absurd (not_lost lost) ] in
              let has_u : value_at t u ≡ Some x = elim (kept.kept u) as (λ _. value_at t u ≡ Some x) [
                | inr same ↦ same ∙ has
                | inl none ↦ elim (closed u none) as (λ _. value_at t u ≡ Some x) [
                  | inl c' ↦ absurd (Contains-nil u c')
                  | inr spread ↦ absurd (not_lost (All-member (λ (z : Leg). distance_at row z.head ≡ Some (x + z.length) → IsLost source t z.head) (legs_of after there.0 u) leg (spread x has there.0) there.1 head))
                ]
              ] in
              inr (has_u, (there.0, there.1, trip'))
        ]
      ]

  pub AreReached-remaining : AreReached after source t
  AreReached-remaining = record {
    starts = kept.starts;
    reached = λ v x has.
        let r = of_row.reached v x (is_kept v x has) in
        let is : 0 + trip_length r.legs ≡ x = omega (arith, r.long) in
        subst (λ n. Reaches after source v n) is (elim (along source v 0 r.legs r.trip of_row.starts (has ∙ ap (λ n. Some n) (sym is))) as (λ _. Reaches after source v (0 + trip_length r.legs)) [
          | inl reaches ↦ reaches
          | inr (_, trip) ↦ record { legs = r.legs; trip = trip; long = omega arith }
        ]);
  }

-- ---- from the row to what is left of it
same_top : (before after : Groups) → before.nodes ≡ after.nodes → top_of before ≡ top_of after
unfolding top_of
same_top before after e = ap (λ n. (n - 1) * 2147483647 + 1) e

-- at first nothing is lost
pub IsClosedBut-first : (groups : Groups) (source : ℕ) (row t0 t : List (Option ℕ)) (lost : List ℕ) → t0 ≡ None ∷ row → Thins source t0 [] t lost → IsClosedBut groups source row t lost
IsClosedBut-first groups source row t0 t lost first thins u none = elim (thins.more u none) as (λ _. Contains lost u ⊎ IsSpread groups source row t u) [
  | inl c ↦ inl c
  | inr was ↦ inr (λ value has part. no_distance row u value (distance_at-value_at row u ∙ (ap (λ (l : List (Option ℕ)). value_at l u) (sym first) ∙ was)) has)
]

-- each node that lost its value is on the list
pub AreListed-of : (source : ℕ) (row t0 t : List (Option ℕ)) (lost : List ℕ) → t0 ≡ None ∷ row → Thins source t0 [] t lost → AreListed row t lost
AreListed-of source row t0 t lost first thins u none = elim (thins.more u none) as (λ _. Contains lost u ⊎ (distance_at row u ≡ None)) [
  | inl c ↦ inl c
  | inr was ↦ inr (distance_at-value_at row u ∙ (ap (λ (l : List (Option ℕ)). value_at l u) (sym first) ∙ was))
]

pub IsKeptOf-thinner : (groups : Groups) (source : ℕ) (row t0 t : List (Option ℕ)) → IsRowIn groups source row → t0 ≡ None ∷ row → IsThinner source t0 t → IsKeptOf source row t
IsKeptOf-thinner groups source row t0 t of_row first thinner =
    let was : (u : ℕ) → value_at t0 u ≡ distance_at row u = λ u. ap (λ (l : List (Option ℕ)). value_at l u) first ∙ sym (distance_at-value_at row u) in
    record {
      places = thinner.places ∙ ap length first;
      starts = thinner.starts ∙ (was source ∙ of_row.starts);
      kept = λ u. elim (thinner.moves u) as (λ _. (value_at t u ≡ None) ⊎ (value_at t u ≡ distance_at row u)) [
        | inl none ↦ inl none
        | inr same ↦ inr (same ∙ was u)
      ];
    }

-- what was judged at the nodes that changed holds at each node
pub AreGoneLost-all : (before after : Groups) (source : ℕ) (row t t' : List (Option ℕ)) (changed : List ℕ) → AreChanged before after changed → All (AreGoneLost before after source row t) changed → IsThinner source t t' → (u : ℕ) → AreGoneLost before after source row t' u
AreGoneLost-all before after source row t t' changed are gone thinner u = elim (are u) as (λ _. AreGoneLost before after source row t' u) [
  | inl c ↦ AreGoneLost-on before after source row t t' u thinner (All-member (AreGoneLost before after source row t) changed u gone c)
  | inr same ↦ λ value has part k d lt tight. inl (part, subst (λ (l : List Leg). Contains l (get_or (legs_of before part u) k d)) (same part) (Contains-get_or (legs_of before part u) k d lt))
]

pub IsSearch-remaining : (before after : Groups) (source : ℕ) (row t : List (Option ℕ)) → before.nodes ≡ after.nodes → IsRowIn before source row → IsKeptOf source row t → IsSearch after t empty 0
IsSearch-remaining before after source row t nodes of_row kept =
    let is : (u x : ℕ) → value_at t u ≡ Some x → distance_at row u ≡ Some x = λ u x has. elim (kept.kept u) as (λ _. distance_at row u ≡ Some x) [
      | inl none ↦ absurd (let no : None ≡ Some x = sym none ∙ has in let absurdity : ⊥ = cc in absurdity)
      | inr same ↦ sym same ∙ has
    ] in
    record {
      places = omega (arith, kept.places, of_row.places, nodes);
      node = λ u x has. of_row.node u x (is u x has);
      below_top = λ u x has. omega (arith, of_row.below_top u x (is u x has), same_top before after nodes);
      queued = λ u x has. absurd (let no : None ≡ Some x = sym (get-empty nat_cmp u) ∙ has in let absurdity : ⊥ = cc in absurdity);
      above = λ u x has. omega arith;
    }
