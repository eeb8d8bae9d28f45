-- From relaxed legs to least lengths, and from trips to walks.
use Rattle.std.proofs.Common.{◌≡◌, ℕ, zero, suc, ◌+◌, ◌*◌, ◌<◌, ◌≤◌, List, [], ◌∷◌, length, filter, Contains, Option, Some, None, Bool, true, false, cond, ◌&&◌, ◌==◌, refl, sym, ap, subst, ◌∙◌, inl, inr, arith, unwrap_or, eqb, eqb-true, ne_eqb, eq-eqb, le_refl, slice_get, MatchOption, nat_le, not, get_or, IsSome}
use Rattle.relax.specs.Values.{value_at, value_or}
use Rattle.std.specs.Option.{option_map_or}
use Rattle.std.specs.List.{IsDistinct, AllByRecursion}
use Rattle.std.proofs.lemmas.List.Sums.{sum_by-cons}
use Rattle.std.proofs.lemmas.Map.Steps.{length-le_from_distinct_below}
use Rattle.std.proofs.lemmas.Map.Views.{Contains-from_any}
use Rattle.snapshot.specs.Groups.{Groups, legs_of, legs_in, leg_of, is_in_part, IsSnapshotOf, IsGrouped}
use Rattle.deltastep.specs.Search.{top_of, Trip, trip_length, AreReached, IsRelaxedBut, IsBetweenBuckets, IsSearch, IsFinal}
use Rattle.std.specs.FinMap.{empty, get, get-empty}
use Rattle.buckets.specs.Queue.{Entries}
use Rattle.std.specs.Ordering.{nat_cmp}
use Rattle.roadnet.specs.Net.{Net, arc_at}
use Rattle.roadnet.specs.Walks.{Walk, Least, NoWalk, RowOf, length_of, length_of_arc, distance_at}
use Rattle.roadnet.specs.declared.arcs.RoadArc.{RoadArc}
use Rattle.roadnet.proofs.Apart.{decide_member}
use Rattle.snapshot.specs.declared.legs.Leg.{Leg}
use Rattle.snapshot.specs.declared.legs.Part.{Part}
use Rattle.snapshot.specs.declared.legs.Part.TheVariants.{Light, Heavy}
use Rattle.deltastep.proofs.Lowering.{value_or-some}
use Rattle.frontier.proofs.Members.{Contains-head, Contains-tail, Contains-nil, Contains-map, Contains-of_map}

pub trip_length-cons : (leg : Leg) (legs : List Leg) → trip_length (leg ∷ legs) ≡ leg.length + trip_length legs
trip_length-cons leg legs = sum_by-cons (λ (l : Leg). l.length) leg legs

length_of_step : (net : Net) (k : ℕ) (ks : List ℕ) → length_of net (k ∷ ks) ≡ length_of_arc net k + length_of net ks
length_of_step net k ks = sum_by-cons (length_of_arc net) k ks

-- where all legs are relaxed, of the nodes that are not queued, a number that is at most what is known of v and of each queued node is at most what is
-- known of a node with each trip from there to v
pub bound-le_trip : (groups : Groups) (t : List (Option ℕ)) (queue : Entries) (v bound : ℕ) → ((part : Part) → IsRelaxedBut groups part t queue []) → bound ≤ value_or (top_of groups) t v → ((u : ℕ) → IsSome (get queue u) → bound ≤ value_or (top_of groups) t u) → (u : ℕ) (legs : List Leg) → Trip groups u v legs → bound ≤ value_or (top_of groups) t u + trip_length legs
bound-le_trip groups t queue v bound relaxed below above u [] e = subst (λ w. bound ≤ value_or (top_of groups) t w + 0) (sym e) (omega (arith, below))
bound-le_trip groups t queue v bound relaxed below above u (leg ∷ legs) (part, c, trip) =
    elim (relaxed part u) as (λ _. bound ≤ value_or (top_of groups) t u + trip_length (leg ∷ legs)) [
      | inl queued ↦ omega (arith, above u queued)
      | inr rest ↦ elim rest as (λ _. bound ≤ value_or (top_of groups) t u + trip_length (leg ∷ legs)) [
        | inl owes ↦ absurd (Contains-nil u owes)
        | inr known ↦ omega (arith, bound-le_trip groups t queue v bound relaxed below above leg.head legs trip, known leg c, trip_length-cons leg legs)
      ]
    ]

-- .. so where no queued node has less than v, each trip to v is at least as long as what is known of v
pub value-le_trip : (groups : Groups) (t : List (Option ℕ)) (queue : Entries) (v : ℕ) → ((part : Part) → IsRelaxedBut groups part t queue []) → ((u : ℕ) → IsSome (get queue u) → value_or (top_of groups) t v ≤ value_or (top_of groups) t u) → (u : ℕ) (legs : List Leg) → Trip groups u v legs → value_or (top_of groups) t v ≤ value_or (top_of groups) t u + trip_length legs
value-le_trip groups t queue v relaxed above u legs trip = bound-le_trip groups t queue v (value_or (top_of groups) t v) relaxed (le_refl (value_or (top_of groups) t v)) above u legs trip

-- ---- a trip that visits no node twice

-- the nodes that a trip visits
abbrev pub visited : ℕ → List Leg → List ℕ
visited s [] = s ∷ []
visited s (leg ∷ legs) = s ∷ visited leg.head legs

abbrev pub AreApart : List ℕ → Type 0
AreApart [] = Unit {0}
AreApart (x ∷ xs) = (Contains xs x → ⊥) × AreApart xs

-- a trip that is no longer than d and visits no node twice
pub record ShortTrip (groups : Groups) (s t d : ℕ) : Type 0 where
  pub legs : List Leg
  pub trip : Trip groups s t legs
  pub short : trip_length legs ≤ d
  pub apart : AreApart (visited s legs)

-- what is left of a trip from a node that it visits
from_visited : (groups : Groups) (s t u : ℕ) (legs : List Leg) → Trip groups s t legs → AreApart (visited s legs) → Contains (visited s legs) u → ShortTrip groups u t (trip_length legs)
from_visited groups s t u [] trip apart (zero, within, e) = record { legs = []; trip = sym e ∙ trip; short = omega arith; apart = ((λ c. Contains-nil u c), tt) }
from_visited groups s t u [] trip apart (suc k, within, e) = absurd (omega arith)
from_visited groups s t u (leg ∷ legs) (part, c, trip) apart (zero, within, e) =
    let P : ℕ → Type 0 = λ v. ShortTrip groups v t (trip_length (leg ∷ legs)) in
    subst P e (record { legs = leg ∷ legs; trip = (part, c, trip); short = le_refl (trip_length (leg ∷ legs)); apart = apart })
from_visited groups s t u (leg ∷ legs) (part, c, trip) apart (suc k, within, e) =
    let r = from_visited groups leg.head t u legs trip apart.1 (k, omega arith, e) in
    record { legs = r.legs; trip = r.trip; short = omega (arith, r.short, trip_length-cons leg legs); apart = r.apart }

-- each trip can be cut to one that visits no node twice
pub ShortTrip-of : (groups : Groups) (s t : ℕ) (legs : List Leg) → Trip groups s t legs → ShortTrip groups s t (trip_length legs)
ShortTrip-of groups s t [] e = record { legs = []; trip = e; short = omega arith; apart = ((λ c. Contains-nil s c), tt) }
ShortTrip-of groups s t (leg ∷ legs) (part, c, trip) =
    let r = ShortTrip-of groups leg.head t legs trip in
    elim (decide_member (visited leg.head r.legs) s) as (λ _. ShortTrip groups s t (trip_length (leg ∷ legs))) [
      | inl again ↦
          let cut = from_visited groups leg.head t s r.legs r.trip r.apart again in
          record { legs = cut.legs; trip = cut.trip; short = omega (arith, cut.short, r.short, trip_length-cons leg legs); apart = cut.apart }
      | inr new ↦ record { legs = leg ∷ r.legs; trip = (part, c, r.trip); short = omega (arith, r.short, trip_length-cons leg legs, trip_length-cons leg r.legs); apart = (new, r.apart) }
    ]

differs_from_all : (x : ℕ) (xs : List ℕ) → (Contains xs x → ⊥) → AllByRecursion (λ y. eqb x y ≡ false) xs
differs_from_all x [] not_in = tt
differs_from_all x (y ∷ ys) not_in = (ne_eqb x y (λ e. not_in (subst (λ z. Contains (y ∷ ys) z) (sym e) (Contains-head y ys))), differs_from_all x ys (λ c. not_in (Contains-tail y ys x c)))

AreApart-distinct : (xs : List ℕ) → AreApart xs → IsDistinct eqb xs
unfolding IsDistinct
AreApart-distinct [] apart = tt
AreApart-distinct (x ∷ xs) apart = (differs_from_all x xs apart.0, AreApart-distinct xs apart.1)

-- nodes that differ are at most as many as there are nodes
apart_length : (n : ℕ) (xs : List ℕ) → AreApart xs → ((x : ℕ) → Contains xs x → (1 ≤ x) × (x ≤ n)) → length xs ≤ n
apart_length n xs apart within =
    let zero_new : Contains xs 0 → ⊥ = λ c. absurd (omega (arith, (within 0 c).0)) in
    let bound : length (0 ∷ xs) ≤ n + 1 = length-le_from_distinct_below (0 ∷ xs) (n + 1) (AreApart-distinct (0 ∷ xs) (zero_new, apart)) (λ q h. below q (Contains-from_any (λ a b e. eqb-true a b e) q (0 ∷ xs) h)) in
    omega (arith, bound)
  where
    below : (q : ℕ) → Contains (0 ∷ xs) q → q < n + 1
    below q (zero, inside, e) = omega arith
    below q (suc k, inside, e) = let w = within q (k, omega arith, e) in omega (arith, w.1)

visited_length : (s : ℕ) (legs : List Leg) → length (visited s legs) ≡ length legs + 1
visited_length s [] = refl
visited_length s (leg ∷ legs) = omega (arith, visited_length leg.head legs)

module _ (groups : Groups) (grouped : IsGrouped groups) where
  visited_within : (s t : ℕ) (legs : List Leg) → 1 ≤ s → s ≤ groups.nodes → Trip groups s t legs → (x : ℕ) → Contains (visited s legs) x → (1 ≤ x) × (x ≤ groups.nodes)
  visited_within s t [] low high trip x (zero, inside, e) = (omega arith, omega arith)
  visited_within s t [] low high trip x (suc k, inside, e) = absurd (omega arith)
  visited_within s t (leg ∷ legs) low high trip x (zero, inside, e) = (omega arith, omega arith)
  visited_within s t (leg ∷ legs) low high (part, c, trip) x (suc k, inside, e) = visited_within leg.head t legs (grouped.low part s leg c) (grouped.high part s leg c) trip x (k, omega arith, e)

  trip_length-le : (s t : ℕ) (legs : List Leg) → Trip groups s t legs → trip_length legs ≤ length legs * 2147483647
  trip_length-le s t [] trip = omega arith
  trip_length-le s t (leg ∷ legs) (part, c, trip) = omega (arith, trip_length-le leg.head t legs trip, grouped.length part s leg c, grouped.greatest, trip_length-cons leg legs)

  -- a trip that visits no node twice is below the top
  pub ShortTrip-below_top : (s t d : ℕ) → 1 ≤ s → s ≤ groups.nodes → (short : ShortTrip groups s t d) → trip_length short.legs < top_of groups
  unfolding top_of
  ShortTrip-below_top s t d low high short =
      let few : length (visited s short.legs) ≤ groups.nodes = apart_length groups.nodes (visited s short.legs) short.apart (visited_within s t short.legs low high short.trip) in
      omega (arith, few, visited_length s short.legs, trip_length-le s t short.legs short.trip)

-- ---- trips and walks

pub Contains-filter : {X : Type 0} (p : X → Bool) (xs : List X) (x : X) → p x ≡ true → Contains xs x → Contains (filter p xs) x
Contains-filter p [] x h c = absurd (Contains-nil x c)
Contains-filter p (y ∷ xs) x h (zero, within, e) =
    let here : p y ≡ true = ap p e ∙ h in
    subst (λ b. Contains (cond b (y ∷ filter p xs) (filter p xs)) x) (sym here) (subst (λ z. Contains (y ∷ filter p xs) z) e (Contains-head y (filter p xs)))
Contains-filter p (y ∷ xs) x h (suc k, within, e) =
    let later = Contains-filter p xs x h (k, omega arith, e) in
    elim (p y) as (λ b. Contains (cond b (y ∷ filter p xs) (filter p xs)) x) [ true ↦ Contains-tail y (filter p xs) x later | false ↦ later ]

filter_step : {X : Type 0} (p : X → Bool) (y : X) (xs : List X) (x : X) → (Contains (filter p xs) x → Contains xs x × (p x ≡ true)) → (b : Bool) → p y ≡ b → Contains (cond b (y ∷ filter p xs) (filter p xs)) x → Contains (y ∷ xs) x × (p x ≡ true)
filter_step p y xs x rest true e (zero, within, is) = (subst (λ z. Contains (y ∷ xs) z) is (Contains-head y xs), subst (λ z. p z ≡ true) is e)
filter_step p y xs x rest true e (suc k, within, is) = let r = rest (k, omega arith, is) in (Contains-tail y xs x r.0, r.1)
filter_step p y xs x rest false e c = let r = rest c in (Contains-tail y xs x r.0, r.1)

pub Contains-of_filter : {X : Type 0} (p : X → Bool) (xs : List X) (x : X) → Contains (filter p xs) x → Contains xs x × (p x ≡ true)
Contains-of_filter p [] x c = absurd (Contains-nil x c)
Contains-of_filter p (y ∷ xs) x c = filter_step p y xs x (Contains-of_filter p xs x) (p y) refl c

Contains-slice_get : {X : Type 0} (xs : List X) (k : ℕ) (x : X) → slice_get xs k ≡ Some x → Contains xs x
Contains-slice_get [] k x e = absurd (let absurdity : ⊥ = cc in absurdity)
Contains-slice_get (y ∷ xs) zero x e = let same : y ≡ x = cc in subst (λ z. Contains (y ∷ xs) z) same (Contains-head y xs)
Contains-slice_get (y ∷ xs) (suc k) x e = Contains-tail y xs x (Contains-slice_get xs k x e)

place_of : {X : Type 0} (xs : List X) (x : X) → Contains xs x → (k : ℕ) × (slice_get xs k ≡ Some x)
place_of [] x c = absurd (Contains-nil x c)
place_of (y ∷ xs) x (zero, within, e) = (0, ap (λ z. Some z) e)
place_of (y ∷ xs) x (suc k, within, e) = let r = place_of xs x (k, omega arith, e) in (suc r.0, r.1)

both_true : (a b : Bool) → (a && b) ≡ true → (a ≡ true) × (b ≡ true)
both_true true b e = (refl, e)
both_true false b e = absurd (let absurdity : ⊥ = cc in absurdity)

-- an arc is light or heavy
part_in : (delta : ℕ) (arc : RoadArc) → (part : Part) × (is_in_part delta part arc ≡ true)
part_in delta arc = elim (nat_le arc.length delta) as (λ b. nat_le arc.length delta ≡ b → (part : Part) × (is_in_part delta part arc ≡ true)) [
  | true ↦ λ e. (Light, e)
  | false ↦ λ e. (Heavy, ap not e)
] refl

module _ (net : Net) (groups : Groups) (snapshot : IsSnapshotOf net groups) (grouped : IsGrouped groups) where
  -- the arc of a leg
  pub arc_of_leg : (part : Part) (u : ℕ) (leg : Leg) → 1 ≤ u → u ≤ groups.nodes → Contains (legs_of groups part u) leg → (k : ℕ) × (arc : RoadArc) × (arc_at net k ≡ Some arc) × (arc.opened ≡ true) × (arc.tail ≡ u) × (leg_of arc ≡ leg)
  arc_of_leg part u leg low high c =
      let c' : Contains (legs_in net.arcs groups.delta part u) leg = subst (λ ls. Contains ls leg) (snapshot.legs part u) c in
      let test : RoadArc → Bool = λ arc. arc.opened && ((arc.tail == u) && is_in_part groups.delta part arc) in
      let r = Contains-of_map leg_of (filter test net.arcs) leg c' in
      let f = Contains-of_filter test net.arcs r.0 r.1 in
      let at = place_of net.arcs r.0 f.0 in
      let parts = both_true r.0.opened ((r.0.tail == u) && is_in_part groups.delta part r.0) f.1 in
      (suc at.0, r.0, at.1, parts.0, eqb-true r.0.tail u (both_true (r.0.tail == u) (is_in_part groups.delta part r.0) parts.1).0, r.2)

  -- the leg of an open arc
  pub leg_of_arc : (k u : ℕ) (arc : RoadArc) → 1 ≤ u → u ≤ groups.nodes → arc_at net k ≡ Some arc → arc.opened ≡ true → arc.tail ≡ u → (part : Part) × Contains (legs_of groups part u) (leg_of arc)
  leg_of_arc zero u arc low high is opened tail = absurd (let absurdity : ⊥ = cc in absurdity)
  leg_of_arc (suc k) u arc low high is opened tail =
      let p = part_in groups.delta arc in
      let test : RoadArc → Bool = λ arc. arc.opened && ((arc.tail == u) && is_in_part groups.delta p.0 arc) in
      let passes : test arc ≡ true = ap (λ b. b && ((arc.tail == u) && is_in_part groups.delta p.0 arc)) opened ∙ (ap (λ b. b && is_in_part groups.delta p.0 arc) (eq-eqb arc.tail u tail) ∙ p.1) in
      (p.0, subst (λ ls. Contains ls (leg_of arc)) (sym (snapshot.legs p.0 u)) (Contains-map leg_of (filter test net.arcs) arc (Contains-filter test net.arcs arc passes (Contains-slice_get net.arcs k arc is))))

  pub walk_of_trip : (s t : ℕ) (legs : List Leg) → 1 ≤ s → s ≤ groups.nodes → Trip groups s t legs → (ks : List ℕ) × Walk net s t ks × (length_of net ks ≡ trip_length legs)
  walk_of_trip s t [] low high trip = ([], ((low, omega (arith, snapshot.nodes)), trip), refl)
  walk_of_trip s t (leg ∷ legs) low high (part, c, trip) =
      let a = arc_of_leg part s leg low high c in
      let rest = walk_of_trip leg.head t legs (grouped.low part s leg c) (grouped.high part s leg c) trip in
      let head : a.1.head ≡ leg.head = ap (λ (l : Leg). l.head) a.5 in
      let long : a.1.length ≡ leg.length = ap (λ (l : Leg). l.length) a.5 in
      let here : length_of_arc net a.0 ≡ a.1.length = ap (λ o. option_map_or (λ (arc : RoadArc). arc.length) o 0) a.2 in
      (a.0 ∷ rest.0, (a.1, a.2, a.3, a.4, subst (λ u. Walk net u t rest.0) (sym head) rest.1), omega (arith, rest.2, here, long, trip_length-cons leg legs, length_of_step net a.0 rest.0))

  pub trip_of_walk : (s t : ℕ) (ks : List ℕ) → 1 ≤ s → s ≤ groups.nodes → Walk net s t ks → (legs : List Leg) × Trip groups s t legs × (trip_length legs ≡ length_of net ks)
  trip_of_walk s t [] low high walk = ([], walk.1, refl)
  trip_of_walk s t (k ∷ ks) low high (arc, is, opened, tail, walk) =
      let l = leg_of_arc k s arc low high is opened tail in
      let rest = trip_of_walk arc.head t ks (grouped.low l.0 s (leg_of arc) l.1) (grouped.high l.0 s (leg_of arc) l.1) walk in
      let here : length_of_arc net k ≡ arc.length = ap (λ o. option_map_or (λ (arc : RoadArc). arc.length) o 0) is in
      (leg_of arc ∷ rest.0, (l.0, l.1, rest.1), omega (arith, rest.2, here, trip_length-cons (leg_of arc) rest.0, length_of_step net k ks))

  -- what a node has that no trip can better
  pub entry_of_node : (source : ℕ) (t : List (Option ℕ)) (v : ℕ) → 1 ≤ source → source ≤ groups.nodes → AreReached groups source t → ((legs : List Leg) → Trip groups source v legs → value_or (top_of groups) t v ≤ value_or (top_of groups) t source + trip_length legs) → MatchOption (value_at t v) (NoWalk net source v) (Least net source v)
  entry_of_node source t v low high reached known_least =
      let begins : value_or (top_of groups) t source ≡ 0 = value_or-some (top_of groups) t source 0 reached.starts in
      elim (value_at t v) as (λ o. value_at t v ≡ o → MatchOption o (NoWalk net source v) (Least net source v)) [
        | None ↦ λ none ks walk.
            let trip = trip_of_walk source v ks low high walk in
            let short = ShortTrip-of groups source v trip.0 trip.1 in
            let below = ShortTrip-below_top groups grouped source v (trip_length trip.0) low high short in
            let known : value_or (top_of groups) t v ≡ top_of groups = ap (λ o. unwrap_or o (top_of groups)) none in
            absurd (omega (arith, known_least short.legs short.trip, below, known, begins))
        | Some x ↦ λ some.
            let r = reached.reached v x some in
            let walk = walk_of_trip source v r.legs low high r.trip in
            let known : value_or (top_of groups) t v ≡ x = value_or-some (top_of groups) t v x some in
            record {
              walked = (walk.0, walk.1, walk.2 ∙ r.long);
              least = λ ks walk'.
                  let trip = trip_of_walk source v ks low high walk' in
                  omega (arith, known_least trip.0 trip.1, trip.2, known, begins);
            }
      ] refl

  -- between two buckets: what a node has whose value is final
  pub entry_of_final : (source : ℕ) (t : List (Option ℕ)) (queue : Entries) (v : ℕ) → 1 ≤ source → source ≤ groups.nodes → IsBetweenBuckets groups source t queue → IsFinal groups t queue v → MatchOption (value_at t v) (NoWalk net source v) (Least net source v)
  entry_of_final source t queue v low high between final =
      let relaxed : (part : Part) → IsRelaxedBut groups part t queue [] = λ part. elim part as (λ p. IsRelaxedBut groups p t queue []) [ Light ↦ between.light | Heavy ↦ between.heavy ] in
      entry_of_node source t v low high between.reached (value-le_trip groups t queue v relaxed (above t queue v between.search final) source)
    where
      above : (t : List (Option ℕ)) (queue : Entries) (v : ℕ) → IsSearch groups t queue 0 → IsFinal groups t queue v → (u : ℕ) → IsSome (get queue u) → value_or (top_of groups) t v ≤ value_or (top_of groups) t u
      above t queue v search final u queued = elim (get queue u) as (λ o. get queue u ≡ o → IsSome o → value_or (top_of groups) t v ≤ value_or (top_of groups) t u) [
        | None ↦ λ e h. absurd (let absurdity : ⊥ = cc in absurdity)
        | Some x ↦ λ e h. omega (arith, final u x e, value_or-some (top_of groups) t u x (search.queued u x e))
      ] refl queued

-- where no node is queued, each value is final
pub IsFinal-over : (groups : Groups) (t : List (Option ℕ)) (queue : Entries) (v : ℕ) → queue ≡ empty → IsFinal groups t queue v
IsFinal-over groups t queue v none u x has =
    absurd (let no : None ≡ Some x = sym (ap (λ (m : Entries). get m u) none ∙ get-empty nat_cmp u) ∙ has in let absurdity : ⊥ = cc in absurdity)

unwrap_at : (row : List (Option ℕ)) (k : ℕ) → unwrap_or (slice_get row k) None ≡ get_or row k None
unwrap_at [] k = refl
unwrap_at (o ∷ row) zero = refl
unwrap_at (o ∷ row) (suc k) = unwrap_at row k

-- a row has no entry for number 0, and tentative values have
pub distance_at-value_at : (row : List (Option ℕ)) (v : ℕ) → distance_at row v ≡ value_at (None ∷ row) v
distance_at-value_at row zero = refl
distance_at-value_at row (suc k) = unwrap_at row k

-- a search that is over leaves the row of its source
pub RowOf-over : (net : Net) (groups : Groups) → IsSnapshotOf net groups → IsGrouped groups → (source : ℕ) (t row : List (Option ℕ)) → 1 ≤ source → source ≤ groups.nodes → IsBetweenBuckets groups source t empty → t ≡ None ∷ row → RowOf net source row
RowOf-over net groups snapshot grouped source t row low high over is =
    let long : suc (length row) ≡ groups.nodes + 1 = ap length (sym is) ∙ over.search.places in
    record {
      size = omega (arith, long, snapshot.nodes);
      each = λ v node. rw (distance_at-value_at row v, ← is) (entry_of_final net groups snapshot grouped source t empty v low high over (IsFinal-over groups t empty v refl));
    }
