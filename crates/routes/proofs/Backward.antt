-- A path back from the target: it grows by tight arcs from nodes that were not met, and shrinks where there is none.
use Rattle.std.proofs.Common.{◌≡◌, ◌≢◌, ◌∙◌, ℕ, zero, suc, ◌+◌, ◌<◌, ◌≤◌, ◌⊎◌, Bool, true, false, cond, List, [], ◌∷◌, ◌++◌, length, map, reverse, set, replicate, get_or, Contains, Option, None, Some, MatchOption, refl, sym, ap, subst, le_refl, inl, inr, arith}
use Rattle.std.specs.Prelude.{AllPairs, All, not, count_by, ⊤}
use Rattle.std.specs.Option.{option_map_or}
use Rattle.std.proofs.lemmas.Bool.{cases_eq}
use Rattle.std.proofs.lemmas.List.{get_or-set_same, get_or-set_other, get_or-replicate, get_or_past, length-replicate, length-set, reverse-append}
use Rattle.std.proofs.lemmas.List.Elements.{Contains-get_or, All-nil, All-push, All-pop}
use Rattle.std.proofs.lemmas.List.Kept.{AllPairs-cons}
use Rattle.std.proofs.lemmas.List.Sums.{sum_by-set}
use Rattle.roadnet.specs.declared.arcs.RoadArc.{RoadArc}
use Rattle.roadnet.specs.Net.{Net, IsNode, IsNetwork, IsArcAmong, arc_at}
use Rattle.relax.specs.Values.{value_at}
use Rattle.roadnet.specs.Walks.{Walk, Least, NoWalk, RowOf, length_of}
use Rattle.roadnet.proofs.Apart.{arc_among, length_is, length_of-cons}
use Rattle.roadnet.proofs.Joined.{walks_join, least_is_one}
use Rattle.deltastep.specs.Reach.{AreFinal, IsKnownTo}
use Rattle.deltastep.proofs.Ending.{AreFinal-row}
use Rattle.deltastep.proofs.Finishing.{distance_at-value_at}
use Rattle.frontier.proofs.Members.{Contains-head, Contains-tail}
use Rattle.snapshot.specs.Groups.{Groups}
use Rattle.routes.specs.declared.paths.Step.{Step}
use Rattle.routes.specs.Paths.{IsTight, IsMet, IsNodeDone, AreLegsLooked, IsWay}
use Rattle.routes.specs.Routes.{head_of_arc, nodes_visited, IsRoute, IsRouteTold}
use Rattle.routes.specs.declared.replies.Route.{Route}

-- ---- what a row says

pub start_node : (net : Net) (v t : ℕ) (walk : List ℕ) → IsNetwork net → Walk net v t walk → IsNode net v
start_node net v t [] ok w = w.0
start_node net v t (k ∷ walk) ok w =
    let among : IsArcAmong net.nodes w.0 = arc_among net k w.0 ok w.1 in
    subst (λ x. IsNode net x) w.3 (among.tail_from, among.tail_to)

-- the row of s has all distances, so those up to each node's
pub IsKnownTo-row : (net : Net) (s t : ℕ) (row : List (Option ℕ)) → RowOf net s row → IsNode net t → IsKnownTo net s t (None ∷ row)
IsKnownTo-row net s t row of node = by (value_at (None ∷ row) t) (subst (λ o. MatchOption o (NoWalk net s t) (Least net s t)) (distance_at-value_at row t) (of.each t node))
  where
    by : (o : Option ℕ) → MatchOption o (NoWalk net s t) (Least net s t) → MatchOption o (NoWalk net s t) (λ far. AreFinal net s (Some far) (None ∷ row))
    by None none = none
    by (Some far) least =
        let all = AreFinal-row net s row of in
        record { places = all.places; right = λ u d has within. all.right u d has tt; each = λ u d is to within. all.each u d is to tt }

pub no_walk_there : (net : Net) (s t : ℕ) (values : List (Option ℕ)) → IsKnownTo net s t values → value_at values t ≡ None → NoWalk net s t
no_walk_there net s t values known e = subst (λ o. MatchOption o (NoWalk net s t) (λ far. AreFinal net s (Some far) values)) e known

pub up_to_there : (net : Net) (s t far : ℕ) (values : List (Option ℕ)) → IsKnownTo net s t values → value_at values t ≡ Some far → AreFinal net s (Some far) values
up_to_there net s t far values known e = subst (λ o. MatchOption o (NoWalk net s t) (λ far. AreFinal net s (Some far) values)) e known

-- the source's distance is 0
source_zero : (net : Net) (s far : ℕ) (values : List (Option ℕ)) → AreFinal net s (Some far) values → IsNode net s → value_at values s ≡ Some 0
source_zero net s far values of node = of.each s 0 node (record { walked = ([], (node, refl), refl); least = λ walk w. omega arith }) (omega arith)

-- The first arc of a walk to t is tight, where the walk is as long as t is farther than its first node.
onward : (net : Net) (s far : ℕ) (values : List (Option ℕ)) (v t k x : ℕ) (arc : RoadArc) (walk : List ℕ) → AreFinal net s (Some far) values → IsNetwork net → arc_at net k ≡ Some arc → arc.opened ≡ true → arc.tail ≡ v → Walk net arc.head t walk → value_at values v ≡ Some x → value_at values t ≡ Some far → length_of net (k ∷ walk) + x ≡ far → value_at values arc.head ≡ Some (x + arc.length)
onward net s far values v t k x arc walk of ok at opened tail rest near there sum =
    let to_v : Least net s v x = (of.right v x near (omega arith)).1 in
    let to_t : Least net s t far = (of.right t far there (le_refl far)).1 in
    let among : IsArcAmong net.nodes arc = arc_among net k arc ok at in
    let node : IsNode net arc.head = (among.head_from, among.head_to) in
    let one : Walk net v arc.head (k ∷ []) = (arc, at, opened, tail, (node, refl)) in
    let to_head = walks_join net s v arc.head to_v.walked.0 (k ∷ []) to_v.walked.1 one in
    let long : length_of net (k ∷ walk) ≡ arc.length + length_of net walk = omega (arith, length_is net k arc at, length_of-cons net k walk) in
    let least : Least net s arc.head (x + arc.length) = record {
      walked = (to_v.walked.0 ++ k ∷ [], to_head.0, omega (arith, to_head.1, to_v.walked.2, length_is net k arc at, length_of-cons net k []));
      least = λ other w. let through = walks_join net s arc.head t other walk w rest in omega (arith, through.1, to_t.least (other ++ walk) through.0, long);
    } in
    of.each arc.head (x + arc.length) node least (omega (arith, long))

-- ---- nodes that were met

within_met : (met : List Bool) (v : ℕ) → IsMet met v → v < length met
within_met met v is = elim (cases_past v (length met)) as (λ _. v < length met) [
  | inl lt ↦ lt
  | inr le ↦ absurd (let no : get_or met v false ≡ false = get_or_past met v false le in let absurdity : ⊥ = cc in absurdity)
]
  where
    cases_past : (i n : ℕ) → (i < n) ⊎ (n ≤ i)
    cases_past i n = grind arith

met_there : (met : List Bool) (w : ℕ) → w < length met → IsMet (set met w true) w
met_there met w within = get_or-set_same met w true false within

met_kept : (met : List Bool) (w v : ℕ) → w < length met → IsMet met v → IsMet (set met w true) v
met_kept met w v within is = elim (cases_eq v w) as (λ _. IsMet (set met w true) v) [
  | inl e ↦ subst (λ x. IsMet (set met w true) x) (sym e) (met_there met w within)
  | inr ne ↦ get_or-set_other met w v true false ne ∙ is
]

met_before : (met : List Bool) (w v : ℕ) → (v ≡ w → ⊥) → IsMet (set met w true) v → IsMet met v
met_before met w v ne is = sym (get_or-set_other met w v true false ne) ∙ is

none_met : (n v : ℕ) → IsMet (replicate n false) v → ⊥
none_met n v is = let no : get_or (replicate n false) v false ≡ false = get_or-replicate n v false false (subst (λ m. v < m) (length-replicate n false) (within_met (replicate n false) v is)) in let absurdity : ⊥ = cc in absurdity

-- how many places say that no node was met
abbrev pub unmet : List Bool → ℕ
unmet met = count_by not met

pub unmet-set : (met : List Bool) (v : ℕ) → v < length met → get_or met v false ≡ false → unmet (set met v true) + 1 ≡ unmet met
unmet-set met v within new =
    let f : Bool → ℕ = λ b. cond (not b) 1 0 in
    let one : f (get_or met v false) ≡ 1 = ap f new in
    omega (arith, sum_by-set f met v true false within, one)

-- ---- the path

-- each arc of a path from v is tight
abbrev pub AreTight : Net → List (Option ℕ) → ℕ → List ℕ → Type 0
AreTight net values v [] = ⊤
AreTight net values v (k ∷ path) = (arc : RoadArc) × IsTight net values arc.head k arc × (arc.tail ≡ v) × AreTight net values arc.head path

pub record IsPath (net : Net) (values : List (Option ℕ)) (met : List Bool) (s t far v : ℕ) (path : List ℕ) : Type 0 where
  pub places : length met ≡ net.nodes + 1
  pub walks : Walk net v t path
  pub tights : AreTight net values v path
  pub long : (x : ℕ) × (value_at values v ≡ Some x) × (length_of net path + x ≡ far)
  pub apart : AllPairs (λ x y. x ≢ y) (nodes_visited net v path)
  pub on_path : (u : ℕ) → Contains (nodes_visited net v path) u → IsMet met u
  pub done : (u : ℕ) → IsMet met u → Contains (nodes_visited net v path) u ⊎ IsNodeDone net values met u
  pub target : IsMet met t
  pub source : IsMet met s → v ≡ s

nodes_of-cons : (net : Net) (v k : ℕ) (arc : RoadArc) (path : List ℕ) → arc_at net k ≡ Some arc → nodes_visited net v (k ∷ path) ≡ v ∷ nodes_visited net arc.head path
nodes_of-cons net v k arc path at =
    let head : head_of_arc net k ≡ arc.head = ap (λ o. option_map_or (λ (a : RoadArc). a.head) o 0) at in
    ap (λ (h : ℕ). v ∷ (h ∷ map (head_of_arc net) path)) head

AllPairs-tail : (x : ℕ) (xs : List ℕ) → AllPairs (λ a b. a ≢ b) (x ∷ xs) → AllPairs (λ a b. a ≢ b) xs
AllPairs-tail x xs all i j d lt within = all (suc i) (suc j) d (omega arith) (omega arith)

AllPairs-one : (x : ℕ) → AllPairs (λ a b. a ≢ b) (x ∷ [])
AllPairs-one x i j d lt within = absurd (omega arith)

only_one : (x y : ℕ) → Contains (x ∷ []) y → x ≡ y
only_one x y (zero, within, e) = e
only_one x y (suc k, within, e) = absurd (omega arith)

module _ (net : Net) (values : List (Option ℕ)) (s t far : ℕ) (ok : IsNetwork net) (node : IsNode net t) (there : value_at values t ≡ Some far) where
  pub start : IsPath net values (set (replicate (net.nodes + 1) false) t true) s t far t []
  start =
      let none_more : length_of net [] + far ≡ far = omega arith in
      let none : List Bool = replicate (net.nodes + 1) false in
      let size : length none ≡ net.nodes + 1 = length-replicate (net.nodes + 1) false in
      let within : t < length none = omega (arith, size, node.1) in
      let only : (u : ℕ) → IsMet (set none t true) u → t ≡ u = λ u is. elim (cases_eq u t) as (λ _. t ≡ u) [
        | inl e ↦ sym e
        | inr ne ↦ absurd (none_met (net.nodes + 1) u (met_before none t u ne is))
      ] in
      record {
        places = length-set none t true ∙ size;
        walks = (node, refl);
        tights = tt;
        long = (far, there, none_more);
        apart = AllPairs-one t;
        on_path = λ u c. subst (λ w. IsMet (set none t true) w) (only_one t u c) (met_there none t within);
        done = λ u is. inl (subst (λ w. Contains (t ∷ []) w) (only u is) (Contains-head t []));
        target = met_there none t within;
        source = λ is. only s is;
      }

  -- the path grows by a tight arc
  pub push : (met : List Bool) (v k : ℕ) (arc : RoadArc) (path : List ℕ) → IsPath net values met s t far v path → v ≢ s → IsTight net values v k arc → get_or met arc.tail false ≡ false → IsPath net values (set met arc.tail true) s t far arc.tail (k ∷ path)
  push met v k arc path p other tight new =
      let among : IsArcAmong net.nodes arc = arc_among net k arc ok tight.there in
      let w = arc.tail in
      let within : w < length met = omega (arith, p.places, among.tail_to) in
      let nodes : nodes_visited net w (k ∷ path) ≡ w ∷ nodes_visited net v path = nodes_of-cons net w k arc path tight.there ∙ ap (λ (h : ℕ). w ∷ nodes_visited net h path) tight.head in
      let not_on : (u : ℕ) → Contains (nodes_visited net v path) u → w ≢ u = λ u c e. let is : IsMet met w = subst (λ z. IsMet met z) (sym e) (p.on_path u c) in let absurdity : ⊥ = cc in absurdity in
      let differs : All (λ y. w ≢ y) (nodes_visited net v path) = λ i d lt. not_on (get_or (nodes_visited net v path) i d) (Contains-get_or (nodes_visited net v path) i d lt) in
      let as_far : p.long.0 ≡ tight.sum.0 + arc.length = let e : Some p.long.0 ≡ Some (tight.sum.0 + arc.length) = sym p.long.1 ∙ tight.sum.2 in cc in
      let sum : length_of net (k ∷ path) + tight.sum.0 ≡ far = omega (arith, as_far, p.long.2, length_is net k arc tight.there, length_of-cons net k path) in
      record {
        places = length-set met w true ∙ p.places;
        walks = (arc, tight.there, tight.opened, refl, subst (λ z. Walk net z t path) (sym tight.head) p.walks);
        tights = (arc, subst (λ z. IsTight net values z k arc) (sym tight.head) tight, refl, subst (λ z. AreTight net values z path) (sym tight.head) p.tights);
        long = (tight.sum.0, tight.sum.1, sum);
        apart = subst (λ (xs : List ℕ). AllPairs (λ x y. x ≢ y) xs) (sym nodes) (AllPairs-cons (λ x y. x ≢ y) w (nodes_visited net v path) differs p.apart);
        on_path = λ u c. on_new within u (subst (λ (xs : List ℕ). Contains xs u) nodes c);
        done = λ u is. subst (λ (xs : List ℕ). Contains xs u ⊎ IsNodeDone net values (set met w true) u) (sym nodes) (done_new within u is);
        target = met_kept met w t within p.target;
        source = λ is. elim (cases_eq s w) as (λ _. w ≡ s) [
          | inl e ↦ sym e
          | inr ne ↦ absurd (other (p.source (met_before met w s ne is)))
        ];
      }
    where
      on_new : arc.tail < length met → (u : ℕ) → Contains (arc.tail ∷ nodes_visited net v path) u → IsMet (set met arc.tail true) u
      on_new within u (zero, lt, e) = subst (λ z. IsMet (set met arc.tail true) z) e (met_there met arc.tail within)
      on_new within u (suc i, lt, e) = met_kept met arc.tail u within (p.on_path u (i, omega arith, e))

      done_new : arc.tail < length met → (u : ℕ) → IsMet (set met arc.tail true) u → Contains (arc.tail ∷ nodes_visited net v path) u ⊎ IsNodeDone net values (set met arc.tail true) u
      done_new within u is = elim (cases_eq u arc.tail) as (λ _. Contains (arc.tail ∷ nodes_visited net v path) u ⊎ IsNodeDone net values (set met arc.tail true) u) [
        | inl e ↦ inl (subst (λ z. Contains (arc.tail ∷ nodes_visited net v path) z) (sym e) (Contains-head arc.tail (nodes_visited net v path)))
        | inr ne ↦ elim (p.done u (met_before met arc.tail u ne is)) as (λ _. Contains (arc.tail ∷ nodes_visited net v path) u ⊎ IsNodeDone net values (set met arc.tail true) u) [
          | inl c ↦ inl (Contains-tail arc.tail (nodes_visited net v path) u c)
          | inr d ↦ inr (λ j a tight. met_kept met arc.tail a.tail within (d j a tight))
        ]
      ]

  -- .. and shrinks where no arc is left
  pub pop : (met : List Bool) (v k : ℕ) (arc : RoadArc) (path : List ℕ) → IsPath net values met s t far v (k ∷ path) → v ≢ s → IsNodeDone net values met v → arc_at net k ≡ Some arc → IsPath net values met s t far arc.head path
  pop met v k arc path p other done at =
      let first : p.walks.0 ≡ arc = let e : Some p.walks.0 ≡ Some arc = sym p.walks.1 ∙ at in cc in
      let rest : Walk net arc.head t path = subst (λ (a : RoadArc). Walk net a.head t path) first p.walks.4 in
      let mine : p.tights.0 ≡ arc = let e : Some p.tights.0 ≡ Some arc = sym p.tights.1.there ∙ at in cc in
      let tight : IsTight net values arc.head k arc = subst (λ (a : RoadArc). IsTight net values a.head k a) mine p.tights.1 in
      let tail : arc.tail ≡ v = subst (λ (a : RoadArc). a.tail ≡ v) mine p.tights.2 in
      let near : value_at values v ≡ Some tight.sum.0 = subst (λ z. value_at values z ≡ Some tight.sum.0) tail tight.sum.1 in
      let as_far : tight.sum.0 ≡ p.long.0 = let e : Some tight.sum.0 ≡ Some p.long.0 = sym near ∙ p.long.1 in cc in
      let sum : length_of net path + (tight.sum.0 + arc.length) ≡ far = omega (arith, as_far, p.long.2, length_is net k arc at, length_of-cons net k path) in
      let nodes = nodes_of-cons net v k arc path at in
      record {
        places = p.places;
        walks = rest;
        tights = subst (λ (a : RoadArc). AreTight net values a.head path) mine p.tights.3;
        long = (tight.sum.0 + arc.length, tight.sum.2, sum);
        apart = AllPairs-tail v (nodes_visited net arc.head path) (subst (λ (xs : List ℕ). AllPairs (λ x y. x ≢ y) xs) nodes p.apart);
        on_path = λ u c. p.on_path u (subst (λ (xs : List ℕ). Contains xs u) (sym nodes) (Contains-tail v (nodes_visited net arc.head path) u c));
        done = λ u is. elim (p.done u is) as (λ _. Contains (nodes_visited net arc.head path) u ⊎ IsNodeDone net values met u) [
          | inl c ↦ left u (subst (λ (xs : List ℕ). Contains xs u) nodes c)
          | inr d ↦ inr d
        ];
        target = p.target;
        source = λ is. absurd (other (p.source is));
      }
    where
      left : (u : ℕ) → Contains (v ∷ nodes_visited net arc.head path) u → Contains (nodes_visited net arc.head path) u ⊎ IsNodeDone net values met u
      left u (zero, lt, e) = inr (subst (λ z. IsNodeDone net values met z) e done)
      left u (suc i, lt, e) = inl (i, omega arith, e)

-- the values are the distances up to the target's
module _ (net : Net) (values : List (Option ℕ)) (s t far : ℕ) (ok : IsNetwork net) (of : AreFinal net s (Some far) values) (there : value_at values t ≡ Some far) where
  -- where all nodes that were met are done, all nodes of each least walk were met
  all_met : (met : List Bool) → ((u : ℕ) → IsMet met u → IsNodeDone net values met u) → IsMet met t → (v x : ℕ) (walk : List ℕ) → Walk net v t walk → value_at values v ≡ Some x → length_of net walk + x ≡ far → IsMet met v
  all_met met all target v x [] w near sum = subst (λ z. IsMet met z) (sym w.1) target
  all_met met all target v x (k ∷ walk) w near sum =
      let arc : RoadArc = w.0 in
      let next = onward net s far values v t k x arc walk of ok w.1 w.2 w.3 w.4 near there sum in
      let rest : length_of net walk + (x + arc.length) ≡ far = omega (arith, sum, length_is net k arc w.1, length_of-cons net k walk) in
      let head = all_met met all target arc.head (x + arc.length) walk w.4 next rest in
      let near_tail : value_at values arc.tail ≡ Some x = subst (λ z. value_at values z ≡ Some x) (sym w.3) near in
      subst (λ z. IsMet met z) w.3 (all arc.head head k arc (record { there = w.1; opened = w.2; head = refl; sum = (x, near_tail, next) }))

  -- so the path is not empty where it has to shrink
  pub not_stuck : (met : List Bool) (v : ℕ) → IsPath net values met s t far v [] → v ≢ s → IsNodeDone net values met v → ⊥
  not_stuck met v p other done =
      let least : Least net s t far = (of.right t far there (le_refl far)).1 in
      let walk = least.walked.0 in
      let zero_there = source_zero net s far values of (start_node net s t walk ok least.walked.1) in
      let sum : length_of net walk + 0 ≡ far = omega (arith, least.walked.2) in
      other (p.source (all_met met all p.target s 0 walk least.walked.1 zero_there sum))
    where
      all : (u : ℕ) → IsMet met u → IsNodeDone net values met u
      all u is = elim (p.done u is) as (λ _. IsNodeDone net values met u) [
        | inl c ↦ subst (λ z. IsNodeDone net values met z) (only_one v u c) done
        | inr d ↦ d
      ]

-- a way from a node of value 0 is a route, if the target's value is its distance
way_is_route : (net : Net) (values : List (Option ℕ)) (s t far : ℕ) (arcs : List ℕ) → IsWay net values s t far arcs → value_at values s ≡ Some 0 → Least net s t far → IsRoute net s t arcs
way_is_route net values s t far arcs way zero_there least =
    let both : Some way.long.0 ≡ Some 0 = sym way.long.1 ∙ zero_there in
    let none : way.long.0 ≡ 0 = cc in
    let sum : far ≡ length_of net arcs = omega (arith, none, way.long.2) in
    record { walks = way.walks; least = subst (λ (d : ℕ). Least net s t d) sum least; once = way.once }

-- .. as the source is, if the values are the distances up to the target's
pub starts_at_zero : (net : Net) (values : List (Option ℕ)) (s t far : ℕ) (arcs : List ℕ) → IsNetwork net → AreFinal net s (Some far) values → IsWay net values s t far arcs → value_at values s ≡ Some 0
starts_at_zero net values s t far arcs ok of way = source_zero net s far values of (start_node net s t arcs ok way.walks)

-- ---- the steps in the order in which they were taken

-- the arcs of the path
abbrev pub arcs_of : List Step → List ℕ
arcs_of steps = map (λ step. step.number) (reverse steps)

-- of the legs of the head of each step's arc, those that were looked at come from nodes that were met, if they are tight
abbrev pub AreSteps : Net → Groups → List (Option ℕ) → List Bool → List Step → Type 0
AreSteps net back values met steps = All (λ step. AreLegsLooked net back values met (head_of_arc net step.number) step.looked) steps

arcs_of-push : (steps : List Step) (step : Step) → arcs_of (steps ++ step ∷ []) ≡ step.number ∷ arcs_of steps
arcs_of-push steps step = ap (λ (l : List Step). map (λ (s : Step). s.number) l) (reverse-append steps (step ∷ []))

module _ (net : Net) (back : Groups) (values : List (Option ℕ)) where
  looked_none : (met : List Bool) (v : ℕ) → AreLegsLooked net back values met v 0
  looked_none met v i leg arc lt e tight = absurd (omega arith)

  looked_more : (met : List Bool) (w v looked : ℕ) → w < length met → AreLegsLooked net back values met v looked → AreLegsLooked net back values (set met w true) v looked
  looked_more met w v looked within l i leg arc lt e tight = met_kept met w arc.tail within (l i leg arc lt e tight)

  steps_more : (met : List Bool) (w : ℕ) (steps : List Step) → w < length met → AreSteps net back values met steps → AreSteps net back values (set met w true) steps
  steps_more met w steps within all j d lt = looked_more met w (head_of_arc net (get_or steps j d).number) (get_or steps j d).looked within (all j d lt)

-- where the search stands: at node v, of which so many legs were looked at, with these steps behind it
pub record IsAt (net : Net) (back : Groups) (values : List (Option ℕ)) (s t far : ℕ) (met : List Bool) (v looked : ℕ) (steps : List Step) : Type 0 where
  pub path : IsPath net values met s t far v (arcs_of steps)
  pub here : AreLegsLooked net back values met v looked
  pub each : AreSteps net back values met steps

module _ (net : Net) (back : Groups) (values : List (Option ℕ)) (s t far : ℕ) (ok : IsNetwork net) (node : IsNode net t) (there : value_at values t ≡ Some far) where
  pub begun : IsAt net back values s t far (set (replicate (net.nodes + 1) false) t true) t 0 []
  begun = record {
    path = start net values s t far ok node there;
    here = looked_none net back values (set (replicate (net.nodes + 1) false) t true) t;
    each = All-nil (λ step. AreLegsLooked net back values (set (replicate (net.nodes + 1) false) t true) (head_of_arc net step.number) step.looked);
  }

  pub taken : (met : List Bool) (v looked : ℕ) (steps : List Step) (step : Step) (arc : RoadArc) → IsAt net back values s t far met v looked steps → v ≢ s → IsTight net values v step.number arc → get_or met arc.tail false ≡ false → AreLegsLooked net back values met v step.looked → IsAt net back values s t far (set met arc.tail true) arc.tail 0 (steps ++ step ∷ [])
  taken met v looked steps step arc at other tight new here =
      let w = arc.tail in
      let among : IsArcAmong net.nodes arc = arc_among net step.number arc ok tight.there in
      let within : w < length met = omega (arith, at.path.places, among.tail_to) in
      let head : head_of_arc net step.number ≡ v = ap (λ o. option_map_or (λ (a : RoadArc). a.head) o 0) tight.there ∙ tight.head in
      let last : AreLegsLooked net back values (set met w true) (head_of_arc net step.number) step.looked = subst (λ u. AreLegsLooked net back values (set met w true) u step.looked) (sym head) (looked_more net back values met w v step.looked within here) in
      record {
        path = subst (λ (path : List ℕ). IsPath net values (set met w true) s t far w path) (sym (arcs_of-push steps step)) (push net values s t far ok node there met v step.number arc (arcs_of steps) at.path other tight new);
        here = looked_none net back values (set met w true) w;
        each = All-push (λ p. AreLegsLooked net back values (set met w true) (head_of_arc net p.number) p.looked) steps step (steps_more net back values met w steps within at.each) last;
      }

  pub given_back : (met : List Bool) (v looked : ℕ) (steps : List Step) (step : Step) (arc : RoadArc) → IsAt net back values s t far met v looked (steps ++ step ∷ []) → v ≢ s → IsNodeDone net values met v → arc_at net step.number ≡ Some arc → IsAt net back values s t far met arc.head step.looked steps
  given_back met v looked steps step arc at other done is =
      let path : IsPath net values met s t far v (step.number ∷ arcs_of steps) = subst (λ (path : List ℕ). IsPath net values met s t far v path) (arcs_of-push steps step) at.path in
      let both = All-pop (λ p. AreLegsLooked net back values met (head_of_arc net p.number) p.looked) (steps ++ step ∷ []) steps (Some step) refl at.each in
      let head : head_of_arc net step.number ≡ arc.head = ap (λ o. option_map_or (λ (a : RoadArc). a.head) o 0) is in
      record {
        path = pop net values s t far ok node there met v step.number arc (arcs_of steps) path other done is;
        here = subst (λ u. AreLegsLooked net back values met u step.looked) head both.1;
        each = both.0;
      }

  -- the last arc is one
  pub arc_of_last : (met : List Bool) (v looked : ℕ) (steps : List Step) (step : Step) → IsAt net back values s t far met v looked (steps ++ step ∷ []) → (arc : RoadArc) × (arc_at net step.number ≡ Some arc)
  arc_of_last met v looked steps step at =
      let path : IsPath net values met s t far v (step.number ∷ arcs_of steps) = subst (λ (path : List ℕ). IsPath net values met s t far v path) (arcs_of-push steps step) at.path in
      (path.walks.0, path.walks.1)

  -- where no step is left to be given back, the values are not the distances up to the target's
  pub never_stuck : (met : List Bool) (v looked : ℕ) (steps : List Step) → IsAt net back values s t far met v looked steps → steps ≡ [] → v ≢ s → IsNodeDone net values met v → IsKnownTo net s t values → ⊥
  never_stuck met v looked steps at none other done known =
      not_stuck net values s t far ok (up_to_there net s t far values known there) there met v (subst (λ (l : List Step). IsPath net values met s t far v (arcs_of l)) none at.path) other done

  pub ended : (met : List Bool) (v looked : ℕ) (steps : List Step) → IsAt net back values s t far met v looked steps → v ≡ s → IsWay net values s t far (arcs_of steps)
  ended met v looked steps at e = record {
    walks = subst (λ z. Walk net z t (arcs_of steps)) e at.path.walks;
    once = subst (λ z. AllPairs (λ x y. x ≢ y) (nodes_visited net z (arcs_of steps))) e at.path.apart;
    long = (at.path.long.0, subst (λ z. value_at values z ≡ Some at.path.long.0) e at.path.long.1, at.path.long.2);
  }

-- all routes are as long as the target is far
pub route_is_as_long : (net : Net) (s t far : ℕ) (arcs : List ℕ) → IsRoute net s t arcs → Least net s t far → length_of net arcs ≡ far
route_is_as_long net s t far arcs route least = least_is_one net s t (length_of net arcs) far route.least least

-- a way is told as a route, with its length
pub told_way : (net : Net) (values : List (Option ℕ)) (s t far : ℕ) (route : Route) → IsWay net values s t far route.arcs.items → value_at values s ≡ Some 0 → Least net s t far → route.length ≡ far → IsRouteTold net s t route
told_way net values s t far route way zero_there least same =
    let is = way_is_route net values s t far route.arcs.items way zero_there least in
    record { arcs = is; length = same ∙ sym (route_is_as_long net s t far route.arcs.items is least) }
