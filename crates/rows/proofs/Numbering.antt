-- The arcs with their numbers, by their heads.
use Rattle.std.proofs.Common.{◌≡◌, ◌∙◌, ℕ, zero, suc, ◌+◌, ◌-◌, ◌<◌, ◌≤◌, ◌^◌, inl, inr, List, [], ◌∷◌, ◌++◌, drop, length, get_or, take, Contains, None, Some, slice_get, refl, sym, ap, ap₂, subst, arith, ⊎_elim}
use Rattle.std.specs.List.{All}
use Rattle.std.proofs.lemmas.Bool.{cases_lt, le-leb}
use Rattle.std.proofs.lemmas.List.{get_or-drop, get_or_default, length-drop, take_more}
use Rattle.std.proofs.lemmas.List.Elements.{All-contains, Contains-append_left, Contains-append_right}
use Rattle.std.proofs.lemmas.Option.{get_or_from_slice_get, slice_get-get_or, slice_get_within}
use Rattle.roadnet.specs.Net.{Net, IsNetwork, IsArcAmong, arc_at, longest_arc}
use Rattle.roadnet.specs.Ends.{KeepsEnds}
use Rattle.roadnet.specs.declared.arcs.RoadArc.{RoadArc}
use Rattle.roadnet.proofs.Apart.{arc_among}
use Rattle.roadnet.proofs.EndsKept.{KeepsEnds-onward, KeepsEnds-same, ends_were_the_same}
use Rattle.snapshot.specs.Groups.{Groups, legs_in, legs_of, IsGrouped, IsSnapshotOf}
use Rattle.snapshot.specs.declared.legs.Leg.{Leg}
use Rattle.snapshot.specs.declared.legs.Part.{Part}
use Rattle.snapshot.specs.declared.legs.Part.TheVariants.{Light, Heavy}
use Rattle.snapshot.proofs.Grouped.{own_legs}
use Rattle.deltastep.specs.Repair.{AreTails}
use Rattle.deltastep.proofs.Finishing.{leg_of_arc, arc_of_leg}
use Rattle.rows.specs.Backs.{back_numbered, numbered_back, numbered_from, numbered_leg, IsNumbered, LeadsBack}

pub length-numbered : (n : ℕ) (arcs : List RoadArc) → length (numbered_from n arcs) ≡ length arcs
length-numbered n [] = refl
length-numbered n (arc ∷ arcs) = ap suc (length-numbered (suc n) arcs)

-- the arc at a place has the number of the place and one more
pub get_or-numbered : (n : ℕ) (arcs : List RoadArc) (k : ℕ) (d e : RoadArc) → k < length arcs → get_or (numbered_from n arcs) k d ≡ back_numbered (n + k) (get_or arcs k e)
get_or-numbered n [] k d e h = absurd (omega (arith, h))
get_or-numbered n (arc ∷ arcs) zero d e h =
    let sum : n ≡ n + 0 = omega arith in
    ap (λ (m : ℕ). back_numbered m arc) sum
get_or-numbered n (arc ∷ arcs) (suc k) d e h =
    let sum : suc n + k ≡ n + suc k = omega arith in
    get_or-numbered (suc n) arcs k d e (omega (arith, h)) ∙ ap (λ (m : ℕ). back_numbered m (get_or arcs k e)) sum

-- one arc more of those from the place n on
pub one_more : (arcs : List RoadArc) (n i : ℕ) (all new : List RoadArc) (arc : RoadArc) → n ≤ i → i < length arcs → all ≡ take (i - n) (drop n (numbered_from 1 arcs)) → get_or (numbered_from 1 arcs) i arc ≡ arc → new ≡ all ++ arc ∷ [] → new ≡ take (i + 1 - n) (drop n (numbered_from 1 arcs))
one_more arcs n i all new arc from within sofar is pushed =
    let next : i + 1 - n ≡ i - n + 1 = omega (arith, from) in
    let at : n + (i - n) ≡ i = omega (arith, from) in
    let inside : i - n < length (drop n (numbered_from 1 arcs)) = omega (arith, length-drop n (numbered_from 1 arcs), length-numbered 1 arcs, from, within) in
    let here : get_or (drop n (numbered_from 1 arcs)) (i - n) arc ≡ arc = get_or-drop n (numbered_from 1 arcs) (i - n) arc ∙ (ap (λ k. get_or (numbered_from 1 arcs) k arc) at ∙ is) in
    pushed
    ∙ (ap₂ (λ (xs : List RoadArc) (x : RoadArc). xs ++ x ∷ []) sofar (sym here)
    ∙ (sym (take_more (drop n (numbered_from 1 arcs)) (i - n) arc inside) ∙ ap (λ k. take k (drop n (numbered_from 1 arcs))) (sym next)))

numbered-among : (nodes n : ℕ) (arcs : List RoadArc) → n + length arcs ≤ 2 ^ 26 + 1 → All (IsArcAmong nodes) arcs → All (IsArcAmong nodes) (numbered_from n arcs)
numbered-among nodes n arcs few among k d h =
    let within : k < length arcs = omega (arith, h, length-numbered n arcs) in
    let one = among k d within in
    subst (IsArcAmong nodes) (sym (get_or-numbered n arcs k d d within)) (record { tail_from = one.head_from; tail_to = one.head_to; head_from = one.tail_from; head_to = one.tail_to; length_to = omega (arith, few, within) })

pub IsNetwork-numbered : (net : Net) → IsNetwork net → IsNetwork (numbered_back net)
IsNetwork-numbered net ok = record {
  some_node = ok.some_node;
  nodes_to = ok.nodes_to;
  arcs_to = omega (arith, length-numbered 1 net.arcs, ok.arcs_to);
  room_to = ok.room_to;
  each_arc = numbered-among net.nodes 1 net.arcs (omega (arith, ok.arcs_to, ok.room_to)) ok.each_arc;
  each_landmark = ok.each_landmark;
  ascending = ok.ascending;
  landmarks_to = ok.landmarks_to;
}

slice_get-numbered : (n : ℕ) (arcs : List RoadArc) (k : ℕ) (arc : RoadArc) → slice_get arcs k ≡ Some arc → slice_get (numbered_from n arcs) k ≡ Some (back_numbered (n + k) arc)
slice_get-numbered n [] k arc e = absurd (let absurdity : ⊥ = cc in absurdity)
slice_get-numbered n (a ∷ arcs) zero arc e =
    let same : a ≡ arc = cc in
    let sum : n ≡ n + 0 = omega arith in
    ap (λ (x : RoadArc). Some (back_numbered n x)) same ∙ ap (λ (m : ℕ). Some (back_numbered m arc)) sum
slice_get-numbered n (a ∷ arcs) (suc k) arc e =
    let sum : suc n + k ≡ n + suc k = omega arith in
    slice_get-numbered (suc n) arcs k arc e ∙ ap (λ (m : ℕ). Some (back_numbered m arc)) sum

arc_at-numbered : (net turned : Net) (k : ℕ) (arc : RoadArc) → turned.arcs ≡ numbered_from 1 net.arcs → arc_at net k ≡ Some arc → arc_at turned k ≡ Some (back_numbered k arc)
arc_at-numbered net turned zero arc is at = absurd (let no : None ≡ Some arc = at in let absurdity : ⊥ = cc in absurdity)
arc_at-numbered net turned (suc k) arc is at =
    let sum : 1 + k ≡ suc k = omega arith in
    subst (λ (l : List RoadArc). slice_get l k ≡ Some (back_numbered (suc k) arc)) (sym is) (slice_get-numbered 1 net.arcs k arc at ∙ ap (λ (m : ℕ). Some (back_numbered m arc)) sum)

few : (net : Net) (k : ℕ) (arc : RoadArc) → IsNetwork net → arc_at net k ≡ Some arc → k ≤ 2 ^ 26
few net zero arc ok at = omega arith
few net (suc k) arc ok at = omega (arith, slice_get_within net.arcs k arc at, ok.arcs_to, ok.room_to)

IsNumbered-grouped : (net whole turned : Net) (back : Groups) → IsNetwork whole → IsGrouped back → IsSnapshotOf turned back → back.nodes ≡ whole.nodes → back.delta ≡ longest_arc → turned.arcs ≡ numbered_from 1 whole.arcs → KeepsEnds net whole → IsNumbered net back
IsNumbered-grouped net whole turned back ok grouped snapshot nodes delta is keeps = record { each = each }
  where
    light : (v : ℕ) (part : Part) (leg : Leg) → leg.length ≤ 2 ^ 26 → Contains (legs_of back part v) leg → Contains (legs_of back Light v) leg
    light v Light leg short c = c
    light v Heavy leg short c = absurd (omega (arith, grouped.longer v leg c))

    each : (k : ℕ) (arc : RoadArc) → arc_at net k ≡ Some arc → Contains (legs_of back Light arc.head) (numbered_leg k arc)
    each k arc at =
        let there = keeps.ends k arc at in
        let other : RoadArc = there.0 in
        let among : IsArcAmong whole.nodes other = arc_among whole k other ok there.1 in
        let at_turned = arc_at-numbered whole turned k other is there.1 in
        let l = leg_of_arc turned back snapshot grouped k other.head (back_numbered k other) among.head_from (omega (arith, among.head_to, nodes)) at_turned refl refl in
        let c : Contains (legs_of back Light other.head) (numbered_leg k other) = light other.head l.0 (numbered_leg k other) (few whole k other ok there.1) l.1 in
        let by_head : Contains (legs_of back Light arc.head) (numbered_leg k other) = subst (λ (v : ℕ). Contains (legs_of back Light v) (numbered_leg k other)) there.3 c in
        subst (λ (u : ℕ). let leg : Leg = record { head = u; length = k } in Contains (legs_of back Light arc.head) leg) there.2 by_head

-- so there is a leg back for each leg
AreTails-numbered : (net : Net) (groups back : Groups) → IsGrouped groups → IsSnapshotOf net groups → IsNumbered net back → AreTails back groups
AreTails-numbered net groups back grouped snapshot numbers part zero leg c = absurd (let no : Contains [] leg = subst (λ (l : List Leg). Contains l leg) (grouped.first part) c in let absurdity : ⊥ = omega (arith, no.1) in absurdity)
AreTails-numbered net groups back grouped snapshot numbers part (suc u) leg c =
    let a = arc_of_leg net groups snapshot grouped part (suc u) leg (omega arith) within c in
    let arc : RoadArc = a.1 in
    let head : arc.head ≡ leg.head = ap (λ (l : Leg). l.head) a.5 in
    let there = subst (λ (v : ℕ). Contains (legs_of back Light v) (numbered_leg a.0 arc)) head (numbers.each a.0 arc a.2) in
    (Light, numbered_leg a.0 arc, there, a.4)
  where
    within : suc u ≤ groups.nodes
    within = elim (cases_lt groups.nodes (suc u)) as (λ _. suc u ≤ groups.nodes) [
      | inl beyond ↦ absurd (let no : Contains [] leg = subst (λ (l : List Leg). Contains l leg) (grouped.beyond part (suc u) beyond) c in let absurdity : ⊥ = omega (arith, no.1) in absurdity)
      | inr le ↦ omega arith
    ]

-- what is grouped so leads back along the legs of the network and of those that it came from by commands, and has their arcs with their numbers
pub grouped_back : (whole turned : Net) (back : Groups) → IsNetwork whole → IsGrouped back → IsSnapshotOf turned back → turned.nodes ≡ whole.nodes → back.delta ≡ longest_arc → turned.arcs ≡ numbered_from 1 whole.arcs → LeadsBack whole back
grouped_back whole turned back ok grouped snapshot nodes delta is =
    let same : back.nodes ≡ whole.nodes = snapshot.nodes ∙ nodes in
    let numbers : (net : Net) → KeepsEnds net whole → IsNumbered net back = λ net keeps. IsNumbered-grouped net whole turned back ok grouped snapshot same delta is keeps in
    record { nodes = same; tails = λ older groups of legs keeps. AreTails-numbered older groups back of legs (numbers older keeps); numbers = numbers }

-- ---- where arcs were laid
pub laid-among : (new : Net) (n : ℕ) → IsNetwork new → All (IsArcAmong new.nodes) (drop n (numbered_from 1 new.arcs))
laid-among new n ok k d h =
    subst (IsArcAmong new.nodes) (sym (get_or-drop n (numbered_from 1 new.arcs) k d)) ((IsNetwork-numbered new ok).each_arc (n + k) d (omega (arith, h, length-drop n (numbered_from 1 new.arcs))))

module _ (old new : Net) (ok : IsNetwork new) (keeps : KeepsEnds old new) (back more : Groups) (leads : LeadsBack old back) (laid : List RoadArc) (is : laid ≡ drop (length old.arcs) (numbered_from 1 new.arcs)) (nodes : more.nodes ≡ back.nodes) (short : All (λ arc. arc.length ≤ back.delta) laid) (legs : (part : Part) (u : ℕ) → legs_of more part u ≡ legs_of back part u ++ legs_in laid back.delta part u) where
  -- an arc that was there, by what it is in the newer network
  earlier : (p : ℕ) (arc : RoadArc) → arc_at new (suc p) ≡ Some arc → p < length old.arcs → Contains (legs_of more Light arc.head) (numbered_leg (suc p) arc)
  earlier p arc at h =
      let was : RoadArc = get_or old.arcs p arc in
      let there = keeps.ends (suc p) was (slice_get-get_or old.arcs p arc h) in
      let same : there.0 ≡ arc = let e : Some there.0 ≡ Some arc = sym there.1 ∙ at in cc in
      let tail : was.tail ≡ arc.tail = sym there.2 ∙ ap (λ (a : RoadArc). a.tail) same in
      let head : was.head ≡ arc.head = sym there.3 ∙ ap (λ (a : RoadArc). a.head) same in
      let c : Contains (legs_of back Light was.head) (numbered_leg (suc p) was) = (leads.numbers old (KeepsEnds-same old)).each (suc p) was (slice_get-get_or old.arcs p arc h) in
      let by_head : Contains (legs_of back Light arc.head) (numbered_leg (suc p) was) = subst (λ (v : ℕ). Contains (legs_of back Light v) (numbered_leg (suc p) was)) head c in
      let own : Contains (legs_of back Light arc.head) (numbered_leg (suc p) arc) = subst (λ (u : ℕ). let leg : Leg = record { head = u; length = suc p } in Contains (legs_of back Light arc.head) leg) tail by_head in
      subst (λ (l : List Leg). Contains l (numbered_leg (suc p) arc)) (sym (legs Light arc.head)) (Contains-append_left (legs_of back Light arc.head) (legs_in laid back.delta Light arc.head) (numbered_leg (suc p) arc) own)

  -- one that was laid since
  later : (p : ℕ) (arc : RoadArc) → arc_at new (suc p) ≡ Some arc → length old.arcs ≤ p → Contains (legs_of more Light arc.head) (numbered_leg (suc p) arc)
  later p arc at h =
      let within : p < length new.arcs = slice_get_within new.arcs p arc at in
      let k : ℕ = p - length old.arcs in
      let sum : length old.arcs + k ≡ p = omega (arith, h) in
      let num : 1 + p ≡ suc p = omega arith in
      let long : length laid ≡ length new.arcs - length old.arcs = ap length is ∙ (length-drop (length old.arcs) (numbered_from 1 new.arcs) ∙ ap (λ n. n - length old.arcs) (length-numbered 1 new.arcs)) in
      let turned : RoadArc = back_numbered (suc p) arc in
      let found : get_or laid k turned ≡ turned = ap (λ (l : List RoadArc). get_or l k turned) is ∙ (get_or-drop (length old.arcs) (numbered_from 1 new.arcs) k turned ∙ (ap (λ n. get_or (numbered_from 1 new.arcs) n turned) sum ∙ (get_or-numbered 1 new.arcs p turned arc within ∙ (ap (λ n. back_numbered n (get_or new.arcs p arc)) num ∙ ap (back_numbered (suc p)) (get_or_from_slice_get new.arcs p arc arc at))))) in
      let inside : k < length laid = omega (arith, long, within, h) in
      let c : Contains laid turned = (k, inside, get_or_default laid k turned turned inside ∙ found) in
      let light : turned.length ≤ back.delta = All-contains (λ (a : RoadArc). a.length ≤ back.delta) laid turned short c in
      let own : Contains (legs_in laid back.delta Light arc.head) (numbered_leg (suc p) arc) = own_legs laid back.delta Light turned c refl (le-leb (suc p) back.delta light) in
      subst (λ (l : List Leg). Contains l (numbered_leg (suc p) arc)) (sym (legs Light arc.head)) (Contains-append_right (legs_of back Light arc.head) (legs_in laid back.delta Light arc.head) (numbered_leg (suc p) arc) own)

  each_of_new : (k : ℕ) (arc : RoadArc) → arc_at new k ≡ Some arc → Contains (legs_of more Light arc.head) (numbered_leg k arc)
  each_of_new zero arc at = absurd (let no : None ≡ Some arc = at in let absurdity : ⊥ = cc in absurdity)
  each_of_new (suc p) arc at = ⊎_elim (λ (lt : p < length old.arcs). earlier p arc at lt) (λ (ge : length old.arcs ≤ p). later p arc at ge) (cases_lt p (length old.arcs))

  numbers_of : (older : Net) → KeepsEnds older new → IsNumbered older more
  numbers_of older kept = record {
    each = λ k arc at.
        let there = kept.ends k arc at in
        let c = each_of_new k there.0 there.1 in
        let by_head = subst (λ (v : ℕ). Contains (legs_of more Light v) (numbered_leg k there.0)) there.3 c in
        subst (λ (u : ℕ). let leg : Leg = record { head = u; length = k } in Contains (legs_of more Light arc.head) leg) there.2 by_head;
  }

  pub leads_further : LeadsBack new more
  leads_further = record {
    nodes = nodes ∙ (leads.nodes ∙ sym keeps.nodes);
    tails = λ older groups grouped of kept. AreTails-numbered older groups more grouped of (numbers_of older kept);
    numbers = numbers_of;
  }

-- what leads back in a network leads back in a later one that has no more arcs
pub leads_on : (old new : Net) (back : Groups) → KeepsEnds old new → length new.arcs ≡ length old.arcs → LeadsBack old back → LeadsBack new back
leads_on old new back keeps many leads = record {
  nodes = leads.nodes ∙ sym keeps.nodes;
  tails = λ older groups grouped is kept. leads.tails older groups grouped is (KeepsEnds-onward older new old kept (ends_were_the_same old new keeps many));
  numbers = λ older kept. leads.numbers older (KeepsEnds-onward older new old kept (ends_were_the_same old new keeps many));
}
