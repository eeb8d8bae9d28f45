-- The parts of arcs that were grouped: the greatest length of their legs, and the arcs of one block.
use Rattle.std.proofs.Common.{◌≡◌, ◌∙◌, ℕ, zero, suc, ◌+◌, ◌*◌, ◌/◌, ◌%◌, ◌<◌, ◌≤◌, Bool, true, false, cond, ◌&&◌, List, [], ◌∷◌, length, get_or, take, map, refl, ap, ap₂, sym, subst, arith, eqb, leb, ⊎_elim, Contains}
use Rattle.std.specs.List.{filter, flat_map, All}
use Rattle.std.proofs.lemmas.Bool.{cases_lt, cases_eq, and_right, and_left, ne_eqb, eq-eqb, eqb-true, eqb-false}
use Rattle.std.proofs.lemmas.List.{get_or-take, length-take}
use Rattle.std.proofs.lemmas.List.Elements.{All-contains, Contains-append_cases, Contains-append_left, Contains-append_right}
use Rattle.roadnet.specs.declared.arcs.RoadArc.{RoadArc}
use Rattle.snapshot.specs.declared.legs.Leg.{Leg}
use Rattle.snapshot.specs.declared.legs.Part.{Part}
use Rattle.snapshot.specs.declared.legs.Part.TheVariants.{Light, Heavy}
use Rattle.snapshot.specs.Blocks.{is_of_block, within_block, arcs_of_block, greatest_leg, AreBlockParts}
use Rattle.snapshot.specs.Groups.{leg_of, part_place, legs_in, is_in_part, greatest_length, pieces}
use Rattle.snapshot.specs.Places.{AreLegsPlaced, AreStarts}
use Rattle.snapshot.proofs.Built.{Contains-map, Contains-filter, Contains-of_map, Contains-of_filter, greatest_among, arc_of_leg, part_at, legs_at-place}
use Rattle.snapshot.proofs.Greatest.{greatest_from_least, greatest_from_member}
use Rattle.snapshot.proofs.Grouping.{opens}
use Rattle.snapshot.proofs.Pieces.{length-pieces}

-- ---- members of lists
pub Contains-one : {X : Type 0} (y x : X) → Contains (y ∷ []) x → x ≡ y
Contains-one y x (zero, within, e) = sym e
Contains-one y x (suc k, within, e) = absurd (omega arith)

Contains-of_flat : {X : Type 0} (xss : List (List X)) (x : X) → Contains (flat_map (λ l. l) xss) x → (p : ℕ) × (p < length xss) × Contains (get_or xss p []) x
Contains-of_flat [] x (k, within, e) = absurd (omega arith)
Contains-of_flat {X} (xs ∷ xss) x h =
    ⊎_elim
    (λ (l : Contains xs x). (0, omega arith, l))
    (λ (r : Contains (flat_map (λ l. l) xss) x).
    let s : (p : ℕ) × (p < length xss) × Contains (get_or xss p []) x = Contains-of_flat xss x r in
    (suc s.0, omega (arith, s.1), s.2))
    (Contains-append_cases xs (flat_map (λ l. l) xss) x h)

Contains-flat : {X : Type 0} (xss : List (List X)) (p : ℕ) (x : X) → p < length xss → Contains (get_or xss p []) x → Contains (flat_map (λ l. l) xss) x
Contains-flat [] p x h c = absurd (omega arith)
Contains-flat (xs ∷ xss) zero x h c = Contains-append_left xs (flat_map (λ l. l) xss) x c
Contains-flat (xs ∷ xss) (suc p) x h c = Contains-append_right xs (flat_map (λ l. l) xss) x (Contains-flat xss p x (omega arith) c)

-- ---- the greatest length
part_of_place : (p n : ℕ) → p < 2 * n → (part : Part) × (u : ℕ) × (u < n) × (part_place part u ≡ p)
part_of_place p n h =
    ⊎_elim
    (λ (even : p % 2 < 1). (Light, p / 2, omega arith, omega arith))
    (λ (odd : 1 ≤ p % 2). (Heavy, p / 2, omega arith, omega arith))
    (cases_lt (p % 2) 1)

pub part_within : (part : Part) (u n : ℕ) → u < n → part_place part u < 2 * n
part_within Light u n h = omega arith
part_within Heavy u n h = omega arith

own_part : (arc : RoadArc) (delta : ℕ) (b : Bool) → leb arc.length delta ≡ b → (part : Part) × (is_in_part delta part arc ≡ true)
own_part arc delta true e = (Light, e)
own_part arc delta false e = (Heavy, rw e refl)

pub own_legs : (arcs : List RoadArc) (delta : ℕ) (part : Part) (arc : RoadArc) → Contains arcs arc → arc.opened ≡ true → is_in_part delta part arc ≡ true → Contains (legs_in arcs delta part arc.tail) (leg_of arc)
own_legs arcs delta part arc c opened here =
    let passes : RoadArc → Bool = λ (a : RoadArc). a.opened && (eqb a.tail arc.tail && is_in_part delta part a) in
    Contains-map leg_of (filter passes arcs) arc (Contains-filter passes arcs arc c (ap₂ (λ (s t : Bool). s && t) opened (ap₂ (λ (s t : Bool). s && t) (eq-eqb arc.tail arc.tail refl) here)))

module _ (arcs : List RoadArc) (delta n : ℕ) (parts : List (List Leg)) (size : length parts ≡ 2 * n) (tails : All (λ (a : RoadArc). a.tail < n) arcs) (groups : (part : Part) (u : ℕ) → u < n → get_or parts (part_place part u) [] ≡ legs_in arcs delta part u) where
  leg_at_most : (leg : Leg) → Contains (flat_map (λ (l : List Leg). l) parts) leg → leg.length ≤ greatest_length arcs
  leg_at_most leg h =
      let at : (p : ℕ) × (p < length parts) × Contains (get_or parts p []) leg = Contains-of_flat parts leg h in
      let of : (part : Part) × (u : ℕ) × (u < n) × (part_place part u ≡ at.0) = part_of_place at.0 n (omega (arith, at.1, size)) in
      let there : Contains (legs_in arcs delta of.0 of.1) leg = subst (λ (l : List Leg). Contains l leg) (ap (λ p. get_or parts p []) (sym of.3) ∙ groups of.0 of.1 of.2) at.2 in
      let from = arc_of_leg arcs delta of.0 of.1 leg there in
      omega (arith, greatest_among arcs 0 from.0 from.2 from.1, ap (λ (l : Leg). l.length) from.3)

  arc_at_most : (arc : RoadArc) → Contains arcs arc → arc.opened ≡ true → arc.length ≤ greatest_leg parts
  arc_at_most arc c opened =
      let own : (part : Part) × (is_in_part delta part arc ≡ true) = own_part arc delta (leb arc.length delta) refl in
      let low : arc.tail < n = All-contains (λ (a : RoadArc). a.tail < n) arcs arc tails c in
      let there : Contains (get_or parts (part_place own.0 arc.tail) []) (leg_of arc) = subst (λ (l : List Leg). Contains l (leg_of arc)) (sym (groups own.0 arc.tail low)) (own_legs arcs delta own.0 arc c opened own.1) in
      let among : Contains (flat_map (λ (l : List Leg). l) parts) (leg_of arc) = Contains-flat parts (part_place own.0 arc.tail) (leg_of arc) (omega (arith, part_within own.0 arc.tail n low, size)) there in
      greatest_from_member (map (λ (l : Leg). l.length) (flat_map (λ (l : List Leg). l) parts)) 0 arc.length (Contains-map (λ (l : Leg). l.length) (flat_map (λ (l : List Leg). l) parts) (leg_of arc) among)

  -- the greatest length of these legs is that of the open arcs
  pub greatest-groups : greatest_leg parts ≡ greatest_length arcs
  greatest-groups =
      let most : greatest_leg parts ≤ greatest_length arcs = greatest_from_least (map (λ (l : Leg). l.length) (flat_map (λ (l : List Leg). l) parts)) 0 (greatest_length arcs) (omega arith) (λ x h.
      let from : (leg : Leg) × Contains (flat_map (λ (l : List Leg). l) parts) leg × (leg.length ≡ x) = Contains-of_map (λ (l : Leg). l.length) (flat_map (λ (l : List Leg). l) parts) x h in
      omega (arith, leg_at_most from.0 from.1, from.2)) in
      let least : greatest_length arcs ≤ greatest_leg parts = greatest_from_least (map (λ (a : RoadArc). a.length) (filter opens arcs)) 0 (greatest_leg parts) (omega arith) (λ x h.
      let from : (a : RoadArc) × Contains (filter opens arcs) a × (a.length ≡ x) = Contains-of_map (λ (a : RoadArc). a.length) (filter opens arcs) x h in
      let there : Contains arcs from.0 × (opens from.0 ≡ true) = Contains-of_filter opens arcs from.0 from.1 in
      omega (arith, arc_at_most from.0 there.0 there.1, from.2)) in
      omega arith

-- ---- a block: the places where its parts begin, and its legs
abbrev pub cut : List ℕ → List Leg → List (List Leg)
cut starts legs = take 2048 (pieces starts legs)

pub AreBlockParts-block : (arcs : List RoadArc) (delta : ℕ) (starts : List ℕ) (legs : List Leg) → AreLegsPlaced arcs delta 1023 (length arcs) starts legs → AreBlockParts arcs delta (cut starts legs)
AreBlockParts-block arcs delta starts legs done part u h =
    get_or-take 2048 (pieces starts legs) (part_place part u) [] (part_within part u 1024 h) ∙ (part_at arcs delta 1023 starts legs done (part_place part u) (part_within part u 1024 h) ∙ legs_at-place arcs delta u part)

pub length-cut : (starts : List ℕ) (legs : List Leg) → AreStarts 1023 starts legs → length (cut starts legs) ≡ 2048
length-cut starts legs begin = omega (arith, length-take 2048 (pieces starts legs), length-pieces starts legs (omega (arith, begin.places)), begin.places)

pub greatest-block : (arcs : List RoadArc) (delta : ℕ) (starts : List ℕ) (legs : List Leg) → All (λ (a : RoadArc). a.tail ≤ 1023) arcs → AreStarts 1023 starts legs → AreLegsPlaced arcs delta 1023 (length arcs) starts legs → greatest_leg (cut starts legs) ≡ greatest_length arcs
greatest-block arcs delta starts legs tails begin done =
    greatest-groups arcs delta 1024 (cut starts legs) (length-cut starts legs begin) (λ k d h. omega (arith, tails k d h)) (AreBlockParts-block arcs delta starts legs done)

-- ---- the arcs of a block, and those of the network
same_tail : (block r : ℕ) (arc : RoadArc) → r < 1024 → is_of_block block arc ≡ true → eqb (arc.tail % 1024) r ≡ eqb arc.tail (block * 1024 + r)
same_tail block r arc h here =
    let of : arc.tail / 1024 ≡ block = eqb-true (arc.tail / 1024) block here in
    ⊎_elim
    (λ (e : arc.tail % 1024 ≡ r). eq-eqb (arc.tail % 1024) r e ∙ sym (eq-eqb arc.tail (block * 1024 + r) (omega arith)))
    (λ (ne : arc.tail % 1024 ≡ r → ⊥). ne_eqb (arc.tail % 1024) r ne ∙ sym (ne_eqb arc.tail (block * 1024 + r) (λ e. ne (omega arith))))
    (cases_eq (arc.tail % 1024) r)

other_tail : (block r : ℕ) (arc : RoadArc) → r < 1024 → is_of_block block arc ≡ false → eqb arc.tail (block * 1024 + r) ≡ false
other_tail block r arc h there =
    let not_of : arc.tail / 1024 ≡ block → ⊥ = eqb-false (arc.tail / 1024) block there in
    ne_eqb arc.tail (block * 1024 + r) (λ e. not_of (omega arith))

same_part : (delta : ℕ) (part : Part) (arc : RoadArc) → is_in_part delta part (within_block arc) ≡ is_in_part delta part arc
same_part delta Light arc = refl
same_part delta Heavy arc = refl

-- the test by which a node's legs of a part are found
abbrev pub passes : ℕ → Part → ℕ → RoadArc → Bool
passes delta part u arc = arc.opened && (eqb arc.tail u && is_in_part delta part arc)

same_passes : (delta : ℕ) (part : Part) (block r : ℕ) (arc : RoadArc) → r < 1024 → is_of_block block arc ≡ true → passes delta part r (within_block arc) ≡ passes delta part (block * 1024 + r) arc
same_passes delta part block r arc h here = ap₂ (λ (s t : Bool). arc.opened && (s && t)) (same_tail block r arc h here) (same_part delta part arc)

other_passes : (delta : ℕ) (part : Part) (block r : ℕ) (arc : RoadArc) → r < 1024 → is_of_block block arc ≡ false → passes delta part (block * 1024 + r) arc ≡ false
other_passes delta part block r arc h there = and_right arc.opened (eqb arc.tail (block * 1024 + r) && is_in_part delta part arc) (and_left (eqb arc.tail (block * 1024 + r)) (is_in_part delta part arc) (other_tail block r arc h there))

kept_or_not : (b : Bool) (x y : RoadArc) (xs ys : List RoadArc) → leg_of x ≡ leg_of y → map leg_of xs ≡ map leg_of ys → map leg_of (cond b (x ∷ xs) xs) ≡ map leg_of (cond b (y ∷ ys) ys)
kept_or_not true x y xs ys e same = ap₂ (λ (l : Leg) (ls : List Leg). l ∷ ls) e same
kept_or_not false x y xs ys e same = same

legs-block_more : (arc : RoadArc) (arcs : List RoadArc) (delta : ℕ) (part : Part) (block r : ℕ) (b : Bool) → r < 1024 → is_of_block block arc ≡ b → map leg_of (filter (passes delta part r) (arcs_of_block block arcs)) ≡ map leg_of (filter (passes delta part (block * 1024 + r)) arcs) → legs_in (arcs_of_block block (arc ∷ arcs)) delta part r ≡ legs_in (arc ∷ arcs) delta part (block * 1024 + r)
legs-block_more arc arcs delta part block r true h e rest =
    let first : arcs_of_block block (arc ∷ arcs) ≡ within_block arc ∷ arcs_of_block block arcs = rw e refl in
    ap (λ (l : List RoadArc). map leg_of (filter (passes delta part r) l)) first
    ∙ (ap (λ (t : Bool). map leg_of (cond t (within_block arc ∷ filter (passes delta part r) (arcs_of_block block arcs)) (filter (passes delta part r) (arcs_of_block block arcs)))) (same_passes delta part block r arc h e)
    ∙ kept_or_not (passes delta part (block * 1024 + r) arc) (within_block arc) arc (filter (passes delta part r) (arcs_of_block block arcs)) (filter (passes delta part (block * 1024 + r)) arcs) refl rest)
legs-block_more arc arcs delta part block r false h e rest =
    let first : arcs_of_block block (arc ∷ arcs) ≡ arcs_of_block block arcs = rw e refl in
    let skipped : filter (passes delta part (block * 1024 + r)) (arc ∷ arcs) ≡ filter (passes delta part (block * 1024 + r)) arcs = ap (λ (t : Bool). cond t (arc ∷ filter (passes delta part (block * 1024 + r)) arcs) (filter (passes delta part (block * 1024 + r)) arcs)) (other_passes delta part block r arc h e) in
    ap (λ (l : List RoadArc). map leg_of (filter (passes delta part r) l)) first ∙ (rest ∙ ap (map leg_of) (sym skipped))

pub legs-block : (arcs : List RoadArc) (delta : ℕ) (part : Part) (block r : ℕ) → r < 1024 → legs_in (arcs_of_block block arcs) delta part r ≡ legs_in arcs delta part (block * 1024 + r)
legs-block [] delta part block r h = refl
legs-block (arc ∷ arcs) delta part block r h = legs-block_more arc arcs delta part block r (is_of_block block arc) h refl (legs-block arcs delta part block r h)
