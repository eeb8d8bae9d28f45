-- More legs behind those of a node.
use Rattle.std.proofs.Common.{◌≡◌, ◌⊎◌, ◌∙◌, ℕ, suc, ◌+◌, ◌*◌, ◌/◌, ◌%◌, ◌<◌, ◌≤◌, Bool, true, false, ◌&&◌, not, List, [], ◌∷◌, ◌++◌, length, get_or, set, take, map, refl, ap, ap₂, inl, inr, sym, subst, arith, eqb, leb, max, append_assoc, append-nil, Contains, Global, ⊎_elim}
use Rattle.std.specs.List.{filter, flat_map, All}
use Rattle.std.proofs.lemmas.Bool.{cases_lt, cases_eq, and_right, and_left, ne_eqb, eq-eqb, le-leb}
use Rattle.std.proofs.lemmas.List.{get_or_past, get_or-map, get_or-set_other, get_or-set_same, length-map, length-set, map-append, map-set, take_more}
use Rattle.std.proofs.lemmas.List.Elements.{All-append, All-cons, All-contains, All-nil, Contains-append_cases, Contains-append_right, filter-append}
use Rattle.roadnet.specs.Net.{IsArcAmong}
use Rattle.roadnet.specs.declared.arcs.RoadArc.{RoadArc}
use Rattle.snapshot.specs.Appended.{AreLight, HasMore, arc_of}
use Rattle.snapshot.specs.Blocks.{block_parts, is_of_block, arcs_of_block, within_block, AreBlockParts}
use Rattle.snapshot.specs.Groups.{leg_of, legs_in, legs_of, part_place, is_in_part, greatest_length, IsGrouped}
use Rattle.snapshot.specs.declared.blocks.Block.{Block}
use Rattle.snapshot.specs.declared.legs.Leg.{Leg}
use Rattle.snapshot.specs.declared.legs.Part.{Part}
use Rattle.snapshot.specs.declared.legs.Part.TheVariants.{Light, Heavy}
use Rattle.snapshot.proofs.Blocked.{part-joined}
use Rattle.snapshot.proofs.Built.{arc_of_leg, filter_none, greatest_among, greatest_of_arcs}
use Rattle.snapshot.proofs.Grouped.{legs-block, passes}
use Rattle.snapshot.proofs.Narrowing.{with_parts}
use Rattle.snapshot.proofs.Shared.{parts_in, each_of}

-- ---- the legs of lists of arcs
pub legs_in-append : (xs ys : List RoadArc) (delta : ℕ) (part : Part) (u : ℕ) → legs_in (xs ++ ys) delta part u ≡ legs_in xs delta part u ++ legs_in ys delta part u
legs_in-append xs ys delta part u = ap (map leg_of) (filter-append (passes delta part u) xs ys) ∙ map-append leg_of (filter (passes delta part u) xs) (filter (passes delta part u) ys)

not_heavy : (delta u : ℕ) (arc : RoadArc) → arc.length ≤ delta → passes delta Heavy u arc ≡ false
not_heavy delta u arc short =
    let light : not (leb arc.length delta) ≡ false = ap not (le-leb arc.length delta short) in
    and_right arc.opened (eqb arc.tail u && not (leb arc.length delta)) (and_right (eqb arc.tail u) (not (leb arc.length delta)) light)

pub legs_in-short : (arcs : List RoadArc) (delta u : ℕ) → All (λ arc. arc.length ≤ delta) arcs → legs_in arcs delta Heavy u ≡ []
legs_in-short arcs delta u short = ap (map leg_of) (filter_none (passes delta Heavy u) arcs (λ k d h. not_heavy delta u (get_or arcs k d) (short k d h)))

pub legs_in-elsewhere : (arcs : List RoadArc) (delta u : ℕ) (part : Part) → All (λ arc. arc.tail ≡ u → ⊥) arcs → legs_in arcs delta part u ≡ []
legs_in-elsewhere arcs delta u part elsewhere =
    ap (map leg_of) (filter_none (passes delta part u) arcs (λ k d h.
    let arc : RoadArc = get_or arcs k d in
    and_right arc.opened (eqb arc.tail u && is_in_part delta part arc) (and_left (eqb arc.tail u) (is_in_part delta part arc) (ne_eqb arc.tail u (elsewhere k d h)))))

-- ---- the legs of one tail, as arcs
own_legs : (legs : List Leg) (t delta : ℕ) → ((leg : Leg) → Contains legs leg → leg.length ≤ delta) → legs_in (map (arc_of t) legs) delta Light t ≡ legs
own_legs [] t delta short = refl
own_legs (leg ∷ legs) t delta short =
    let here : passes delta Light t (arc_of t leg) ≡ true = ap₂ (λ (a b : Bool). a && b) (eq-eqb t t refl) (le-leb leg.length delta (short leg (0, omega arith, refl))) in
    rw here (ap (λ (l : List Leg). leg ∷ l) (own_legs legs t delta (λ other c. short other (Contains-append_right (leg ∷ []) legs other c))))

short_arcs : (legs : List Leg) (t delta : ℕ) → ((leg : Leg) → Contains legs leg → leg.length ≤ delta) → All (λ arc. arc.length ≤ delta) (map (arc_of t) legs)
short_arcs [] t delta short = All-nil (λ (arc : RoadArc). arc.length ≤ delta)
short_arcs (leg ∷ legs) t delta short = All-cons (λ (arc : RoadArc). arc.length ≤ delta) (arc_of t leg) (map (arc_of t) legs) (short leg (0, omega arith, refl)) (short_arcs legs t delta (λ other c. short other (Contains-append_right (leg ∷ []) legs other c)))

other_tails : (legs : List Leg) (t u : ℕ) → (t ≡ u → ⊥) → All (λ arc. arc.tail ≡ u → ⊥) (map (arc_of t) legs)
other_tails [] t u ne = All-nil (λ (arc : RoadArc). arc.tail ≡ u → ⊥)
other_tails (leg ∷ legs) t u ne = All-cons (λ (arc : RoadArc). arc.tail ≡ u → ⊥) (arc_of t leg) (map (arc_of t) legs) ne (other_tails legs t u ne)

pub low_tails : (legs : List Leg) (t : ℕ) → t ≤ 1023 → All (λ arc. arc.tail ≤ 1023) (map (arc_of t) legs)
low_tails [] t low = All-nil (λ (arc : RoadArc). arc.tail ≤ 1023)
low_tails (leg ∷ legs) t low = All-cons (λ (arc : RoadArc). arc.tail ≤ 1023) (arc_of t leg) (map (arc_of t) legs) low (low_tails legs t low)

-- the arcs have the legs of the tails below t, and no others
abbrev pub HasTails : List (List Leg) → ℕ → List RoadArc → Type 0
HasTails parts t arcs = (delta : ℕ) → AreLight delta parts → (part : Part) (u : ℕ) → (u < t → legs_in arcs delta part u ≡ get_or parts (part_place part u) []) × (t ≤ u → legs_in arcs delta part u ≡ [])

module _ (parts : List (List Leg)) (t : ℕ) (arcs : List RoadArc) (legs : List Leg) (is : legs ≡ get_or parts (part_place Light t) []) (has : HasTails parts t arcs) where
  module _ (delta : ℕ) (light : AreLight delta parts) where
    short : (leg : Leg) → Contains legs leg → leg.length ≤ delta
    short leg c = light.short t leg (subst (λ (l : List Leg). Contains l leg) is c)

    own : (part : Part) → legs_in (map (arc_of t) legs) delta part t ≡ get_or parts (part_place part t) []
    own Light = own_legs legs t delta short ∙ is
    own Heavy = legs_in-short (map (arc_of t) legs) delta t (short_arcs legs t delta short) ∙ sym (light.heavy t)

    at_tail : (part : Part) → legs_in (arcs ++ map (arc_of t) legs) delta part t ≡ get_or parts (part_place part t) []
    at_tail part = legs_in-append arcs (map (arc_of t) legs) delta part t ∙ ap₂ (λ (xs ys : List Leg). xs ++ ys) ((has delta light part t).1 (omega arith)) (own part)

    elsewhere : (part : Part) (u : ℕ) → (t ≡ u → ⊥) → legs_in (arcs ++ map (arc_of t) legs) delta part u ≡ legs_in arcs delta part u
    elsewhere part u ne =
        legs_in-append arcs (map (arc_of t) legs) delta part u
        ∙ (ap (λ (l : List Leg). legs_in arcs delta part u ++ l) (legs_in-elsewhere (map (arc_of t) legs) delta u part (other_tails legs t u ne)) ∙ append-nil (legs_in arcs delta part u))

  pub HasTails-more : HasTails parts (t + 1) (arcs ++ map (arc_of t) legs)
  HasTails-more delta light part u = (
    λ (low : u < t + 1).
        ⊎_elim
        (λ (here : t ≡ u). subst (λ n. legs_in (arcs ++ map (arc_of t) legs) delta part n ≡ get_or parts (part_place part n) []) here (at_tail delta light part))
        (λ (ne : t ≡ u → ⊥). elsewhere delta light part u ne ∙ (has delta light part u).0 (let lower : u < t = below t u low ne in lower))
        (cases_eq t u),
    λ (high : t + 1 ≤ u). elsewhere delta light part u (λ e. omega (arith, e, high)) ∙ (has delta light part u).1 (omega (arith, high)),
  )
    where
      below : (t u : ℕ) → u < t + 1 → (t ≡ u → ⊥) → u < t
      below t u low ne = ⊎_elim (λ (lt : u < t). lt) (λ (ge : t ≤ u). absurd (ne (omega (arith, low, ge)))) (cases_lt u t)

-- ---- one arc more in a block
pub HasMore-block : (arcs : List RoadArc) (arc : RoadArc) (delta : ℕ) (old new : List (List Leg)) → AreBlockParts arcs delta old → AreBlockParts (arcs ++ arc ∷ []) delta new → HasMore 1024 (arc ∷ []) delta old new
HasMore-block arcs arc delta old new was is part u low =
    is part u low ∙ (legs_in-append arcs (arc ∷ []) delta part u ∙ ap (λ (l : List Leg). l ++ legs_in (arc ∷ []) delta part u) (sym (was part u low)))

module _ (delta : ℕ) (blocks : List Block) (place : ℕ) (old new : Block) (arc : RoadArc) (h : place < length blocks) (is : old ≡ get_or blocks place old) (at : place ≡ arc.tail / 1024) (light : AreLight delta (flat_map parts_in blocks)) where
  read : (part : Part) (u : ℕ) → u < 1024 → get_or (flat_map parts_in blocks) (part_place part (place * 1024 + u)) [] ≡ get_or (parts_in old) (part_place part u) []
  read part u low =
      let by : (place * 1024 + u) / 1024 ≡ place = omega arith in
      let rest : (place * 1024 + u) % 1024 ≡ u = omega arith in
      let there : get_or (map parts_in blocks) place [] ≡ parts_in old = get_or-map parts_in blocks place old [] h ∙ ap parts_in (sym is) in
      rw (by, rest) at (part-joined parts_in each_of blocks part (place * 1024 + u) (omega arith)) ∙ ap (λ (l : List (List Leg)). get_or l (part_place part u) []) there

  past : (part : Part) (u : ℕ) → 1024 ≤ u → get_or (parts_in old) (part_place part u) [] ≡ []
  past Light u high = get_or_past (parts_in old) (2 * u) [] (omega (arith, each_of old))
  past Heavy u high = get_or_past (parts_in old) (2 * u + 1) [] (omega (arith, each_of old))

  pub AreLight-block : AreLight delta (parts_in old)
  AreLight-block = record {
    short = λ u leg c.
        ⊎_elim
        (λ (low : u < 1024). light.short (place * 1024 + u) leg (subst (λ (l : List Leg). Contains l leg) (sym (read Light u low)) c))
        (λ (high : 1024 ≤ u). absurd (let no : Contains [] leg = subst (λ (l : List Leg). Contains l leg) (past Light u high) c in omega (arith, no.1)))
        (cases_lt u 1024);
    heavy = λ u.
        ⊎_elim
        (λ (low : u < 1024). sym (read Heavy u low) ∙ light.heavy (place * 1024 + u))
        (λ (high : 1024 ≤ u). past Heavy u high)
        (cases_lt u 1024);
  }

  module _ (more : HasMore 1024 (within_block arc ∷ []) delta (parts_in old) (parts_in new)) where
    here : (part : Part) (u : ℕ) → u < 1024 → get_or (flat_map parts_in (set blocks place new)) (part_place part (place * 1024 + u)) [] ≡ get_or (flat_map parts_in blocks) (part_place part (place * 1024 + u)) [] ++ legs_in (arc ∷ []) delta part (place * 1024 + u)
    here part u low =
        let by : (place * 1024 + u) / 1024 ≡ place = omega arith in
        let rest : (place * 1024 + u) % 1024 ≡ u = omega arith in
        let of : is_of_block place arc ≡ true = eq-eqb (arc.tail / 1024) place (sym at) in
        let one : arcs_of_block place (arc ∷ []) ≡ within_block arc ∷ [] = rw of refl in
        let there : get_or (map parts_in (set blocks place new)) place [] ≡ parts_in new = ap (λ (l : List (List (List Leg))). get_or l place []) (map-set parts_in blocks place new) ∙ get_or-set_same (map parts_in blocks) place (parts_in new) [] (omega (arith, h, length-map blocks parts_in)) in
        rw (by, rest) at (part-joined parts_in each_of (set blocks place new) part (place * 1024 + u) (omega (arith, h, length-set blocks place new)))
        ∙ (ap (λ (l : List (List Leg)). get_or l (part_place part u) []) there
        ∙ (more part u low
        ∙ ap₂ (λ (xs ys : List Leg). xs ++ ys) (sym (read part u low)) (ap (λ (l : List RoadArc). legs_in l delta part u) (sym one) ∙ legs-block (arc ∷ []) delta part place u low)))

    in_others : (part : Part) (u : ℕ) → u / 1024 < length blocks → (u / 1024 ≡ place → ⊥) → get_or (flat_map parts_in (set blocks place new)) (part_place part u) [] ≡ get_or (flat_map parts_in blocks) (part_place part u) [] ++ legs_in (arc ∷ []) delta part u
    in_others part u low ne =
        let none : legs_in (arc ∷ []) delta part u ≡ [] = legs_in-elsewhere (arc ∷ []) delta u part (All-cons (λ (a : RoadArc). a.tail ≡ u → ⊥) arc [] (λ e. ne (ap (λ n. n / 1024) (sym e) ∙ sym at)) (All-nil (λ (a : RoadArc). a.tail ≡ u → ⊥))) in
        let there : get_or (map parts_in (set blocks place new)) (u / 1024) [] ≡ get_or (map parts_in blocks) (u / 1024) [] = ap (λ (l : List (List (List Leg))). get_or l (u / 1024) []) (map-set parts_in blocks place new) ∙ get_or-set_other (map parts_in blocks) place (u / 1024) (parts_in new) [] ne in
        part-joined parts_in each_of (set blocks place new) part u (omega (arith, low, length-set blocks place new))
        ∙ (ap (λ (l : List (List Leg)). get_or l (part_place part (u % 1024)) []) there
        ∙ (sym (part-joined parts_in each_of blocks part u low)
        ∙ (sym (append-nil (get_or (flat_map parts_in blocks) (part_place part u) [])) ∙ ap (λ (l : List Leg). get_or (flat_map parts_in blocks) (part_place part u) [] ++ l) (sym none))))

    pub HasMore-set : HasMore (length blocks * 1024) (arc ∷ []) delta (flat_map parts_in blocks) (flat_map parts_in (set blocks place new))
    HasMore-set part u low =
        ⊎_elim
        (λ (e : u / 1024 ≡ place).
        let node : place * 1024 + u % 1024 ≡ u = omega (arith, e) in
        rw node at (here part (u % 1024) (omega arith)))
        (λ (ne : u / 1024 ≡ place → ⊥). in_others part u (omega (arith, low)) ne)
        (cases_eq (u / 1024) place)

-- ---- more arcs, one after another
module _ (n delta : ℕ) (arcs : List RoadArc) (old new : List (List Leg)) (size : length new ≡ n * 2) (short : All (λ arc. arc.length ≤ delta) arcs) (light : AreLight delta old) (more : HasMore n arcs delta old new) where
  light_leg : (u : ℕ) (leg : Leg) → Contains (legs_in arcs delta Light u) leg → leg.length ≤ delta
  light_leg u leg c =
      let from = arc_of_leg arcs delta Light u leg c in
      omega (arith, All-contains (λ (a : RoadArc). a.length ≤ delta) arcs from.0 short from.2, ap (λ (l : Leg). l.length) from.3)

  beyond : (part : Part) (u : ℕ) → n ≤ u → get_or new (part_place part u) [] ≡ []
  beyond Light u high = get_or_past new (2 * u) [] (omega (arith, size))
  beyond Heavy u high = get_or_past new (2 * u + 1) [] (omega (arith, size))

  pub AreLight-more : AreLight delta new
  AreLight-more = record {
    short = λ u leg c.
        ⊎_elim
        (λ (low : u < n).
        ⊎_elim
        (λ (was : Contains (get_or old (part_place Light u) []) leg). light.short u leg was)
        (λ (is : Contains (legs_in arcs delta Light u) leg). light_leg u leg is)
        (Contains-append_cases (get_or old (part_place Light u) []) (legs_in arcs delta Light u) leg (subst (λ (l : List Leg). Contains l leg) (more Light u low) c)))
        (λ (high : n ≤ u). absurd (let no : Contains [] leg = subst (λ (l : List Leg). Contains l leg) (beyond Light u high) c in omega (arith, no.1)))
        (cases_lt u n);
    heavy = λ u.
        ⊎_elim
        (λ (low : u < n). more Heavy u low ∙ ap₂ (λ (xs ys : List Leg). xs ++ ys) (light.heavy u) (legs_in-short arcs delta u short))
        (λ (high : n ≤ u). beyond Heavy u high)
        (cases_lt u n);
  }

pub HasMore-onward : (n delta : ℕ) (some more : List RoadArc) (old mid new : List (List Leg)) → HasMore n some delta old mid → HasMore n more delta mid new → HasMore n (some ++ more) delta old new
HasMore-onward n delta some more old mid new first later part u low =
    later part u low
    ∙ (ap (λ (l : List Leg). l ++ legs_in more delta part u) (first part u low)
    ∙ (append_assoc (get_or old (part_place part u) []) (legs_in some delta part u) (legs_in more delta part u) ∙ ap (λ (l : List Leg). get_or old (part_place part u) [] ++ l) (sym (legs_in-append some more delta part u))))

pub All-more : {X : Type 0} (P : X → Type 0) (xs : List X) (i : ℕ) (d : X) → i < length xs → All P (take i xs) → P (get_or xs i d) → All P (take (i + 1) xs)
All-more {X} P xs i d h all one = subst (All P) (sym (take_more xs i d h)) (All-append P (take i xs) (get_or xs i d ∷ []) all (All-cons P (get_or xs i d) [] one (All-nil P)))

-- ---- groups with more legs
nothing_in : (legs : List Leg) → ((leg : Leg) → Contains legs leg → ⊥) → legs ≡ []
nothing_in [] none = refl
nothing_in (leg ∷ legs) none = absurd (none leg (0, omega arith, refl))

module _ (nodes delta greatest : ℕ) (old : List (List Leg)) (grouped : IsGrouped (with_parts nodes delta greatest old)) (low : greatest ≤ delta) where
  pub AreLight-groups : AreLight delta old
  unfolding legs_of
  AreLight-groups = record {
    short = λ u leg c. omega (arith, grouped.length Light u leg c, low);
    heavy = λ u. nothing_in (get_or old (part_place Heavy u) []) (λ leg c. omega (arith, grouped.longer u leg c, grouped.length Heavy u leg c, low));
  }

  module _ (n : ℕ) (fits : nodes < n) (new : List (List Leg)) (size : length new ≡ n * 2) (arcs : List RoadArc) (among : All (IsArcAmong nodes) arcs) (short : All (λ arc. arc.length ≤ delta) arcs) (more : HasMore n arcs delta old new) where
    none_of : (part : Part) (u : ℕ) → (u ≡ 0) ⊎ (nodes < u) → legs_in arcs delta part u ≡ []
    none_of part u stray =
        legs_in-elsewhere arcs delta u part (λ k d h e.
        let one = among k d h in
        ⊎_elim (λ (z : u ≡ 0). omega (arith, one.tail_from, e, z)) (λ (gt : nodes < u). omega (arith, one.tail_to, e, gt)) stray)

    stray_parts : (part : Part) (u : ℕ) → n ≤ u → get_or new (part_place part u) [] ≡ []
    stray_parts Light u high = get_or_past new (2 * u) [] (omega (arith, size))
    stray_parts Heavy u high = get_or_past new (2 * u + 1) [] (omega (arith, size))

    pub legs_more : (part : Part) (u : ℕ) → legs_of (with_parts nodes delta greatest new) part u ≡ legs_of (with_parts nodes delta greatest old) part u ++ legs_in arcs delta part u
    unfolding legs_of
    legs_more part u =
        ⊎_elim
        (λ (lt : u < n). more part u lt)
        (λ (ge : n ≤ u). stray_parts part u ge ∙ sym (ap₂ (λ (xs ys : List Leg). xs ++ ys) (grouped.beyond part u (omega (arith, fits, ge))) (none_of part u (inr (omega (arith, fits, ge))))))
        (cases_lt u n)

    stray_legs : (part : Part) (u : ℕ) → (u ≡ 0) ⊎ (nodes < u) → legs_of (with_parts nodes delta greatest old) part u ≡ [] → legs_of (with_parts nodes delta greatest new) part u ≡ []
    stray_legs part u stray was = legs_more part u ∙ ap₂ (λ (xs ys : List Leg). xs ++ ys) was (none_of part u stray)

    heavy_legs : (u : ℕ) → legs_of (with_parts nodes delta greatest new) Heavy u ≡ []
    unfolding legs_of
    heavy_legs u = legs_more Heavy u ∙ ap₂ (λ (xs ys : List Leg). xs ++ ys) (AreLight-groups.heavy u) (legs_in-short arcs delta u short)

    -- each leg is an older one, or of one of the arcs
    by_cases : (P : Leg → Type 0) (part : Part) (u : ℕ) (leg : Leg) → (Contains (legs_of (with_parts nodes delta greatest old) part u) leg → P leg) → ((arc : RoadArc) → Contains arcs arc → arc.opened ≡ true → P (leg_of arc)) → Contains (legs_of (with_parts nodes delta greatest new) part u) leg → P leg
    by_cases P part u leg was is c =
        ⊎_elim
        (λ (c : Contains (legs_of (with_parts nodes delta greatest old) part u) leg). was c)
        (λ (c : Contains (legs_in arcs delta part u) leg). let from = arc_of_leg arcs delta part u leg c in subst P from.3 (is from.0 from.2 from.1))
        (Contains-append_cases (legs_of (with_parts nodes delta greatest old) part u) (legs_in arcs delta part u) leg (subst (λ (l : List Leg). Contains l leg) (legs_more part u) c))

    pub IsGrouped-more : (g : ℕ) → g ≡ max greatest (greatest_length arcs) → IsGrouped (with_parts nodes delta g new)
    unfolding legs_of
    IsGrouped-more g is = record {
      nodes = grouped.nodes;
      some_node = grouped.some_node;
      delta = grouped.delta;
      greatest = omega (arith, is, grouped.greatest, greatest_of_arcs nodes arcs among);
      first = λ part. stray_legs part 0 (inl refl) (grouped.first part);
      beyond = λ part u beyond. stray_legs part u (inr beyond) (grouped.beyond part u beyond);
      longer = λ u leg c. absurd (let no : Contains [] leg = subst (λ (l : List Leg). Contains l leg) (heavy_legs u) c in omega (arith, no.1));
      low = λ part u leg. by_cases (λ (l : Leg). 1 ≤ l.head) part u leg (grouped.low part u leg) (λ arc c opened. (All-contains (IsArcAmong nodes) arcs arc among c).head_from);
      high = λ part u leg. by_cases (λ (l : Leg). l.head ≤ nodes) part u leg (grouped.high part u leg) (λ arc c opened. (All-contains (IsArcAmong nodes) arcs arc among c).head_to);
      length = λ part u leg. by_cases (λ (l : Leg). l.length ≤ g) part u leg (λ c. omega (arith, grouped.length part u leg c, is)) (λ arc c opened. omega (arith, greatest_among arcs 0 arc c opened, is));
    }
