-- The same legs for narrower buckets, parted as they were or all of a node's in its light part.
use Rattle.std.proofs.Common.{◌≡◌, ◌∙◌, ℕ, zero, suc, ◌+◌, ◌-◌, ◌*◌, ◌≤◌, ◌<◌, Bool, true, false, List, [], ◌∷◌, ◌++◌, get_or, Contains, refl, sym, subst, ap₂, arith, append-nil, ⊎_elim}
use Rattle.std.proofs.lemmas.List.Elements.{Contains-append_left, Contains-append_right, Contains-append_cases}
use Rattle.snapshot.specs.Groups.{Groups, IsGrouped, IsNarrowed, all_legs, joined_parts, legs_of, part_place, parts_of}
use Rattle.snapshot.specs.declared.legs.Leg.{Leg}
use Rattle.snapshot.specs.declared.legs.Part.{Part}
use Rattle.snapshot.specs.declared.legs.Part.TheVariants.{Light, Heavy}

-- a leg of node u, of either part
pub record LegOf (groups : Groups) (u : ℕ) (leg : Leg) : Type 0 where
  pub part : Part
  pub among : Contains (legs_of groups part u) leg

among_all : (groups : Groups) (u : ℕ) (leg : Leg) (part : Part) → Contains (legs_of groups part u) leg → Contains (all_legs groups u) leg
among_all groups u leg Light c = Contains-append_left (legs_of groups Light u) (legs_of groups Heavy u) leg c
among_all groups u leg Heavy c = Contains-append_right (legs_of groups Light u) (legs_of groups Heavy u) leg c

of_all : (groups : Groups) (u : ℕ) (leg : Leg) → Contains (all_legs groups u) leg → LegOf groups u leg
of_all groups u leg c =
    ⊎_elim
    (λ (light : Contains (legs_of groups Light u) leg). record { part = Light; among = light })
    (λ (heavy : Contains (legs_of groups Heavy u) leg). record { part = Heavy; among = heavy })
    (Contains-append_cases (legs_of groups Light u) (legs_of groups Heavy u) leg c)

-- no leg is new, and none is gone
pub LegOf-wide : (wide narrow : Groups) → IsNarrowed wide narrow → (u : ℕ) (leg : Leg) (part : Part) → Contains (legs_of narrow part u) leg → LegOf wide u leg
LegOf-wide wide narrow is u leg part c = of_all wide u leg (subst (λ (l : List Leg). Contains l leg) (is.legs u) (among_all narrow u leg part c))

pub LegOf-narrow : (wide narrow : Groups) → IsNarrowed wide narrow → (u : ℕ) (leg : Leg) (part : Part) → Contains (legs_of wide part u) leg → LegOf narrow u leg
LegOf-narrow wide narrow is u leg part c = of_all narrow u leg (subst (λ (l : List Leg). Contains l leg) (sym (is.legs u)) (among_all wide u leg part c))

pub light_at : (parts : List (List Leg)) (p u : ℕ) → p ≡ 2 * u → get_or (joined_parts parts) p [] ≡ get_or parts p [] ++ get_or parts (p + 1) []
light_at [] p u e = refl
light_at (light ∷ []) zero u e = sym (append-nil light)
light_at (light ∷ []) (suc p) u e = let next : suc p + 1 ≡ suc (p + 1) = omega arith in rw next refl
light_at (light ∷ (heavy ∷ parts)) zero u e = refl
light_at (light ∷ (heavy ∷ parts)) (suc zero) u e = absurd (omega (arith, e))
light_at (light ∷ (heavy ∷ parts)) (suc (suc p)) u e = let next : suc (suc p) + 1 ≡ suc (suc (p + 1)) = omega arith in rw next (light_at parts p (u - 1) (omega (arith, e)))

pub heavy_at : (parts : List (List Leg)) (p u : ℕ) → p ≡ 2 * u + 1 → get_or (joined_parts parts) p [] ≡ []
heavy_at [] p u e = refl
heavy_at (light ∷ []) zero u e = absurd (omega (arith, e))
heavy_at (light ∷ []) (suc p) u e = refl
heavy_at (light ∷ (heavy ∷ parts)) zero u e = absurd (omega (arith, e))
heavy_at (light ∷ (heavy ∷ parts)) (suc zero) u e = refl
heavy_at (light ∷ (heavy ∷ parts)) (suc (suc p)) u e = heavy_at parts p (u - 1) (omega (arith, e))

-- what is read of the same parts is the same, narrowed or not
pub parts_agree : (b : Bool) (xs ys : List (List Leg)) (u v : ℕ) → ((part : Part) → get_or xs (part_place part u) [] ≡ get_or ys (part_place part v) []) → (part : Part) → get_or (parts_of b xs) (part_place part u) [] ≡ get_or (parts_of b ys) (part_place part v) []
parts_agree false xs ys u v same part = same part
parts_agree true xs ys u v same Light = light_at xs (2 * u) u refl ∙ (ap₂ (λ (a b : List Leg). a ++ b) (same Light) (same Heavy) ∙ sym (light_at ys (2 * v) v refl))
parts_agree true xs ys u v same Heavy = heavy_at xs (2 * u + 1) u refl ∙ sym (heavy_at ys (2 * v + 1) v refl)

abbrev pub with_parts : ℕ → ℕ → ℕ → List (List Leg) → Groups
with_parts nodes delta greatest parts = record { nodes = nodes; delta = delta; greatest = greatest; parts = parts }

module _ (nodes delta greatest narrow : ℕ) (parts : List (List Leg)) where
  light_is : (u : ℕ) → legs_of (with_parts nodes narrow greatest (joined_parts parts)) Light u ≡ legs_of (with_parts nodes delta greatest parts) Light u ++ legs_of (with_parts nodes delta greatest parts) Heavy u
  unfolding legs_of
  light_is u = light_at parts (2 * u) u refl

  heavy_is : (u : ℕ) → legs_of (with_parts nodes narrow greatest (joined_parts parts)) Heavy u ≡ []
  unfolding legs_of
  heavy_is u = heavy_at parts (2 * u + 1) u refl

  none_heavy : (u : ℕ) (leg : Leg) → Contains (legs_of (with_parts nodes narrow greatest (joined_parts parts)) Heavy u) leg → ⊥
  none_heavy u leg c = let none : Contains [] leg = subst (λ (l : List Leg). Contains l leg) (heavy_is u) c in let absurdity : ⊥ = omega (arith, none.1) in absurdity

  same_legs : (u : ℕ) → all_legs (with_parts nodes narrow greatest (joined_parts parts)) u ≡ all_legs (with_parts nodes delta greatest parts) u
  same_legs u = ap₂ (λ (a b : List Leg). a ++ b) (light_is u) (heavy_is u) ∙ append-nil (all_legs (with_parts nodes delta greatest parts) u)

  was : (part : Part) (u : ℕ) (leg : Leg) → Contains (legs_of (with_parts nodes narrow greatest (joined_parts parts)) part u) leg → LegOf (with_parts nodes delta greatest parts) u leg
  was part u leg c = of_all (with_parts nodes delta greatest parts) u leg (subst (λ (l : List Leg). Contains l leg) (same_legs u) (among_all (with_parts nodes narrow greatest (joined_parts parts)) u leg part c))

  none_of : IsGrouped (with_parts nodes delta greatest parts) → (u : ℕ) → ((part : Part) → legs_of (with_parts nodes delta greatest parts) part u ≡ []) → (part : Part) → legs_of (with_parts nodes narrow greatest (joined_parts parts)) part u ≡ []
  none_of grouped u none Light = light_is u ∙ ap₂ (λ (a b : List Leg). a ++ b) (none Light) (none Heavy)
  none_of grouped u none Heavy = heavy_is u

  pub IsGrouped-joined : IsGrouped (with_parts nodes delta greatest parts) → 1 ≤ narrow → IsGrouped (with_parts nodes narrow greatest (joined_parts parts))
  IsGrouped-joined grouped positive = record {
    nodes = grouped.nodes;
    some_node = grouped.some_node;
    delta = positive;
    greatest = grouped.greatest;
    first = none_of grouped 0 grouped.first;
    beyond = λ part u far. none_of grouped u (λ p. grouped.beyond p u far) part;
    longer = λ u leg c. absurd (none_heavy u leg c);
    low = λ part u leg c. let h = was part u leg c in grouped.low h.part u leg h.among;
    high = λ part u leg c. let h = was part u leg c in grouped.high h.part u leg h.among;
    length = λ part u leg c. let h = was part u leg c in grouped.length h.part u leg h.among;
  }

  pub IsNarrowed-joined : narrow ≤ delta → IsNarrowed (with_parts nodes delta greatest parts) (with_parts nodes narrow greatest (joined_parts parts))
  IsNarrowed-joined less = record {
    nodes = refl;
    delta = less;
    greatest = refl;
    legs = same_legs;
  }

module _ (nodes delta greatest narrow : ℕ) (parts : List (List Leg)) where
  IsGrouped-parted : IsGrouped (with_parts nodes delta greatest parts) → 1 ≤ narrow → narrow ≤ delta → IsGrouped (with_parts nodes narrow greatest parts)
  unfolding legs_of
  IsGrouped-parted was positive less = record {
    nodes = was.nodes;
    some_node = was.some_node;
    delta = positive;
    greatest = was.greatest;
    first = was.first;
    beyond = was.beyond;
    longer = λ u leg c. let far : delta < leg.length = was.longer u leg c in omega (arith, far);
    low = was.low;
    high = was.high;
    length = was.length;
  }

  IsNarrowed-parted : narrow ≤ delta → IsNarrowed (with_parts nodes delta greatest parts) (with_parts nodes narrow greatest parts)
  unfolding legs_of
  IsNarrowed-parted less = record {
    nodes = refl;
    delta = less;
    greatest = refl;
    legs = λ u. refl;
  }

module _ (nodes delta greatest narrow : ℕ) (parts : List (List Leg)) where
  pub IsGrouped-narrowed : (b joins : Bool) → b ≡ false → IsGrouped (with_parts nodes delta greatest (parts_of b parts)) → 1 ≤ narrow → narrow ≤ delta → IsGrouped (with_parts nodes narrow greatest (parts_of joins parts))
  IsGrouped-narrowed false false e grouped positive less = IsGrouped-parted nodes delta greatest narrow parts grouped positive less
  IsGrouped-narrowed false true e grouped positive less = IsGrouped-joined nodes delta greatest narrow parts grouped positive
  IsGrouped-narrowed true joins e grouped positive less = absurd (let absurdity : ⊥ = cc in absurdity)

  pub IsNarrowed-of : (b joins : Bool) → b ≡ false → narrow ≤ delta → IsNarrowed (with_parts nodes delta greatest (parts_of b parts)) (with_parts nodes narrow greatest (parts_of joins parts))
  IsNarrowed-of false false e less = IsNarrowed-parted nodes delta greatest narrow parts less
  IsNarrowed-of false true e less = IsNarrowed-joined nodes delta greatest narrow parts less
  IsNarrowed-of true joins e less = absurd (let absurdity : ⊥ = cc in absurdity)

  -- no leg is a heavy one
  pub none_is_heavy : (b : Bool) → b ≡ true → (u : ℕ) → legs_of (with_parts nodes delta greatest (parts_of b parts)) Heavy u ≡ []
  none_is_heavy false e u = absurd (let absurdity : ⊥ = cc in absurdity)
  none_is_heavy true e u = heavy_is nodes delta greatest delta parts u
