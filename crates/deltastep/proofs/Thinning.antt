-- Values that are taken away, step by step.
use Rattle.std.proofs.Common.{◌≡◌, ◌≢◌, ℕ, ◌+◌, ◌<◌, ◌≤◌, ◌⊎◌, List, [], ◌∷◌, ◌++◌, length, set, take, Contains, All, Option, Some, None, refl, sym, ap, subst, ◌∙◌, inl, inr, arith, append_assoc, length-set, get_or-set_same, get_or-set_other, get_or}
use Rattle.std.proofs.lemmas.Bool.{cases_eq}
use Rattle.std.proofs.lemmas.List.Elements.{Contains-append_left, Contains-push, Contains-get_or, All-push}
use Rattle.std.proofs.lemmas.List.{append-nil, take-append-le, take_more, take_all}
use Rattle.std.proofs.lemmas.Option.{same_Some}
use Rattle.relax.specs.Values.{value_at}
use Rattle.roadnet.specs.Walks.{distance_at}
use Rattle.snapshot.specs.Groups.{Groups, legs_of, IsGrouped}
use Rattle.snapshot.specs.declared.legs.Leg.{Leg}
use Rattle.snapshot.specs.declared.legs.Part.{Part}
use Rattle.snapshot.specs.declared.legs.Part.TheVariants.{Light, Heavy}
use Rattle.deltastep.specs.Repair.{HasLeg, IsLost, LeadToLost, AreThereOrLost, AreGoneLost, IsSpread, IsClosedBut, IsThinner, Thins}

pub IsThinner-same : (source : ℕ) (t : List (Option ℕ)) → IsThinner source t t
IsThinner-same source t = record { places = refl; starts = refl; moves = λ u. inr refl }

pub IsThinner-on : (source : ℕ) (t t' t'' : List (Option ℕ)) → IsThinner source t t' → IsThinner source t' t'' → IsThinner source t t''
IsThinner-on source t t' t'' a b = record {
  places = b.places ∙ a.places;
  starts = b.starts ∙ a.starts;
  moves = λ u. elim (b.moves u) as (λ _. (value_at t'' u ≡ None) ⊎ (value_at t'' u ≡ value_at t u)) [
    | inl none ↦ inl none
    | inr same ↦ elim (a.moves u) as (λ _. (value_at t'' u ≡ None) ⊎ (value_at t'' u ≡ value_at t u)) [
      | inl none ↦ inl (same ∙ none)
      | inr was ↦ inr (same ∙ was)
    ]
  ];
}

-- a lost node stays lost
pub IsLost-on : (source : ℕ) (t t' : List (Option ℕ)) → IsThinner source t t' → (v : ℕ) → IsLost source t v → IsLost source t' v
IsLost-on source t t' thinner v (inl e) = inl e
IsLost-on source t t' thinner v (inr none) = elim (thinner.moves v) as (λ _. IsLost source t' v) [
  | inl gone ↦ inr gone
  | inr same ↦ inr (same ∙ none)
]

pub Thins-same : (source : ℕ) (t : List (Option ℕ)) (lost : List ℕ) → Thins source t lost t lost
Thins-same source t lost = record { thinner = IsThinner-same source t; grows = ([], sym (append-nil lost)); more = λ u none. inr none }

-- what is on the list stays there
pub listed : (lost lost' : List ℕ) → (more : List ℕ) × (lost' ≡ lost ++ more) → (u : ℕ) → Contains lost u → Contains lost' u
listed lost lost' grows u c = subst (λ (l : List ℕ). Contains l u) (sym grows.1) (Contains-append_left lost grows.0 u c)

pub Thins-on : (source : ℕ) (t t' t'' : List (Option ℕ)) (lost lost' lost'' : List ℕ) → Thins source t lost t' lost' → Thins source t' lost' t'' lost'' → Thins source t lost t'' lost''
Thins-on source t t' t'' lost lost' lost'' a b = record {
  thinner = IsThinner-on source t t' t'' a.thinner b.thinner;
  grows = (a.grows.0 ++ b.grows.0, b.grows.1 ∙ (ap (λ (l : List ℕ). l ++ b.grows.0) a.grows.1 ∙ append_assoc lost a.grows.0 b.grows.0));
  more = λ u none. elim (b.more u none) as (λ _. Contains lost'' u ⊎ (value_at t u ≡ None)) [
    | inl c ↦ inl c
    | inr was ↦ elim (a.more u was) as (λ _. Contains lost'' u ⊎ (value_at t u ≡ None)) [
      | inl c ↦ inl (listed lost' lost'' b.grows u c)
      | inr before ↦ inr before
    ]
  ];
}

pub LeadToLost-on : (source : ℕ) (row t t' : List (Option ℕ)) (value : ℕ) (legs : List Leg) → IsThinner source t t' → LeadToLost source row t value legs → LeadToLost source row t' value legs
LeadToLost-on source row t t' value legs thinner lead k d lt tight = IsLost-on source t t' thinner (get_or legs k d).head (lead k d lt tight)

pub AreThereOrLost-on : (after : Groups) (source : ℕ) (row t t' : List (Option ℕ)) (u value : ℕ) (legs : List Leg) → IsThinner source t t' → AreThereOrLost after source row t u value legs → AreThereOrLost after source row t' u value legs
AreThereOrLost-on after source row t t' u value legs thinner lead k d lt tight = elim (lead k d lt tight) as (λ _. HasLeg after u (get_or legs k d) ⊎ IsLost source t' (get_or legs k d).head) [
  | inl there ↦ inl there
  | inr lost ↦ inr (IsLost-on source t t' thinner (get_or legs k d).head lost)
]

pub AreGoneLost-on : (before after : Groups) (source : ℕ) (row t t' : List (Option ℕ)) (u : ℕ) → IsThinner source t t' → AreGoneLost before after source row t u → AreGoneLost before after source row t' u
AreGoneLost-on before after source row t t' u thinner gone value has part = AreThereOrLost-on after source row t t' u value (legs_of before part u) thinner (gone value has part)

pub IsSpread-on : (groups : Groups) (source : ℕ) (row t t' : List (Option ℕ)) (u : ℕ) → IsThinner source t t' → IsSpread groups source row t u → IsSpread groups source row t' u
IsSpread-on groups source row t t' u thinner spread value has part = LeadToLost-on source row t t' value (legs_of groups part u) thinner (spread value has part)

-- one more of the elements so far
pub All-take_more : {X : Type 0} (P : X → Type 0) (xs : List X) (i : ℕ) (d : X) → i < length xs → All P (take i xs) → P (get_or xs i d) → All P (take (i + 1) xs)
All-take_more P xs i d lt all p = subst (All P) (sym (take_more xs i d lt)) (All-push P (take i xs) (get_or xs i d) all p)

pub All-of_take : {X : Type 0} (P : X → Type 0) (xs : List X) (i : ℕ) → length xs ≤ i → All P (take i xs) → All P xs
All-of_take P xs i ge all = subst (All P) (take_all i xs ge) all

-- a node's value is taken away, and the node put on the list
pub Thins-one : (source : ℕ) (t : List (Option ℕ)) (lost : List ℕ) (node : ℕ) → node ≢ source → node < length t → Thins source t lost (set t node None) (lost ++ node ∷ [])
Thins-one source t lost node other within = record {
  thinner = record {
    places = length-set t node None;
    starts = get_or-set_other t node source None None (λ e. other (sym e));
    moves = λ u. elim (cases_eq u node) as (λ _. (value_at (set t node None) u ≡ None) ⊎ (value_at (set t node None) u ≡ value_at t u)) [
      | inl e ↦ inl (subst (λ v. value_at (set t node None) v ≡ None) (sym e) (get_or-set_same t node None None within))
      | inr ne ↦ inr (get_or-set_other t node u None None ne)
    ];
  };
  grows = (node ∷ [], refl);
  more = λ u none. elim (cases_eq u node) as (λ _. Contains (lost ++ node ∷ []) u ⊎ (value_at t u ≡ None)) [
    | inl e ↦ inl (subst (λ v. Contains (lost ++ node ∷ []) v) (sym e) (Contains-push lost node))
    | inr ne ↦ inr (sym (get_or-set_other t node u None None ne) ∙ none)
  ];
}

-- what hangs on the next node of the list is lost
pub IsClosedBut-next : (groups : Groups) (source : ℕ) (row t t' : List (Option ℕ)) (lost lost' : List ℕ) → Thins source t lost t' lost' → IsClosedBut groups source row t lost → IsClosedBut groups source row t' lost'
IsClosedBut-next groups source row t t' lost lost' thins closed u none =
    let Goal = Contains lost' u ⊎ IsSpread groups source row t' u in
    elim (thins.more u none) as (λ _. Goal) [
      | inl c ↦ inl c
      | inr was ↦ elim (closed u was) as (λ _. Goal) [
        | inl c ↦ inl (listed lost lost' thins.grows u c)
        | inr spread ↦ inr (IsSpread-on groups source row t t' u thins.thinner spread)
      ]
    ]

pub All-spread_next : (groups : Groups) (source : ℕ) (row t t' : List (Option ℕ)) (lost lost' : List ℕ) (place node : ℕ) → place < length lost → node ≡ get_or lost place node → Thins source t lost t' lost' → IsSpread groups source row t' node → All (IsSpread groups source row t) (take place lost) → All (IsSpread groups source row t') (take (place + 1) lost')
All-spread_next groups source row t t' lost lost' place node lt is thins spread all =
    let P = IsSpread groups source row t' in
    let front : take (place + 1) lost' ≡ take (place + 1) lost = ap (take (place + 1)) thins.grows.1 ∙ take-append-le (place + 1) lost thins.grows.0 (omega arith) in
    subst (All P) (sym front) (All-take_more P lost place node lt (λ k d within. IsSpread-on groups source row t t' (get_or (take place lost) k d) thins.thinner (all k d within)) (subst P is spread))

-- where the whole list was gone over
pub IsClosedBut-over : (groups : Groups) (source : ℕ) (row t : List (Option ℕ)) (lost : List ℕ) (place : ℕ) → length lost ≤ place → All (IsSpread groups source row t) (take place lost) → IsClosedBut groups source row t lost → IsClosedBut groups source row t []
IsClosedBut-over groups source row t lost place past all closed u none = elim (closed u none) as (λ _. Contains [] u ⊎ IsSpread groups source row t u) [
  | inl c ↦ inr (subst (IsSpread groups source row t) c.2 (All-of_take (IsSpread groups source row t) lost place past all c.0 u c.1))
  | inr spread ↦ inr spread
]

-- the parts of a node
pub IsSpread-parts : (groups : Groups) (source : ℕ) (row t : List (Option ℕ)) (u value : ℕ) → distance_at row u ≡ Some value → LeadToLost source row t value (legs_of groups Light u) → LeadToLost source row t value (legs_of groups Heavy u) → IsSpread groups source row t u
IsSpread-parts groups source row t u value has light heavy value' has' part =
    let same : value ≡ value' = same_Some value value' (sym has ∙ has') in
    subst (λ v. LeadToLost source row t v (legs_of groups part u)) same (elim part as (λ p. LeadToLost source row t value (legs_of groups p u)) [ Light ↦ light | Heavy ↦ heavy ])

pub AreGoneLost-parts : (before after : Groups) (source : ℕ) (row t : List (Option ℕ)) (u value : ℕ) → distance_at row u ≡ Some value → AreThereOrLost after source row t u value (legs_of before Light u) → AreThereOrLost after source row t u value (legs_of before Heavy u) → AreGoneLost before after source row t u
AreGoneLost-parts before after source row t u value has light heavy value' has' part =
    let same : value ≡ value' = same_Some value value' (sym has ∙ has') in
    subst (λ v. AreThereOrLost after source row t u v (legs_of before part u)) same (elim part as (λ p. AreThereOrLost after source row t u value (legs_of before p u)) [ Light ↦ light | Heavy ↦ heavy ])

-- a node without a distance has no tight legs
pub no_distance : {X : Type 0} (row : List (Option ℕ)) (u value : ℕ) → distance_at row u ≡ None → distance_at row u ≡ Some value → X
no_distance row u value none has = absurd (let no : None ≡ Some value = sym none ∙ has in let absurdity : ⊥ = cc in absurdity)

-- the heads of legs are nodes
pub heads_are_nodes : (groups : Groups) (t : List (Option ℕ)) (part : Part) (u : ℕ) (legs : List Leg) → IsGrouped groups → length t ≡ groups.nodes + 1 → legs ≡ legs_of groups part u → All (λ (leg : Leg). (1 ≤ leg.head) × (leg.head < length t)) legs
heads_are_nodes groups t part u legs grouped places is k d lt =
    let c : Contains (legs_of groups part u) (get_or legs k d) = subst (λ (l : List Leg). Contains l (get_or legs k d)) is (Contains-get_or legs k d lt) in
    (grouped.low part u (get_or legs k d) c, omega (arith, grouped.high part u (get_or legs k d) c))
