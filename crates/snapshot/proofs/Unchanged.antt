-- What stays in a newer network: the legs of the nodes of which no arc changed.
use Rattle.std.proofs.Common.{◌≡◌, ◌⊎◌, ◌∙◌, ℕ, suc, ◌<◌, ◌≤◌, Bool, false, cond, ◌&&◌, List, [], ◌∷◌, Some, length, get_or, map, slice_get, inl, inr, ap, ap₂, sym, arith, eqb, ⊎_elim, Contains}
use Rattle.std.specs.List.{filter}
use Rattle.std.proofs.lemmas.Bool.{cases_lt, cases_eq, and_right, and_left, ne_eqb}
use Rattle.std.proofs.lemmas.Option.{get_or_from_slice_get, slice_get-get_or, slice_get_within}
use Rattle.roadnet.specs.declared.arcs.RoadArc.{RoadArc}
use Rattle.roadnet.specs.Ends.{KeepsEnds}
use Rattle.roadnet.specs.Net.{Net, arc_at}
use Rattle.snapshot.specs.declared.legs.Part.{Part}
use Rattle.snapshot.specs.Blocks.{DiffersOnlyAt}
use Rattle.snapshot.specs.Groups.{leg_of, legs_in, is_in_part}
use Rattle.snapshot.proofs.Built.{filter_none}

-- at each place the two lists have the same item, or none that passes
StaysAt : {X : Type 0} → (X → Bool) → List X → List X → ℕ → X → Type 0
StaysAt p xs ys k d = (k < length xs → (get_or xs k d ≡ get_or ys k d) ⊎ ((p (get_or xs k d) ≡ false) × (p (get_or ys k d) ≡ false))) × (length xs ≤ k → p (get_or ys k d) ≡ false)

filter_stays : {X : Type 0} (p : X → Bool) (xs ys : List X) → length xs ≤ length ys → ((k : ℕ) (d : X) → k < length ys → StaysAt p xs ys k d) → filter p xs ≡ filter p ys
unfolding StaysAt
filter_stays p [] ys h stays = sym (filter_none p ys (λ k d within. (stays k d within).1 (omega arith)))
filter_stays p (x ∷ xs) [] h stays = absurd (omega arith)
filter_stays {X} p (x ∷ xs) (y ∷ ys) h stays =
    let rest : filter p xs ≡ filter p ys = filter_stays p xs ys (omega arith) (λ k d within. (λ (lt : k < length xs). (stays (suc k) d (omega arith)).0 (omega arith), λ (ge : length xs ≤ k). (stays (suc k) d (omega arith)).1 (omega arith))) in
    ⊎_elim
    (λ (same : x ≡ y). ap₂ (λ (z : X) (l : List X). cond (p z) (z ∷ l) l) same rest)
    (λ (fail : (p x ≡ false) × (p y ≡ false)).
    let (one, other) = fail in
    rw (one, other) rest)
    ((stays 0 y (omega arith)).0 (omega arith))

unwrapped : (xs ys : List RoadArc) (k : ℕ) (d : RoadArc) → slice_get ys k ≡ slice_get xs k → k < length ys → (k < length xs) × (get_or xs k d ≡ get_or ys k d)
unwrapped xs ys k d same h =
    let there : slice_get xs k ≡ Some (get_or ys k d) = sym same ∙ slice_get-get_or ys k d h in
    (slice_get_within xs k (get_or ys k d) there, get_or_from_slice_get xs k (get_or ys k d) d there)

module _ (old new : Net) (keeps : KeepsEnds old new) where
  pub tail_stays : (k : ℕ) (d : RoadArc) → k < length old.arcs → (k < length new.arcs) × ((get_or new.arcs k d).tail ≡ (get_or old.arcs k d).tail)
  tail_stays k d h =
      let found = keeps.ends (suc k) (get_or old.arcs k d) (slice_get-get_or old.arcs k d h) in
      (slice_get_within new.arcs k found.0 found.1, ap (λ (a : RoadArc). a.tail) (get_or_from_slice_get new.arcs k found.0 d found.1) ∙ found.2)

  pub no_fewer : length old.arcs ≤ length new.arcs
  no_fewer =
      ⊎_elim
      (λ (lt : length new.arcs < length old.arcs). absurd (let there = tail_stays (length new.arcs) (record { tail = 0; head = 0; length = 0; opened = false }) lt in omega (arith, there.0)))
      (λ (ge : length old.arcs ≤ length new.arcs). ge)
      (cases_lt (length new.arcs) (length old.arcs))

module _ (old new : Net) (numbers : List ℕ) (keeps : KeepsEnds old new) (only : DiffersOnlyAt numbers old new) where
  module _ (delta : ℕ) (part : Part) (u : ℕ) (apart : (place : ℕ) (d : RoadArc) → place < length new.arcs → Contains numbers (suc place) → (get_or new.arcs place d).tail ≡ u → ⊥) where
    passes : RoadArc → Bool
    passes arc = arc.opened && (eqb arc.tail u && is_in_part delta part arc)

    fails : (arc : RoadArc) → (arc.tail ≡ u → ⊥) → passes arc ≡ false
    unfolding passes
    fails arc ne = and_right arc.opened (eqb arc.tail u && is_in_part delta part arc) (and_left (eqb arc.tail u) (is_in_part delta part arc) (ne_eqb arc.tail u ne))

    stays : (k : ℕ) (d : RoadArc) → k < length new.arcs → StaysAt passes old.arcs new.arcs k d
    unfolding StaysAt
    stays k d h =
        ⊎_elim
        (λ (own : (get_or new.arcs k d).tail ≡ u).
        ⊎_elim
        (λ (c : Contains numbers (suc k)). absurd (apart k d h c own))
        (λ (same : arc_at new (suc k) ≡ arc_at old (suc k)).
        let both : (k < length old.arcs) × (get_or old.arcs k d ≡ get_or new.arcs k d) = unwrapped old.arcs new.arcs k d same h in
        (λ (lt : k < length old.arcs). inl both.1, λ (ge : length old.arcs ≤ k). absurd (omega (arith, both.0))))
        (only (suc k)))
        (λ (ne : (get_or new.arcs k d).tail ≡ u → ⊥).
        (λ (lt : k < length old.arcs). inr (fails (get_or old.arcs k d) (λ e. ne ((tail_stays old new keeps k d lt).1 ∙ e)), fails (get_or new.arcs k d) ne), λ (ge : length old.arcs ≤ k). fails (get_or new.arcs k d) ne))
        (cases_eq (get_or new.arcs k d).tail u)

    pub legs-unchanged : legs_in old.arcs delta part u ≡ legs_in new.arcs delta part u
    unfolding passes
    legs-unchanged = ap (map leg_of) (filter_stays passes old.arcs new.arcs (no_fewer old new keeps) stays)
