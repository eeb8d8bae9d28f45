-- A network that is brought to the map that it was made of.
use Rattle.std.proofs.Common.{◌≡◌, ◌∙◌, ℕ, Bool, false, ◌&&◌, cond, eqb, List, length, Option, Some, None, slice_get, refl, ap, sym, inl, inr}
use Rattle.std.specs.Prelude.{option_and_then}
use Rattle.std.specs.Option.{option_map_or}
use Rattle.std.specs.List.{filter, range_with_len}
use Rattle.std.proofs.lemmas.Bool.{cases_Bool, eqb-true, eq-eqb}
use Rattle.std.proofs.lemmas.List.Elements.{filter_agree}
use Rattle.std.proofs.lemmas.Option.{slice_get-get_or}
use Rattle.roadnet.specs.declared.arcs.RoadArc.{RoadArc}
use Rattle.roadnet.specs.Ends.{KeepsEnds}
use Rattle.roadnet.specs.Net.{Net, arc_at, nth}
use Rattle.roadnet.proofs.EndsKept.{ends_were_the_same}
use Rattle.upgrades.specs.Laws.{SameMapChangesNothing}
use Rattle.upgrades.specs.Upgrading.{agree, counterpart, joins, parallels, place_among, renewed, upgraded_arc}
use Rattle.upgrades.proofs.Tables.{place_within}

module _ (stored old : Net) (keeps : KeepsEnds old stored) (many : length stored.arcs ≡ length old.arcs) where
  back : KeepsEnds stored old
  back = ends_were_the_same old stored keeps many

  same_joins : (t h k : ℕ) → joins old.arcs t h k ≡ joins stored.arcs t h k
  same_joins t h k = go (nth old.arcs k) (nth stored.arcs k) refl refl
    where
      go : (o s : Option RoadArc) → nth old.arcs k ≡ o → nth stored.arcs k ≡ s → joins old.arcs t h k ≡ joins stored.arcs t h k
      go None None at at' = ap (λ (x : Option RoadArc). option_map_or (λ (arc : RoadArc). eqb arc.tail t && eqb arc.head h) x false) (at ∙ sym at')
      go None (Some b) at at' = let w = back.ends k b at' in absurd (let fails : None ≡ Some w.0 = sym at ∙ w.1 in let absurdity : ⊥ = cc in absurdity)
      go (Some a) s at at' =
          let w = keeps.ends k a at in
          let test : RoadArc → Bool = λ (arc : RoadArc). eqb arc.tail t && eqb arc.head h in
          ap (λ (x : Option RoadArc). option_map_or test x false) at
          ∙ (ap (λ (x : ℕ). eqb x t && eqb a.head h) (sym w.2)
          ∙ (ap (λ (x : ℕ). eqb w.0.tail t && eqb x h) (sym w.3)
          ∙ ap (λ (x : Option RoadArc). option_map_or test x false) (sym w.1)))

  same_parallels : (t h : ℕ) → parallels stored.arcs t h ≡ parallels old.arcs t h
  same_parallels t h =
      ap (λ (n : ℕ). filter (joins stored.arcs t h) (range_with_len 1 n)) many
      ∙ filter_agree (joins stored.arcs t h) (joins old.arcs t h) (λ k. sym (same_joins t h k)) (range_with_len 1 (length old.arcs))

  itself : (k : ℕ) (arc : RoadArc) → nth old.arcs k ≡ Some arc → counterpart stored.arcs old.arcs k ≡ Some k
  itself k arc at =
      let t = arc.tail in
      let h = arc.head in
      let xs = parallels old.arcs t h in
      let place = place_within old.arcs k arc at in
      let found : slice_get xs (place_among xs k) ≡ Some k = slice_get-get_or xs (place_among xs k) 0 place.0 ∙ ap (λ (x : ℕ). Some x) place.1 in
      ap (λ (o : Option RoadArc). option_and_then (λ (a : RoadArc). cond (agree stored.arcs old.arcs a.tail a.head) (slice_get (parallels stored.arcs a.tail a.head) (place_among (parallels old.arcs a.tail a.head) k)) None) o) at
      ∙ (ap (λ (ys : List ℕ). cond (eqb (length ys) (length xs)) (slice_get ys (place_among xs k)) None) (same_parallels t h)
      ∙ (ap (λ (b : Bool). cond b (slice_get xs (place_among xs k)) None) (eq-eqb (length xs) (length xs) refl)
      ∙ found))

  renewed_by_itself : (arc other : RoadArc) → other.tail ≡ arc.tail → other.head ≡ arc.head → other ≡ renewed other (Some arc) arc
  renewed_by_itself arc other tails heads =
      let lengths : other.length ≡ cond (eqb arc.length other.length) arc.length other.length = elim (cases_Bool (eqb arc.length other.length)) [
        | inl holds ↦ rw holds (sym (eqb-true _ _ holds))
        | inr fails ↦ rw fails refl
      ] in
      ap (λ (x : ℕ). record other { tail = x }) tails
      ∙ (ap (λ (x : ℕ). record other { tail = arc.tail; head = x }) heads
      ∙ ap (λ (x : ℕ). record other { tail = arc.tail; head = arc.head; length = x }) lengths)

  pub unchanged : (k : ℕ) (arc : RoadArc) → arc_at old k ≡ Some arc → arc_at stored k ≡ Some (upgraded_arc stored old old k arc)
  unchanged k arc at =
      let w = keeps.ends k arc at in
      let step : upgraded_arc stored old old k arc ≡ renewed w.0 (Some arc) arc =
      ap (λ (o : Option ℕ). option_map_or (λ c. option_map_or (λ other. renewed other (nth old.arcs c) arc) (nth stored.arcs c) arc) o arc) (itself k arc at)
      ∙ (ap (λ (o : Option RoadArc). option_map_or (λ other. renewed other (nth old.arcs k) arc) o arc) w.1
      ∙ ap (λ (o : Option RoadArc). renewed w.0 o arc) at) in
      w.1 ∙ ap (λ (x : RoadArc). Some x) (renewed_by_itself arc w.0 w.2 w.3 ∙ sym step)

pub same_map_changes_nothing : SameMapChangesNothing
same_map_changes_nothing stored old k arc keeps many at = unchanged stored old keeps many k arc at
