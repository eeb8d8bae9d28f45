use Rattle.std.proofs.Common.{◌≡◌, ◌∙◌, ℕ, arith, ◌+◌, ◌++◌, ◌∷◌, [], length, sym, subst, rules}
use Rattle.rows.specs.Batches.{ArePlaces}
use Rattle.rows.proofs.Placing.{no_places, place_more, places_sorted}
use Rattle.rows.proofs.places.places_by_source.Goals as goal

pub loop-place-init : goal.loop-place-init
loop-place-init g c =
    let none : c.in_ok-places.places.items ≡ [] = c.in_ok-places.ensures.items in
    record { places = subst (ArePlaces 0) (sym none) no_places }

pub loop-place-preserved : goal.loop-place-preserved
loop-place-preserved g c =
    let pushed : c.push.new.self.items ≡ c.loop-place.places.items ++ c.loop-place.place ∷ [] = search rules in
    record { places = subst (ArePlaces (c.loop-place.place + 1)) (sym pushed) (place_more c.loop-place.place c.loop-place.places.items c.loop-place.invariant.places) }

pub returns : goal.returns
returns g c =
    let last : c.loop-place.place ≡ c.args.count = omega (arith, c.loop-place-test.false, c.loop-place.auto.place-end) in
    let are = subst (λ (n : ℕ). ArePlaces n c.loop-place.places.items) (last ∙ c.requires) c.loop-place.invariant.places in
    places_sorted (length c.args.pairs.now) c.loop-place.places.items c.sort_unstable_by_key.new.self.items c.sort_unstable_by_key.ensures.permutation are
