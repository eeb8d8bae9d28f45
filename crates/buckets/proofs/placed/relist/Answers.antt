use Rattle.std.proofs.Common.{◌≡◌, ℕ, ◌<◌, length, set, ap, ◌∙◌, refl, sym, subst, inl, inr, arith}
use Rattle.std.specs.Prelude.{slice_index}
use Rattle.std.proofs.lemmas.Bool.{cases_eq}
use Rattle.std.proofs.lemmas.List.{get_or_read}
use Rattle.std.proofs.lemmas.Option.{slice_get_within}
use Rattle.buckets.specs.Rings.{bucket_nodes_of}
use Rattle.buckets.proofs.Standing.{ArePlaced-grown, ArePlaced-moved, list_there, on_err}
use Rattle.buckets.proofs.placed.relist.Goals as goal

pub returns-in_err-place-clause-err : goal.returns-in_err-place-clause-err
returns-in_err-place-clause-err c =
    let same : (p : ℕ) → bucket_nodes_of c.push.new.lists.items p ≡ bucket_nodes_of c.args.lists.now.items p = λ p. elim (cases_eq p c.args.to) as (λ _. bucket_nodes_of c.push.new.lists.items p ≡ bucket_nodes_of c.args.lists.now.items p) [ inl e ↦ ap (bucket_nodes_of c.push.new.lists.items) e ∙ (c.in_err-place.ensures.err ∙ sym (ap (bucket_nodes_of c.args.lists.now.items) e)) | inr ne ↦ c.push.ensures.others p ne ] in
    on_err c.from_residual.result (λ home was. ArePlaced-grown c.args.lists.now.items c.push.new.lists.items c.args.places.now.items c.args.places.now.items home was same (omega arith) (λ k lt. refl))

pub take_out-requires-clause-list : goal.take_out-requires-clause-list
take_out-requires-clause-list c = omega (arith, c.push.ensures.len, list_there c.args.lists.now.items c.args.from _ c.args.node c.requires.stands.stands)

pub take_out-requires-clause-place : goal.take_out-requires-clause-place
take_out-requires-clause-place c =
    let at : slice_index c.args.places.now.items c.args.node ≡ c.index-at.result.now = sym (get_or_read c.args.places.now.items c.args.node c.index-at.result.now c.requires.stands.place c.index-at.ensures 0) in
    let lt : slice_index c.args.places.now.items c.args.node < length (bucket_nodes_of c.args.lists.now.items c.args.from) = slice_get_within (bucket_nodes_of c.args.lists.now.items c.args.from) _ c.args.node c.requires.stands.stands in
    subst (λ xs. c.index-at.result.now < length xs) (sym (c.push.ensures.others c.args.from c.requires.apart)) (subst (λ k. k < length (bucket_nodes_of c.args.lists.now.items c.args.from)) at lt)

pub returns-clause-placed : goal.returns-clause-placed
returns-clause-placed c = λ home there was here moved.
    let at : c.index-at.result.now ≡ slice_index c.args.places.now.items c.args.node = get_or_read c.args.places.now.items c.args.node c.index-at.result.now c.requires.stands.place c.index-at.ensures 0 in
    ArePlaced-moved c.args.lists.now.items c.push.new.lists.items c.take_out.new.lists.items c.args.places.now.items c.take_out.new.places.items _ home there c.args.node c.args.from c.args.to c.index-at.result.now was here moved c.requires.apart at c.in_ok-place.ensures.added c.push.ensures.others c.take_out.ensures.removed c.take_out.ensures.others c.take_out.ensures.places (ap (λ k. set c.take_out.new.places.items c.args.node k) c.in_ok-place.ensures.place)
