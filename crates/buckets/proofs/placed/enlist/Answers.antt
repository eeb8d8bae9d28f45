use Rattle.std.proofs.Common.{◌≡◌, ℕ, set, ap, ◌∙◌, refl, sym, inl, inr}
use Rattle.std.proofs.lemmas.Bool.{cases_eq}
use Rattle.buckets.specs.Rings.{ArePlaced, bucket_nodes_of}
use Rattle.buckets.proofs.Standing.{ArePlaced-added, ArePlaced-grown, on_err}
use Rattle.buckets.proofs.placed.enlist.Goals as goal

pub returns-in_err-make_room-clause-err : goal.returns-in_err-make_room-clause-err
returns-in_err-make_room-clause-err c = on_err c.from_residual.result (λ home was. ArePlaced-grown c.args.lists.now.items c.args.lists.now.items c.args.places.now.items c.make_room.new.places.items home was (λ p. refl) c.make_room.ensures.more c.make_room.ensures.same)

pub returns-in_err-place-clause-err : goal.returns-in_err-place-clause-err
returns-in_err-place-clause-err c =
    let same : (p : ℕ) → bucket_nodes_of c.push.new.lists.items p ≡ bucket_nodes_of c.args.lists.now.items p = λ p. elim (cases_eq p c.args.list) as (λ _. bucket_nodes_of c.push.new.lists.items p ≡ bucket_nodes_of c.args.lists.now.items p) [ inl e ↦ ap (bucket_nodes_of c.push.new.lists.items) e ∙ (c.in_err-place.ensures.err ∙ sym (ap (bucket_nodes_of c.args.lists.now.items) e)) | inr ne ↦ c.push.ensures.others p ne ] in
    on_err c.from_residual-in_err-place.result (λ home was. ArePlaced-grown c.args.lists.now.items c.push.new.lists.items c.args.places.now.items c.make_room.new.places.items home was same c.make_room.ensures.more c.make_room.ensures.same)

pub returns-clause-placed : goal.returns-clause-placed
returns-clause-placed c = λ home there was nowhere moved.
    let lists = c.args.lists.now.items in
    let grown : ArePlaced lists c.make_room.new.places.items home = ArePlaced-grown lists lists c.args.places.now.items c.make_room.new.places.items home was (λ p. refl) c.make_room.ensures.more c.make_room.ensures.same in
    ArePlaced-added lists c.push.new.lists.items c.make_room.new.places.items _ home there c.args.node c.args.list grown nowhere moved c.in_ok-make_room.ensures.room c.in_ok-place.ensures.added c.push.ensures.others (ap (λ k. set c.make_room.new.places.items c.args.node k) c.in_ok-place.ensures.place)
