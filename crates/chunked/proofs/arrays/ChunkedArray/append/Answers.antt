use Rattle.std.proofs.Common.{◌≡◌, ◌∙◌, [], ◌∷◌, length, sym, ap, arith}
use Rattle.chunked.proofs.OfChunks.{items_of, full, lay_items, long}
use Rattle.std.proofs.lemmas.List.{length-append}
use Rattle.chunked.proofs.arrays.ChunkedArray.append.Goals as goal

pub overflow_add-self : goal.overflow_add-self
overflow_add-self g c =
    let size : length c.args.self.now ≡ c.self.inside.len = ap length (sym c.self.view_is) ∙ long items_of full c.self.inside.chunks c.self.inside.len c.self.invariant in
    omega (arith, c.requires.room, c.requires.few, size)

pub invariant_of-self-2 : goal.invariant_of-self-2
invariant_of-self-2 g c =
    let size : length c.args.self.now ≡ c.self.inside.len = ap length (sym c.self.view_is) ∙ long items_of full c.self.inside.chunks c.self.inside.len c.self.invariant in
    ap length c.in_ok-push.ensures.ok ∙ (length-append c.self.inside.chunks (c.in_ok-beginning.field-0 ∷ []) ∙ omega (arith, size, c.self.invariant, c.requires.whole, c.requires.few, c.requires.some))

pub returns-clause-ok : goal.returns-clause-ok
returns-clause-ok g c =
    let size : length c.args.self.now ≡ c.self.inside.len = ap length (sym c.self.view_is) ∙ long items_of full c.self.inside.chunks c.self.inside.len c.self.invariant in
    rw (← c.self.view_is)
    (lay_items items_of full c.self.inside.chunks c.self.inside.len c.self.invariant c.push.new.self c.in_ok-beginning.field-0 c.args.items.now (omega (arith, c.requires.whole, size)) c.requires.few c.in_ok-push.ensures.ok c.in_ok-beginning.ensures)
