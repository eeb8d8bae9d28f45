use Rattle.std.proofs.Common.{◌≡◌, ◌∙◌, [], ◌∷◌, length, take, refl, sym, ap, arith}
use Rattle.std.proofs.lemmas.List.{take-replicate}
use Rattle.chunked.proofs.OfChunks.{items_of, full, lay_items, long, push_item}
use Rattle.chunked.proofs.OfTables.{err}
use Rattle.chunked.proofs.arrays.ChunkedArray.push.Goals as goal

pub returns-in_err-put-clause-err : goal.returns-in_err-put-clause-err
returns-in_err-put-clause-err g c =
    rw (← c.self.view_is) (err c.from_residual-in_err-put.result (ap (take c.self.inside.len) c.in_err-put.ensures.err))

pub overflow_add-self : goal.overflow_add-self
overflow_add-self g c =
    let size : length c.args.self.now ≡ c.self.inside.len = ap length (sym c.self.view_is) ∙ long items_of full c.self.inside.chunks c.self.inside.len c.self.invariant in
    omega (arith, c.requires.room, size)

pub overflow_add-self-2 : goal.overflow_add-self-2
overflow_add-self-2 g c =
    let size : length c.args.self.now ≡ c.self.inside.len = ap length (sym c.self.view_is) ∙ long items_of full c.self.inside.chunks c.self.inside.len c.self.invariant in
    omega (arith, c.requires.room, size)

pub returns-then-place-eq0-clause-ok : goal.returns-then-place-eq0-clause-ok
returns-then-place-eq0-clause-ok g c =
    let one : take 1 c.in_ok-filled.field-0.items.items ≡ c.args.value ∷ [] = ap (take 1) c.in_ok-filled.ensures ∙ take-replicate 1 1024 c.args.value (omega arith) in
    rw (← c.self.view_is)
    (lay_items items_of full c.self.inside.chunks c.self.inside.len c.self.invariant c.push.new.self c.in_ok-filled.field-0 (c.args.value ∷ []) (omega (arith, c.if-place-eq0.true)) (omega arith) c.in_ok-push.ensures.ok one)

pub returns-clause-ok : goal.returns-clause-ok
returns-clause-ok g c =
    rw (← c.self.view_is)
    (push_item items_of full c.self.inside.chunks c.self.inside.len c.self.invariant c.put.new.self c.self.inside.len c.args.value c.in_ok-put.ensures.ok refl (omega (arith, c.if-place-eq0.false)))
