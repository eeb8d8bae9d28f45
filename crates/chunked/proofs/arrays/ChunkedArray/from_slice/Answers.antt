use Rattle.std.proofs.Common.{◌≡◌, ◌∙◌, ◌<◌, ◌+◌, ◌*◌, ◌++◌, length, take, refl, sym, ap, ap₂, arith}
use Rattle.std.proofs.Math.Seq.{take-add}
use Rattle.std.proofs.lemmas.List.{length-take-le, take_all}
use Rattle.chunked.proofs.OfChunks.{part_next, part_size}
use Rattle.chunked.proofs.arrays.ChunkedArray.from_slice.Goals as goal

pub loop-k-init : goal.loop-k-init
loop-k-init g c = refl

pub append-requires-clause-whole : goal.append-requires-clause-whole
append-requires-clause-whole g c =
    let within : c.loop-k.k * 1024 < length c.args.items.now = omega (arith, c.loop-k-test.true, c.div_ceil-k-end.ensures) in
    let size : length c.loop-k.array ≡ c.loop-k.k * 1024 = ap length c.loop-k.invariant ∙ length-take-le (c.loop-k.k * 1024) c.args.items.now (omega (arith, within)) in
    omega (arith, size)

pub append-requires-clause-room : goal.append-requires-clause-room
append-requires-clause-room g c =
    let within : c.loop-k.k * 1024 < length c.args.items.now = omega (arith, c.loop-k-test.true, c.div_ceil-k-end.ensures) in
    let size : length c.loop-k.array ≡ c.loop-k.k * 1024 = ap length c.loop-k.invariant ∙ length-take-le (c.loop-k.k * 1024) c.args.items.now (omega (arith, within)) in
    omega (arith, size, part_size c.args.items.now c.loop-k.k c.min.result within c.min.ensures, c.min.ensures, within)

pub loop-k-preserved : goal.loop-k-preserved
loop-k-preserved g c =
    let within : c.loop-k.k * 1024 < length c.args.items.now = omega (arith, c.loop-k-test.true, c.div_ceil-k-end.ensures) in
    let e : c.loop-k.k * 1024 + 1024 ≡ (c.loop-k.k + 1) * 1024 = omega arith in
    c.in_ok-append.ensures.ok
    ∙ (ap₂ (λ xs ys. xs ++ ys) c.loop-k.invariant (part_next c.args.items.now c.loop-k.k c.min.result within c.min.ensures)
    ∙ (sym (take-add (c.loop-k.k * 1024) 1024 c.args.items.now) ∙ ap (λ n. take n c.args.items.now) e))

pub returns : goal.returns
returns g c = c.loop-k.invariant ∙ take_all (c.loop-k.k * 1024) c.args.items.now (omega (arith, c.loop-k-test.false, c.div_ceil-k-end.ensures))
