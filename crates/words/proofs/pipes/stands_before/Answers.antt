use Rattle.std.proofs.Common.{◌≡◌, slice_get, sym, arith}
use Rattle.words.specs.Pipes.{texts}
use Rattle.words.proofs.PipeNames.{below_more, same_texts, other_texts}
use Rattle.words.proofs.pipes.stands_before.Goals as goal

pub returns-then-eq : goal.returns-then-eq
returns-then-eq c =
    let inside = c.requires in
    let here = c.loop-earlier-test.true in (
      c.loop-earlier.earlier,
      here,
      same_texts c.args.names.now c.loop-earlier.earlier c.args.later _ (omega arith) inside (sym c.if-eq.ensures),
    )

pub loop-earlier-preserved : goal.loop-earlier-preserved
loop-earlier-preserved c =
    let inside = c.requires in
    let here = c.loop-earlier-test.true in
    below_more (λ earlier. slice_get (texts c.args.names.now) earlier ≡ slice_get (texts c.args.names.now) c.args.later → ⊥) c.loop-earlier.earlier c.loop-earlier.invariant
    (other_texts c.args.names.now c.loop-earlier.earlier c.args.later _ (omega arith) inside (sym c.if-eq.ensures))
