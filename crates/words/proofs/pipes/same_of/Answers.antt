use Rattle.std.proofs.Common.{ℕ, List, arith}
use Rattle.std.specs.Borrow.{Bor}
use Rattle.std.proofs.lemmas.List.{length-map}
use Rattle.words.specs.Pipes.{texts, StandsBefore}
use Rattle.words.proofs.PipeNames.{below_more}
use Rattle.words.proofs.pipes.same_of.Goals as goal

pub loop-later-preserved : goal.loop-later-preserved
loop-later-preserved c = below_more (λ later. ¬ StandsBefore (texts c.args.names.now) later) c.loop-later.later c.loop-later.invariant c.if-stands_before.ensures

pub returns : goal.returns
returns c later less =
    let long = length-map c.args.names.now (λ (w : Bor (List ℕ)). w.now) in
    let end = c.loop-later-test.false in
    c.loop-later.invariant later (omega arith)
