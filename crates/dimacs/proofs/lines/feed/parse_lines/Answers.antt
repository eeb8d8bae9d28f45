use Rattle.std.proofs.Common.{arith}
use Rattle.dimacs.proofs.Far.{one_more, stops}
use Rattle.dimacs.proofs.lines.feed.parse_lines.Goals as goal

pub returns-in-Err : goal.returns-in-Err
returns-in-Err g c =
    let far = c.loop-line.invariant.far in
    stops g.T.TakeLines.judge g.T.TakeLines.has_taken c.args.bytes.now _ c.in-Some.line.now c.in-Some.more.now _ _ c.take_line.new.self c.in-Err.code far c.in-Some.ensures.line (c.in-Err.ensures.takes far.earlier far.taken)

pub loop-line-preserved : goal.loop-line-preserved
loop-line-preserved g c =
    let far = c.loop-line.invariant.far in
    record {
      far = one_more g.T.TakeLines.judge g.T.TakeLines.has_taken c.args.bytes.now _ c.in-Some.line.now c.in-Some.more.now _ _ c.take_line.new.self far c.in-Some.ensures.line (c.in_default-take_line.ensures.takes far.earlier far.taken);
      room = omega (arith, c.in-Some.ensures.shorter);
    }
