use Rattle.std.proofs.Common.{◌∙◌}
use Rattle.printing.specs.Looks.{arc_answer}
use Rattle.printing.proofs.Noded.{line_more}
use Rattle.printing.proofs.route_lines.put_arcs.Goals as goal

pub loop-arc-preserved : goal.loop-arc-preserved
loop-arc-preserved g c = record {
  written = line_more (arc_answer c.args.network.now) c.args.arcs.now c.loop-arc.arc-index _ _ _ _ c.loop-arc-test.true c.loop-arc.invariant.written (rw c.from.ensures at c.in_ok-put_arc_answer.ensures.written);
  counts = c.in_ok-put_arc_answer.ensures.counts ∙ c.loop-arc.invariant.counts;
  same = c.in_ok-put_arc_answer.ensures.same ∙ c.loop-arc.invariant.same;
}
