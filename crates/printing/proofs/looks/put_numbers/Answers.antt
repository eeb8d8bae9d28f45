use Rattle.std.proofs.Common.{◌∙◌, ◌++◌, arith}
use Rattle.std.specs.Prelude.{decimal}
use lib.Chars.{codes}
use Rattle.printing.specs.Chosen.{leads}
use Rattle.printing.proofs.Looked.{written_at}
use Rattle.printing.proofs.looks.put_numbers.Goals as goal

pub loop-place-preserved : goal.loop-place-preserved
loop-place-preserved g c = record {
  written = written_at (leads c.args.tail c.args.head) (λ k. codes " " ++ decimal k) c.args.arcs.now c.loop-place.place c.get.result.now _ _ _ (omega (arith, c.loop-place-test.true, c.len-place-end.ensures))
      (c.get.ensures.item c.get.result.now) c.loop-place.invariant.written c.in_ok-put_where_it_leads.ensures.written;
  counts = c.in_ok-put_where_it_leads.ensures.counts ∙ c.loop-place.invariant.counts;
  same = c.in_ok-put_where_it_leads.ensures.same ∙ c.loop-place.invariant.same;
}
