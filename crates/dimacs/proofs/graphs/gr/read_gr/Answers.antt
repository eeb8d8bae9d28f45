use Rattle.dimacs.specs.Content.{gr_text}
use Rattle.dimacs.specs.Progress.{HasTaken}
use Rattle.dimacs.proofs.TextEnds.{read_ended, counts_same}
use Rattle.dimacs.proofs.graphs.gr.read_gr.Goals as goal

pub returns-clause-read : goal.returns-clause-read
returns-clause-read g c = read_ended gr_text HasTaken _ _ c.in_ok-ended.ended _ c.in_ok-ended.ensures.read c.network_at_end.ensures.ends

pub returns-clause-counts : goal.returns-clause-counts
returns-clause-counts g c = record {
  counts = counts_same _ _ c.network_at_end.result c.in_ok-ended.ensures.counts c.network_at_end.ensures.reads_nothing;
  same = c.give_lines.ensures.same;
}
