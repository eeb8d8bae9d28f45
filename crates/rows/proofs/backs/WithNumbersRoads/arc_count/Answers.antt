use Rattle.std.proofs.Common.{◌∙◌, ap, length, sym}
use Rattle.rows.proofs.Numbering.{length-numbered}
use Rattle.rows.proofs.backs.WithNumbersRoads.arc_count.Goals as goal

pub returns : goal.returns
returns c = c.len.ensures ∙ (ap length c.arcs.ensures.value ∙ sym (length-numbered 1 c.args.self.now.network.now.arcs))
