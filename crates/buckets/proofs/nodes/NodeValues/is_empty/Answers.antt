use Rattle.std.proofs.Common.{ap, ◌∙◌}
use Rattle.std.specs.FinMap.{len}
use Rattle.buckets.proofs.Tables.{empty_iff}
use Rattle.buckets.proofs.nodes.NodeValues.is_empty.Goals as goal

pub returns : goal.returns
returns c = empty_iff c.self.inside.count c.args.self.now (c.self.invariant.counted ∙ ap len c.self.view_is)
