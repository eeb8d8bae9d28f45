use Rattle.std.proofs.Common.{◌≡◌, ◌++◌, take}
use Rattle.frontier.specs.Live.{live_nodes}
use Rattle.frontier.proofs.lazy.add_live.Given as goal

abbrev pub invariant-loop-entry : goal.invariant-loop-entry
invariant-loop-entry g l = l.nodes.items ≡ l.fn.nodes.items ++ live_nodes (g.V.SearchValues.values l.tentative) (take l.entry-index l.entries)
