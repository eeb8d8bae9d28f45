use Rattle.std.proofs.Common.{take}
use Rattle.frontier.specs.Live.{IsLeastOf}
use Rattle.frontier.proofs.lazy.least_live.Given as goal

abbrev pub invariant-loop-entry : goal.invariant-loop-entry
invariant-loop-entry g l = IsLeastOf (g.V.SearchValues.values l.tentative) (take l.entry-index l.entries) l.least
