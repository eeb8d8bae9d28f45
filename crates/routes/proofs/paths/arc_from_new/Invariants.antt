use Rattle.routes.specs.Paths.{AreLegsLooked}
use Rattle.routes.proofs.paths.arc_from_new.Given as goal

abbrev pub invariant-loop-place : goal.invariant-loop-place
invariant-loop-place g l = AreLegsLooked l.network l.back (g.V.Known.values l.values) l.met l.node l.place
