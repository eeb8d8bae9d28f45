use Rattle.deltastep.proofs.Rounds.{IsPartlyRelaxed}
use Rattle.deltastep.proofs.plain.relax_all.Given as goal

abbrev pub invariant-loop-place : goal.invariant-loop-place
invariant-loop-place l = IsPartlyRelaxed l.network l.initial.words l.words l.nearer l.place
