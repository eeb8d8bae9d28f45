use Rattle.std.specs.declared.io.Error.{Error}
use Rattle.dimacs.specs.declared.fault.Code.{Code}
use Rattle.dimacs.proofs.NextBytes.{keeps_self, keeps_then, takes_then}
use Rattle.dimacs.proofs.lines.counted.byte_of.Goals as goal

pub loop-init : goal.loop-init
loop-init g c = record { kept = keeps_self (g.R.Read.remaining c.args.reader.now) }

pub returns-in-Ok-clause-bytes : goal.returns-in-Ok-clause-bytes
returns-in-Ok-clause-bytes g c = takes_then Error Code _ _ _ c.in-Ok.byte c.loop.invariant.kept c.in-Ok.ensures

pub returns-then-ne-clause-bytes : goal.returns-then-ne-clause-bytes
returns-then-ne-clause-bytes g c = keeps_then _ _ _ c.loop.invariant.kept c.in-Err.ensures

pub loop-preserved : goal.loop-preserved
loop-preserved g c = record { kept = keeps_then _ _ _ c.loop.invariant.kept c.in-Err.ensures }

pub returns-clause-bytes : goal.returns-clause-bytes
returns-clause-bytes g c = c.loop.invariant.kept
