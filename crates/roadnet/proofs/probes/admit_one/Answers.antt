use Rattle.std.proofs.Common.{refl}
use Rattle.roadnet.specs.declared.commands.Command.TheVariants.{Set}
use Rattle.roadnet.specs.Batches.{changed_by_all}
use Rattle.roadnet.proofs.InTurn.{one_admitted, refused_here}
use Rattle.roadnet.proofs.probes.admit_one.Goals as goal

pub loop-i-init : goal.loop-i-init
loop-i-init g c net ok of = refl

pub admit_after-requires-clause-earlier : goal.admit_after-requires-clause-earlier
admit_after-requires-clause-earlier g c net ok of = c.loop-i.invariant net ok of

pub returns-in-Err : goal.returns-in-Err
returns-in-Err g c net ok of = refused_here (changed_by_all net c.args.groups.now) c.args.commands.now c.loop-i.i (Set 0 0) c.in-Err.refusal c.loop-i-test.true (c.loop-i.invariant net ok of) (c.in-Err.ensures net ok of)

pub loop-i-preserved : goal.loop-i-preserved
loop-i-preserved g c net ok of = one_admitted (changed_by_all net c.args.groups.now) c.args.commands.now c.loop-i.i (Set 0 0) c.loop-i-test.true (c.loop-i.invariant net ok of) (c.in_default.ensures net ok of)
