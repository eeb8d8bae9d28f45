use Rattle.std.proofs.Common.{arith, rules}
use Rattle.scripts.specs.ScriptTexts.{StopWithinLine, writing_line}
use Rattle.scripts.proofs.ScriptStops.{cut_stands}
use Rattle.scripts.proofs.script_stops.cut_event.Goals as goal

pub returns-in-Err : goal.returns-in-Err
returns-in-Err c = (
  StopWithinLine c.in-Ok-true-Ok.call c.args.picks.now (writing_line c.in-Ok-true-Ok.writing),
  cut_stands c.args.call c.args.writing c.args.picks.now c.args.in_range _ _ _ _ c.in-Some-Some.is-0 c.in-Some-Some.is-1 c.in-Ok-true-Ok.is-0 c.in-Ok-true-Ok.is-1 c.in-Ok-true-Ok.is-2 (search rules) (omega arith),
)
