use Rattle.dimacs.specs.Lines.{fields}
use Rattle.scripts.proofs.ScriptStops.{stop_alone, stop_told}
use Rattle.scripts.proofs.script_stops.stop_event.Goals as goal

pub returns-in_default : goal.returns-in_default
returns-in_default c = stop_alone (fields c.args.rest.now) c.in_default.ensures

pub returns : goal.returns
returns c =
    stop_told (fields c.args.rest.now) (fields c.in-Some.behind.now) c.in-Some.call.now c.read_picks-read.result _ _ c.cut_event.result c.in-Some.ensures c.read_picks-read.ensures.read c.read_call.ensures c.read_writing-writing.ensures c.cut_event.ensures
