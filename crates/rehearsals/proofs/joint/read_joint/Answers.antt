use Rattle.std.proofs.Common.{map, refl}
use Rattle.std.proofs.lemmas.Result.{err_from_is_err_and}
use Rattle.dimacs.specs.Counts.{reader_of}
use Rattle.scripts.specs.ScriptTexts.{as_line}
use Rattle.rehearsals.proofs.JointRead.{network_read, says_no_events, script_refused}
use Rattle.rehearsals.proofs.joint.read_joint.Goals as goal

pub returns-then-not-at_run-clause-read : goal.returns-then-not-at_run-clause-read
returns-then-not-at_run-clause-read g c =
    let read = network_read _ _ c.read_gr_before_run.result _ c.in_ok-network.ensures c.read_gr_before_run.ensures.read in
    says_no_events _ _ _ _ read c.if-not-at_run.true refl c.new-events.ensures.items

pub returns-in_err-events-clause-read : goal.returns-in_err-events-clause-read
returns-in_err-events-clause-read g c =
    let read = network_read _ _ c.read_gr_before_run.result _ c.in_ok-network.ensures c.read_gr_before_run.ensures.read in
    let left = g.R.Read.remaining (reader_of c.read_script.new.text) in
    let p = err_from_is_err_and c.from_residual-in_err-events.result c.from_residual-in_err-events.ensures.1 in
    rw (p.1, p.2) (script_refused _ _ left _ (λ events. map as_line events.items) c.read_script.result _ c.in_err-events.ensures read c.read_script.ensures.read)
