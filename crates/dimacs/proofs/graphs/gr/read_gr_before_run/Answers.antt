use Rattle.std.specs.Prelude.{Ok, Err}
use Rattle.std.proofs.lemmas.Result.{err_from_is_err_and}
use Rattle.dimacs.specs.Counts.{reader_of}
use Rattle.dimacs.proofs.Networks.{told_before_run, ended_before_run}
use Rattle.dimacs.proofs.graphs.gr.read_gr_before_run.Goals as goal

pub returns-clause-read : goal.returns-clause-read
returns-clause-read g c = ended_before_run _ _ c.in_ok-ended.ended (Ok c.in_ok-network.network) c.in_ok-ended.ensures.read c.in_ok-network.ensures.ends

pub returns-in_err-ended-clause-read : goal.returns-in_err-ended-clause-read
returns-in_err-ended-clause-read g c =
    let p = err_from_is_err_and c.from_residual.result c.from_residual.ensures.1 in
    rw (p.1, p.2) (told_before_run (g.R.Read.remaining (reader_of c.args.counted.now)) _ c.in_err-ended.field-0.0 c.in_err-ended.ensures.read)

pub returns-in_err-network-clause-read : goal.returns-in_err-network-clause-read
returns-in_err-network-clause-read g c =
    let p = err_from_is_err_and c.from_residual-in_err-network.result c.from_residual-in_err-network.ensures.1 in
    rw (p.1, p.2) (ended_before_run _ _ c.in_ok-ended.ended (Err _) c.in_ok-ended.ensures.read c.in_err-network.ensures.ends)
