use Rattle.printing.specs.Counting.{writer_of}
use Rattle.rehearsals.proofs.TextsRun.{kept_unwritten}
use Rattle.rehearsals.proofs.rehearsing.rehearse_text.Goals as goal

pub returns-in_err-events-clause-unwritten : goal.returns-in_err-events-clause-unwritten
returns-in_err-events-clause-unwritten g c = kept_unwritten c.from_residual-in_err-events.result (writer_of c.args.out.now)
