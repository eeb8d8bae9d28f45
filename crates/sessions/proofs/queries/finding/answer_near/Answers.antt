use Rattle.std.proofs.Common.{rules}
use Rattle.sessions.proofs.Answered.{near_found, no_near_found}
use Rattle.sessions.proofs.Said.{puts_so}
use Rattle.sessions.proofs.queries.finding.answer_near.Goals as goal

pub returns-in-Ok : goal.returns-in-Ok
returns-in-Ok g c = puts_so g.W.Write.contents _ _ c.tell_near.result _ _ (near_found c.args.near c.args.glance.view _ _ (search rules) (search rules) (search rules)) c.tell_near.ensures

pub returns-in-Err : goal.returns-in-Err
returns-in-Err g c = puts_so g.W.Write.contents _ _ c.tell_untold.result _ _ (no_near_found c.args.near c.args.glance.view _ c.in-Err.refusal (search rules) (search rules)) c.tell_untold.ensures
