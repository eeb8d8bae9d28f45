use Rattle.std.proofs.Common.{rules}
use Rattle.sessions.proofs.Said.{puts_so}
use Rattle.sessions.proofs.Supposed.{found_near, found_no_near}
use Rattle.sessions.proofs.queries.around.near_supposed.Goals as goal

pub returns-in-Ok-clause-told : goal.returns-in-Ok-clause-told
returns-in-Ok-clause-told g c = puts_so g.W.Write.contents _ _ c.tell_near.result _ _ (found_near _ c.args.near c.version.result _ (search rules) (search rules) (search rules)) c.tell_near.ensures

pub returns-in-Err-clause-told : goal.returns-in-Err-clause-told
returns-in-Err-clause-told g c = puts_so g.W.Write.contents _ _ c.tell_untold.result _ _ (found_no_near _ c.args.near c.version.result c.in-Err.refusal (search rules) (search rules)) c.tell_untold.ensures
