use Rattle.std.proofs.Common.{rules}
use Rattle.sessions.proofs.Answered.{nothing_known}
use Rattle.sessions.proofs.session.seeing.take_place.Goals as goal

pub returns-in_ok-place-in-None-clause-begins : goal.returns-in_ok-place-in-None-clause-begins
returns-in_ok-place-in-None-clause-begins g c = nothing_known c.args.place.now c.in_ok-place-in-None.field-0.groups (search rules)
