use Rattle.std.proofs.Common.{rules, refl}
use Rattle.sessions.proofs.Based.{first_basis, joined_basis}
use Rattle.sessions.proofs.session.carrying.with_front.Goals as goal

pub returns-in-Some-clause-kept : goal.returns-in-Some-clause-kept
returns-in-Some-clause-kept c groups begins told =
    joined_basis c.args.front.origin c.args.had.now c.in-Some.had c.args.front c.joined.result groups (search rules) (search rules) c.joined.ensures.origin c.joined.ensures.this c.joined.ensures.that c.joined.ensures.acknowledged begins told

pub returns-in-None-clause-kept : goal.returns-in-None-clause-kept
returns-in-None-clause-kept c groups begins told = first_basis c.args.front.origin c.args.had.now c.args.front c.args.front groups (search rules) refl refl begins told
