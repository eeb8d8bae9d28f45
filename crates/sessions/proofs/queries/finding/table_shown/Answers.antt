use Rattle.std.proofs.Common.{rules, inl, inr, refl}
use Rattle.roadnet.specs.declared.refusals.Refusal.TheVariants.{OutOfMemory}
use Rattle.sessions.proofs.Answered.{told_pairs}
use Rattle.sessions.proofs.Said.{puts_also, puts_so}
use Rattle.sessions.proofs.queries.finding.table_shown.Goals as goal

pub returns-in-Ok-clause-told : goal.returns-in-Ok-clause-told
returns-in-Ok-clause-told g c = puts_also g.W.Write.contents _ _ c.pairs_shown.result _ _ (λ told is. told_pairs g.S.Naming.Naming.origin _ _ _ told (search rules) is) c.pairs_shown.ensures.told

pub returns-in-Err-clause-told : goal.returns-in-Err-clause-told
returns-in-Err-clause-told g c = puts_so g.W.Write.contents _ _ c.tell_refusal.result _ _ (inr (OutOfMemory, inr (inl refl), refl)) c.tell_refusal.ensures
