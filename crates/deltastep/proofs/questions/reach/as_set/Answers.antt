use Rattle.deltastep.proofs.Telling.{set_has, set_rises}
use Rattle.deltastep.proofs.questions.reach.as_set.Goals as goal

pub returns : goal.returns
returns c = record {
  ascending = set_rises _ _ c.sort_unstable.ensures.sorted c.dedup.ensures.filtered;
  same = λ u. set_has _ _ _ u c.sort_unstable.ensures.permutation c.dedup.ensures.filtered;
}
