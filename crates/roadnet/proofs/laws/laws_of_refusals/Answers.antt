use Rattle.roadnet.proofs.Lowest.{refusal_is_lowest, flaw_is_lowest}
use Rattle.roadnet.proofs.laws.laws_of_refusals.Goals as goal

pub returns : goal.returns
returns c = record { commands = refusal_is_lowest; parts = flaw_is_lowest }
