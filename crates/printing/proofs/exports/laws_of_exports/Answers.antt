use Rattle.printing.proofs.Restored.{closing_restores}
use Rattle.printing.proofs.exports.laws_of_exports.Goals as goal

pub returns : goal.returns
returns c = record { restored = closing_restores }
