use Rattle.storetexts.proofs.Exported.{export_restores}
use Rattle.storetexts.proofs.exporting.laws_of_exports.Goals as goal

pub returns : goal.returns
returns c = record { restores = export_restores }
