use Rattle.std.proofs.Common.{refl}
use Rattle.pages.specs.Spelling.{zeros, page_of}
use Rattle.pages.specs.Reading.{read_records}
use Rattle.storefile.proofs.laws.worked_old_files.Goals as goal

pub returns : goal.returns
unfolding zeros page_of read_records
returns c = record { old = refl; old_today = refl; today_as_old = refl; old_lay = refl; old_group = refl }
