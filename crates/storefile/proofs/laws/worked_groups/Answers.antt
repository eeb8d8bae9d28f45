use Rattle.std.proofs.Common.{refl}
use Rattle.pages.specs.Spelling.{zeros, page_of}
use Rattle.pages.specs.Reading.{read_records}
use Rattle.storefile.proofs.laws.worked_groups.Goals as goal

pub returns : goal.returns
unfolding zeros page_of read_records
returns c = record { one_group = refl; goes_on = refl }
