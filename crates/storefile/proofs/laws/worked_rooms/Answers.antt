use Rattle.std.proofs.Common.{refl}
use Rattle.pages.specs.Spelling.{zeros, page_of}
use Rattle.pages.specs.Reading.{read_records}
use Rattle.storefile.proofs.laws.worked_rooms.Goals as goal

pub returns : goal.returns
unfolding zeros page_of read_records
returns c = record { laid = refl; no_room = refl; held = refl; no_end = refl; more_ends = refl; more_words = refl; too_many = refl; too_few = refl }
