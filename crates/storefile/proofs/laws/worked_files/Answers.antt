use Rattle.std.proofs.Common.{refl}
use Rattle.pages.specs.Spelling.{zeros, page_of}
use Rattle.pages.specs.Reading.{read_records}
use Rattle.storefile.proofs.laws.worked_files.Goals as goal

pub returns : goal.returns
unfolding zeros page_of read_records
returns c = record { none = refl; cut = refl; other_magic = refl; other_format = refl; no_command = refl; not_admitted = refl; other_number = refl; closed_slot = refl; blank_slot = refl; equal_epochs = refl; later_blank = refl; ninth_word = refl; no_tail = refl; seventh_node = refl; other_journal = refl; most_arcs = refl; no_node = refl; other_sequence = refl; full_page = refl }
