use Rattle.std.proofs.Common.{refl}
use Rattle.pages.specs.Spelling.{zeros, page_of}
use Rattle.pages.proofs.laws.worked_pages.Goals as goal

pub returns-clause-layout : goal.returns-clause-layout
returns-clause-layout c = record {
  slot_a = refl;
  slot_b = refl;
  journal = refl;
  pages = refl;
  bytes = refl;
  pages_of_two = refl;
  bytes_of_two = refl;
  roomy_slot_a = refl;
  roomy_ends_a = refl;
  roomy_slot_b = refl;
  roomy_ends_b = refl;
  roomy_journal = refl;
  roomy_pages = refl;
  old_slot_b = refl;
  old_journal = refl;
  old_pages = refl;
}

pub returns-clause-pages : goal.returns-clause-pages
unfolding zeros page_of
returns-clause-pages c = record { header = refl; old_header = refl; ends = refl; word = refl; closed = refl; longest_closed = refl; head = refl; old_head = refl; head_with_landmarks = refl; head_after_checkpoint = refl; entry = refl; set = refl; reopen = refl; mark = refl; unmark = refl; lay = refl; group = refl; group_again = refl }
