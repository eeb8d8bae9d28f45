use Rattle.std.proofs.Common.{◌≡◌, refl, sym, ◌∙◌}
use Rattle.pages.specs.Gates.{gate_of, gate_byte}
use Rattle.pages.specs.declared.gate.GateByte.{GateByte}
use Rattle.pages.specs.declared.gate.GateByte.TheVariants.{Open, Closed}
use Rattle.pages.proofs.Headers.{header_read}
use Rattle.pages.proofs.Places.{arcs_read, words_read}
use Rattle.pages.proofs.Heads.{head_once}
use Rattle.pages.proofs.Records.{record_once}
use Rattle.pages.proofs.Grouped.{grouped_again, records_whole, records_again}
use Rattle.pages.proofs.Entries.{entry_once, old_entry}
use Rattle.pages.proofs.laws.spelling_is_one_to_one.Goals as goal

pub returns-clause-one_spelling : goal.returns-clause-one_spelling
returns-clause-one_spelling c = record {
  header = λ p q h s t. s.spelled ∙ sym t.spelled;
  arcs = λ nodes count p q arcs s t. s.spelled ∙ sym t.spelled;
  words = λ count p q words s t. s.spelled ∙ sym t.spelled;
  head = λ h p q e s t. s.spelled ∙ sym t.spelled;
  entry = λ f p q e s t. s.spelled ∙ sym t.spelled;
  one = λ f p q d s t. s.spelled ∙ sym t.spelled;
}

pub returns-clause-one_content : goal.returns-clause-one_content
returns-clause-one_content c = record {
  header = λ page h k s t. sym (header_read page h s) ∙ header_read page k t;
  arcs = λ nodes count page xs ys lt s t. sym (arcs_read nodes count page xs lt s) ∙ arcs_read nodes count page ys lt t;
  words = λ count page xs ys s t. sym (words_read count page xs s) ∙ words_read count page ys t;
  head = head_once;
  entry = entry_once;
  one = record_once;
}

read_back : (gate : GateByte) → gate_of (gate_byte gate) ≡ gate
read_back Open = refl
read_back Closed = refl

pub returns-clause-gates : goal.returns-clause-gates
returns-clause-gates c = read_back

pub returns-clause-old : goal.returns-clause-old
returns-clause-old c = old_entry

pub returns-clause-groups : goal.returns-clause-groups
returns-clause-groups c = record { groups = grouped_again; whole = records_whole; records = records_again }
