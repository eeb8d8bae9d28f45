use Rattle.std.proofs.Common.{ap, sym, ◌∙◌}
use Rattle.pages.specs.Contents.{Entry}
use Rattle.pages.specs.Grouping.{records_in}
use Rattle.pages.proofs.Grouped.{records_again}
use Rattle.pages.proofs.journal_page.JournalPage.records.Goals as goal

pub returns : goal.returns
returns c = c.deref.ensures.value ∙ sym (records_again c.self.inside.records.items c.self.invariant) ∙ ap (λ (e : Entry). records_in e.groups) c.self.view_is
