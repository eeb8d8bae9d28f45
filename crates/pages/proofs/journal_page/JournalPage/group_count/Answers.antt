use Rattle.std.proofs.Common.{length, ap, sym, ◌∙◌}
use Rattle.pages.specs.Contents.{Entry}
use Rattle.pages.specs.Grouping.{ends_in}
use Rattle.pages.proofs.Grouped.{count_groups}
use Rattle.pages.proofs.journal_page.JournalPage.group_count.Goals as goal

pub returns : goal.returns
returns c = c.count_groups.ensures ∙ ap ends_in c.deref.ensures.value ∙ sym (count_groups c.self.inside.records.items c.self.invariant) ∙ ap (λ (e : Entry). length e.groups) c.self.view_is
