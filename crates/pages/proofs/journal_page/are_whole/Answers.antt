use Rattle.std.proofs.Common.{ap, ◌∙◌}
use Rattle.std.specs.Prelude.{not}
use Rattle.pages.specs.declared.content.Record.{Record}
use Rattle.pages.proofs.Grouped.{whole_by_last}
use Rattle.pages.proofs.journal_page.are_whole.Goals as goal

pub returns-in-Some : goal.returns-in-Some
returns-in-Some c = let item = c.in-Some.ensures.item in ap (λ (r : Record). not r.goes_on) item.1 ∙ whole_by_last c.args.records.now c.in-Some.record.now item.3.0
