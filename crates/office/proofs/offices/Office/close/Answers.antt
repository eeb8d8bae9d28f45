use Rattle.std.proofs.Common.{◌≡◌, ◌∙◌, ℕ, ap, sym, subst}
use Rattle.history.specs.Origins.{Beginning}
use Rattle.keeper.specs.Keeping.{LedgerState}
use Rattle.office.specs.Left.{KeepsDesk}
use Rattle.office.proofs.Kept.{keeps}
use Rattle.office.proofs.offices.Office.close.Goals as goal

pub returns-clause-left : goal.returns-clause-left
returns-clause-left g c came content was =
    let keeper = c.self.inside.keeper in
    let here : g.D.Disk.left keeper.disk content = subst (λ d. g.D.Disk.left d content) c.close-history.ensures.disk was in
    let held = c.close-history.ensures.holds (c.self.invariant.1 came) in
    let kept : KeepsDesk c.self.inside.history c.self.inside.publisher.shown keeper.machine.sizes.journal_pages content = keeps _ _ _ _ _ c.self.invariant.0 c.opened.ensures.state content (held.each_left content here) in
    let pages : c.journal_pages-journal_pages.result ≡ keeper.machine.sizes.journal_pages = c.journal_pages-journal_pages.ensures ∙ ap (λ (ledger : LedgerState _). ledger.machine.sizes.journal_pages) c.deref.ensures in
    subst (λ (n : ℕ). KeepsDesk c.close-whole.result c.tell-shown.result n content) (sym pages)
    (subst (λ (b : Beginning). KeepsDesk b c.tell-shown.result keeper.machine.sizes.journal_pages content) (sym c.close-whole.ensures)
    (subst (λ (b : Beginning). KeepsDesk c.self.inside.history b keeper.machine.sizes.journal_pages content) (sym c.tell-shown.ensures) kept))
