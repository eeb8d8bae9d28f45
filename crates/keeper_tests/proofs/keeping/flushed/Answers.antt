use Rattle.std.proofs.Common.{sym, subst}
use Rattle.machine.specs.Calls.{IsTicketOf}
use Rattle.keeper.specs.Keeping.{LedgerState}
use Rattle.keeper.proofs.Ticketed.{ticket_flushed}
use Rattle.keeper_tests.proofs.keeping.flushed.Goals as goal

pub receipt-requires : goal.receipt-requires
receipt-requires g c =
    subst (λ (ledger : LedgerState _). IsTicketOf ledger.machine c.args.ticket) (sym c.deref.ensures)
    (ticket_flushed c.args.keeper.now.machine c.flush-answer.new.self.machine c.args.ticket c.flush-answer.result c.flush-answer.ensures.step c.requires)
