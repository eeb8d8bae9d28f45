use Rattle.std.proofs.Common.{sym, subst}
use Rattle.machine.specs.Calls.{IsTicketOf}
use Rattle.keeper.specs.Keeping.{LedgerState}
use Rattle.keeper_tests.proofs.HandedBack.{handed_back}
use Rattle.keeper_tests.proofs.keeping.not_yet.Goals as goal

pub receipt-requires : goal.receipt-requires
receipt-requires g c = subst (λ (ledger : LedgerState _). IsTicketOf ledger.machine c.args.ticket) (sym c.deref.ensures) c.requires

pub returns-in-Err : goal.returns-in-Err
returns-in-Err g c = subst (IsTicketOf c.args.keeper.now.machine) (sym (handed_back c.deref.result.now.machine c.args.ticket c.in-Err.told c.in-Err.ensures)) c.requires
