use Rattle.storefile.proofs.OtherSlot.{closed_slot, slot_leads_on, slots_keep_tidy}
use Rattle.storefile.proofs.laws.slot_that_is_written.Goals as goal

pub returns-clause-closed : goal.returns-clause-closed
returns-clause-closed c = closed_slot

pub returns-clause-opened : goal.returns-clause-opened
returns-clause-opened c = slot_leads_on

pub returns-clause-tidy : goal.returns-clause-tidy
returns-clause-tidy c = slots_keep_tidy
