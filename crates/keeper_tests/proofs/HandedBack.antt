-- A ticket that gets no receipt is handed back.
use Rattle.std.proofs.Common.{◌≡◌, Bool, true, false, cond, leb, Result, Ok, Err, refl, ap, ◌∙◌}
use Rattle.roadnet.specs.declared.refusals.Refusal.{Refusal}
use Rattle.roadnet.specs.declared.refusals.Refusal.TheVariants.{Broken, NotYet}
use Rattle.machine.specs.declared.calls.Ticket.{Ticket}
use Rattle.machine.specs.declared.calls.Receipt.{Receipt}
use Rattle.machine.specs.Machine.{Machine}
use Rattle.machine.specs.Calls.{receipt_for}

-- the ticket in an answer, and this one where there is none
abbrev ticket_in : Ticket → Result Receipt (Refusal × Ticket) → Ticket
ticket_in ticket (Ok receipt) = ticket
ticket_in ticket (Err told) = told.1

same_ticket : (settled broken : Bool) (receipt : Receipt) (ticket : Ticket) → ticket_in ticket (cond settled (Ok receipt) (cond broken (Err (Broken, ticket)) (Err (NotYet, ticket)))) ≡ ticket
same_ticket true broken receipt ticket = refl
same_ticket false true receipt ticket = refl
same_ticket false false receipt ticket = refl

pub handed_back : (m : Machine) (ticket : Ticket) (told : Refusal × Ticket) → ◌≡◌ {A = Result Receipt (Refusal × Ticket)} (Err told) (receipt_for m ticket) → told.1 ≡ ticket
handed_back m ticket told e = ap (ticket_in ticket) e ∙ same_ticket (leb ticket.number m.durable) m.broken (record { number = ticket.number; group = ticket.group }) ticket
