-- Tickets of this life.
use Rattle.std.proofs.Common.{ℕ, ◌+◌, Result, Ok, Err, refl, sym, subst}
use Rattle.std.specs.Prelude.{IfOk}
use Rattle.roadnet.specs.declared.groups.Group.{Group}
use Rattle.roadnet.specs.declared.refusals.Refusal.{Refusal}
use Rattle.machine.specs.declared.calls.Ticket.{Ticket}
use Rattle.machine.specs.Machine.{Machine, latest}
use Rattle.machine.specs.Calls.{Submits, Flushes, IsTicketOf}
use Rattle.machine.specs.Runs.Happened.{Flushed}
use Rattle.machine.proofs.Acknowledged.{ticket_of_new, ticket_by_step}

pub ticket_given : (old new : Machine) (group : Group) (result : Result Ticket Refusal) → Submits old group result new → IfOk result (IsTicketOf new)
ticket_given old new group (Ok ticket) h =
    subst (λ (t : Ticket). IsTicketOf new t) (sym h.1)
    (subst (λ (m : Machine). IsTicketOf m (record { number = latest old + 1; group = group })) (sym h.2) (ticket_of_new old group))
ticket_given old new group (Err refusal) h = tt

pub ticket_flushed : (old new : Machine) (ticket : Ticket) (result : Result ℕ Refusal) → Flushes old result new → IsTicketOf old ticket → IsTicketOf new ticket
ticket_flushed old new ticket result h is = ticket_by_step old new (Flushed result) ticket h refl is
