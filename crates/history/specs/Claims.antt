-- What the tokens of a ticket and of a receipt say.
use Rattle.std.specs.Prelude.{◌≡◌, ◌≤◌, ◌+◌, length}
use Rattle.machine.specs.declared.calls.Ticket.{Ticket}
use Rattle.machine.specs.Laws.{IsAt}
use Rattle.history.specs.Origins.{Origin, Beginning}

-- a ticket of a desk
pub record Claimed : Type 0 where
  pub origin : Origin
  pub ticket : Ticket

-- the ticket's group has its number in this beginning of its desk's history, and is the last of it
pub record EndsWith (front : Beginning) (ticket : Ticket) : Type 0 where
  pub at : IsAt front.origin.version front.groups ticket
  pub last : front.origin.version + length front.groups ≡ ticket.number

-- the ticket's group has its number in this beginning of its desk's history, and was acknowledged by then
pub record IsAcknowledgedIn (front : Beginning) (ticket : Ticket) : Type 0 where
  pub at : IsAt front.origin.version front.groups ticket
  pub acknowledged : ticket.number ≤ front.acknowledged
