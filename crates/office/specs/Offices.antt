-- What holds of an office each time its lock is got.
use Rattle.std.specs.Prelude.{◌≡◌, ℕ, ◌≤◌, false, Some, Result, Err}
use Rattle.roadnet.specs.declared.refusals.Refusal.{Refusal}
use Rattle.history.specs.Origins.{Origin, Beginning}
use Rattle.machine.specs.declared.calls.Ticket.{Ticket}
use Rattle.machine.specs.declared.calls.Receipt.{Receipt}
use Rattle.machine.specs.Machine.{Machine, IsState, groups_to, network_at}
use Rattle.keeper.specs.Keeping.{Keeping}
use Rattle.published.specs.Showing.{Showing}

-- The machine runs from the desk's network and version, and the history has the groups that it accepted. Readers see the view of the shown
-- version, which searches by this width, after the groups up to that version. What was acknowledged is durable.
pub record IsOffice (origin : Origin) (m : Machine) (width : ℕ) (history : Beginning) (published : Showing) : Type 0 where
  pub base : m.base ≡ origin.base
  pub base_version : m.base_version ≡ origin.version
  pub history_origin : history.origin ≡ origin
  pub history_groups : history.groups ≡ m.accepted
  pub acknowledged : history.acknowledged ≤ m.durable
  pub shown_origin : published.shown.origin ≡ origin
  pub shown_groups : published.shown.groups ≡ groups_to m m.shown
  pub view_version : published.view.version ≡ m.shown
  pub view_network : network_at m m.shown ≡ Some published.view.network
  pub view_width : published.view.delta ≡ width

-- a state of the machine over the network and version that the desk was opened with
pub record RunsFrom (origin : Origin) (m : Machine) : Type 0 where
  pub state : IsState m
  pub base : m.base ≡ origin.base
  pub base_version : m.base_version ≡ origin.version

-- Where the desk's store came tidy, and no write had failed before, P.
abbrev pub WhenTidy : {D : Type 0} → Type 0 → Keeping D → Type 0 → Type 0
WhenTidy came_tidy k P = came_tidy → k.machine.broken ≡ false → P

-- the keeper's receipt for a ticket
abbrev pub receipt_of : Ticket → Receipt
receipt_of ticket = record { number = ticket.number; group = ticket.group }

-- the keeper's refusal of a receipt, which hands the ticket back
abbrev pub refused_for : Ticket → Refusal → Result Receipt (Refusal × Ticket)
refused_for ticket refusal = Err (refusal, ticket)
