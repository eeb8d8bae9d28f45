-- Runs of the machine: calls and their answers, one after another.
use Rattle.std.specs.Prelude.{◌≡◌, ℕ, List, [], ◌∷◌, ◌++◌, Option, Result, Ok, nat_le, filter}
use Rattle.roadnet.specs.declared.groups.Group.{Group}
use Rattle.roadnet.specs.declared.refusals.Refusal.{Refusal}
use Rattle.roadnet.specs.Net.{Net}
use Rattle.rows.specs.declared.queries.Query.{Query}
use Rattle.machine.specs.declared.calls.Ticket.{Ticket}
use Rattle.machine.specs.declared.calls.Receipt.{Receipt}
use Rattle.machine.specs.declared.calls.Answer.{Answer}
use Rattle.machine.specs.Machine.{Machine}
use Rattle.machine.specs.Calls.{Submits, Flushes, StepsCheckpoint, TakesTask, without_task, Publishes, Asks, IsTicketOf, receipt_for, StopsAndOpens}

-- a call with its answer, or a stop with the version that was opened after it
pub data Happened : Type 0 where
  Submitted : (group : Group) (result : Result Ticket Refusal) → Happened
  Flushed : (result : Result ℕ Refusal) → Happened
  Checkpointed : (pages : ℕ) (result : Result (Option ℕ) Refusal) → Happened
  TookTask : (result : Result (Option (ℕ × Net)) Refusal) → Happened
  GaveUp : (number : ℕ) → Happened
  Published : (version : ℕ) (network : Net) (result : Result ℕ Refusal) → Happened
  Asked : (query : Query) (result : Result Answer Refusal) → Happened
  Received : (ticket : Ticket) (result : Result Receipt (Refusal × Ticket)) → Happened
  Stopped : (version : ℕ) → Happened

-- in the state old this may happen, and leads to new
abbrev pub Step : Machine → Happened → Machine → Type 0
Step old (Submitted group result) new = Submits old group result new
Step old (Flushed result) new = Flushes old result new
Step old (Checkpointed pages result) new = StepsCheckpoint old pages result new
Step old (TookTask result) new = TakesTask old result new
Step old (GaveUp number) new = new ≡ without_task old number
Step old (Published version network result) new = Publishes old version network result new
Step old (Asked query result) new = Asks old query result new
-- a ticket of another life is the caller's fault
Step old (Received ticket result) new = IsTicketOf old ticket × (result ≡ receipt_for old ticket) × (new ≡ old)
Step old (Stopped version) new = StopsAndOpens old version new

abbrev pub Run : Machine → List Happened → Machine → Type 0
Run old [] new = new ≡ old
Run old (h ∷ hs) new = (mid : Machine) × Step old h mid × Run mid hs new

-- those of these tickets whose numbers are at most this version
abbrev pub up_to : ℕ → List Ticket → List Ticket
up_to version tickets = filter (λ ticket. nat_le ticket.number version) tickets

-- The tickets whose groups stand after this, where those of these stood before: a stop takes back what is above the version that
-- is opened.
abbrev pub held_after : List Ticket → Happened → List Ticket
held_after held (Submitted group (Ok ticket)) = ticket ∷ held
held_after held (Stopped version) = up_to version held
held_after held _ = held

-- the tickets whose groups this acknowledges: a flush those up to the version that it answers, a receipt its own
abbrev pub acknowledged_by : List Ticket → Happened → List Ticket
acknowledged_by held (Flushed (Ok durable)) = up_to durable held
acknowledged_by held (Received ticket (Ok receipt)) = record { number = receipt.number; group = receipt.group } ∷ []
acknowledged_by held _ = []

-- the tickets whose groups are acknowledged in these calls
abbrev pub acknowledged : List Ticket → List Happened → List Ticket
acknowledged held [] = []
acknowledged held (h ∷ hs) = acknowledged_by held h ++ acknowledged (held_after held h) hs
