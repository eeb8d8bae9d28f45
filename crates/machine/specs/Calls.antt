-- The steps of the machine: for each call the answers that it may give, and the state that it leaves. Refusals come in the
-- order in which they stand.
use Rattle.std.specs.Prelude.{◌≡◌, ◌⊎◌, ℕ, ◌+◌, ◌-◌, ◌≤◌, Bool, true, false, [], ◌∷◌, ◌++◌, ◌==◌, nat_le, nat_lt, ◌&&◌, ◌||◌, if◌then◌else◌, length, Option, None, Some, is_some, is_none, not, unwrap_or, option_map, option_and_then, Result, Ok, Err}
use Rattle.roadnet.specs.declared.groups.Group.{Group}
use Rattle.roadnet.specs.declared.refusals.Refusal.{Refusal}
use Rattle.roadnet.specs.declared.refusals.Refusal.TheVariants.{OutOfMemory, Device, JournalFull, Broken, VersionsExhausted, QueueFull, NoTask, OtherNetwork, NothingPending, NotYet, HistoryFull}
use Rattle.roadnet.specs.Groups.{IsGroup}
use Rattle.roadnet.specs.Net.{Net}
use Rattle.roadnet.specs.Step.{first_refusal}
use Rattle.rows.specs.declared.queries.Query.{Query}
use Rattle.rows.specs.declared.queries.Query.TheVariants.{Dist}
use Rattle.rows.specs.Replies.{IsRight, query_refusal_of as refusal_of_query}
use Rattle.machine.specs.declared.calls.Ticket.{Ticket}
use Rattle.machine.specs.declared.calls.Receipt.{Receipt}
use Rattle.machine.specs.declared.calls.Answer.{Answer}
use Rattle.machine.specs.Machine.{Checkpoint, Machine, most_versions, most_pending, most_of_life, latest, pending, of_life, batch, accepted_network, groups_to, network_at, group_at}

-- Refused for this cause, or else for want of memory. Nothing changes.
abbrev pub IsRefused : Option Refusal → Refusal → Machine → Machine → Type 0
IsRefused cause refusal old new = ((cause ≡ Some refusal) ⊎ ((cause ≡ None) × (refusal ≡ OutOfMemory))) × (new ≡ old)

-- The same of a call that takes memory only where this is true.
abbrev pub IsRefusedTaking : Bool → Option Refusal → Refusal → Machine → Machine → Type 0
IsRefusedTaking takes cause refusal old new = ((cause ≡ Some refusal) ⊎ ((cause ≡ None) × (takes ≡ true) × (refusal ≡ OutOfMemory))) × (new ≡ old)

-- The disk failed, with so many groups in flight. Nothing is written from then on.
abbrev pub failed : Machine → ℕ → Machine
failed m groups = record m { broken = true; in_flight = groups }

-- SUBMIT

abbrev pub refusal_of_submit : Machine → Group → Option Refusal
refusal_of_submit m group =
    if m.broken then Some Broken else
    if nat_lt most_of_life (of_life m + length group) then Some HistoryFull else
    if nat_le most_versions (latest m) then Some VersionsExhausted else
    if nat_lt most_pending (pending m + length group) then Some QueueFull else
    option_and_then (λ net. first_refusal net group) (accepted_network m)

abbrev pub with_group : Machine → Group → Machine
with_group m group = record m { accepted = m.accepted ++ group ∷ [] }

abbrev pub Submits : Machine → Group → Result Ticket Refusal → Machine → Type 0
Submits old group (Ok ticket) new =
    (refusal_of_submit old group ≡ None) × (ticket ≡ record { number = latest old + 1; group = group }) × (new ≡ with_group old group) × IsGroup group
Submits old group (Err refusal) new = IsRefused (refusal_of_submit old group) refusal old new

-- FLUSH

abbrev pub refusal_of_flush : Machine → Option Refusal
refusal_of_flush m =
    if m.broken then Some Broken else
    if nat_le (latest m) m.durable then Some NothingPending else
    if nat_le m.sizes.journal_pages m.unchecked then Some JournalFull else None

-- one journal page more was flushed since it began
abbrev pub with_page_flushed : Checkpoint → Checkpoint
with_page_flushed c = record c { flushed = c.flushed + 1 }

-- the longest front of pending groups that fits a journal page is durable, in one page
abbrev pub with_batch : Machine → Machine
with_batch m =
    record m { durable = m.durable + batch m; unchecked = m.unchecked + 1; checkpoint = option_map with_page_flushed m.checkpoint }

abbrev pub Flushes : Machine → Result ℕ Refusal → Machine → Type 0
Flushes old (Ok durable) new = (refusal_of_flush old ≡ None) × (new ≡ with_batch old) × (durable ≡ new.durable)
Flushes old (Err refusal) new =
    IsRefused (refusal_of_flush old) refusal old new
    ⊎ ((refusal_of_flush old ≡ None) × (refusal ≡ Device) × (new ≡ failed old (batch old)))

-- A STEP OF A CHECKPOINT, of so many pages. It answers the version that is done, or nothing while the checkpoint is going.

abbrev pub checkpoint_refusal_of : Machine → Option Refusal
checkpoint_refusal_of m = if m.broken then Some Broken else None

-- no checkpoint is going, and no page is unchecked
abbrev pub has_nothing_unchecked : Machine → Bool
has_nothing_unchecked m = is_none m.checkpoint && (m.unchecked == 0)

-- the checkpoint that is going, or else one that begins now
abbrev pub checkpoint_of : Machine → Checkpoint
checkpoint_of m = unwrap_or m.checkpoint (record { version = m.durable; left = m.sizes.checkpoint_pages; flushed = 0 })

abbrev pub done_by : Machine → ℕ → Option ℕ
done_by m pages =
    if has_nothing_unchecked m then Some m.durable else
    if nat_lt pages (checkpoint_of m).left then None else Some (checkpoint_of m).version

abbrev pub with_pages_written : Checkpoint → ℕ → Checkpoint
with_pages_written c pages = record c { left = c.left - pages }

-- some of the checkpoint's pages are written, or all are, and of the journal only what was flushed since is still needed
abbrev pub with_part : Machine → ℕ → Machine
with_part m pages =
    if has_nothing_unchecked m then m else
    if nat_lt pages (checkpoint_of m).left then record m { checkpoint = Some (with_pages_written (checkpoint_of m) pages) } else
    record m { checkpoint = None; unchecked = (checkpoint_of m).flushed }

-- a checkpoint begins with the step
abbrev pub begins_checkpoint : Machine → Bool
begins_checkpoint m = is_none m.checkpoint && not (m.unchecked == 0)

abbrev pub StepsCheckpoint : Machine → ℕ → Result (Option ℕ) Refusal → Machine → Type 0
StepsCheckpoint old pages (Ok done) new = (checkpoint_refusal_of old ≡ None) × (done ≡ done_by old pages) × (new ≡ with_part old pages)
StepsCheckpoint old pages (Err refusal) new =
    IsRefusedTaking (begins_checkpoint old) (checkpoint_refusal_of old) refusal old new
    ⊎ ((checkpoint_refusal_of old ≡ None) × (has_nothing_unchecked old ≡ false) × (refusal ≡ Device) × (new ≡ failed old 0))

-- TASKS AND VIEWS

-- a task is out, or what is durable is shown
abbrev pub has_no_task : Machine → Bool
has_no_task m = is_some m.task || (m.shown == m.durable)

-- a task is a version with its network
abbrev pub TakesTask : Machine → Result (Option (ℕ × Net)) Refusal → Machine → Type 0
TakesTask old (Ok None) new = (has_no_task old ≡ true) × (new ≡ old)
TakesTask old (Ok (Some task)) new =
    (has_no_task old ≡ false) × (task.0 ≡ old.durable) × (network_at old old.durable ≡ Some task.1) × (new ≡ record old { task = Some old.durable })
TakesTask old (Err refusal) new = (has_no_task old ≡ false) × (refusal ≡ OutOfMemory) × (new ≡ old)

-- whether the task of this number is out
abbrev pub is_out : Machine → ℕ → Bool
is_out m number = unwrap_or (option_map (λ v. v == number) m.task) false

-- the task of this number is given up, where it is out
abbrev pub without_task : Machine → ℕ → Machine
without_task m number = if is_out m number then record m { task = None } else m

-- a view of this version and network is that of the task
abbrev pub IsTask : Machine → ℕ → Net → Type 0
IsTask m version network = (m.task ≡ Some version) × (network_at m version ≡ Some network)

-- what `publish` of the view would be refused with
abbrev pub RefusesView : Machine → ℕ → Net → Refusal → Type 0
RefusesView m version network refusal =
    ((refusal ≡ NoTask) × (m.task ≡ None))
    ⊎ ((refusal ≡ OtherNetwork) × (is_some m.task ≡ true) × ¬ IsTask m version network)

abbrev pub with_shown : Machine → ℕ → Machine
with_shown m version = record m { task = None; shown = version }

abbrev pub Publishes : Machine → ℕ → Net → Result ℕ Refusal → Machine → Type 0
Publishes old version network (Ok shown) new = IsTask old version network × (shown ≡ version) × (new ≡ with_shown old version)
Publishes old version network (Err refusal) new = RefusesView old version network refusal × (new ≡ old)

-- QUERIES AND RECEIPTS

-- The query takes a row: it is a distance, which the network does not refuse.
abbrev pub TakesRow : Query → Net → Type 0
TakesRow (Dist source target) net = refusal_of_query net (Dist source target) ≡ None
TakesRow query net = ⊥

-- P of the network at the version that is shown
abbrev pub AtShown : Machine → (Net → Type 0) → Type 0
AtShown m P = (net : Net) × (network_at m m.shown ≡ Some net) × P net

-- An answer names the version that is shown, and is right in its network. Want of memory is for a row.
abbrev pub Asks : Machine → Query → Result Answer Refusal → Machine → Type 0
Asks old query (Ok answer) new =
    (answer.version ≡ old.shown) × AtShown old (λ net. IsRight net query answer.reply) × (new ≡ old)
Asks old query (Err refusal) new = (refusal ≡ OutOfMemory) × AtShown old (TakesRow query) × (new ≡ old)

-- the ticket's group was accepted as its number, and since the base
abbrev pub IsTicketOf : Machine → Ticket → Type 0
IsTicketOf m ticket = (m.base_version + 1 ≤ ticket.number) × (group_at m ticket.number ≡ Some ticket.group)

-- a ticket that gets no receipt is handed back
abbrev pub receipt_for : Machine → Ticket → Result Receipt (Refusal × Ticket)
receipt_for m ticket =
    if nat_le ticket.number m.durable then Ok (record { number = ticket.number; group = ticket.group }) else
    if m.broken then Err (Broken, ticket) else Err (NotYet, ticket)

-- STOPS

-- opened again at this version
abbrev pub reopened : Machine → ℕ → ℕ → Machine
reopened m version unchecked =
    record m {
      accepted = groups_to m version;
      durable = version;
      shown = version;
      opened = version;
      unchecked = unchecked;
      in_flight = 0;
      broken = false;
      task = None;
      checkpoint = None;
    }

-- a stop leaves this version: what was durable, with the groups in flight or without
abbrev pub IsLeft : Machine → ℕ → Type 0
IsLeft m version = (version ≡ m.durable) ⊎ (version ≡ m.durable + m.in_flight)

-- Opening counts the unchecked pages anew.
abbrev pub StopsAndOpens : Machine → ℕ → Machine → Type 0
StopsAndOpens old version new =
    IsLeft old version × ((unchecked : ℕ) × (unchecked ≤ old.sizes.journal_pages) × (new ≡ reopened old version unchecked))
