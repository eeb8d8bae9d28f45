-- What is left of sessions that have ended.
use Rattle.std.specs.Prelude.{List, [], ◌∷◌, ◌++◌, All, Option}
use mathlib.Core.List.{IsPrefix}
use Rattle.machine.specs.declared.calls.Ticket.{Ticket}
use Rattle.history.specs.Origins.{Origin, Beginning}
use Rattle.sessions.specs.Told.{HaveReceipts, known_to}
use Rattle.sessions.specs.Turns.{SessionStanding, IsSessionKept, IsSessionAt}

-- the one has the receipts and the groups that the other has
abbrev pub HoldsMore : Origin → Option Beginning → Option Beginning → Type 0
HoldsMore origin less more =
    ((tickets : List Ticket) → HaveReceipts origin less tickets → HaveReceipts origin more tickets) × IsPrefix (known_to less) (known_to more)

-- each of these sessions told to be durable what has a receipt here, and has seen no group that isn't here
abbrev pub AreLeft : Origin → Option Beginning → Option Beginning → List SessionStanding → Type 0
AreLeft origin receipts seen sessions = All (λ last. HaveReceipts origin receipts last.durable × IsPrefix last.state.known (known_to seen)) sessions

-- what is left of any sessions is left of them and of one more that has this
abbrev pub LeavesOneMore : Origin → Option Beginning → Option Beginning → Option Beginning → Option Beginning → Option Beginning → Option Beginning → Type 0
LeavesOneMore origin receipts seen all_receipts all_seen place place_receipts =
    (sessions : List SessionStanding) (last : SessionStanding) → AreLeft origin receipts seen sessions → IsSessionAt origin place place_receipts last → AreLeft origin all_receipts all_seen (sessions ++ last ∷ [])

-- each session of which this is left is kept: what it was told is in whatever a stop leaves of the closed desk
abbrev pub AreSessionsKept : Origin → Option Beginning → Option Beginning → Beginning → Beginning → Type 0
AreSessionsKept origin receipts seen whole shown = (sessions : List SessionStanding) → AreLeft origin receipts seen sessions → All (IsSessionKept whole shown) sessions
