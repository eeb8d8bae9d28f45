-- What a call does to a session and to its writer, in one word each.
--     PutsSo contents Is result before after            the writer has bytes more that are as this says
--     Stays old new                                     but for what it has seen the session is as it was
--     Tells Is origin old new contents before after     it tells something, and goes on to a state, as this says
--     Says copying origin line old new contents before after     what it tells to a line
use Rattle.std.specs.Prelude.{◌≡◌, ⊤, ℕ, List, Option, None, Some, Result, OnOk, IfErr}
use Rattle.std.specs.Io.KnownBytes.{Appends}
use mathlib.Core.List.{IsPrefix}
use Rattle.roadnet.specs.declared.refusals.Refusal.TheVariants.{Write}
use Rattle.history.specs.Origins.{Origin}
use Rattle.machine.specs.declared.calls.Ticket.{Ticket}
use Rattle.office.specs.declared.naming.Naming.{Ghosts}
use Rattle.printing.specs.Counting.{failed_writes, writer_of, IsSameWriter, CountsFailure}
use Rattle.printing.specs.declared.failed.Failed.{Failed}
use Rattle.printing.specs.declared.failed.Failed.TheVariants.{Code}
use Rattle.printing.specs.declared.writer.CountedWriter.{CountedWriter}
use Rattle.session_lines.specs.declared.drafts.Draft.{Draft}
use Rattle.session_lines.specs.declared.lines.Line.{Line}
use Rattle.session_lines.specs.Drafts.{Drafted, IsDraft}
use Rattle.sessions.specs.declared.session.sessions.SessionGroup.{SessionGroup}
use Rattle.sessions.specs.declared.session.sessions.Session.{Session}
use Rattle.session_lines.specs.Copying.{Copying}
use Rattle.sessions.specs.Told.{HasMore, known_to}
use Rattle.sessions.specs.Turns.{Grouped, SessionState, IsSessionAnswer, IsEnd, next_group}
use Rattle.sessions.specs.declared.session.sessions.Purpose.{Purpose}

-- It stays the same writer, and nothing but a failed write is told, 12, which is counted; where no write fails bytes are written that are as this says, and
-- nothing else.
pub record PutsSo {W X : Type 0} (contents : W → Option (List ℕ)) (Is : List ℕ → Type 0) (result : Result X Failed) (before after : CountedWriter W) : Type 0 where
  pub written : OnOk result ((told : List ℕ) × Is told × Appends (contents (writer_of before)) (contents (writer_of after)) told)
  pub refused : IfErr result (λ failed. failed ≡ Code Write)
  pub counts : CountsFailure (failed_writes before) (failed_writes after) result
  pub same : IsSameWriter before after

-- how a session is
abbrev pub session_state_of : {N : Type 0} {n : Ghosts N} → Session N n → SessionState
session_state_of session = record { last = session.last; known = known_to session.place; supposed = session.supposed }

-- But for what it has seen and was told of, which begins with what it had, the session is as it was.
pub record Stays {N : Type 0} {n : Ghosts N} (old new : Session N n) : Type 0 where
  pub last : new.last ≡ old.last
  pub receipts : new.receipts ≡ old.receipts
  pub group : new.group ≡ old.group
  pub supposed : new.supposed ≡ old.supposed
  pub begins : IsPrefix (known_to old.place) (known_to new.place)

-- the group that lines are in is kept so
abbrev pub IsKeptGroup : Option Grouped → Option SessionGroup → Type 0
IsKeptGroup None None = ⊤
IsKeptGroup None (Some kept) = ⊥
IsKeptGroup (Some group) None = ⊥
IsKeptGroup (Some group) (Some kept) = (group.purpose ≡ kept.purpose) × IsDraft group.draft kept.draft

-- The session tells something and tells groups to be durable, as this says of how it was and is. The writer has it and no more, and the beginning of the
-- history that the session has goes on to one with these groups.
pub record Tells {N : Type 0} {n : Ghosts N} {W : Type 0} (Is : SessionState → SessionState → List ℕ → List Ticket → Type 0) (origin : Origin) (old new : Session N n) (contents : W → Option (List ℕ)) (before after : CountedWriter W) : Type 0 where
  pub told : List ℕ
  pub durable : List Ticket
  pub so : Is (session_state_of old) (session_state_of new) told durable
  pub kept : HasMore origin old.receipts new.receipts durable
  pub written : Appends (contents (writer_of before)) (contents (writer_of after)) told

-- the end of a group whose lines are kept so, whatever they said
abbrev pub EndsSo : Copying → Origin → Purpose → Draft → SessionState → SessionState → List ℕ → List Ticket → Type 0
EndsSo copying origin purpose kept was is told durable = (draft : Drafted) → IsDraft draft kept → IsEnd copying origin purpose draft was is told durable

-- the answer to a line within the group that is kept so, or outside of groups, and the group that is kept behind it
abbrev pub AnswersSo : Copying → Origin → Line → Option SessionGroup → Option SessionGroup → SessionState → SessionState → List ℕ → List Ticket → Type 0
AnswersSo copying origin line kept next was is told durable =
    (group : Option Grouped) → IsKeptGroup group kept → IsSessionAnswer copying origin group line was is told durable × IsKeptGroup (next_group group line) next

-- what a session tells to a line, and how it goes on
abbrev pub SaysToLine : {N : Type 0} {n : Ghosts N} {W : Type 0} → Copying → Origin → Line → Session N n → Session N n → (W → Option (List ℕ)) → CountedWriter W → CountedWriter W → Type 0
SaysToLine copying origin line old new contents before after = Tells (AnswersSo copying origin line old.group new.group) origin old new contents before after
