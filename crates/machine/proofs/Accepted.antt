-- The accepted groups are what the turns of a run say.
use Rattle.std.proofs.Common.{◌≡◌, ⊎_elim, ℕ, ◌-◌, List, [], ◌∷◌, ◌++◌, take, Option, Some, None, Result, Ok, Err, refl, sym, ◌∙◌, ap, subst}
use Rattle.std.proofs.lemmas.List.{append-nil}
use Rattle.roadnet.specs.declared.groups.Group.{Group}
use Rattle.roadnet.specs.declared.refusals.Refusal.{Refusal}
use Rattle.roadnet.specs.declared.refusals.Refusal.TheVariants.{Device}
use Rattle.roadnet.specs.Net.{Net}
use Rattle.rows.specs.declared.queries.Query.{Query}
use Rattle.machine.specs.declared.calls.Ticket.{Ticket}
use Rattle.machine.specs.declared.calls.Answer.{Answer}
use Rattle.machine.specs.declared.events.Event.{Event}
use Rattle.machine.specs.declared.events.Event.TheVariants.{Submit, Flush, Checkpoint, CheckpointStep, Task, Publish, Ask, Stop, StopWithin}
use Rattle.machine.specs.declared.events.Writing.{Writing}
use Rattle.machine.specs.declared.events.Writing.TheVariants.{Flush as a_flush, Checkpoint as a_checkpoint, Step as a_step}
use Rattle.machine.specs.declared.events.Replied.{Replied}
use Rattle.machine.specs.declared.events.Replied.TheVariants.{Refused, Opened, Stopped as StoppedAlone}
use Rattle.machine.specs.Machine.{Machine, IsState, start, batch}
use Rattle.machine.specs.Calls.{Submits, Flushes, TakesTask, Asks, StopsAndOpens, failed, with_batch}
use Rattle.machine.specs.Lives.{told_ticket, told_version, told_part, Writes, StopComes, Does, StopsFor, Turn, Passes, Ends}
use Rattle.machine.specs.Lives.Ends.{Whole, NoMemory, NotOpened}
use Rattle.machine.specs.Headline.{groups_left, accepted_behind, accepted_in, WholeHistoriesAreAccepted}
use Rattle.machine.proofs.Kept.{started}
use Rattle.machine.proofs.Checkpoints.{but_step, but_checkpoint}
use Rattle.machine.proofs.OverLives.{later_by_turn}

-- ---- what writes accepts nothing and takes nothing back
abbrev HasSame : Machine → Machine → Type 0
HasSame a b = (b.accepted ≡ a.accepted) × (b.base_version ≡ a.base_version)

same_as : (a m b : Machine) → b ≡ m → HasSame a m → HasSame a b
same_as a m b is same = subst (HasSame a) (sym is) same

same_flush : (a b : Machine) (result : Result ℕ Refusal) → Flushes a result b → HasSame a b
same_flush a b (Ok durable) step = same_as a (with_batch a) b step.1 (refl, refl)
same_flush a b (Err refusal) step =
    ⊎_elim (λ r. same_as a a b r.1 (refl, refl)) (λ f. same_as a (failed a (batch a)) b f.2 (refl, refl)) step

same_write : (w : Writing) (a b : Machine) (reply : Replied) → Writes a w reply b → HasSame a b
same_write a_flush a b reply w = same_flush a b w.0 w.1
same_write a_checkpoint a b reply w = let but = but_checkpoint a b w.0 w.1 in (ap (λ (m : Machine). m.accepted) but, ap (λ (m : Machine). m.base_version) but)
same_write (a_step pages) a b reply w = let but = but_step a b pages.pages w.0 w.1 in (ap (λ (m : Machine). m.accepted) but, ap (λ (m : Machine). m.base_version) but)

same_stop : (w : Writing) (a b : Machine) (replies : List Replied) (final : Replied) → StopComes a w replies final b → HasSame a b
same_stop w a b replies final comes =
    ⊎_elim (λ within. same_write w a b (Refused Device) within.0) (λ behind. same_write w a b behind.0 behind.1) comes

-- ---- the stop's own reply tells what is left
past_version : (result : Result ℕ Refusal) (more : List Replied) (version : ℕ) (cs : List Group) → groups_left version cs (told_version result ∷ more) ≡ groups_left version cs more
past_version (Ok durable) more version cs = refl
past_version (Err refusal) more version cs = refl

past_part : (result : Result (Option ℕ) Refusal) (more : List Replied) (version : ℕ) (cs : List Group) → groups_left version cs (told_part result ∷ more) ≡ groups_left version cs more
past_part (Ok None) more version cs = refl
past_part (Ok (Some durable)) more version cs = refl
past_part (Err refusal) more version cs = refl

past_write : (w : Writing) (a b : Machine) (reply : Replied) (more : List Replied) (version : ℕ) (cs : List Group) → Writes a w reply b → groups_left version cs (reply ∷ more) ≡ groups_left version cs more
past_write a_flush a b reply more version cs w = ap (λ (r : Replied). groups_left version cs (r ∷ more)) w.2 ∙ past_version w.0 more version cs
past_write a_checkpoint a b reply more version cs w = ap (λ (r : Replied). groups_left version cs (r ∷ more)) w.2 ∙ past_version w.0 more version cs
past_write (a_step pages) a b reply more version cs w = ap (λ (r : Replied). groups_left version cs (r ∷ more)) w.2 ∙ past_part w.0 more version cs

by_final : (w : Writing) (a b : Machine) (replies : List Replied) (final : Replied) (version : ℕ) (cs : List Group) → StopComes a w replies final b → groups_left version cs replies ≡ groups_left version cs (final ∷ [])
by_final w a b replies final version cs comes = ⊎_elim
    (λ within. ap (groups_left version cs) within.1)
    (λ behind. ap (groups_left version cs) behind.2 ∙ past_write w a b behind.0 (final ∷ []) version cs behind.1)
    comes

opened_has : (a b : Machine) (v : ℕ) → StopsAndOpens a v b → take (v - a.base_version) a.accepted ≡ b.accepted
opened_has a b v opens = sym (ap (λ (m : Machine). m.accepted) opens.1.2)

-- ---- each turn changes the machine's accepted groups as it says
same_task : (a b : Machine) (result : Result (Option (ℕ × Net)) Refusal) → TakesTask a result b → a.accepted ≡ b.accepted
same_task a b (Ok None) takes = sym (ap (λ (m : Machine). m.accepted) takes.1)
same_task a b (Ok (Some task)) takes = sym (ap (λ (m : Machine). m.accepted) takes.3)
same_task a b (Err refusal) takes = sym (ap (λ (m : Machine). m.accepted) takes.2)

same_asked : (a b : Machine) (query : Query) (result : Result Answer Refusal) → Asks a query result b → a.accepted ≡ b.accepted
same_asked a b query (Ok answer) asks = sym (ap (λ (m : Machine). m.accepted) asks.2)
same_asked a b query (Err refusal) asks = sym (ap (λ (m : Machine). m.accepted) asks.2)

by_submit : (P : Type 0) (a b : Machine) (c : Group) (result : Result Ticket Refusal) → Submits a c result b → accepted_behind {P = P} a.base_version a.accepted (Submit c) (told_ticket result ∷ []) ≡ b.accepted
by_submit P a b c (Ok ticket) step = sym (ap (λ (m : Machine). m.accepted) step.2)
by_submit P a b c (Err refusal) step = sym (ap (λ (m : Machine). m.accepted) step.1)

by_turn : (P : Type 0) (e : Event P) (a b : Machine) (replies : List Replied) → Does a e replies b → accepted_behind a.base_version a.accepted e replies ≡ b.accepted
by_turn P (Submit c) a b replies d = ap (accepted_behind {P = P} a.base_version a.accepted (Submit c)) d.2 ∙ by_submit P a b c d.0 d.1
by_turn P Flush a b replies d = sym (same_write a_flush a b d.0 d.1).0
by_turn P Checkpoint a b replies d = sym (same_write a_checkpoint a b d.0 d.1).0
by_turn P (CheckpointStep pages) a b replies d = sym (same_write (a_step pages) a b d.0 d.1).0
by_turn P Task a b replies d = same_task a b d.0 d.1
by_turn P Publish a b replies d = ⊎_elim (λ p. sym (ap (λ (m : Machine). m.accepted) p.2.2)) (λ n. sym (ap (λ (m : Machine). m.accepted) n.1)) d
by_turn P (Ask query) a b replies d = same_asked a b query d.0 d.1
by_turn P Stop a b replies d = ap (groups_left a.base_version a.accepted) d.2 ∙ opened_has a b d.0 d.1
by_turn P (StopWithin call picks writing) a b replies d =
    let same = same_stop writing a d.0 replies (Opened d.1) d.2 in
    by_final writing a d.0 replies (Opened d.1) a.base_version a.accepted d.2
    ∙ (ap (λ (cs : List Group). take (d.1 - a.base_version) cs) (sym same.0)
    ∙ (ap (λ (v : ℕ). take (d.1 - v) d.0.accepted) (sym same.1) ∙ opened_has d.0 b d.1 d.3))

-- a stop after which the store is not opened takes nothing back
by_end : (P : Type 0) (e : Event P) (a last : Machine) (replies : List Replied) → StopsFor a e replies last → accepted_behind a.base_version a.accepted e replies ≡ last.accepted
by_end P Stop a last replies stops = ap (groups_left a.base_version a.accepted) stops.1 ∙ sym (ap (λ (m : Machine). m.accepted) stops.0)
by_end P (StopWithin call picks writing) a last replies stops =
    by_final writing a last replies StoppedAlone a.base_version a.accepted stops ∙ sym (same_stop writing a last replies StoppedAlone stops).0
by_end P (Submit c) a last replies stops = absurd stops
by_end P Flush a last replies stops = absurd stops
by_end P Checkpoint a last replies stops = absurd stops
by_end P (CheckpointStep pages) a last replies stops = absurd stops
by_end P Task a last replies stops = absurd stops
by_end P Publish a last replies stops = absurd stops
by_end P (Ask query) a last replies stops = absurd stops

-- ---- a run of turns
-- from here on the turns that follow are folded from the machine's accepted groups
through : {P : Type 0} (turns rest : List (Turn P)) (a b : Machine) → IsState a → Passes a turns b → accepted_in a.base_version a.accepted (turns ++ rest) ≡ accepted_in b.base_version b.accepted rest
through [] rest a b s p = ap (λ (m : Machine). accepted_in m.base_version m.accepted rest) (sym p)
through (turn ∷ turns) rest a b s p =
    let now = later_by_turn turn a p.0 s p.1 in
    ap (λ (cs : List Group). accepted_in a.base_version cs (turns ++ rest)) (by_turn _ turn.0 a p.0 turn.1 p.1)
    ∙ (ap (λ (v : ℕ). accepted_in v p.0.accepted (turns ++ rest)) (sym now.1.base_version) ∙ through turns rest p.0 b now.0 p.2)

passed : {P : Type 0} (turns : List (Turn P)) (a b : Machine) → IsState a → Passes a turns b → accepted_in a.base_version a.accepted turns ≡ b.accepted
passed turns a b s p = ap (accepted_in a.base_version a.accepted) (sym (append-nil turns)) ∙ through turns [] a b s p

-- the accepted groups of a run are those of its last state
pub accepted_at_end : {P : Type 0} (first last : Machine) (turns : List (Turn P)) (rest : List (Event P)) (ended : Option Refusal) (history : List Group) → IsState first → Ends first turns rest ended history last → accepted_in first.base_version first.accepted turns ≡ last.accepted
accepted_at_end first last turns rest ended history s (Whole passes none nothing is) = passed turns first last s passes
accepted_at_end first last turns rest ended history s (NoMemory passes before some is) = passed turns first last s passes
accepted_at_end first last turns rest ended history s (NotOpened before turn mid whole passes stops why is) =
    ap (accepted_in first.base_version first.accepted) whole ∙ (through before (turn ∷ []) first mid s passes ∙ by_end _ turn.0 mid last turn.1 stops)

whole_history : {P : Type 0} (first last : Machine) (turns : List (Turn P)) (rest : List (Event P)) (ended : Option Refusal) (history : List Group) → ended ≡ None → Ends first turns rest ended history last → history ≡ last.accepted
whole_history first last turns rest ended history whole (Whole passes none nothing is) = is
whole_history first last turns rest ended history whole (NoMemory passes before some is) = is
whole_history first last turns rest ended history whole (NotOpened before turn mid all passes stops why is) =
    ⊎_elim (no_end whole) (no_end whole) why
  where
    no_end : {refusal : Refusal} → ended ≡ None → ended ≡ Some refusal → history ≡ last.accepted
    no_end none some = cc

pub whole_histories_are_accepted : (P : Type 0) → WholeHistoriesAreAccepted P
whole_histories_are_accepted P sizes base version unchecked events replies history last few fits lives =
    whole_history (start sizes base version unchecked) last lives.turns lives.rest None history refl lives.ends
    ∙ sym (accepted_at_end (start sizes base version unchecked) last lives.turns lives.rest None history (started sizes base version unchecked few fits) lives.ends)
