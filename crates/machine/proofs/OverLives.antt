-- The headline over lives with stops.
use Rattle.std.proofs.Common.{◌≡◌, ⊎_elim, ℕ, suc, zero, ◌+◌, ◌-◌, Bool, true, false, List, [], ◌∷◌, ◌++◌, take, Option, Some, None, Result, Ok, Err, refl, sym, ◌∙◌, ap, subst, arith}
use Rattle.std.specs.List.{AllByRecursion, flat_map}
use Rattle.std.proofs.lemmas.List.{take-take, append-nil}
use Rattle.std.proofs.lemmas.List.Concat.{flat_map-append}
use Rattle.roadnet.specs.declared.groups.Group.{Group}
use Rattle.roadnet.specs.declared.refusals.Refusal.{Refusal}
use Rattle.roadnet.specs.declared.refusals.Refusal.TheVariants.{Device, NoTask}
use Rattle.roadnet.specs.Net.{Net}
use Rattle.rows.specs.declared.queries.Query.{Query}
use Rattle.machine.specs.declared.calls.Ticket.{Ticket}
use Rattle.machine.specs.declared.calls.Answer.{Answer}
use Rattle.machine.specs.declared.events.Event.{Event}
use Rattle.machine.specs.declared.events.Event.TheVariants.{Submit, Flush, Checkpoint, CheckpointStep, Task, Publish, Ask, Stop, StopWithin}
use Rattle.machine.specs.declared.events.Writing.{Writing}
use Rattle.machine.specs.declared.events.Writing.TheVariants.{Flush as a_flush, Checkpoint as a_checkpoint, Step as a_step}
use Rattle.machine.specs.declared.events.Replied.{Replied}
use Rattle.machine.specs.declared.events.Replied.TheVariants.{Shown, Answered, Refused, Opened, Stopped as StoppedAlone}
use Rattle.machine.specs.Machine.{Machine, IsState, start, latest, groups_to}
use Rattle.machine.specs.Calls.{Submits, Flushes, Asks, IsLeft, IsTicketOf, with_group}
use Rattle.machine.specs.Runs.{Happened, Step, Run, up_to}
use Rattle.machine.specs.Runs.Happened.{Submitted, Flushed, Checkpointed, TookTask, Published, Asked, Stopped}
use Rattle.machine.specs.Lives.{told_ticket, told_version, told_part, told_task, told_answer, pages_of_step, EndsCheckpoint, GoesOn, Checkpoints, Writes, StopComes, Does, StopsFor, Turn, Passes, Ends}
use Rattle.machine.specs.Lives.Ends.{Whole, NoMemory, NotOpened}
use Rattle.machine.specs.Laws.{IsLater, IsAt, IsRightAfter}
use Rattle.machine.specs.Headline.{left_by, held_behind, durable_by, acknowledged_with, acknowledged_in, IsRightReply, ScriptsAreRuns, AcknowledgedAreInHistory, StopsLeaveAcknowledged, AnswersAreRight, StopsLeaveAnswers}
use Rattle.machine.proofs.Kept.{started}
use Rattle.machine.proofs.Later.{later_same, later_by_step, later_by_run, later_still}
use Rattle.machine.proofs.Acknowledged.{nth_from_front, all_both, all_of, is_stopped, ticket_by_step, ticket_of_new, IsDurable, held_by_step, acked_by_step, acked_still, durable_left, durable_groups, asked_right, right_still, right_in_more, right_left}

-- ---- an event is a run of calls
abbrev NoStop : List Happened → Type 0
NoStop hs = AllByRecursion (λ h. is_stopped h ≡ false) hs

abbrev RunsTo : Machine → Machine → Type 0
RunsTo a b = (hs : List Happened) × Run a hs b

abbrev CalmlyTo : Machine → Machine → Type 0
CalmlyTo a b = (hs : List Happened) × Run a hs b × NoStop hs

run_both : (xs ys : List Happened) (a b c : Machine) → Run a xs b → Run b ys c → Run a (xs ++ ys) c
run_both [] ys a b c r q = subst (λ (m : Machine). Run m ys c) r q
run_both (h ∷ hs) ys a b c r q = (r.0, r.1, run_both hs ys r.0 b c r.2 q)

run_one : (a b : Machine) (h : Happened) → Step a h b → Run a (h ∷ []) b
run_one a b h s = (b, s, refl)

calm_one : (a b : Machine) (h : Happened) → is_stopped h ≡ false → Step a h b → CalmlyTo a b
calm_one a b h calm s = (h ∷ [], run_one a b h s, (calm, tt))

calm_both : (a b c : Machine) → CalmlyTo a b → CalmlyTo b c → CalmlyTo a c
calm_both a b c r q = (r.0 ++ q.0, run_both r.0 q.0 a b c r.1 q.1, all_both (λ h. is_stopped h ≡ false) r.0 q.0 r.2 q.2)

goes_on : (n : ℕ) (a b : Machine) → GoesOn n a b → CalmlyTo a b
goes_on zero a b g = ([], g, tt)
goes_on (suc n) a b g = calm_both a g.0 b (calm_one a g.0 (Checkpointed pages_of_step (Ok None)) refl g.1) (goes_on n g.0 b g.2)

ends_checkpoint : (result : Result ℕ Refusal) (a b : Machine) → EndsCheckpoint a pages_of_step result b → CalmlyTo a b
ends_checkpoint (Ok version) a b e = calm_one a b (Checkpointed pages_of_step (Ok (Some version))) refl e
ends_checkpoint (Err refusal) a b e = calm_one a b (Checkpointed pages_of_step (Err refusal)) refl e

checkpoints_run : (a b : Machine) (result : Result ℕ Refusal) → Checkpoints a result b → CalmlyTo a b
checkpoints_run a b result c = calm_both a c.1 b (goes_on c.0 a c.1 c.2) (ends_checkpoint result c.1 b c.3)

writes_run : (w : Writing) (a b : Machine) (reply : Replied) → Writes a w reply b → CalmlyTo a b
writes_run a_flush a b reply w = calm_one a b (Flushed w.0) refl w.1
writes_run a_checkpoint a b reply w = checkpoints_run a b w.0 w.1
writes_run (a_step pages) a b reply w = calm_one a b (Checkpointed pages.pages w.0) refl w.1

stop_run : (w : Writing) (a b : Machine) (replies : List Replied) (final : Replied) → StopComes a w replies final b → CalmlyTo a b
stop_run w a b replies final comes =
    ⊎_elim (λ within. writes_run w a b (Refused Device) within.0) (λ behind. writes_run w a b behind.0 behind.1) comes

-- an event that is no stop
abbrev is_stop : {P : Type 0} → Event P → Bool
is_stop Stop = true
is_stop (StopWithin call picks writing) = true
is_stop _ = false

calm_event : {P : Type 0} (e : Event P) (a b : Machine) (replies : List Replied) → is_stop e ≡ false → Does a e replies b → CalmlyTo a b
calm_event (Submit c) a b replies calm d = calm_one a b (Submitted c d.0) refl d.1
calm_event Flush a b replies calm d = writes_run a_flush a b d.0 d.1
calm_event Checkpoint a b replies calm d = writes_run a_checkpoint a b d.0 d.1
calm_event (CheckpointStep pages) a b replies calm d = writes_run (a_step pages) a b d.0 d.1
calm_event Task a b replies calm d = calm_one a b (TookTask d.0) refl d.1
calm_event Publish a b replies calm d = ⊎_elim (λ p. calm_one a b (Published p.0 p.1 (Ok p.0)) refl p.2) (λ n. ([], n.1, tt)) d
calm_event (Ask query) a b replies calm d = calm_one a b (Asked query d.0) refl d.1
calm_event Stop a b replies calm d = cc
calm_event (StopWithin call picks writing) a b replies calm d = cc

event_run : {P : Type 0} (e : Event P) (a b : Machine) (replies : List Replied) → Does a e replies b → RunsTo a b
event_run Stop a b replies d = (Stopped d.0 ∷ [], run_one a b (Stopped d.0) d.1)
event_run (StopWithin call picks writing) a b replies d =
    let front = stop_run writing a d.0 replies (Opened d.1) d.2 in
    (front.0 ++ Stopped d.1 ∷ [], run_both front.0 (Stopped d.1 ∷ []) a d.0 b front.1 (run_one d.0 b (Stopped d.1) d.3))
event_run (Submit c) a b replies d = (Submitted c d.0 ∷ [], run_one a b (Submitted c d.0) d.1)
event_run Flush a b replies d = let r = writes_run a_flush a b d.0 d.1 in (r.0, r.1)
event_run Checkpoint a b replies d = let r = writes_run a_checkpoint a b d.0 d.1 in (r.0, r.1)
event_run (CheckpointStep pages) a b replies d = let r = writes_run (a_step pages) a b d.0 d.1 in (r.0, r.1)
event_run Task a b replies d = (TookTask d.0 ∷ [], run_one a b (TookTask d.0) d.1)
event_run Publish a b replies d = ⊎_elim (λ p. (Published p.0 p.1 (Ok p.0) ∷ [], run_one a b (Published p.0 p.1 (Ok p.0)) p.2)) (λ n. ([], n.1)) d
event_run (Ask query) a b replies d = (Asked query d.0 ∷ [], run_one a b (Asked query d.0) d.1)

-- ---- what is held and what is acknowledged
ticket_by_run : (hs : List Happened) (old new : Machine) (t : Ticket) → Run old hs new → NoStop hs → IsTicketOf old t → IsTicketOf new t
ticket_by_run [] old new t r calm at = subst (λ (m : Machine). IsTicketOf m t) (sym r) at
ticket_by_run (h ∷ hs) old new t r calm at = ticket_by_run hs r.0 new t r.2 calm.1 (ticket_by_step old r.0 h t r.1 calm.0 at)

held_calmly : (a b : Machine) (held : List Ticket) → CalmlyTo a b → AllByRecursion (IsTicketOf a) held → AllByRecursion (IsTicketOf b) held
held_calmly a b held r all = all_of (IsTicketOf a) (IsTicketOf b) held (λ t. ticket_by_run r.0 a b t r.1 r.2) all

accepted_is : (a b : Machine) (c : Group) (t : Ticket) → t ≡ record { number = latest a + 1; group = c } → b ≡ with_group a c → IsTicketOf b (record { number = t.number; group = c })
accepted_is a b c t is new =
    subst (λ (x : Machine). IsTicketOf x (record { number = t.number; group = c })) (sym new)
    (subst (λ (x : Ticket). IsTicketOf (with_group a c) (record { number = x.number; group = c })) (sym is) (ticket_of_new a c))

-- the stop's own reply tells what is left
left_version : (result : Result ℕ Refusal) (version : ℕ) (held : List Ticket) → left_by held (told_version result ∷ Opened version ∷ []) ≡ up_to version held
left_version (Ok durable) version held = refl
left_version (Err refusal) version held = refl

left_part : (result : Result (Option ℕ) Refusal) (version : ℕ) (held : List Ticket) → left_by held (told_part result ∷ Opened version ∷ []) ≡ up_to version held
left_part (Ok None) version held = refl
left_part (Ok (Some durable)) version held = refl
left_part (Err refusal) version held = refl

left_told : (w : Writing) (a b : Machine) (reply : Replied) (version : ℕ) (held : List Ticket) → Writes a w reply b → left_by held (reply ∷ Opened version ∷ []) ≡ up_to version held
left_told a_flush a b reply version held w = ap (λ (r : Replied). left_by held (r ∷ Opened version ∷ [])) w.2 ∙ left_version w.0 version held
left_told a_checkpoint a b reply version held w = ap (λ (r : Replied). left_by held (r ∷ Opened version ∷ [])) w.2 ∙ left_version w.0 version held
left_told (a_step pages) a b reply version held w = ap (λ (r : Replied). left_by held (r ∷ Opened version ∷ [])) w.2 ∙ left_part w.0 version held

left_behind : (w : Writing) (a b : Machine) (replies : List Replied) (version : ℕ) (held : List Ticket) → StopComes a w replies (Opened version) b → left_by held replies ≡ up_to version held
left_behind w a b replies version held comes =
    ⊎_elim (λ within. ap (left_by held) within.1) (λ behind. ap (left_by held) behind.2 ∙ left_told w a b behind.0 version held behind.1) comes

held_by_turn : (P : Type 0) (e : Event P) (a b : Machine) (replies : List Replied) (held : List Ticket) → Does a e replies b → AllByRecursion (IsTicketOf a) held → AllByRecursion (IsTicketOf b) (held_behind held e replies)
held_by_turn P (Submit c) a b replies held d all =
    let same = held_calmly a b held (calm_one a b (Submitted c d.0) refl d.1) all in
    subst (λ (rs : List Replied). AllByRecursion (IsTicketOf b) (held_behind {P = P} held (Submit c) rs)) (sym d.2) (go d.0 d.1 same)
  where
    go : (result : Result Ticket Refusal) → Submits a c result b → AllByRecursion (IsTicketOf b) held → AllByRecursion (IsTicketOf b) (held_behind {P = P} held (Submit c) (told_ticket result ∷ []))
    go (Ok ticket) step same = (accepted_is a b c ticket step.1 step.2, same)
    go (Err refusal) step same = same
held_by_turn P Flush a b replies held d all = held_calmly a b held (writes_run a_flush a b d.0 d.1) all
held_by_turn P Checkpoint a b replies held d all = held_calmly a b held (writes_run a_checkpoint a b d.0 d.1) all
held_by_turn P (CheckpointStep pages) a b replies held d all = held_calmly a b held (writes_run (a_step pages) a b d.0 d.1) all
held_by_turn P Task a b replies held d all = held_calmly a b held (calm_one a b (TookTask d.0) refl d.1) all
held_by_turn P Publish a b replies held d all = held_calmly a b held (calm_event {P = P} Publish a b replies refl d) all
held_by_turn P (Ask query) a b replies held d all = held_calmly a b held (calm_one a b (Asked query d.0) refl d.1) all
held_by_turn P Stop a b replies held d all =
    subst (λ (rs : List Replied). AllByRecursion (IsTicketOf b) (left_by held rs)) (sym d.2) (held_by_step (Stopped d.0) a b held d.1 all)
held_by_turn P (StopWithin call picks writing) a b replies held d all =
    let run = stop_run writing a d.0 replies (Opened d.1) d.2 in
    let left : AllByRecursion (IsTicketOf b) (up_to d.1 held) = held_by_step (Stopped d.1) d.0 b held d.3 (held_calmly a d.0 held run all) in
    subst (AllByRecursion (IsTicketOf b)) (sym (left_behind writing a d.0 replies d.1 held d.2)) left

acked_by_flush : (result : Result ℕ Refusal) (a b : Machine) (held : List Ticket) (more : List Replied) → IsState a → Flushes a result b → AllByRecursion (IsTicketOf a) held → AllByRecursion (IsDurable b) (durable_by held (told_version result ∷ more))
acked_by_flush (Ok version) a b held more s step all = acked_by_step (Flushed (Ok version)) a b held s step all
acked_by_flush (Err refusal) a b held more s step all = tt

acked_by_stop : (a b : Machine) (replies : List Replied) (final : Replied) (held : List Ticket) → durable_by held (final ∷ []) ≡ [] → IsState a → StopComes a a_flush replies final b → AllByRecursion (IsTicketOf a) held → AllByRecursion (IsDurable b) (durable_by held replies)
acked_by_stop a b replies final held none s comes all =
    ⊎_elim
    (λ within. subst (λ (rs : List Replied). AllByRecursion (IsDurable b) (durable_by held rs)) (sym within.1) (subst (AllByRecursion (IsDurable b)) (sym none) tt))
    (λ behind. subst (λ (rs : List Replied). AllByRecursion (IsDurable b) (durable_by held rs)) (sym (behind.2 ∙ ap (λ (r : Replied). r ∷ final ∷ []) behind.1.2)) (acked_by_flush behind.1.0 a b held (final ∷ []) s behind.1.1 all))
    comes

acked_by_turn : {P : Type 0} (e : Event P) (a b : Machine) (replies : List Replied) (held : List Ticket) → IsState a → Does a e replies b → AllByRecursion (IsTicketOf a) held → AllByRecursion (IsDurable b) (acknowledged_with held e replies)
acked_by_turn Flush a b replies held s d all =
    subst (λ (rs : List Replied). AllByRecursion (IsDurable b) (durable_by held rs)) (sym (d.2 ∙ ap (λ (r : Replied). r ∷ []) d.1.2)) (acked_by_flush d.1.0 a b held [] s d.1.1 all)
acked_by_turn (StopWithin call picks a_flush) a b replies held s d all =
    let run = stop_run a_flush a d.0 replies (Opened d.1) d.2 in
    let state = later_by_run a d.0 run.0 s run.1 in
    acked_still d.0 b (durable_by held replies) (later_by_step d.0 b (Stopped d.1) state.0 d.3) (acked_by_stop a d.0 replies (Opened d.1) held refl s d.2 all)
acked_by_turn (StopWithin call picks a_checkpoint) a b replies held s d all = tt
acked_by_turn (StopWithin call picks (a_step pages)) a b replies held s d all = tt
acked_by_turn (Submit c) a b replies held s d all = tt
acked_by_turn Checkpoint a b replies held s d all = tt
acked_by_turn (CheckpointStep pages) a b replies held s d all = tt
acked_by_turn Task a b replies held s d all = tt
acked_by_turn Publish a b replies held s d all = tt
acked_by_turn (Ask query) a b replies held s d all = tt
acked_by_turn Stop a b replies held s d all = tt

acked_by_end : {P : Type 0} (e : Event P) (a last : Machine) (replies : List Replied) (held : List Ticket) → IsState a → StopsFor a e replies last → AllByRecursion (IsTicketOf a) held → AllByRecursion (IsDurable last) (acknowledged_with held e replies)
acked_by_end (StopWithin call picks a_flush) a last replies held s stops all = acked_by_stop a last replies StoppedAlone held refl s stops all
acked_by_end (StopWithin call picks a_checkpoint) a last replies held s stops all = tt
acked_by_end (StopWithin call picks (a_step pages)) a last replies held s stops all = tt
acked_by_end Stop a last replies held s stops all = tt
acked_by_end (Submit c) a last replies held s stops all = absurd stops
acked_by_end Flush a last replies held s stops all = absurd stops
acked_by_end Checkpoint a last replies held s stops all = absurd stops
acked_by_end (CheckpointStep pages) a last replies held s stops all = absurd stops
acked_by_end Task a last replies held s stops all = absurd stops
acked_by_end Publish a last replies held s stops all = absurd stops
acked_by_end (Ask query) a last replies held s stops all = absurd stops

-- ---- replies are right
abbrev RightAt : Machine → Replied → Type 0
RightAt m reply = IsRightReply m.base m.base_version (durable_groups m) reply

right_reply_still : (m last : Machine) (reply : Replied) → IsState last → IsLater m last → RightAt m reply → RightAt last reply
right_reply_still m last (Answered query answer) s later right = right_still m last query answer s later right
right_reply_still m last _ s later right = tt

rights_still : (m last : Machine) (replies : List Replied) → IsState last → IsLater m last → AllByRecursion (RightAt m) replies → AllByRecursion (RightAt last) replies
rights_still m last replies s later rights = all_of (RightAt m) (RightAt last) replies (λ reply. right_reply_still m last reply s later) rights

version_right : (m : Machine) (result : Result ℕ Refusal) → RightAt m (told_version result)
version_right m (Ok v) = tt
version_right m (Err refusal) = tt

ticket_right : (m : Machine) (result : Result Ticket Refusal) → RightAt m (told_ticket result)
ticket_right m (Ok t) = tt
ticket_right m (Err refusal) = tt

part_right : (m : Machine) (result : Result (Option ℕ) Refusal) → RightAt m (told_part result)
part_right m (Ok None) = tt
part_right m (Ok (Some version)) = tt
part_right m (Err refusal) = tt

write_right : (m : Machine) (w : Writing) (a b : Machine) (reply : Replied) → Writes a w reply b → RightAt m reply
write_right m a_flush a b reply w = subst (RightAt m) (sym w.2) (version_right m w.0)
write_right m a_checkpoint a b reply w = subst (RightAt m) (sym w.2) (version_right m w.0)
write_right m (a_step pages) a b reply w = subst (RightAt m) (sym w.2) (part_right m w.0)

task_right : (m : Machine) (result : Result (Option (ℕ × Net)) Refusal) → RightAt m (told_task result)
task_right m (Ok None) = tt
task_right m (Ok (Some task)) = tt
task_right m (Err refusal) = tt

answer_right : (m new : Machine) (query : Query) (result : Result Answer Refusal) → IsState m → Asks m query result new → RightAt m (told_answer query result)
answer_right m new query (Ok answer) s asks = asked_right m new query answer s asks
answer_right m new query (Err refusal) s asks = tt

one_right : (m : Machine) (reply : Replied) (replies : List Replied) → replies ≡ reply ∷ [] → RightAt m reply → AllByRecursion (RightAt m) replies
one_right m reply replies is right = subst (AllByRecursion (RightAt m)) (sym is) (right, tt)

stop_right : (m : Machine) (w : Writing) (a b : Machine) (replies : List Replied) (final : Replied) → RightAt m final → StopComes a w replies final b → AllByRecursion (RightAt m) replies
stop_right m w a b replies final right comes =
    ⊎_elim
    (λ within. one_right m final replies within.1 right)
    (λ behind. subst (AllByRecursion (RightAt m)) (sym behind.2) (write_right m w a b behind.0 behind.1, (right, tt)))
    comes

-- each event's replies are right where it begins
turn_right : {P : Type 0} (e : Event P) (a b : Machine) (replies : List Replied) → IsState a → Does a e replies b → AllByRecursion (RightAt a) replies
turn_right (Submit c) a b replies s d = one_right a (told_ticket d.0) replies d.2 (ticket_right a d.0)
turn_right Flush a b replies s d = one_right a d.0 replies d.2 (write_right a a_flush a b d.0 d.1)
turn_right Checkpoint a b replies s d = one_right a d.0 replies d.2 (write_right a a_checkpoint a b d.0 d.1)
turn_right (CheckpointStep pages) a b replies s d = one_right a d.0 replies d.2 (write_right a (a_step pages) a b d.0 d.1)
turn_right Task a b replies s d = one_right a (told_task d.0) replies d.2 (task_right a d.0)
turn_right Publish a b replies s d = ⊎_elim (λ p. one_right a (Shown p.0) replies p.3 tt) (λ n. one_right a (Refused NoTask) replies n.2 tt) d
turn_right (Ask query) a b replies s d = one_right a (told_answer query d.0) replies d.2 (answer_right a b query d.0 s d.1)
turn_right Stop a b replies s d = one_right a (Opened d.0) replies d.2 tt
turn_right (StopWithin call picks writing) a b replies s d = stop_right a writing a d.0 replies (Opened d.1) tt d.2

end_right : {P : Type 0} (e : Event P) (a last : Machine) (replies : List Replied) → StopsFor a e replies last → AllByRecursion (RightAt last) replies
end_right Stop a last replies stops = one_right last StoppedAlone replies stops.1 tt
end_right (StopWithin call picks writing) a last replies stops = stop_right last writing a last replies StoppedAlone tt stops
end_right (Submit c) a last replies stops = absurd stops
end_right Flush a last replies stops = absurd stops
end_right Checkpoint a last replies stops = absurd stops
end_right (CheckpointStep pages) a last replies stops = absurd stops
end_right Task a last replies stops = absurd stops
end_right Publish a last replies stops = absurd stops
end_right (Ask query) a last replies stops = absurd stops

end_run : {P : Type 0} (e : Event P) (a last : Machine) (replies : List Replied) → StopsFor a e replies last → RunsTo a last
end_run Stop a last replies stops = ([], stops.0)
end_run (StopWithin call picks writing) a last replies stops = let run = stop_run writing a last replies StoppedAlone stops in (run.0, run.1)
end_run (Submit c) a last replies stops = absurd stops
end_run Flush a last replies stops = absurd stops
end_run Checkpoint a last replies stops = absurd stops
end_run (CheckpointStep pages) a last replies stops = absurd stops
end_run Task a last replies stops = absurd stops
end_run Publish a last replies stops = absurd stops
end_run (Ask query) a last replies stops = absurd stops

end_later : {P : Type 0} (e : Event P) (a last : Machine) (replies : List Replied) → IsState a → StopsFor a e replies last → IsState last × IsLater a last
end_later e a last replies s stops = let run = end_run e a last replies stops in later_by_run a last run.0 s run.1

-- ---- a run of events
abbrev replies_of : {P : Type 0} → List (Turn P) → List Replied
replies_of turns = flat_map (λ turn. turn.1) turns

pub later_by_turn : {P : Type 0} (turn : Turn P) (a b : Machine) → IsState a → Does a turn.0 turn.1 b → IsState b × IsLater a b
later_by_turn turn a b s d = let run = event_run turn.0 a b turn.1 d in later_by_run a b run.0 s run.1

passes_run : {P : Type 0} (turns : List (Turn P)) (a b : Machine) → Passes a turns b → RunsTo a b
passes_run [] a b p = ([], p)
passes_run (turn ∷ turns) a b p =
    let now = event_run turn.0 a p.0 turn.1 p.1 in
    let rest = passes_run turns p.0 b p.2 in
    (now.0 ++ rest.0, run_both now.0 rest.0 a p.0 b now.1 rest.1)

later_by_turns : {P : Type 0} (turns : List (Turn P)) (a b : Machine) → IsState a → Passes a turns b → IsState b × IsLater a b
later_by_turns turns a b s p = let run = passes_run turns a b p in later_by_run a b run.0 s run.1

-- one turn more
pub passes_more : {P : Type 0} (turns : List (Turn P)) (turn : Turn P) (a b c : Machine) → Passes a turns b → Does b turn.0 turn.1 c → Passes a (turns ++ turn ∷ []) c
passes_more [] turn a b c p d = (c, subst (λ (m : Machine). Does m turn.0 turn.1 c) p d, refl)
passes_more (first ∷ turns) turn a b c p d = (p.0, p.1, passes_more turns turn p.0 b c p.2 d)

-- up to a later state, over the turns that follow
acks_through : {P : Type 0} (turns rest : List (Turn P)) (a b last : Machine) (held : List Ticket) → IsState a → AllByRecursion (IsTicketOf a) held → Passes a turns b → IsLater b last
    → ((kept : List Ticket) → AllByRecursion (IsTicketOf b) kept → AllByRecursion (IsDurable last) (acknowledged_in kept rest))
    → AllByRecursion (IsDurable last) (acknowledged_in held (turns ++ rest))
acks_through [] rest a b last held s all p later go = go held (subst (λ (m : Machine). AllByRecursion (IsTicketOf m) held) (sym p) all)
acks_through (turn ∷ turns) rest a b last held s all p later go =
    let now = later_by_turn turn a p.0 s p.1 in
    let onward = later_by_turns turns p.0 b now.0 p.2 in
    all_both (IsDurable last) (acknowledged_with held turn.0 turn.1) (acknowledged_in (held_behind held turn.0 turn.1) (turns ++ rest))
    (acked_still p.0 last (acknowledged_with held turn.0 turn.1) (later_still p.0 b last onward.1 later) (acked_by_turn turn.0 a p.0 turn.1 held s p.1 all))
    (acks_through turns rest p.0 b last (held_behind held turn.0 turn.1) now.0 (held_by_turn _ turn.0 a p.0 turn.1 held p.1 all) p.2 later go)

rights_through : {P : Type 0} (turns : List (Turn P)) (a b : Machine) → IsState a → Passes a turns b → AllByRecursion (RightAt b) (replies_of turns)
rights_through [] a b s p = tt
rights_through (turn ∷ turns) a b s p =
    let now = later_by_turn turn a p.0 s p.1 in
    let onward = later_by_turns turns p.0 b now.0 p.2 in
    all_both (RightAt b) turn.1 (replies_of turns)
    (rights_still a b turn.1 onward.0 (later_still a p.0 b now.1 onward.1) (turn_right turn.0 a p.0 turn.1 s p.1))
    (rights_through turns p.0 b now.0 p.2)

-- what holds in the end
pub record Ended {P : Type 0} (first : Machine) (turns : List (Turn P)) (history : List Group) (last : Machine) : Type 0 where
  pub state : IsState last
  pub later : IsLater first last
  pub kept : durable_groups last ≡ take (last.durable - last.base_version) history
  pub acknowledged : AllByRecursion (IsDurable last) (acknowledged_in [] turns)
  pub rights : AllByRecursion (RightAt last) (replies_of turns)

passed_end : {P : Type 0} (first last : Machine) (turns : List (Turn P)) (history : List Group) → IsState first → Passes first turns last → history ≡ last.accepted → Ended first turns history last
passed_end first last turns history s p is =
    let through = later_by_turns turns first last s p in
    record {
      state = through.0;
      later = through.1;
      kept = ap (take (last.durable - last.base_version)) (sym is);
      acknowledged =
          subst (λ (ts : List (Turn _)). AllByRecursion (IsDurable last) (acknowledged_in [] ts)) (append-nil turns)
          (acks_through turns [] first last last [] s tt p (later_same last) (λ kept all. tt));
      rights = rights_through turns first last s p;
    }

stopped_end : {P : Type 0} (first mid last : Machine) (before : List (Turn P)) (turn : Turn P) (history : List Group) → IsState first → Passes first before mid → StopsFor mid turn.0 turn.1 last → history ≡ groups_to last last.durable → Ended first (before ++ turn ∷ []) history last
stopped_end first mid last before turn history s p stops is =
    let through = later_by_turns before first mid s p in
    let end = end_later turn.0 mid last turn.1 through.0 stops in
    let n = last.durable - last.base_version in
    record {
      state = end.0;
      later = later_still first mid last through.1 end.1;
      kept = sym (take-take n n last.accepted (omega arith)) ∙ ap (take n) (sym is);
      acknowledged =
          acks_through before (turn ∷ []) first mid last [] s tt p end.1
          (λ kept all. all_both (IsDurable last) (acknowledged_with kept turn.0 turn.1) [] (acked_by_end turn.0 mid last turn.1 kept through.0 stops all) tt);
      rights =
          subst (AllByRecursion (RightAt last)) (sym (flat_map-append (λ (t : Turn _). t.1) before (turn ∷ [])))
          (all_both (RightAt last) (replies_of before) (turn.1 ++ [])
          (rights_still mid last (replies_of before) end.0 end.1 (rights_through before first mid s p))
          (all_both (RightAt last) turn.1 [] (end_right turn.0 mid last turn.1 stops) tt));
    }

pub end_of : {P : Type 0} (first last : Machine) (turns : List (Turn P)) (rest : List (Event P)) (ended : Option Refusal) (history : List Group) → IsState first → Ends first turns rest ended history last → Ended first turns history last
end_of first last turns rest ended history s (Whole passes none nothing is) = passed_end first last turns history s passes is
end_of first last turns rest ended history s (NoMemory passes before some is) = passed_end first last turns history s passes is
end_of first last turns rest ended history s (NotOpened before turn mid whole passes stops why is) =
    subst (λ (ts : List (Turn _)). Ended first ts history last) (sym whole) (stopped_end first mid last before turn history s passes stops is)

run_of : {P : Type 0} (first last : Machine) (turns : List (Turn P)) (rest : List (Event P)) (ended : Option Refusal) (history : List Group) → Ends first turns rest ended history last → RunsTo first last
run_of first last turns rest ended history (Whole passes none nothing is) = passes_run turns first last passes
run_of first last turns rest ended history (NoMemory passes before some is) = passes_run turns first last passes
run_of first last turns rest ended history (NotOpened before turn mid whole passes stops why is) =
    let front = passes_run before first mid passes in
    let end = end_run turn.0 mid last turn.1 stops in
    (front.0 ++ end.0, run_both front.0 end.0 first mid last front.1 end.1)

pub scripts_are_runs : (P : Type 0) → ScriptsAreRuns P
scripts_are_runs P first events replies ended history last lives = run_of first last lives.turns lives.rest ended history lives.ends

-- ---- the headline
-- what is durable is in the history
durable_in : (last : Machine) (history : List Group) (t : Ticket) → durable_groups last ≡ take (last.durable - last.base_version) history → IsDurable last t → IsAt last.base_version history t
durable_in last history t kept h = (
  h.0,
  nth_from_front (last.durable - last.base_version) history (t.number - last.base_version) t.group
      (subst (λ (cs : List Group). IsAt last.base_version cs t) kept h).1,
)

right_in : (last : Machine) (history : List Group) (reply : Replied) → durable_groups last ≡ take (last.durable - last.base_version) history → RightAt last reply → IsRightReply last.base last.base_version history reply
right_in last history (Answered query answer) kept right =
    right_in_more last.base last.base_version (last.durable - last.base_version) history query answer
    (subst (λ (cs : List Group). IsRightAfter last.base last.base_version cs query answer) kept right)
right_in last history _ kept right = tt

pub acknowledged_are_in_history : (P : Type 0) → AcknowledgedAreInHistory P
acknowledged_are_in_history P sizes base version unchecked events replies ended history last few fits lives =
    let end = end_of (start sizes base version unchecked) last lives.turns lives.rest ended history (started sizes base version unchecked few fits) lives.ends in
    subst (λ (v : ℕ). AllByRecursion (IsAt v history) (acknowledged_in [] lives.turns)) end.later.base_version
    (all_of (IsDurable last) (IsAt last.base_version history) (acknowledged_in [] lives.turns) (λ t. durable_in last history t end.kept) end.acknowledged)

pub stops_leave_acknowledged : (P : Type 0) → StopsLeaveAcknowledged P
stops_leave_acknowledged P sizes base version unchecked events replies ended history last left few fits lives is =
    let end = end_of (start sizes base version unchecked) last lives.turns lives.rest ended history (started sizes base version unchecked few fits) lives.ends in
    subst (λ (v : ℕ). AllByRecursion (IsAt v (groups_to last left)) (acknowledged_in [] lives.turns)) end.later.base_version
    (all_of (IsDurable last) (IsAt last.base_version (groups_to last left)) (acknowledged_in [] lives.turns) (λ t. durable_left last t left end.state is) end.acknowledged)

pub answers_are_right : (P : Type 0) → AnswersAreRight P
answers_are_right P sizes base version unchecked events replies ended history last few fits lives =
    let end = end_of (start sizes base version unchecked) last lives.turns lives.rest ended history (started sizes base version unchecked few fits) lives.ends in
    let rights : AllByRecursion (RightAt last) replies = subst (AllByRecursion (RightAt last)) (sym lives.replies_are) end.rights in
    let told = all_of (RightAt last) (IsRightReply last.base last.base_version history) replies (λ reply. right_in last history reply end.kept) rights in
    subst (λ (b : Net). AllByRecursion (IsRightReply b version history) replies) end.later.base
    (subst (λ (v : ℕ). AllByRecursion (IsRightReply last.base v history) replies) end.later.base_version told)

left_right : (last : Machine) (left : ℕ) (reply : Replied) → IsState last → IsLeft last left → RightAt last reply → IsRightReply last.base last.base_version (groups_to last left) reply
left_right last left (Answered query answer) s is right = right_left last left query answer s is right
left_right last left _ s is right = tt

pub stops_leave_answers : (P : Type 0) → StopsLeaveAnswers P
stops_leave_answers P sizes base version unchecked events replies ended history last left few fits lives is =
    let end = end_of (start sizes base version unchecked) last lives.turns lives.rest ended history (started sizes base version unchecked few fits) lives.ends in
    let rights : AllByRecursion (RightAt last) replies = subst (AllByRecursion (RightAt last)) (sym lives.replies_are) end.rights in
    let told = all_of (RightAt last) (IsRightReply last.base last.base_version (groups_to last left)) replies (λ reply. left_right last left reply end.state is) rights in
    subst (λ (b : Net). AllByRecursion (IsRightReply b version (groups_to last left)) replies) end.later.base
    (subst (λ (v : ℕ). AllByRecursion (IsRightReply last.base v (groups_to last left)) replies) end.later.base_version told)
