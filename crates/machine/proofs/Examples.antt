-- Scripts whose output was worked out by hand: each is a run over lives. Least lengths are premises here.
use Rattle.std.proofs.Common.{◌≡◌, inl, inr, ℕ, ◌+◌, ◌≤◌, true, false, List, [], ◌∷◌, ◌++◌, Some, None, Ok, Err, replicate, refl, sym, ◌∙◌, ap, lit≤}
use Rattle.std.specs.Prelude.{Vec, map}
use Rattle.std.specs.List.{flat_map}
use Rattle.std.proofs.lemmas.List.{append-nil}
use Rattle.roadnet.specs.declared.arcs.RoadArc.{RoadArc}
use Rattle.roadnet.specs.declared.groups.Group.{Group}
use Rattle.roadnet.specs.declared.commands.Command.TheVariants.{Set, Close, Reopen, Mark, Unmark}
use Rattle.roadnet.specs.declared.refusals.Refusal.{Refusal}
use Rattle.roadnet.specs.declared.refusals.Refusal.TheVariants.{NoSuchArc, LengthRange, AlreadyClosed, AlreadyOpen, NoSuchNode, NotALandmark, NothingPending, JournalFull, Device}
use Rattle.roadnet.specs.Groups.{IsGroup}
use Rattle.roadnet.specs.Net.{Net}
use Rattle.roadnet.specs.Walks.{Least}
use Rattle.rows.specs.declared.queries.Query.TheVariants.{Dist}
use Rattle.rows.specs.declared.queries.Reply.{Reply}
use Rattle.rows.specs.declared.queries.Reply.TheVariants.{Length}
use Rattle.rows.specs.Replies.{IsRight}
use Rattle.machine.specs.declared.events.Event.{Event}
use Rattle.machine.specs.declared.events.Event.TheVariants.{Submit, Flush, Checkpoint, Task, Publish, Ask, Stop, StopWithin}
use Rattle.machine.specs.declared.events.Writing.TheVariants.{Flush as a_flush, Checkpoint as a_checkpoint}
use Rattle.machine.specs.declared.events.Replied.{Replied}
use Rattle.machine.specs.declared.events.Replied.TheVariants.{Accepted, Durable, Task as TaskOf, Shown, Answered, Refused, Opened, Stopped}
use Rattle.machine.specs.Machine.{Machine, start, latest, fitting, batch, network_at}
use Rattle.machine.specs.Calls.{refusal_of_submit, with_group, refusal_of_flush, with_batch, failed, checkpoint_refusal_of, has_nothing_unchecked, done_by, with_part, has_no_task, with_shown, reopened}
use Rattle.machine.specs.Lives.{pages_of_step, Does, Turn, Passes, Lives}
use Rattle.machine.specs.Lives.Ends.{Whole}
use Rattle.machine.specs.Headline.{accepted_in}

-- from m these events may be replied to so
record Plays (P : Type 0) (m : Machine) (events : List (Event P)) (replies : List Replied) : Type 0 where
  last : Machine
  turns : List (Turn P)
  events_are : events ≡ map (λ turn. turn.0) turns
  replies_are : replies ≡ flat_map (λ turn. turn.1) turns
  passes : Passes m turns last

lives : {P : Type 0} (m : Machine) (events : List (Event P)) (replies : List Replied) → (p : Plays P m events replies) → Lives m events replies None p.last.accepted p.last
lives m events replies p = record {
  turns = p.turns;
  rest = [];
  events_are = p.events_are ∙ sym (append-nil (map (λ turn. turn.0) p.turns));
  replies_are = p.replies_are;
  ends = Whole p.passes refl refl refl;
}

done : {P : Type 0} (m : Machine) → Plays P m [] []
done m = record { last = m; turns = []; events_are = refl; replies_are = refl; passes = refl }

then : {P : Type 0} (m mid : Machine) (e : Event P) (now : List Replied) (es : List (Event P)) (rs : List Replied) → Does m e now mid → Plays P mid es rs → Plays P m (e ∷ es) (now ++ rs)
then m mid e now es rs does p = record {
  last = p.last;
  turns = (e, now) ∷ p.turns;
  events_are = ap (λ (xs : List (Event _)). e ∷ xs) p.events_are;
  replies_are = ap (λ (xs : List Replied). now ++ xs) p.replies_are;
  passes = (mid, does, p.passes);
}

module _ (P : Type 0) (m : Machine) (es : List (Event P)) (rs : List Replied) where
  submit_then : (c : Group) → IsGroup c → refusal_of_submit m c ≡ None → Plays P (with_group m c) es rs → Plays P m (Submit c ∷ es) (Accepted (latest m + 1) ∷ rs)
  submit_then c sized none p =
      then m (with_group m c) (Submit c) (Accepted (latest m + 1) ∷ []) es rs (Ok (record { number = latest m + 1; group = c }), (none, refl, refl, sized), refl) p

  refused_then : (c : Group) (r : Refusal) → refusal_of_submit m c ≡ Some r → Plays P m es rs → Plays P m (Submit c ∷ es) (Refused r ∷ rs)
  refused_then c r some p = then m m (Submit c) (Refused r ∷ []) es rs (Err r, (inl some, refl), refl) p

  flush_then : refusal_of_flush m ≡ None → Plays P (with_batch m) es rs → Plays P m (Flush ∷ es) (Durable (m.durable + batch m) ∷ rs)
  flush_then none p = then m (with_batch m) Flush (Durable (m.durable + batch m) ∷ []) es rs (Durable (m.durable + batch m), (Ok (m.durable + batch m), (none, refl, refl), refl), refl) p

  flush_refused_then : (r : Refusal) → refusal_of_flush m ≡ Some r → Plays P m es rs → Plays P m (Flush ∷ es) (Refused r ∷ rs)
  flush_refused_then r some p = then m m Flush (Refused r ∷ []) es rs (Refused r, (Err r, inl (inl some, refl), refl), refl) p

  -- one step ends it
  checkpoint_then : (v : ℕ) → checkpoint_refusal_of m ≡ None → Some v ≡ done_by m pages_of_step → Plays P (with_part m pages_of_step) es rs → Plays P m (Checkpoint ∷ es) (Durable v ∷ rs)
  checkpoint_then v none done p =
      then m (with_part m pages_of_step) Checkpoint (Durable v ∷ []) es rs (Durable v, (Ok v, (0, m, refl, (none, done, refl)), refl), refl) p

  task_then : (net : Net) → has_no_task m ≡ false → network_at m m.durable ≡ Some net → Plays P (record m { task = Some m.durable }) es rs → Plays P m (Task ∷ es) (TaskOf m.durable ∷ rs)
  task_then net free is p =
      then m (record m { task = Some m.durable }) Task (TaskOf m.durable ∷ []) es rs (Ok (Some (m.durable, net)), (free, refl, is, refl), refl) p

  publish_then : (version : ℕ) (net : Net) → m.task ≡ Some version → network_at m version ≡ Some net → Plays P (with_shown m version) es rs → Plays P m (Publish ∷ es) (Shown version ∷ rs)
  publish_then version net out is p =
      then m (with_shown m version) Publish (Shown version ∷ []) es rs (inl (version, net, ((out, is), refl, refl), refl)) p

  dist_then : (s t : ℕ) (reply : Reply) (net : Net) → network_at m m.shown ≡ Some net → IsRight net (Dist s t) reply → Plays P m es rs → Plays P m (Ask (Dist s t) ∷ es) (Answered (Dist s t) (record { version = m.shown; reply = reply }) ∷ rs)
  dist_then s t reply net is right p =
      then m m (Ask (Dist s t)) (Answered (Dist s t) (record { version = m.shown; reply = reply }) ∷ []) es rs (Ok (record { version = m.shown; reply = reply }), (refl, (net, is, right), refl), refl) p

  stop_then : (u : ℕ) → u ≤ m.sizes.journal_pages → Plays P (reopened m m.durable u) es rs → Plays P m (Stop ∷ es) (Opened m.durable ∷ rs)
  stop_then u fits p = then m (reopened m m.durable u) Stop (Opened m.durable ∷ []) es rs (m.durable, (inl refl, (u, fits, refl)), refl) p

  module _ (call : ℕ) (picks : Vec P _) where
    -- a stop within a flush leaves what was before it
    stop_before_flush_then : (u : ℕ) → u ≤ m.sizes.journal_pages → refusal_of_flush m ≡ None → Plays P (reopened m m.durable u) es rs → Plays P m (StopWithin call picks a_flush ∷ es) (Opened m.durable ∷ rs)
    stop_before_flush_then u fits none p =
        then m (reopened m m.durable u) (StopWithin call picks a_flush) (Opened m.durable ∷ []) es rs
        (failed m (batch m), m.durable, inl ((Err Device, inr (none, refl, refl), refl), refl), (inl refl, (u, fits, refl))) p

    -- or its commands too
    stop_after_flush_then : (u : ℕ) → u ≤ m.sizes.journal_pages → refusal_of_flush m ≡ None → Plays P (reopened m (m.durable + batch m) u) es rs → Plays P m (StopWithin call picks a_flush ∷ es) (Opened (m.durable + batch m) ∷ rs)
    stop_after_flush_then u fits none p =
        then m (reopened m (m.durable + batch m) u) (StopWithin call picks a_flush) (Opened (m.durable + batch m) ∷ []) es rs
        (failed m (batch m), m.durable + batch m, inl ((Err Device, inr (none, refl, refl), refl), refl), (inr refl, (u, fits, refl))) p

    -- or comes behind it
    stop_behind_flush_then : (u : ℕ) → u ≤ m.sizes.journal_pages → refusal_of_flush m ≡ None → Plays P (reopened (with_batch m) (m.durable + batch m) u) es rs → Plays P m (StopWithin call picks a_flush ∷ es) (Durable (m.durable + batch m) ∷ Opened (m.durable + batch m) ∷ rs)
    stop_behind_flush_then u fits none p =
        then m (reopened (with_batch m) (m.durable + batch m) u) (StopWithin call picks a_flush) (Durable (m.durable + batch m) ∷ Opened (m.durable + batch m) ∷ []) es rs
        (with_batch m, m.durable + batch m, inr (Durable (m.durable + batch m), (Ok (m.durable + batch m), (none, refl, refl), refl), refl), (inl refl, (u, fits, refl))) p

    stop_in_checkpoint_then : (u : ℕ) → u ≤ m.sizes.journal_pages → checkpoint_refusal_of m ≡ None → has_nothing_unchecked m ≡ false → Plays P (reopened m m.durable u) es rs → Plays P m (StopWithin call picks a_checkpoint ∷ es) (Opened m.durable ∷ rs)
    stop_in_checkpoint_then u fits none some p =
        then m (reopened m m.durable u) (StopWithin call picks a_checkpoint) (Opened m.durable ∷ []) es rs
        (failed m 0, m.durable, inl ((Err Device, (0, m, refl, inr (none, some, refl, refl)), refl), refl), (inl refl, (u, fits, refl))) p

-- the network of the scripts
abbrev open_arc : ℕ → ℕ → ℕ → RoadArc
open_arc tail head length = record { tail = tail; head = head; length = length; opened = true }

abbrev six_with : RoadArc → RoadArc → RoadArc → Net
six_with first seventh eighth = record {
  nodes = 6;
  arcs = first ∷ open_arc 1 3 10 ∷ open_arc 2 4 2 ∷ open_arc 3 5 0 ∷ open_arc 4 3 0 ∷ open_arc 4 6 3 ∷ seventh ∷ eighth ∷ [];
  landmarks = [];
  room = 8;
}

abbrev six : Net
six = six_with (open_arc 1 2 17) (open_arc 5 2 0) (open_arc 5 6 20)

abbrev closed_arc : RoadArc
closed_arc = record (open_arc 5 2 0) { opened = false }

abbrev six_closed : Net
six_closed = six_with (open_arc 1 2 17) closed_arc (open_arc 5 6 20)

abbrev six_shorter : Net
six_shorter = six_with (open_arc 1 2 17) closed_arc (open_arc 5 6 4)

abbrev six_reopened : Net
six_reopened = six_with (open_arc 1 2 17) (open_arc 5 2 0) (open_arc 5 6 4)

abbrev six_set : Net
six_set = six_with (open_arc 1 2 2) (open_arc 5 2 0) (open_arc 5 6 20)

-- a group of one command
one : (1 ≤ 1) × (1 ≤ 253)
one = (lit≤ tt, lit≤ tt)

-- a new store of it
abbrev store : ℕ → Machine
store journal_pages = start (record { journal_pages = journal_pages; checkpoint_pages = 1 }) six 0 0

abbrev told : ℕ → ℕ → ℕ → ℕ → Replied
told v s t d = Answered (Dist s t) (record { version = v; reply = Length d })

module _ (P : Type 0) where
  second_close_refused : Plays P (store 64) (Submit (Close 7 ∷ []) ∷ Submit (Close 7 ∷ []) ∷ Flush ∷ Flush ∷ []) (Accepted 1 ∷ Refused AlreadyClosed ∷ Durable 1 ∷ Refused NothingPending ∷ [])
  second_close_refused =
      submit_then _ _ _ _ (Close 7 ∷ []) one refl (refused_then _ _ _ _ (Close 7 ∷ []) AlreadyClosed refl (flush_then _ _ _ _ refl (flush_refused_then _ _ _ _ NothingPending refl (done _))))

  refusals_of_commands : Plays P (store 64) (Submit (Set 9 1 ∷ []) ∷ Submit (Set 1 2147483648 ∷ []) ∷ Submit (Set 9 2147483648 ∷ []) ∷ Submit (Mark 7 ∷ []) ∷ Submit (Unmark 3 ∷ []) ∷ Submit (Reopen 7 ∷ []) ∷ [])
      (Refused NoSuchArc ∷ Refused LengthRange ∷ Refused NoSuchArc ∷ Refused NoSuchNode ∷ Refused NotALandmark ∷ Refused AlreadyOpen ∷ [])
  refusals_of_commands =
      refused_then _ _ _ _ (Set 9 1 ∷ []) NoSuchArc refl (refused_then _ _ _ _ (Set 1 2147483648 ∷ []) LengthRange refl (refused_then _ _ _ _ (Set 9 2147483648 ∷ []) NoSuchArc refl
      (refused_then _ _ _ _ (Mark 7 ∷ []) NoSuchNode refl (refused_then _ _ _ _ (Unmark 3 ∷ []) NotALandmark refl (refused_then _ _ _ _ (Reopen 7 ∷ []) AlreadyOpen refl (done _))))))

  -- the answers come from what is shown; a shorter length and a reopened arc count from their version on
  shorter_length_shortens : Least six 1 6 15 → Least six_closed 1 6 22 → Least six_shorter 1 6 14 → Least six_reopened 1 6 14
      → Plays P (store 64)
      (Submit (Close 7 ∷ []) ∷ Flush ∷ Ask (Dist 1 6) ∷ Task ∷ Publish ∷ Ask (Dist 1 6) ∷ Submit (Set 8 4 ∷ []) ∷ Flush ∷ Task ∷ Publish ∷ Ask (Dist 1 6) ∷ Submit (Reopen 7 ∷ []) ∷ Flush ∷ Task ∷ Publish ∷ Ask (Dist 1 6) ∷ [])
      (Accepted 1 ∷ Durable 1 ∷ told 0 1 6 15 ∷ TaskOf 1 ∷ Shown 1 ∷ told 1 1 6 22 ∷ Accepted 2 ∷ Durable 2 ∷ TaskOf 2 ∷ Shown 2 ∷ told 2 1 6 14 ∷ Accepted 3 ∷ Durable 3 ∷ TaskOf 3 ∷ Shown 3 ∷ told 3 1 6 14 ∷ [])
  shorter_length_shortens at0 at1 at2 at3 =
      submit_then _ _ _ _ (Close 7 ∷ []) one refl (flush_then _ _ _ _ refl (dist_then _ _ _ _ 1 6 (Length 15) six refl (refl, at0)
      (task_then _ _ _ _ six_closed refl refl (publish_then _ _ _ _ 1 six_closed refl refl (dist_then _ _ _ _ 1 6 (Length 22) six_closed refl (refl, at1)
      (submit_then _ _ _ _ (Set 8 4 ∷ []) one refl (flush_then _ _ _ _ refl
      (task_then _ _ _ _ six_shorter refl refl (publish_then _ _ _ _ 2 six_shorter refl refl (dist_then _ _ _ _ 1 6 (Length 14) six_shorter refl (refl, at2)
      (submit_then _ _ _ _ (Reopen 7 ∷ []) one refl (flush_then _ _ _ _ refl
      (task_then _ _ _ _ six_reopened refl refl (publish_then _ _ _ _ 3 six_reopened refl refl (dist_then _ _ _ _ 1 6 (Length 14) six_reopened refl (refl, at3) (done _))))))))))))))))

  -- a group is one version, and is refused whole for its first command that is not admitted
  a_group_is_one_version : Least six_shorter 1 6 14
      → Plays P (store 64)
      (Submit (Close 7 ∷ Set 8 4 ∷ []) ∷ Flush ∷ Task ∷ Publish ∷ Ask (Dist 1 6) ∷ Submit (Reopen 7 ∷ Reopen 7 ∷ []) ∷ Flush ∷ [])
      (Accepted 1 ∷ Durable 1 ∷ TaskOf 1 ∷ Shown 1 ∷ told 1 1 6 14 ∷ Refused AlreadyOpen ∷ Refused NothingPending ∷ [])
  a_group_is_one_version at1 =
      submit_then _ _ _ _ (Close 7 ∷ Set 8 4 ∷ []) (lit≤ tt, lit≤ tt) refl (flush_then _ _ _ _ refl
      (task_then _ _ _ _ six_shorter refl refl (publish_then _ _ _ _ 1 six_shorter refl refl (dist_then _ _ _ _ 1 6 (Length 14) six_shorter refl (refl, at1)
      (refused_then _ _ _ _ (Reopen 7 ∷ Reopen 7 ∷ []) AlreadyOpen refl (flush_refused_then _ _ _ _ NothingPending refl (done _)))))))

  -- two accepted groups, the first one durable
  abbrev two_accepted : List (Turn P)
  two_accepted = (Submit (Close 7 ∷ []), Accepted 1 ∷ []) ∷ (Flush, Durable 1 ∷ []) ∷ (Submit (Set 8 4 ∷ []), Accepted 2 ∷ []) ∷ []

  module _ (picks : Vec P _) where
    -- a stop within a flush: before the gate, with the gate open, behind the flush
    stop_before_the_gate : Plays P (store 64) (Submit (Close 7 ∷ []) ∷ StopWithin 1 picks a_flush ∷ []) (Accepted 1 ∷ Opened 0 ∷ [])
    stop_before_the_gate = submit_then _ _ _ _ (Close 7 ∷ []) one refl (stop_before_flush_then _ _ _ _ 1 picks 0 (lit≤ tt) refl (done _))

    stop_with_the_gate_open : Plays P (store 64) (Submit (Close 7 ∷ []) ∷ StopWithin 3 picks a_flush ∷ []) (Accepted 1 ∷ Opened 1 ∷ [])
    stop_with_the_gate_open = submit_then _ _ _ _ (Close 7 ∷ []) one refl (stop_after_flush_then _ _ _ _ 3 picks 1 (lit≤ tt) refl (done _))

    stop_behind_the_flush : Plays P (store 64) (Submit (Close 7 ∷ []) ∷ StopWithin 5 picks a_flush ∷ []) (Accepted 1 ∷ Durable 1 ∷ Opened 1 ∷ [])
    stop_behind_the_flush = submit_then _ _ _ _ (Close 7 ∷ []) one refl (stop_behind_flush_then _ _ _ _ 5 picks 1 (lit≤ tt) refl (done _))

    stop_within_checkpoint : Least six_closed 1 6 22
        → Plays P (store 64) (Submit (Close 7 ∷ []) ∷ Flush ∷ StopWithin 4 picks a_checkpoint ∷ Ask (Dist 1 6) ∷ StopWithin 4 picks a_checkpoint ∷ Ask (Dist 1 6) ∷ [])
        (Accepted 1 ∷ Durable 1 ∷ Opened 1 ∷ told 1 1 6 22 ∷ Opened 1 ∷ told 1 1 6 22 ∷ [])
    stop_within_checkpoint least =
        submit_then _ _ _ _ (Close 7 ∷ []) one refl (flush_then _ _ _ _ refl (stop_in_checkpoint_then _ _ _ _ 4 picks 1 (lit≤ tt) refl refl
        (dist_then _ _ _ _ 1 6 (Length 22) six_closed refl (refl, least) (stop_in_checkpoint_then _ _ _ _ 4 picks 0 (lit≤ tt) refl refl (dist_then _ _ _ _ 1 6 (Length 22) six_closed refl (refl, least) (done _))))))

    -- with a journal of two pages
    closed_gate_is_not_rewritten : Least six_set 1 2 2
        → Plays P (store 2)
        (Submit (Set 1 1 ∷ []) ∷ Flush ∷ Submit (Set 1 2 ∷ []) ∷ Flush ∷ Submit (Set 1 3 ∷ []) ∷ Flush ∷ Checkpoint ∷ StopWithin 3 picks a_flush ∷ Ask (Dist 1 2) ∷ Submit (Set 1 9 ∷ []) ∷ StopWithin 1 picks a_flush ∷ Ask (Dist 1 2) ∷ [])
        (Accepted 1 ∷ Durable 1 ∷ Accepted 2 ∷ Durable 2 ∷ Accepted 3 ∷ Refused JournalFull ∷ Durable 2 ∷ Opened 2 ∷ told 2 1 2 2 ∷ Accepted 3 ∷ Opened 2 ∷ told 2 1 2 2 ∷ [])
    closed_gate_is_not_rewritten least =
        submit_then _ _ _ _ (Set 1 1 ∷ []) one refl (flush_then _ _ _ _ refl (submit_then _ _ _ _ (Set 1 2 ∷ []) one refl (flush_then _ _ _ _ refl
        (submit_then _ _ _ _ (Set 1 3 ∷ []) one refl (flush_refused_then _ _ _ _ JournalFull refl (checkpoint_then _ _ _ _ 2 refl refl
        (stop_before_flush_then _ _ _ _ 3 picks 0 (lit≤ tt) refl (dist_then _ _ _ _ 1 2 (Length 2) six_set refl (refl, least)
        (submit_then _ _ _ _ (Set 1 9 ∷ []) one refl (stop_before_flush_then _ _ _ _ 1 picks 0 (lit≤ tt) refl
        (dist_then _ _ _ _ 1 2 (Length 2) six_set refl (refl, least) (done _))))))))))))

    -- what is accepted behind a flush of the second that is cut: opened without it, opened with it, or not opened, which cuts nothing
    opened_without_it : accepted_in 0 [] (two_accepted ++ (StopWithin 3 picks a_flush, Opened 1 ∷ []) ∷ []) ≡ (Close 7 ∷ []) ∷ []
    opened_without_it = refl

    opened_with_it : accepted_in 0 [] (two_accepted ++ (StopWithin 3 picks a_flush, Opened 2 ∷ []) ∷ []) ≡ (Close 7 ∷ []) ∷ (Set 8 4 ∷ []) ∷ []
    opened_with_it = refl

    not_opened : accepted_in 0 [] (two_accepted ++ (StopWithin 3 picks a_flush, Stopped ∷ []) ∷ []) ≡ (Close 7 ∷ []) ∷ (Set 8 4 ∷ []) ∷ []
    not_opened = refl

    -- a command that is refused is not among them, and a later life's comes behind those that were left
    next_life : accepted_in 0 [] (two_accepted ++ (StopWithin 3 picks a_flush, Opened 1 ∷ []) ∷ (Submit (Close 7 ∷ []), Refused AlreadyClosed ∷ []) ∷ (Submit (Reopen 7 ∷ []), Accepted 2 ∷ []) ∷ []) ≡ (Close 7 ∷ []) ∷ (Reopen 7 ∷ []) ∷ []
    next_life = refl

-- groups of 200 and 54 commands are two flushes, of 200 and 53 one
abbrev so_many : ℕ → Group
so_many n = replicate n (Set 1 17)

two_pages : fitting 253 (so_many 200 ∷ so_many 54 ∷ []) ≡ 1
two_pages = refl

one_page : fitting 253 (so_many 200 ∷ so_many 53 ∷ []) ≡ 2
one_page = refl
