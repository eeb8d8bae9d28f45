use Rattle.std.proofs.Common.{◌≡◌, ◌+◌, ◌<◌, ◌≤◌, ◌++◌, ◌∷◌, [], ℕ, List, length, take, drop, Some, None, refl, sym, ◌∙◌, ap, subst, arith, length-drop}
use Rattle.std.proofs.lemmas.List.{append-nil, take_more, take_all, take-append-drop}
use Rattle.disk.specs.declared.stoppable.Pick.{Pick}
use Rattle.roadnet.specs.declared.refusals.Refusal.TheVariants.{OutOfMemory}
use Rattle.store.specs.State.{CameTidy}
use Rattle.machine.specs.declared.events.Event.{Event}
use Rattle.roadnet.specs.declared.groups.Group.{Group}
use Rattle.machine.specs.Machine.{Machine, start}
use Rattle.machine.specs.LifeInRun.{within as in_life}
use Rattle.machine.proofs.Kept.{started}
use Rattle.machine.proofs.ForGood.{told_for_good}
use Rattle.lives.specs.declared.lives.Life.{Life}
use Rattle.keeper.specs.Keeping.{IsDurableIn}
use Rattle.lives.specs.Rehearsing.{First, first_of, IsGoing, HasRun}
use Rattle.lives.specs.Cutting.{first_state}
use Rattle.lives.proofs.Cut.{CutSoFar, cut_none, cut_more, cut_last, cut_early, cut_whole, cut_of}
use Rattle.lives.proofs.Failing.{fails_none, fails_as, ends_told, ends_as}
use Rattle.lives.proofs.Runs.{run_as, lives_of, held_at_start, run_none, run_no_memory, run_whole}
use Rattle.lives.proofs.rehearsing.rehearse.Goals as goal

pub returns-in-Err-clause-lives : goal.returns-in-Err-clause-lives
returns-in-Err-clause-lives g c came =
    let store = c.args.store in
    let first : First = first_of store in
    let m : Machine = start first.sizes first.network first.version first.unchecked in
    let tells = c.in-Err.ensures.told in
    let there : c.close.result ≡ store.disk = (let back = c.in-Err.ensures.handed_back in let shut = c.close.ensures in cc) in
    rw (there, c.new-in-Err.ensures.items, c.new.ensures.items)
    (run_no_memory first [] [] [] m (run_none {P = Pick} first tells.room.version_to tells.room.unchecked_to) (g.D.Disk.left store.disk)
    (started first.sizes first.network first.version first.unchecked tells.room.version_to tells.room.unchecked_to)
    (held_at_start store (g.D.Disk.content store.disk) (g.D.Disk.left store.disk) (tells.only came) (tells.stands came))
    c.args.events.now (λ e. refl))

pub loop-event-init : goal.loop-event-init
loop-event-init g c =
    let store = c.args.store in
    let first : First = first_of store in
    let begins = c.in-Ok.ensures.begins.machine in
    let none : length c.in-Ok.life.keeper.machine.accepted ≡ 0 = ap (λ (m : Machine). length m.accepted) begins in
    record {
      room = omega (arith, none, c.new-2.ensures.len);
      goes = λ came.
          record {
            came = subst (λ (d : g.row.D.Denot). CameTidy g.D.Disk.honest g.D.Disk.content d) (sym c.in-Ok.ensures.begins.given) came;
            run = run_as first [] [] c.new-3.result.items [] c.new-2.result.items c.in-Ok.life.keeper.machine c.new-3.ensures.items c.new-2.ensures.items
                (subst (λ (m : Machine). HasRun {P = Pick} first [] [] [] m) (sym begins) (run_none {P = Pick} first c.in-Ok.ensures.told.room.version_to c.in-Ok.ensures.told.room.unchecked_to));
          };
      cut = λ came.
          cut_none _ _ first c.new-3.result.items _ c.new-3.ensures.items
          (ap (λ (cs : List Group). in_life first.network first.version cs c.in-Ok.life.keeper.machine) c.new-2.ensures.items ∙ ap (in_life first.network first.version []) begins);
      delta = c.in-Ok.ensures.begins.delta_is;
      counted = fails_as {P = Pick} [] [] c.new-3.result.items (g.D.Disk.failures store.disk) _ c.new-3.ensures.items (rw c.in-Ok.ensures.begins.disk (fails_none {P = Pick} (g.D.Disk.failures store.disk)));
    }

pub loop-event-preserved : goal.loop-event-preserved
loop-event-preserved g c =
    let store = c.args.store in
    let first : First = first_of store in
    let events = c.args.events.now in
    let i = c.loop-event.event-index in
    let item = c.event-item.result in
    let within : i < length events = c.loop-event-test.true in
    let more : take (i + 1) events ≡ take i events ++ item ∷ [] = take_more events i item within ∙ ap (λ (x : Event Pick). take i events ++ x ∷ []) (sym c.event-item.is) in
    record {
      room = c.in-Ok-next.ensures.goes.room;
      goes = λ came.
          let was = c.loop-event.invariant.goes came in
          let now : IsGoing {P = Pick} g.D.Disk.honest g.D.Disk.content first (take i events) c.grow.new.self.replies.items c.grow.new.self.history.items c.grow.new.self.life.keeper =
          rw (c.grow.ensures.life, c.grow.ensures.replies, c.grow.ensures.history) was in
          rw more (c.in-Ok-next.ensures.takes.each first (take i events) now).come;
      cut = λ came.
          let was = c.loop-event.invariant.goes came in
          let now : IsGoing {P = Pick} g.D.Disk.honest g.D.Disk.content first (take i events) c.grow.new.self.replies.items c.grow.new.self.history.items c.grow.new.self.life.keeper =
          rw (c.grow.ensures.life, c.grow.ensures.replies, c.grow.ensures.history) was in
          let so_far : CutSoFar g.D.Disk g.D.Stoppable first (take i events) c.grow.new.self.replies.items
          (in_life first.network first.version c.grow.new.self.history.items c.grow.new.self.life.keeper.machine) =
          rw (c.grow.ensures.life, c.grow.ensures.replies, c.grow.ensures.history) (c.loop-event.invariant.cut came) in
          rw more (cut_more _ _ first (take i events) c.grow.new.self.replies.items _ so_far item _ _ _ (c.in-Ok-next.ensures.takes.each first (take i events) now).turn);
      delta = c.in-Ok-next.ensures.goes.delta_is ∙ ap (λ l. l.delta) c.grow.ensures.life ∙ c.loop-event.invariant.delta;
      counted =
          rw more (c.in-Ok-next.ensures.takes.counted (g.D.Disk.failures store.disk) (take i events) (rw (c.grow.ensures.life, c.grow.ensures.replies) c.loop-event.invariant.counted));
    }

pub returns-then-is_err-clause-lives : goal.returns-then-is_err-clause-lives
returns-then-is_err-clause-lives g c came =
    let store = c.args.store in
    let first : First = first_of store in
    let events = c.args.events.now in
    let i = c.loop-event.event-index in
    let run = c.loop-event.run in
    let was = c.loop-event.invariant.goes came in
    let each = subst (λ (l : Life g.row.D.Denot g.D.Stoppable g.D.Disk). CameTidy g.D.Disk.honest g.D.Disk.content l.keeper.given → (d : List ℕ) → g.D.Disk.left l.keeper.disk d → IsDurableIn l.keeper.machine d) c.grow.ensures.life c.end.ensures.left was.came in
    rw (c.end.ensures.disk, c.end.ensures.replies, c.end.ensures.ended, c.end.ensures.history, c.grow.ensures.life, c.grow.ensures.replies, c.grow.ensures.history)
    (lives_of {P = Pick} (g.D.Disk.left run.life.keeper.disk) first (take i events ++ drop i events) events run.replies.items _ _ (take-append-drop i events)
    (run_no_memory first (take i events) run.replies.items run.history.items run.life.keeper.machine was.run (g.D.Disk.left run.life.keeper.disk) run.life.living.state each (drop i events) (λ e. absurd (omega (arith, ap length e, length-drop i events, c.loop-event-test.true)))))

pub returns-in-Err-next-clause-lives : goal.returns-in-Err-next-clause-lives
returns-in-Err-next-clause-lives g c came =
    let store = c.args.store in
    let first : First = first_of store in
    let events = c.args.events.now in
    let i = c.loop-event.event-index in
    let item = c.event-item.result in
    let within : i < length events = c.loop-event-test.true in
    let more : take (i + 1) events ≡ take i events ++ item ∷ [] = take_more events i item within ∙ ap (λ (x : Event Pick). take i events ++ x ∷ []) (sym c.event-item.is) in
    let was = c.loop-event.invariant.goes came in
    let now : IsGoing {P = Pick} g.D.Disk.honest g.D.Disk.content first (take i events) c.grow.new.self.replies.items c.grow.new.self.history.items c.grow.new.self.life.keeper =
    rw (c.grow.ensures.life, c.grow.ensures.replies, c.grow.ensures.history) was in
    let all : (take i events ++ item ∷ []) ++ drop (i + 1) events ≡ events = ap (λ (es : List (Event Pick)). es ++ drop (i + 1) events) (sym more) ∙ take-append-drop (i + 1) events in
    lives_of {P = Pick} (g.D.Disk.left c.in-Err-next.rehearsal.disk) first ((take i events ++ item ∷ []) ++ drop (i + 1) events) events _ _ _ all
    ((c.in-Err-next.ensures.takes.each first (take i events) now).lived (drop (i + 1) events))

pub returns-clause-lives : goal.returns-clause-lives
returns-clause-lives g c came =
    let store = c.args.store in
    let first : First = first_of store in
    let events = c.args.events.now in
    let i = c.loop-event.event-index in
    let run = c.loop-event.run in
    let past : length events ≤ i = c.loop-event-test.false in
    let was = c.loop-event.invariant.goes came in
    rw (c.end-2.ensures.disk, c.end-2.ensures.replies, c.end-2.ensures.ended, c.end-2.ensures.history)
    (lives_of {P = Pick} (g.D.Disk.left run.life.keeper.disk) first (take i events) events run.replies.items _ _ (take_all i events past)
    (run_whole first (take i events) run.replies.items run.history.items run.life.keeper.machine was.run (g.D.Disk.left run.life.keeper.disk) run.life.living.state (c.end-2.ensures.left was.came)))

-- ---- what was told stays
pub returns-in-Err-clause-told : goal.returns-in-Err-clause-told
returns-in-Err-clause-told g c came = told_for_good {P = Pick} _ _ _ _ _ _ _ _ _ _ (returns-in-Err-clause-lives g c came)

pub returns-then-is_err-clause-told : goal.returns-then-is_err-clause-told
returns-then-is_err-clause-told g c came = told_for_good {P = Pick} _ _ _ _ _ _ _ _ _ _ (returns-then-is_err-clause-lives g c came)

pub returns-in-Err-next-clause-told : goal.returns-in-Err-next-clause-told
returns-in-Err-next-clause-told g c came = told_for_good {P = Pick} _ _ _ _ _ _ _ _ _ _ (returns-in-Err-next-clause-lives g c came)

pub returns-clause-told : goal.returns-clause-told
returns-clause-told g c came = told_for_good {P = Pick} _ _ _ _ _ _ _ _ _ _ (returns-clause-lives g c came)

-- ---- the count of the disk's failures
pub returns-in-Err-clause-failed : goal.returns-in-Err-clause-failed
returns-in-Err-clause-failed g c =
    let n = g.D.Disk.failures c.args.store.disk in
    let there : c.close.result ≡ c.args.store.disk = (let back = c.in-Err.ensures.handed_back in let shut = c.close.ensures in cc) in
    rw (there, c.new-in-Err.ensures.items) (ends_told {P = Pick} [] c.args.events.now [] (Some OutOfMemory) n n n (fails_none {P = Pick} n) refl)

pub returns-then-is_err-clause-failed : goal.returns-then-is_err-clause-failed
returns-then-is_err-clause-failed g c =
    let n = g.D.Disk.failures c.args.store.disk in
    let events = c.args.events.now in
    let i = c.loop-event.event-index in
    let run = c.loop-event.run in
    let now = g.D.Disk.failures run.life.keeper.disk in
    rw (c.end.ensures.disk, c.end.ensures.replies, c.end.ensures.ended, c.grow.ensures.life, c.grow.ensures.replies)
    (ends_as {P = Pick} (take i events ++ drop i events) events run.replies.items (Some OutOfMemory) n now (take-append-drop i events)
    (ends_told {P = Pick} (take i events) (drop i events) run.replies.items (Some OutOfMemory) n now now c.loop-event.invariant.counted refl))

pub returns-in-Err-next-clause-failed : goal.returns-in-Err-next-clause-failed
returns-in-Err-next-clause-failed g c =
    let n = g.D.Disk.failures c.args.store.disk in
    let events = c.args.events.now in
    let i = c.loop-event.event-index in
    let item = c.event-item.result in
    let within : i < length events = c.loop-event-test.true in
    let more : take (i + 1) events ≡ take i events ++ item ∷ [] = take_more events i item within ∙ ap (λ (x : Event Pick). take i events ++ x ∷ []) (sym c.event-item.is) in
    let all : (take i events ++ item ∷ []) ++ drop (i + 1) events ≡ events = ap (λ (es : List (Event Pick)). es ++ drop (i + 1) events) (sym more) ∙ take-append-drop (i + 1) events in
    let ended = c.in-Err-next.rehearsal in
    ends_as {P = Pick} ((take i events ++ item ∷ []) ++ drop (i + 1) events) events ended.replies.items ended.ended n (g.D.Disk.failures ended.disk) all
    (c.in-Err-next.ensures.takes.counted n (take i events) (rw (c.grow.ensures.life, c.grow.ensures.replies) c.loop-event.invariant.counted) (drop (i + 1) events))

pub returns-clause-failed : goal.returns-clause-failed
returns-clause-failed g c =
    let n = g.D.Disk.failures c.args.store.disk in
    let events = c.args.events.now in
    let i = c.loop-event.event-index in
    let run = c.loop-event.run in
    let now = g.D.Disk.failures run.life.keeper.disk in
    let past : length events ≤ i = c.loop-event-test.false in
    rw (c.end-2.ensures.disk, c.end-2.ensures.replies, c.end-2.ensures.ended)
    (ends_as {P = Pick} (take i events ++ []) events run.replies.items None n now (append-nil (take i events) ∙ take_all i events past)
    (ends_told {P = Pick} (take i events) [] run.replies.items None n now now c.loop-event.invariant.counted refl))

-- ---- the picks
pub returns-in-Err-clause-cut : goal.returns-in-Err-clause-cut
returns-in-Err-clause-cut g c came =
    let first : First = first_of c.args.store in
    rw c.new-in-Err.ensures.items (cut_early _ _ first [] [] (first_state first) (cut_none _ _ first [] (first_state first) refl refl) c.args.events.now (Some OutOfMemory) (λ never. cc))

pub returns-then-is_err-clause-cut : goal.returns-then-is_err-clause-cut
returns-then-is_err-clause-cut g c came =
    let first : First = first_of c.args.store in
    let events = c.args.events.now in
    let i = c.loop-event.event-index in
    let run = c.loop-event.run in
    rw (c.end.ensures.ended, c.end.ensures.replies, c.grow.ensures.replies)
    (cut_of _ _ first (take i events ++ drop i events) events run.replies.items (Some OutOfMemory) (take-append-drop i events)
    (cut_early _ _ first (take i events) run.replies.items _ (c.loop-event.invariant.cut came) (drop i events) (Some OutOfMemory) (λ never. cc)))

pub returns-in-Err-next-clause-cut : goal.returns-in-Err-next-clause-cut
returns-in-Err-next-clause-cut g c came =
    let first : First = first_of c.args.store in
    let events = c.args.events.now in
    let i = c.loop-event.event-index in
    let item = c.event-item.result in
    let within : i < length events = c.loop-event-test.true in
    let more : take (i + 1) events ≡ take i events ++ item ∷ [] = take_more events i item within ∙ ap (λ (x : Event Pick). take i events ++ x ∷ []) (sym c.event-item.is) in
    let was = c.loop-event.invariant.goes came in
    let now : IsGoing {P = Pick} g.D.Disk.honest g.D.Disk.content first (take i events) c.grow.new.self.replies.items c.grow.new.self.history.items c.grow.new.self.life.keeper =
    rw (c.grow.ensures.life, c.grow.ensures.replies, c.grow.ensures.history) was in
    let so_far : CutSoFar g.D.Disk g.D.Stoppable first (take i events) c.grow.new.self.replies.items
    (in_life first.network first.version c.grow.new.self.history.items c.grow.new.self.life.keeper.machine) =
    rw (c.grow.ensures.life, c.grow.ensures.replies, c.grow.ensures.history) (c.loop-event.invariant.cut came) in
    let all : (take i events ++ item ∷ []) ++ drop (i + 1) events ≡ events = ap (λ (es : List (Event Pick)). es ++ drop (i + 1) events) (sym more) ∙ take-append-drop (i + 1) events in
    let ended = c.in-Err-next.rehearsal in
    cut_of _ _ first ((take i events ++ item ∷ []) ++ drop (i + 1) events) events ended.replies.items ended.ended all
    (cut_last _ _ first (take i events) c.grow.new.self.replies.items _ so_far item ended.replies.items (drop (i + 1) events) ended.ended (c.in-Err-next.ensures.takes.each first (take i events) now).turn c.in-Err-next.ensures.goes.early)

pub returns-clause-cut : goal.returns-clause-cut
returns-clause-cut g c came =
    let first : First = first_of c.args.store in
    let events = c.args.events.now in
    let i = c.loop-event.event-index in
    let run = c.loop-event.run in
    let past : length events ≤ i = c.loop-event-test.false in
    rw c.end-2.ensures.replies
    (cut_of _ _ first (take i events) events run.replies.items _ (take_all i events past) (cut_whole _ _ first (take i events) run.replies.items _ (c.loop-event.invariant.cut came) _))

-- ---- the disk model
pub returns-then-is_err-clause-honest : goal.returns-then-is_err-clause-honest
returns-then-is_err-clause-honest g c came =
    let was = c.loop-event.invariant.goes came in
    let there = subst (λ (l : Life g.row.D.Denot g.D.Stoppable g.D.Disk). CameTidy g.D.Disk.honest g.D.Disk.content l.keeper.given → g.D.Disk.honest l.keeper.disk) c.grow.ensures.life c.end.ensures.honest was.came in
    rw (c.end.ensures.disk, c.grow.ensures.life) there

pub returns-in-Err-next-clause-honest : goal.returns-in-Err-next-clause-honest
returns-in-Err-next-clause-honest g c came = c.in-Err-next.ensures.goes.honest (rw c.grow.ensures.life (c.loop-event.invariant.goes came).came)

pub returns-clause-honest : goal.returns-clause-honest
returns-clause-honest g c came = rw c.end-2.ensures.disk (c.end-2.ensures.honest (c.loop-event.invariant.goes came).came)
