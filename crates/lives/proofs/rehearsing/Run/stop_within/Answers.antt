use Rattle.std.proofs.Common.{◌≡◌, ℕ, ◌-◌, take, ◌++◌, ◌∷◌, [], List, length, Some, refl, sym, ◌∙◌, ap, subst, arith}
use Rattle.std.specs.Prelude.{◌≢◌}
use Rattle.machine.specs.declared.events.Replied.{Replied}
use Rattle.machine.specs.declared.events.Replied.TheVariants.{Refused, Opened, Stopped}
use Rattle.store.specs.State.{CameTidy}
use Rattle.roadnet.specs.declared.groups.Group.{Group}
use Rattle.roadnet.specs.declared.refusals.Refusal.TheVariants.{Device}
use Rattle.machine.specs.Machine.{Machine, groups_to}
use Rattle.machine.specs.Lives.{Writes}
use Rattle.keeper.specs.Keeping.{HoldsFor}
use Rattle.lives.specs.Failures.{failures_by}
use Rattle.keeper.proofs.Lifted.{lift_held}
use Rattle.lives.proofs.Failing.{match_both, fails_as, ends_told, no_stop_written, stop_told}
use Rattle.lives.proofs.LivesInRun.{writes_later, writes_same}
use Rattle.lives.proofs.Cut.{came_alone, own_failure, armed_so}
use Rattle.lives.proofs.Stops.{was_armed, within_turn, within_last}
use Rattle.lives.proofs.Halts.{goes_as}
use Rattle.lives.proofs.Runs.{run_as, lives_as, durable_front, told_of, opened_told, not_opened_told}
use Rattle.lives.proofs.rehearsing.Run.stop_within.Goals as goal

pub resume-requires : goal.resume-requires
resume-requires g c =
    let self = c.args.self in
    let m = self.life.keeper.machine in
    let mid = c.write-written.new.self.keeper.machine in
    let state = c.write-written.new.self.living.state in
    let left = c.halt-halted.ensures.leaves in
    let halted = c.halt-halted.result.0 in
    let wrote = subst (λ (x : Machine). Writes x c.args.writing c.write-written.result mid) c.arm.ensures.same.machine c.write-written.ensures.does in
    let same : halted.groups.items ≡ m.accepted = left.groups ∙ writes_same c.args.writing c.write-written.result m mid wrote in
    let many : length halted.groups.items ≡ length m.accepted = ap length same in
    let all : length halted.groups.items ≡ length mid.accepted = ap length left.groups in
    let history = left.history in
    let replies = left.replies in
    let told = rw replies at c.tell_write.ensures.room in
    let fits = rw replies at c.tell_write.ensures.capacity in
    record {
      opened = omega (arith, left.opened, left.durable, state.base_opened, state.opened_shown, state.shown_durable);
      durable = omega (arith, left.opened, left.durable, all, state.durable_accepted, halted.groups.ok.0);
      room = rw history (omega (arith, many, c.requires.room, halted.groups.ok.0));
      reply = omega (arith, told, fits, c.requires.reply);
    }

pub returns-clause-goes : goal.returns-clause-goes
returns-clause-goes g c =
    goes_as c.resume.result _ _ _ _ (c.halt-halted.ensures.leaves.delta ∙ (c.write-written.ensures.delta ∙ c.arm.ensures.same.delta))
    (λ was. (c.halt-halted.ensures.halted (subst (λ (d : g.row.D.Denot). CameTidy g.D.Disk.honest g.D.Disk.content d) (sym (c.write-written.ensures.given ∙ c.arm.ensures.same.given)) was)).honest)
    c.resume.ensures.goes

pub returns-clause-takes : goal.returns-clause-takes
returns-clause-takes g c event within names picks =
    let self = c.args.self in
    let m = self.life.keeper.machine in
    let mid = c.write-written.new.self.keeper.machine in
    let state = self.life.living.state in
    let wrote = subst (λ (x : Machine). Writes x c.args.writing c.write-written.result mid) c.arm.ensures.same.machine c.write-written.ensures.does in
    let disk = c.write-written.new.self.keeper.disk in
    let halted = c.halt-halted.result.0 in
    let left = c.halt-halted.ensures.leaves in
    let replies : halted.replies.items ≡ self.replies.items = (let e = left.replies in cc) in
    let history : halted.history.items ≡ self.history.items = (let e = left.history in cc) in
    let written = rw replies at c.tell_write.ensures.told in
    record {
      each = λ first done going.
          let run = going.run in
          let later = writes_later c.args.writing c.write-written.result m mid state wrote in
          let came = subst (λ (d : g.row.D.Denot). CameTidy g.D.Disk.honest g.D.Disk.content d) (sym (c.write-written.ensures.given ∙ c.arm.ensures.same.given)) going.came in
          let by = c.halt-halted.ensures.halted came in
          let told = told_of first done self.replies.items self.history.items m run mid later c.args.writing c.write-written.result c.tell_write.new.replies.items state wrote written in
          let alone : (last : Replied) → told.told ++ last ∷ [] ≡ last ∷ [] → g.D.Stoppable.armed disk ≡ Some 0 =
          λ last only. came_alone c.halt-halted.result.1 _ self.replies.items c.tell_write.new.replies.items told.told c.write-written.result last c.halt-halted.ensures.came.0
          (λ no. c.tell_write.ensures.behind no ∙ ap (λ (rs : List Replied). rs ++ c.write-written.result ∷ []) replies) told.is only in
          let own : (last : Replied) → told.told ++ last ∷ [] ≡ Refused Device ∷ last ∷ [] → g.D.Stoppable.armed disk ≢ Some 0 =
          λ last two. own_failure c.halt-halted.result.1 _ self.replies.items c.tell_write.new.replies.items told.told c.write-written.result last (Refused Device) c.halt-halted.ensures.came.1
          (λ yes failed. c.tell_write.ensures.within yes failed ∙ replies) written told.is two in
          let before = c.arm.new.self.keeper.disk in
          let began = subst (λ (d : g.row.D.Denot). CameTidy g.D.Disk.honest g.D.Disk.content d) (sym c.arm.ensures.same.given) going.came in
          let held : HoldsFor g.D.Disk before m =
          subst (λ (x : Machine). HoldsFor g.D.Disk before x) c.arm.ensures.same.machine (lift_held g.D.Disk c.arm.new.self.keeper _ c.deref.ensures c.holds_durable.ensures began) in
          let was = was_armed g.D.Disk g.D.Stoppable first done self.replies.items self.history.items m run mid later c.args.call before disk state held
          (λ some. armed_so c.args.call _ _ (c.arm.ensures.armed some)) (c.write-written.ensures.later began) in
          match_both c.resume.result _ _ _ _ _ _
          (λ x goes tells.
          let history_is = goes.history ∙ ap (λ (cs : List Group). cs ++ groups_to mid x.life.keeper.machine.base_version) history in
          record {
            come = record {
              came = goes.life.came;
              run = run_as first _ _ x.replies.items _ x.history.items x.life.keeper.machine tells history_is
                  (opened_told first done self.replies.items self.history.items m run mid later event c.args.writing c.tell_write.new.replies.items x.life.keeper.machine within told goes.life.begins);
            };
            turn = within_turn g.D.Disk g.D.Stoppable first done self.replies.items self.history.items m run mid later event c.args.writing _ within c.args.call names picks c.tell_write.new.replies.items told
                disk by.held (g.D.Disk.content halted.disk) by.cut was alone own
                x.life.keeper.machine x.replies.items x.history.items (g.D.Disk.content x.life.keeper.disk) goes.life.begins goes.life.stands tells history_is goes.content;
          })
          (λ x ends tells.
          record {
            lived = λ rest.
                lives_as (g.D.Disk.left x.disk) first _ _ x.replies.items x.ended _ x.history.items tells
                (ends.history ∙ (ap (λ (cs : List Group). cs ++ take (halted.durable - halted.opened) halted.groups.items) history
                ∙ ap (λ (cs : List Group). self.history.items ++ cs) (durable_front halted.opened halted.durable mid halted.groups.items by.halted.opened_is by.halted.durable_is by.halted.groups_are)))
                (not_opened_told first done self.replies.items self.history.items m run mid later (g.D.Disk.left x.disk) event c.args.writing c.tell_write.new.replies.items rest x.ended within told ends.passing ends.left);
            turn = within_last g.D.Disk g.D.Stoppable first done self.replies.items self.history.items m run mid later event c.args.writing _ within c.args.call names picks c.tell_write.new.replies.items told
                disk by.held (g.D.Disk.content halted.disk) by.cut was alone own x.replies.items by.halted.held tells;
          })
          (c.resume.ensures.resumes mid by.honest by.halted) c.resume.ensures.told;
      counted = λ before done f.
          let n : ℕ = g.D.Disk.failures self.life.keeper.disk in
          let then : ℕ = g.D.Disk.failures halted.disk in
          let counted : then ≡ failures_by c.write-written.result n = left.failures ∙ (c.write-written.ensures.counted ∙ ap (failures_by c.write-written.result) c.arm.ensures.same.failures) in
          let other = no_stop_written c.args.writing m mid c.write-written.result wrote in
          match_both c.resume.result _ _ _ _ _ _
          (λ x same opened. fails_as (done ++ event ∷ []) (c.tell_write.new.replies.items ++ Opened x.life.keeper.machine.base_version ∷ []) x.replies.items before (g.D.Disk.failures x.life.keeper.disk) opened
          (stop_told event c.args.writing c.write-written.result self.replies.items c.tell_write.new.replies.items (Opened x.life.keeper.machine.base_version) done before n (g.D.Disk.failures x.life.keeper.disk) within other refl written f (same ∙ counted)))
          (λ x ends stopped rest. ends_told (done ++ event ∷ []) rest x.replies.items x.ended before then (g.D.Disk.failures x.disk)
          (fails_as (done ++ event ∷ []) (c.tell_write.new.replies.items ++ Stopped ∷ []) x.replies.items before then stopped
          (stop_told event c.args.writing c.write-written.result self.replies.items c.tell_write.new.replies.items Stopped done before n then within other refl written f counted))
          ends)
          c.resume.ensures.counted c.resume.ensures.told;
    }
