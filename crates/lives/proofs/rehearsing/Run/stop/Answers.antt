use Rattle.std.proofs.Common.{◌≡◌, ℕ, ◌-◌, take, ◌++◌, ◌∷◌, [], List, refl, ◌∙◌, ap}
use Rattle.roadnet.specs.declared.groups.Group.{Group}
use Rattle.machine.specs.declared.events.Replied.{Replied}
use Rattle.machine.specs.declared.events.Replied.TheVariants.{Opened, Stopped}
use Rattle.machine.specs.Machine.{groups_to}
use Rattle.machine.specs.declared.events.Event.TheVariants.{Stop}
use Rattle.lives.specs.Failures.{failures_at_end}
use Rattle.lives.proofs.Failing.{match_both, fails_more, fails_as, ends_told}
use Rattle.lives.proofs.Stops.{stop_turn, stop_last}
use Rattle.lives.proofs.Halts.{goes_as}
use Rattle.lives.proofs.Runs.{run_as, lives_as, durable_front, opened_by_stop, not_opened_by_stop}
use Rattle.lives.proofs.rehearsing.Run.stop.Goals as goal

pub returns-clause-goes : goal.returns-clause-goes
returns-clause-goes g c = goes_as c.resume.result _ _ _ _ c.halt-halted.ensures.leaves.delta (λ came. (c.halt-halted.ensures.halted came).honest) c.resume.ensures.goes

pub returns-clause-takes : goal.returns-clause-takes
returns-clause-takes g c =
    let self = c.args.self in
    let m = self.life.keeper.machine in
    let state = self.life.living.state in
    let disk = self.life.keeper.disk in
    let halted = c.halt-halted.result.0 in
    let left = c.halt-halted.ensures.leaves in
    let replies : halted.replies.items ≡ self.replies.items = (let e = left.replies in cc) in
    let history : halted.history.items ≡ self.history.items = (let e = left.history in cc) in
    record {
      each = λ first done going.
          let by = c.halt-halted.ensures.halted going.came in
          match_both c.resume.result _ _ _ _ _ _
          (λ x goes told.
          let history_is = goes.history ∙ ap (λ (cs : List Group). cs ++ groups_to m x.life.keeper.machine.base_version) history in
          let replies_are = told ∙ ap (λ (rs : List Replied). rs ++ Opened x.life.keeper.machine.base_version ∷ []) replies in
          record {
            come = record {
              came = goes.life.came;
              run = run_as first _ _ x.replies.items _ x.history.items x.life.keeper.machine replies_are history_is
                  (opened_by_stop first done self.replies.items self.history.items m going.run x.life.keeper.machine state goes.life.begins);
            };
            turn = stop_turn g.D.Disk g.D.Stoppable first done self.replies.items self.history.items m going.run state disk by.held (g.D.Disk.content halted.disk) by.cut
                x.life.keeper.machine x.replies.items x.history.items (g.D.Disk.content x.life.keeper.disk) goes.life.begins goes.life.stands replies_are history_is goes.content;
          })
          (λ x ends told.
          let replies_are = told ∙ ap (λ (rs : List Replied). rs ++ Stopped ∷ []) replies in
          record {
            lived = λ rest.
                lives_as (g.D.Disk.left x.disk) first _ _ x.replies.items x.ended _ x.history.items replies_are
                (ends.history ∙ (ap (λ (cs : List Group). cs ++ take (halted.durable - halted.opened) halted.groups.items) history
                ∙ ap (λ (cs : List Group). self.history.items ++ cs) (durable_front halted.opened halted.durable m halted.groups.items by.halted.opened_is by.halted.durable_is by.halted.groups_are)))
                (not_opened_by_stop first done self.replies.items self.history.items m going.run (g.D.Disk.left x.disk) rest x.ended state ends.passing ends.left);
            turn = stop_last g.D.Disk g.D.Stoppable first done self.replies.items self.history.items m going.run state disk by.held (g.D.Disk.content halted.disk) by.cut x.replies.items by.halted.held replies_are;
          })
          (c.resume.ensures.resumes m by.honest by.halted) c.resume.ensures.told;
      counted = λ before done f.
          let n : ℕ = g.D.Disk.failures disk in
          match_both c.resume.result _ _ _ _ _ _
          (λ x same told. fails_as (done ++ Stop ∷ []) (self.replies.items ++ Opened x.life.keeper.machine.base_version ∷ []) x.replies.items before (g.D.Disk.failures x.life.keeper.disk)
          (told ∙ ap (λ (rs : List Replied). rs ++ Opened x.life.keeper.machine.base_version ∷ []) replies)
          (fails_more done self.replies.items before n (g.D.Disk.failures x.life.keeper.disk) Stop (Opened x.life.keeper.machine.base_version ∷ []) f tt (same ∙ left.failures)))
          (λ x counted told rest. ends_told (done ++ Stop ∷ []) rest x.replies.items x.ended before n (g.D.Disk.failures x.disk)
          (fails_as (done ++ Stop ∷ []) (self.replies.items ++ Stopped ∷ []) x.replies.items before n (told ∙ ap (λ (rs : List Replied). rs ++ Stopped ∷ []) replies) (fails_more done self.replies.items before n n Stop (Stopped ∷ []) f tt refl))
          (counted ∙ ap (failures_at_end x.ended) left.failures))
          c.resume.ensures.counted c.resume.ensures.told;
    }
