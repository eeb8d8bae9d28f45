use Rattle.std.proofs.Common.{◌≡◌, ◌++◌, ◌∷◌, [], false, refl, sym, ap, subst, arith, rules}
use Rattle.disk.specs.declared.stoppable.Pick.{Pick}
use Rattle.store.specs.State.{CameTidy}
use Rattle.lives.specs.Rehearsing.{is_stop, within_of}
use Rattle.lives.specs.Cutting.{picks_of, call_of}
use Rattle.lives.proofs.Cut.{no_picks}
use Rattle.lives.proofs.Failing.{fails_more, fails_as, one_reply}
use Rattle.lives.proofs.LivesInRun.{does_size, does_in}
use Rattle.lives.proofs.Runs.{run_as, run_more}
use Rattle.lives.proofs.rehearsing.Run.next.Goals as goal

pub returns-in-Stop-clause-takes : goal.returns-in-Stop-clause-takes
returns-in-Stop-clause-takes g c = rw c.in-Stop.is c.stop.ensures.takes

pub returns-in-StopWithin-clause-takes : goal.returns-in-StopWithin-clause-takes
returns-in-StopWithin-clause-takes g c =
    let list : c.deref.result.now ≡ c.in-StopWithin.picks.items = search rules in
    c.stop_within.ensures.takes c.args.event.now (ap (within_of {P = Pick}) c.in-StopWithin.is) (ap call_of c.in-StopWithin.is) (rw list (ap picks_of c.in-StopWithin.is))

pub returns-in_default : goal.returns-in_default
returns-in_default g c =
    let self = c.args.self in
    let m = self.life.keeper.machine in
    let state = self.life.living.state in
    let event = c.args.event.now in
    let new = c.reply-told.new.self.keeper.machine in
    let does = c.reply-told.ensures.does in
    let told = c.reply-told.result ∷ [] in
    let calm : is_stop {P = Pick} event ≡ false = search rules in
    record {
      goes = record {
        room = omega (arith, does_size {P = Pick} event m new told calm does, c.requires.room);
        delta_is = c.reply-told.ensures.delta;
        early = tt;
        causes = tt;
        honest = λ came. tt;
      };
      takes = record {
        each = λ first done going. record {
          come = record {
            came = subst (λ (d : g.row.D.Denot). CameTidy g.D.Disk.honest g.D.Disk.content d) (sym c.reply-told.ensures.given) going.came;
            run = run_as first (done ++ event ∷ []) (self.replies.items ++ told) c.push_reserved.new.self.items self.history.items self.history.items new c.push_reserved.ensures.items refl
                (run_more first done self.replies.items self.history.items m going.run event told new calm state does);
          };
          turn = record {
            told = told;
            replies_are = c.push_reserved.ensures.items;
            does = does_in first.network first.version self.history.items m new going.run.there going.run.begun state event told calm does;
            has_cut = rw (no_picks event calm) tt;
          };
        };
        counted = λ before done f.
            fails_as (done ++ event ∷ []) (self.replies.items ++ told) c.push_reserved.new.self.items before _ c.push_reserved.ensures.items
            (fails_more done self.replies.items before _ _ event told f (one_reply {P = Pick} event c.reply-told.result calm) c.reply-told.ensures.counted);
      };
    }
