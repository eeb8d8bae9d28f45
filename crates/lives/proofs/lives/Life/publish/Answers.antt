use Rattle.std.proofs.Common.{◌≡◌, Some, inl, refl, ap}
use Rattle.lives.proofs.LifeKept.{not_refused, width_behind}
use Rattle.lives.proofs.lives.Life.publish.Goals as goal
use Rattle.lives.proofs.lives.Life.publish.Goals.{in-Ok, in-Err}

pub returns : goal.returns
returns g c =
    let view = c.in-Some.view.value in
    let told = c.in-Some.ensures.value in
    let aside : c.args.self.now.aside ≡ Some c.in-Some.view = cc in
    record {
      does = elim c.match-publish.branch [
        | in-Ok w ↦ (let step = w.in-Ok.ensures.step in inl (view.version, view.network, (step.0, refl, step.2), cc (w.result-is, step.1)))
        | in-Err w ↦ absurd (not_refused _ _ (view.version, view.network) _ (rw aside at c.args.self.now.living) w.in-Err.ensures.step.0)
      ];
      delta = refl;
      given = c.publish.ensures.given;
      counted = ap g.D.Disk.failures c.publish.ensures.disk;
    }

pub invariant_of-self-2-clause-shown : goal.invariant_of-self-2-clause-shown
invariant_of-self-2-clause-shown g c w is =
    let told = c.in-Some.ensures.value in
    let aside : c.args.self.now.aside ≡ Some c.in-Some.view = cc in
    width_behind c.publish.result c.publish.new.self.width c.args.self.now.keeper.width c.in-Some.view.value.delta w c.publish.ensures.width c.publish.ensures.same_width (c.args.self.now.shown w is) (c.args.self.now.built w is c.in-Some.view aside)
