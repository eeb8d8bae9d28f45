use Rattle.std.proofs.Common.{◌≡◌, ℕ, ◌-◌, ◌++◌, List, length, take, ◌∙◌, ap, arith, rules}
use Rattle.roadnet.specs.declared.groups.Group.{Group}
use Rattle.machine.proofs.Kept.{left_between}
use Rattle.lives.proofs.halted.Halted.resume.Goals as goal

pub returns-in-Ok-clause-resumes : goal.returns-in-Ok-clause-resumes
returns-in-Ok-clause-resumes g c m honest halted =
    let next = c.in-Ok.life.keeper.machine in
    let life = c.in-Ok.ensures.begins m halted.state honest halted.held in
    let between = left_between m halted.state next.base_version life.begins.left in
    let many : length c.args.self.groups.items ≡ length m.accepted = ap length halted.groups_are in
    let kept : c.min-kept.result ≡ next.base_version - m.base_version =
    omega (arith, many, between.0, between.1, c.in-Ok.life.living.opened_is, halted.opened_is, c.saturating_sub.ensures, c.len.ensures, c.min-kept.ensures, c.args.self.groups.ok.0) in
    let front : c.truncate.new.self.items ≡ take (next.base_version - m.base_version) m.accepted =
    c.truncate.ensures.items ∙ (ap (λ (n : ℕ). take n c.args.self.groups.items) kept ∙ ap (take (next.base_version - m.base_version)) halted.groups_are) in
    record {
      life = life;
      content = c.in-Ok.ensures.content honest;
      history = c.put_behind.ensures ∙ ap (λ (xs : List Group). c.args.self.history.items ++ xs) front;
    }

pub returns-in-Err-clause-resumes : goal.returns-in-Err-clause-resumes
returns-in-Err-clause-resumes g c m honest halted = record {
  passing = search rules;
  left = search rules;
  history = search rules;
}
