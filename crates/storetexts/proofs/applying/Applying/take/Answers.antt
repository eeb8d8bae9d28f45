use Rattle.std.proofs.Common.{rules, ◌≡◌, ◌∙◌, ◌+◌, ◌≤◌, List, [], ◌∷◌, ◌++◌, length, Ok, Err, take, sym, ap, subst, arith}
use Rattle.std.proofs.lemmas.List.{take-append-le}
use Rattle.storetexts.specs.declared.outcomes.Outcome.{Outcome}
use Rattle.storetexts.specs.Applying.{IsSteady, GroupsTaken}
use Rattle.machine.specs.Machine.{pending}
use Rattle.keeper.specs.Parts.{ticket_for}
use Rattle.storetexts.proofs.Stepping.{come_submit, steady_submit, waiting_submit}
use Rattle.storetexts.proofs.Meanwhile.{Grows, grows_submit, leaves_same}
use Rattle.storetexts.proofs.applying.Applying.take.Goals as goal
use Rattle.storetexts.proofs.applying.Applying.take.Goals.{in-Ok, in-Err}

pub returns-clause-goes : goal.returns-clause-goes
returns-clause-goes g c =
    let old = c.args.self.now.ledger in
    let new = c.submit_copy.new.self in
    let steady : IsSteady new.machine = elim c.match-submit_copy.branch [
      | in-Ok w ↦ steady_submit _ _ c.args.group.now (ticket_for c.args.group.now (Ok w.in-Ok.number)) w.in-Ok.ensures.step c.requires.ready.steady
      | in-Err w ↦ steady_submit _ _ c.args.group.now (ticket_for c.args.group.now (Err w.in-Err.refusal)) w.in-Err.ensures.step c.requires.ready.steady
    ] in
    let grows : Grows old.machine new.machine = elim c.match-submit_copy.branch [
      | in-Ok w ↦ grows_submit _ _ c.args.group.now (ticket_for c.args.group.now (Ok w.in-Ok.number)) w.in-Ok.ensures.step
      | in-Err w ↦ grows_submit _ _ c.args.group.now (ticket_for c.args.group.now (Err w.in-Err.refusal)) w.in-Err.ensures.step
    ] in
    record {
      steady = steady;
      leaves = leaves_same g.D.Disk old new c.submit_copy.ensures.disk grows;
      given = c.submit_copy.ensures.given;
      honest = rw c.submit_copy.ensures.disk (λ h. h, λ h. h);
      room = search rules;
    }

pub returns-clause-come : goal.returns-clause-come
returns-clause-come g c net version groups have =
    let items = c.args.self.now.outcomes.items in
    let told = c.args.self.now.told in
    let most : length c.args.group.now ≤ 253 = c.commands-size.ensures.group.1 in
    let few : pending c.args.self.now.ledger.machine + length c.args.group.now ≤ 4096 = omega (arith, most, c.requires.few) in
    let pushed : c.push_reserved.new.self.items ≡ items ++ c.match-submit_copy.outcome ∷ [] = c.push_reserved.ensures.items in
    elim c.match-submit_copy.branch [
      | in-Ok w ↦
          subst (λ (l : List Outcome). GroupsTaken net version (groups ++ c.args.group.now ∷ []) l told c.submit_copy.new.self.machine) (sym (pushed ∙ ap (λ (o : Outcome). items ++ o ∷ []) w.outcome-is))
          (come_submit net version told groups items _ c.submit_copy.new.self.machine c.args.group.now (ticket_for c.args.group.now (Ok w.in-Ok.number)) c.requires.ready.steady c.requires.ready.calm few w.in-Ok.ensures.step have)
      | in-Err w ↦
          subst (λ (l : List Outcome). GroupsTaken net version (groups ++ c.args.group.now ∷ []) l told c.submit_copy.new.self.machine) (sym (pushed ∙ ap (λ (o : Outcome). items ++ o ∷ []) w.outcome-is))
          (come_submit net version told groups items _ c.submit_copy.new.self.machine c.args.group.now (ticket_for c.args.group.now (Err w.in-Err.refusal)) c.requires.ready.steady c.requires.ready.calm few w.in-Err.ensures.step have)
    ]

pub returns-clause-first : goal.returns-clause-first
returns-clause-first g c within =
    let items = c.args.self.now.outcomes.items in
    let pushed : c.push_reserved.new.self.items ≡ items ++ c.match-submit_copy.outcome ∷ [] = c.push_reserved.ensures.items in
    ap (take c.args.self.now.told) pushed ∙ take-append-le c.args.self.now.told items (c.match-submit_copy.outcome ∷ []) within

pub returns-clause-waiting : goal.returns-clause-waiting
returns-clause-waiting g c =
    elim c.match-submit_copy.branch [
      | in-Ok w ↦ waiting_submit _ _ c.args.group.now (ticket_for c.args.group.now (Ok w.in-Ok.number)) c.requires.ready.steady.state c.commands-size.ensures.group c.requires.few w.in-Ok.ensures.step
      | in-Err w ↦ waiting_submit _ _ c.args.group.now (ticket_for c.args.group.now (Err w.in-Err.refusal)) c.requires.ready.steady.state c.commands-size.ensures.group c.requires.few w.in-Err.ensures.step
    ]
