use Rattle.std.proofs.Common.{rules, ◌≡◌, [], ap, sym, ◌∙◌}
use Rattle.machine.specs.Machine.{Machine}
use Rattle.office.proofs.Agreed.{office_begins}
use Rattle.office.proofs.offices.Office.new.Goals as goal

pub invariant_of-result : goal.invariant_of-result
invariant_of-result g c =
    let begun = c.in-Ok.ensures.begins in
    let shown : c.in_ok-publisher.publisher ≡ record { shown = record c.args.history { groups = [] }; view = c.view.result.now.value } = search rules in (
      office_begins g.N.Naming.origin c.in-Ok.keeper.machine c.in-Ok.keeper.width c.args.history c.in_ok-publisher.publisher c.view.result.now.value (ap (λ (x : Machine). x.base) begun ∙ sym c.requires.origin.0) (ap (λ (x : Machine). x.base_version) begun ∙ sym c.requires.origin.1)
          (ap (λ (x : Machine). x.accepted) begun)
          c.requires.history.0
          c.requires.history.1
          c.requires.history.2
          shown
          c.view.ensures.version
          c.view.ensures.network
          c.view.ensures.width,
      rw c.in-Ok.ensures.given c.requires.came_tidy,
    )
