use Rattle.std.proofs.Common.{◌≡◌, ◌∙◌, [], None, Some, List, drop, ap, sym, arith}
use Rattle.std.proofs.lemmas.List.{drop_all}
use Rattle.roadnet.specs.declared.commands.Command.{Command}
use Rattle.roadnet.specs.Batches.{changed_by_all, first_refusal_of_all}
use Rattle.roadnet.specs.Net.{Net}
use Rattle.roadnet.specs.Step.{after}
use Rattle.roadnet.proofs.InTurn.{after_all_is_changed}
use Rattle.shared_network.proofs.networks.SharedNetwork.after.Goals as goal

-- where nothing is left of the groups, the last network is the one after all of them
is_after : (old new : Net) (groups rest : List (List Command)) → rest ≡ [] → first_refusal_of_all old groups ≡ None → changed_by_all new rest ≡ changed_by_all old groups → after old groups ≡ Some new
is_after old new groups rest none admitted changed =
    let same : new ≡ changed_by_all old groups = rw none at changed in
    after_all_is_changed old groups admitted ∙ ap (λ (n : Net). Some n) (sym same)

pub returns-clause-ok : goal.returns-clause-ok
returns-clause-ok c =
    is_after c.args.self.now c.loop-group.newer c.args.groups.now (drop c.loop-group.group-index c.args.groups.now) (drop_all c.loop-group.group-index c.args.groups.now (omega (arith, c.loop-group-test.false))) (rw c.in_ok-admit_groups.was at c.admit_groups.ensures) c.loop-group.invariant.changed
