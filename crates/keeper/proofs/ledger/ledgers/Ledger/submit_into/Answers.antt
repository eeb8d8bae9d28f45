use Rattle.std.specs.Prelude.{None}
use Rattle.std.proofs.Common.{length, ap, refl, subst, arith}
use Rattle.roadnet.specs.Net.{IsNetwork}
use Rattle.machine.specs.Machine.{Machine}
use Rattle.keeper.specs.Keeping.{machine_of}
use Rattle.keeper.proofs.Accepted.{admits, outlined, kept_as, kept_with, life_as, life_with, listed_as, listed_with, pending_as, pending_with}
use Rattle.std.proofs.lemmas.Result.{err_from_is_err_and}
use Rattle.keeper.proofs.RefusedByNetwork.{not_closed}
use Rattle.keeper.proofs.Held.{holds_on, same_before, same_groups}
use Rattle.keeper.proofs.ledger.ledgers.Ledger.submit_into.Goals as goal

pub accept_into-requires-clause-admits : goal.accept_into-requires-clause-admits
accept_into-requires-clause-admits g c =
    let k = c.self.inside in
    let m : Machine = machine_of k.store k.base.value k.opened k.history.items k.opened k.broken k.written.value None in
    admits m k.store.network k.base.value None k.history.items k.accepted k.accepted c.self.invariant.0 c.self.invariant.3 c.args.group (rw (← c.self.view_is) at c.in_ok-may_submit.ensures)

pub invariant_of-self-2 : goal.invariant_of-self-2
invariant_of-self-2 g c =
    let k = c.self.inside in
    let m : Machine = machine_of k.store k.base.value k.opened k.history.items k.opened k.broken k.written.value None in
    let items = c.accept_into.new.history.items in
    let new = c.accept_into.new.accepted in
    let none = rw (← c.self.view_is) at c.in_ok-may_submit.ensures in
    let told = c.in_ok-accept_into.ensures.accepts in (
      kept_with m k.store.network k.base.value None items k.accepted new c.self.invariant.0 c.self.invariant.3 c.args.group none c.commands.ensures.group told.history,
      c.self.invariant.1,
      λ came. let held = c.self.invariant.2 came in (held.0, holds_on (g.D.Disk.content k.store.disk) (g.D.Disk.left k.store.disk) _ _ refl refl refl refl (λ v le. same_before _ _ k.history.items items c.args.group told.history (omega (arith, le))) c.self.invariant.0.state held.1),
      listed_with m k.store.network k.base.value None items k.accepted new c.self.invariant.0 c.self.invariant.3 c.args.group none told.history told.accepted,
      life_with m k.store.network k.base.value None items k.accepted new c.self.invariant.0 c.self.invariant.3 k.of_life _ c.args.group c.self.invariant.4 (ap length c.commands.ensures.value) told.history,
      pending_with m k.store.network k.base.value None items k.accepted new c.self.invariant.0 c.self.invariant.3 k.pending _ c.args.group c.self.invariant.5 (ap length c.commands.ensures.value) told.history,
    )

pub invariant_of-self : goal.invariant_of-self
invariant_of-self g c =
    let k = c.self.inside in
    let m : Machine = machine_of k.store k.base.value k.opened k.history.items k.opened k.broken k.written.value None in
    let items = c.accept_into.new.history.items in
    let new = c.accept_into.new.accepted in
    let told = c.in_err-accept_into.ensures.accepts in (
      kept_as m k.store.network k.base.value None items k.accepted new c.self.invariant.0 c.self.invariant.3 told.same_history,
      c.self.invariant.1,
      λ came. let held = c.self.invariant.2 came in (held.0, holds_on (g.D.Disk.content k.store.disk) (g.D.Disk.left k.store.disk) _ _ refl refl refl refl (λ v le. same_groups _ _ k.history.items items told.same_history) c.self.invariant.0.state held.1),
      listed_as m k.store.network k.base.value None items k.accepted new c.self.invariant.0 c.self.invariant.3 told.same_history told.same_accepted,
      life_as m k.store.network k.base.value None items k.accepted new c.self.invariant.0 c.self.invariant.3 k.of_life c.self.invariant.4 told.same_history,
      pending_as m k.store.network k.base.value None items k.accepted new c.self.invariant.0 c.self.invariant.3 k.pending c.self.invariant.5 told.same_history,
    )

pub returns-in_err-may_submit-clause-order : goal.returns-in_err-may_submit-clause-order
returns-in_err-may_submit-clause-order g c =
    let p = err_from_is_err_and c.from_residual.result c.from_residual.ensures.1 in
    rw (p.1, p.2) (λ is. absurd (not_closed c.args.self.now.machine c.args.group _ c.in_err-may_submit.ensures is))

pub accept_into-requires-clause-outline : goal.accept_into-requires-clause-outline
accept_into-requires-clause-outline g c =
    let k = c.self.inside in
    let m : Machine = machine_of k.store k.base.value k.opened k.history.items k.opened k.broken k.written.value None in
    outlined m k.store.network k.base.value None k.accepted c.self.invariant.0 c.self.invariant.3 (subst IsNetwork c.network.ensures c.room-room.ensures.network)
