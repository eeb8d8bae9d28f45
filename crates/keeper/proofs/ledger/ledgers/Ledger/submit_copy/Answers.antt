use Rattle.std.specs.Prelude.{None}
use Rattle.std.proofs.Common.{length, ap, refl, arith}
use Rattle.machine.specs.Machine.{Machine}
use Rattle.keeper.specs.Keeping.{machine_of}
use Rattle.keeper.proofs.Accepted.{admits, kept_as, kept_with, life_as, life_with, listed_as, listed_with, pending_as, pending_with}
use Rattle.keeper.proofs.Held.{holds_on, same_before, same_groups}
use Rattle.keeper.proofs.ledger.ledgers.Ledger.submit_copy.Goals as goal

pub accept-requires : goal.accept-requires
accept-requires g c =
    let k = c.self.inside in
    let m : Machine = machine_of k.store k.base.value k.opened k.history.items k.opened k.broken k.written.value None in
    rw c.in_ok-copy.ensures.same (admits m k.store.network k.base.value None k.history.items k.accepted k.accepted c.self.invariant.0 c.self.invariant.3 c.args.group.now (rw (← c.self.view_is) at c.in_ok-may_submit.ensures))

pub invariant_of-self-2 : goal.invariant_of-self-2
invariant_of-self-2 g c =
    let k = c.self.inside in
    let m : Machine = machine_of k.store k.base.value k.opened k.history.items k.opened k.broken k.written.value None in
    let items = c.accept.new.history.items in
    let new = c.accept.new.accepted in
    let none = rw (← c.self.view_is) at c.in_ok-may_submit.ensures in
    let told = rw c.in_ok-copy.ensures.same at c.in_ok-accept.ensures in (
      kept_with m k.store.network k.base.value None items k.accepted new c.self.invariant.0 c.self.invariant.3 c.args.group.now none c.commands.ensures.group told.history,
      c.self.invariant.1,
      λ came. let held = c.self.invariant.2 came in (held.0, holds_on (g.D.Disk.content k.store.disk) (g.D.Disk.left k.store.disk) _ _ refl refl refl refl (λ v le. same_before _ _ k.history.items items c.args.group.now told.history (omega (arith, le))) c.self.invariant.0.state held.1),
      listed_with m k.store.network k.base.value None items k.accepted new c.self.invariant.0 c.self.invariant.3 c.args.group.now none told.history told.accepted,
      life_with m k.store.network k.base.value None items k.accepted new c.self.invariant.0 c.self.invariant.3 k.of_life _ c.args.group.now c.self.invariant.4 (ap length c.commands.ensures.value) told.history,
      pending_with m k.store.network k.base.value None items k.accepted new c.self.invariant.0 c.self.invariant.3 k.pending _ c.args.group.now c.self.invariant.5 (ap length c.commands.ensures.value) told.history,
    )

pub invariant_of-self : goal.invariant_of-self
invariant_of-self g c =
    let k = c.self.inside in
    let m : Machine = machine_of k.store k.base.value k.opened k.history.items k.opened k.broken k.written.value None in
    let items = c.accept.new.history.items in
    let new = c.accept.new.accepted in
    let told = c.in_err-accept.ensures in (
      kept_as m k.store.network k.base.value None items k.accepted new c.self.invariant.0 c.self.invariant.3 told.same_history,
      c.self.invariant.1,
      λ came. let held = c.self.invariant.2 came in (held.0, holds_on (g.D.Disk.content k.store.disk) (g.D.Disk.left k.store.disk) _ _ refl refl refl refl (λ v le. same_groups _ _ k.history.items items told.same_history) c.self.invariant.0.state held.1),
      listed_as m k.store.network k.base.value None items k.accepted new c.self.invariant.0 c.self.invariant.3 told.same_history told.same_accepted,
      life_as m k.store.network k.base.value None items k.accepted new c.self.invariant.0 c.self.invariant.3 k.of_life c.self.invariant.4 told.same_history,
      pending_as m k.store.network k.base.value None items k.accepted new c.self.invariant.0 c.self.invariant.3 k.pending c.self.invariant.5 told.same_history,
    )
