use Rattle.std.proofs.Common.{rules, ◌-◌, ◌∙◌, drop, refl, ap, sym, subst}
use Rattle.roadnet.specs.Groups.{count_of}
use Rattle.store.specs.State.{CameTidy, Told}
use Rattle.machine.specs.Machine.{Sizes}
use Rattle.keeper.proofs.Held.{holds_armed}
use Rattle.keeper.proofs.ledger.ledgers.Ledger.arm.Goals as goal

abbrev sizes_told : Told → Sizes
sizes_told t = record { journal_pages = t.journal_pages; checkpoint_pages = t.checkpoint_pages }

pub invariant_of-self : goal.invariant_of-self
invariant_of-self g c = (
  search rules,
  search rules,
  λ came.
      let held = c.self.invariant.2 (subst (λ (d : g.row.D.Denot). CameTidy g.D.Disk.honest g.D.Disk.content d) c.arm.ensures.given came) in (
        (c.arm.ensures.honest).1 held.0,
        holds_armed (g.D.Disk.content c.self.inside.store.disk) (g.D.Disk.content c.arm.new.self.disk) (g.D.Disk.left c.self.inside.store.disk) (g.D.Disk.left c.arm.new.self.disk) _ _ c.arm.ensures.content (λ d was. (c.arm.ensures.left d).0 was)
            (ap sizes_told c.arm.ensures.told) (ap (λ (t : Told). t.version) c.arm.ensures.told) refl refl (λ v le. refl) c.self.invariant.0.state held.1,
      ),
  c.self.invariant.3,
  c.self.invariant.4,
  c.self.invariant.5 ∙ ap (λ (t : Told). count_of (drop (t.version - c.self.inside.opened) c.self.inside.history.items)) (sym c.arm.ensures.told),
)

pub returns-clause-arms : goal.returns-clause-arms
returns-clause-arms g c =
    let e = c.arm.ensures in
    rw (← c.self.view_is)
    (record { armed = e.armed; content = e.content; synced = e.synced; unsynced = e.unsynced; left = e.left; moment = e.moment; left_since = e.left_since; failures = e.failures; honest = e.honest })
