use Rattle.roadnet.specs.Groups.{count_of}
use Rattle.std.proofs.Common.{rules, ◌≡◌, ℕ, ◌-◌, drop, ap, inl, ⊎_elim, true, false, refl, sym, ◌∙◌, subst}
use Rattle.disk.specs.Contents.{Only}
use Rattle.disk.proofs.Steps.{weaker}
use Rattle.store.specs.State.{StoreState, CameTidy, IsDurable}
use Rattle.keeper.proofs.Flushed.{if_err_with}
use Rattle.keeper.proofs.Held.{why, not_memory, same_flag, by_outcome}
use Rattle.keeper.proofs.ledger.ledgers.Ledger.checkpoint_step.Goals as goal

pub returns-clause-any_moment : goal.returns-clause-any_moment
returns-clause-any_moment g c =
    rw (← c.self.view_is) (λ came calm.
    weaker g.D.Disk.moment g.D.Disk.left_since c.self.inside.store.disk c.checkpoint_part-written.new.self.disk (IsDurable c.self.inside.store) _
    (c.checkpoint_part-written.ensures.any_moment came (sym c.self.invariant.1 ∙ calm))
    (λ d way. record { version = c.self.inside.store.version; left = inl refl; network = c.self.inside.store.network; network_is = c.self.invariant.0.durable_is; stands = way }))

pub invariant_of-self : goal.invariant_of-self
invariant_of-self g c = (
  search rules,
  search rules,
  λ now.
      let came = subst (λ (d : g.row.D.Denot). CameTidy g.D.Disk.honest g.D.Disk.content d) c.checkpoint_part-written.ensures.given now in
      let held = c.self.invariant.2 came in
      let honest = held.0 in
      let old = held.1 in
      let calm : c.self.inside.broken ≡ false = c.if-self.false in
      let works_then : c.self.inside.store.broken ≡ false = sym c.self.invariant.1 ∙ calm in (
        c.checkpoint_part-written.ensures.honest.1 honest,
        record {
          only = λ works.
              let flag = same_flag c.checkpoint_part-written.result c.has_failed-self-inside.result c.self.inside.store.broken c.checkpoint_part-written.new.self.broken c.has_failed-self-inside.ensures works_then c.checkpoint_part-written.ensures.works c.checkpoint_part-written.ensures.breaks (if_err_with _ _ c.checkpoint_part-written.result (λ refusal same not. let e = same not in cc) c.checkpoint_part-written.ensures.same) in
              by_outcome c.checkpoint_part-written.result _ _ _ _ _ (c.checkpoint_part-written.ensures.only honest) c.checkpoint_part-written.ensures.same c.checkpoint_part-written.ensures.breaks c.checkpoint_part-written.ensures.refused
              (λ refusal same breaks refused.
              ⊎_elim
              (λ memory. subst (λ (s : StoreState g.row.D.Denot). Only (g.D.Disk.content s.disk) (g.D.Disk.left s.disk)) (sym (same (not_memory refusal memory))) (old.only calm))
              (λ device. absurd (let never : true ≡ false = sym (breaks device) ∙ (sym flag ∙ works) in cc))
              (why c.self.inside.store.broken refusal works_then refused));
          each_left = λ d was. record {
            version = c.self.inside.store.version;
            left = inl (sym c.checkpoint_part-written.ensures.version);
            network = c.self.inside.store.network;
            network_is = c.self.invariant.0.durable_is;
            stands = rw (c.checkpoint_part-written.ensures.sizes.0, c.checkpoint_part-written.ensures.sizes.1) (c.checkpoint_part-written.ensures.left came works_then d was);
          };
        },
      ),
  c.self.invariant.3,
  c.self.invariant.4,
  c.self.invariant.5 ∙ ap (λ (v : ℕ). count_of (drop (v - c.self.inside.opened) c.self.inside.history.items)) (sym c.checkpoint_part-written.ensures.version),
)
