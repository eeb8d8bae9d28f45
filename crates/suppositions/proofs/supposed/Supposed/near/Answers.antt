use Rattle.std.proofs.Common.{◌∙◌, sym, subst}
use Rattle.kept_rows.specs.Cached.{HasRowsOf}
use Rattle.rows.specs.Views.{Viewed}
use Rattle.suppositions.proofs.supposed.Supposed.near.Goals as goal

pub ask_near-requires : goal.ask_near-requires
ask_near-requires g c = subst (λ (v : Viewed). HasRowsOf v.version v.network c.self.inside.rows) (sym (c.with_turned.ensures ∙ c.of-asker.ensures)) c.self.invariant.2

pub invariant_of-self : goal.invariant_of-self
invariant_of-self g c = (
  c.self.invariant.0,
  c.self.invariant.1,
  subst (λ (v : Viewed). HasRowsOf v.version v.network c.ask_near.new.cache) (c.with_turned.ensures ∙ c.of-asker.ensures) c.ask_near.ensures.kept,
  c.self.invariant.3,
)

pub ask_near-requires-in-None : goal.ask_near-requires-in-None
ask_near-requires-in-None g c = subst (λ (v : Viewed). HasRowsOf v.version v.network c.self.inside.rows) (sym c.of-asker.ensures) c.self.invariant.2

pub invariant_of-self-in-None : goal.invariant_of-self-in-None
invariant_of-self-in-None g c = (
  c.self.invariant.0,
  c.self.invariant.1,
  subst (λ (v : Viewed). HasRowsOf v.version v.network c.ask_near-in-None.new.cache) c.of-asker.ensures c.ask_near-in-None.ensures.kept,
  c.self.invariant.3,
)
