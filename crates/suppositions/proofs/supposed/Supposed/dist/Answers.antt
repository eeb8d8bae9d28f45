use Rattle.std.proofs.Common.{sym, subst}
use Rattle.kept_rows.specs.Cached.{HasRowsOf}
use Rattle.rows.specs.Views.{Viewed}
use Rattle.suppositions.proofs.supposed.Supposed.dist.Goals as goal

pub ask-requires : goal.ask-requires
ask-requires g c = subst (λ (v : Viewed). HasRowsOf v.version v.network c.self.inside.rows) (sym c.of-asker.ensures) c.self.invariant.2

pub invariant_of-self : goal.invariant_of-self
invariant_of-self g c = (
  c.self.invariant.0,
  c.self.invariant.1,
  subst (λ (v : Viewed). HasRowsOf v.version v.network c.ask.new.cache) c.of-asker.ensures c.ask.ensures.kept,
  c.self.invariant.3,
)
