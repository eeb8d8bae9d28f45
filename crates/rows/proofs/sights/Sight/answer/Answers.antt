use Rattle.std.proofs.Common.{◌∙◌, ap, sym, subst}
use Rattle.rows.specs.Views.{Viewed}
use Rattle.kept_rows.specs.Cached.{capacity_of, HasRowsOf}
use Rattle.rows.proofs.sights.Sight.answer.Goals as goal

pub pinned-pinned-requires : goal.pinned-pinned-requires
pinned-pinned-requires g c = subst (λ (v : Viewed). HasRowsOf v.version v.network c.self.inside.cache) (sym c.deref.ensures) c.self.invariant.0

pub invariant_of-self : goal.invariant_of-self
invariant_of-self g c = (
  subst (λ (v : Viewed). HasRowsOf v.version v.network c.answer.new.self.cache.now) (c.answer.ensures.same.view ∙ c.pinned-pinned.ensures.view ∙ c.deref.ensures) c.answer.ensures.kept,
  c.answer.ensures.capacity ∙ (ap capacity_of c.pinned-pinned.ensures.cache ∙ c.self.invariant.1),
)
