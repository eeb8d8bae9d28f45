use Rattle.std.proofs.Common.{sym, subst}
use Rattle.rows.specs.Views.{Viewed}
use Rattle.kept_rows.specs.declared.caches.RowCache.{RowCache}
use Rattle.kept_rows.specs.Cached.{HasRowsOf}
use Rattle.rows.proofs.views.View.pinned.Goals as goal

pub returns-clause-own : goal.returns-clause-own
returns-clause-own c =
    subst (λ (cache : RowCache). HasRowsOf c.new.result.view.now.version c.new.result.view.now.network cache) (sym c.new.ensures.cache)
    (subst (λ (v : Viewed). HasRowsOf v.version v.network c.args.cache.now) (sym c.new.ensures.view) c.requires)
