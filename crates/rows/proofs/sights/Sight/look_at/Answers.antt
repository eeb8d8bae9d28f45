use Rattle.std.proofs.Common.{rules, ◌≡◌, ◌∙◌, ℕ, [], sym, ap, subst}
use Rattle.roadnet.specs.Net.{Net}
use Rattle.rows.specs.Views.{Viewed}
use Rattle.kept_rows.specs.declared.caches.RowCache.{RowCache}
use Rattle.kept_rows.specs.Cached.{capacity_of, HasRowsOf, rows_of}
use Rattle.kept_rows.proofs.CacheRows.{none_kept}
use Rattle.rows.proofs.sights.Sight.look_at.Goals as goal
use Rattle.rows.proofs.sights.Sight.look_at.Goals.{then-version, else-version}

pub invariant_of-self : goal.invariant_of-self
invariant_of-self c =
    let view = c.args.view.value in
    let old = c.self.inside.view.value in
    let cache = c.self.inside.cache in
    elim c.if-version.branch [
      | then-version w ↦ (
          let empty : rows_of c.if-version.self-inside.cache ≡ [] = search rules in
          let sized : capacity_of c.if-version.self-inside.cache ≡ capacity_of cache = search rules in
          (none_kept view.version view.network c.if-version.self-inside.cache empty, sized ∙ c.self.invariant.1)
          )
      | else-version w ↦ (
          let kept : c.if-version.self-inside.cache ≡ cache = search rules in
          let same : view.version ≡ old.version = search rules in
          let network : view.network ≡ old.network = c.requires (same ∙ ap (λ (v : Viewed). v.version) c.self.view_is) ∙ sym (ap (λ (v : Viewed). v.network) c.self.view_is) in (
            subst (λ (rows : RowCache). HasRowsOf view.version view.network rows) (sym kept)
                (subst (λ (net : Net). HasRowsOf view.version net cache) (sym network)
                (subst (λ (version : ℕ). HasRowsOf version old.network cache) (sym same) c.self.invariant.0)),
            ap capacity_of kept ∙ c.self.invariant.1,
          )
          )
    ]
