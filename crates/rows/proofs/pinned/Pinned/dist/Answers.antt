use Rattle.std.proofs.Common.{ℕ, sym, subst}
use Rattle.roadnet.specs.Net.{Net}
use Rattle.kept_rows.specs.Cached.{HasRowsOf}
use Rattle.rows.proofs.pinned.Pinned.dist.Goals as goal

pub reply_by-requires-clause-rows : goal.reply_by-requires-clause-rows
reply_by-requires-clause-rows g c =
    let view = c.args.self.now.view.now in
    subst (λ (net : Net). HasRowsOf c.version-version.result net c.args.self.now.cache.now) (sym c.network-network.ensures)
    (subst (λ (version : ℕ). HasRowsOf version view.network c.args.self.now.cache.now) (sym c.version-version.ensures) c.requires)

pub returns-clause-kept : goal.returns-clause-kept
returns-clause-kept g c =
    let view = c.args.self.now.view.now in
    subst (λ (version : ℕ). HasRowsOf version view.network c.reply_by.new.cache) c.version-version.ensures
    (subst (λ (net : Net). HasRowsOf c.version-version.result net c.reply_by.new.cache) c.network-network.ensures c.reply_by.ensures.kept)
