use Rattle.std.proofs.Common.{ℕ, sym, subst}
use Rattle.std.specs.Prelude.{IfOk}
use Rattle.roadnet.specs.Net.{Net}
use Rattle.kept_rows.specs.Cached.{HasRowsOf}
use Rattle.rows.specs.Views.{AreRight}
use Rattle.rows.proofs.pinned.Pinned.batch.Goals as goal

pub replies_to-requires-clause-rows : goal.replies_to-requires-clause-rows
replies_to-requires-clause-rows g c =
    let view = c.args.self.now.view.now in
    subst (λ (net : Net). HasRowsOf c.version-version.result net c.args.self.now.cache.now) (sym c.network-network.ensures)
    (subst (λ (version : ℕ). HasRowsOf version view.network c.args.self.now.cache.now) (sym c.version-version.ensures) c.requires)

pub returns-clause-right : goal.returns-clause-right
returns-clause-right g c = subst (λ (net : Net). IfOk c.replies_to.result (λ replies. AreRight net c.args.pairs.now replies.items)) c.network-network.ensures c.replies_to.ensures.right

pub returns-clause-kept : goal.returns-clause-kept
returns-clause-kept g c =
    let view = c.args.self.now.view.now in
    subst (λ (version : ℕ). HasRowsOf version view.network c.replies_to.new.cache) c.version-version.ensures
    (subst (λ (net : Net). HasRowsOf c.version-version.result net c.replies_to.new.cache) c.network-network.ensures c.replies_to.ensures.kept)
