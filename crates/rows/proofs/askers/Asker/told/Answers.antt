use Rattle.std.proofs.Common.{◌∙◌, ℕ, sym, subst}
use Rattle.std.proofs.lemmas.Result.{IfOk-weaker}
use Rattle.roadnet.specs.Net.{IsNode}
use Rattle.kept_rows.specs.Cached.{HasRowsOf}
use Rattle.rows.specs.Replies.{IsDistance}
use Rattle.kept_rows.proofs.CacheRows.{same_rows}
use Rattle.rows.proofs.askers.Asker.told.Goals as goal

pub returns-then-is_wanted-clause-distance : goal.returns-then-is_wanted-clause-distance
returns-then-is_wanted-clause-distance g c =
    let net = c.args.self.now.network in
    let has = same_rows c.args.self.now.version c.args.cache.now c.is_wanted.new.self net c.is_wanted.ensures.rows c.requires.rows in
    let has' = subst (λ (v : ℕ). HasRowsOf v net c.is_wanted.new.self) (sym c.version-version.ensures) has in
    let node = subst (IsNode net) (sym c.from.ensures) c.requires.target in
    IfOk-weaker c.distance.result _ _ (λ reply each. subst (λ (t : ℕ). IsDistance net c.args.source t reply) c.from.ensures (each net c.groups.ensures has' node)) c.distance.ensures.distance

pub returns-then-is_wanted-clause-kept : goal.returns-then-is_wanted-clause-kept
returns-then-is_wanted-clause-kept g c =
    let net = c.args.self.now.network in
    let has = same_rows c.args.self.now.version c.args.cache.now c.is_wanted.new.self net c.is_wanted.ensures.rows c.requires.rows in
    let has' = subst (λ (v : ℕ). HasRowsOf v net c.is_wanted.new.self) (sym c.version-version.ensures) has in
    subst (λ (v : ℕ). HasRowsOf v net c.distance.new.cache) c.version-version.ensures (c.distance.ensures.kept net c.groups.ensures has')

pub returns-clause-kept : goal.returns-clause-kept
returns-clause-kept g c =
    same_rows c.args.self.now.version c.args.cache.now c.stopped.new.cache c.args.self.now.network (c.stopped.ensures.rows ∙ c.is_wanted.ensures.rows) c.requires.rows
