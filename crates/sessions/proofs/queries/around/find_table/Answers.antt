use Rattle.std.proofs.Common.{◌≡◌, ◌∙◌, ℕ, List, All, true, refl, subst, inl}
use Rattle.roadnet.specs.Net.{IsNode}
use Rattle.session_lines.specs.Listings.{sources_of, targets_of}
use Rattle.session_lines.specs.Tables.{pairs_of}
use Rattle.sessions.proofs.Supposed.{none_before, none_behind, untold_pairs}
use Rattle.sessions.proofs.queries.around.find_table.Goals as goal

pub returns-then-not-starts-clause-refused : goal.returns-then-not-starts-clause-refused
returns-then-not-starts-clause-refused g c =
    let net = c.args.supposed.now.network in
    let only : All (IsNode net) (sources_of c.args.table.now) → c.has_nodes-starts.result ≡ true = subst (λ (l : List ℕ). All (IsNode net) l → c.has_nodes-starts.result ≡ true) c.halves.ensures.sources c.has_nodes-starts.ensures.1 in
    inl (refl, none_before (IsNode net) (sources_of c.args.table.now) (targets_of c.args.table.now) c.has_nodes-starts.result only c.if-not-starts.true)

pub returns-then-not-ends-clause-refused : goal.returns-then-not-ends-clause-refused
returns-then-not-ends-clause-refused g c =
    let net = c.args.supposed.now.network in
    let only : All (IsNode net) (targets_of c.args.table.now) → c.has_nodes-ends.result ≡ true = subst (λ (l : List ℕ). All (IsNode net) l → c.has_nodes-ends.result ≡ true) c.halves.ensures.targets c.has_nodes-ends.ensures.1 in
    inl (refl, none_behind (IsNode net) (sources_of c.args.table.now) (targets_of c.args.table.now) c.has_nodes-ends.result only c.if-not-ends.true)

pub returns-in-Err-clause-refused : goal.returns-in-Err-clause-refused
returns-in-Err-clause-refused g c =
    let net = c.args.supposed.now.network in
    let sources : All (IsNode net) (sources_of c.args.table.now) = subst (λ (l : List ℕ). All (IsNode net) l) c.halves.ensures.sources (c.has_nodes-starts.ensures.0 c.if-not-starts.false) in
    let targets : All (IsNode net) (targets_of c.args.table.now) = subst (λ (l : List ℕ). All (IsNode net) l) c.halves.ensures.targets (c.has_nodes-ends.ensures.0 c.if-not-ends.false) in
    let pairs : c.deref.result.now ≡ pairs_of (sources_of c.args.table.now) (targets_of c.args.table.now) = c.deref.ensures.value ∙ c.in-Ok.ensures in
    untold_pairs net (sources_of c.args.table.now) (targets_of c.args.table.now) c.deref.result.now c.in-Err.refusal sources targets pairs c.in-Err.ensures.causes
