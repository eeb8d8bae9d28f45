use Rattle.std.proofs.Common.{◌≡◌, ◌+◌, ℕ, List, Option, length, subst}
use Rattle.std.specs.Prelude.{IfOk}
use Rattle.std.proofs.lemmas.Result.{IfOk-weaker}
use Rattle.roadnet.specs.Net.{Net}
use Rattle.snapshot.specs.Groups.{IsSnapshotOf}
use Rattle.deltastep.specs.Reach.{IsKnownTo}
use Rattle.deltastep.specs.Search.{IsNarrowedOf}
use Rattle.deltastep.proofs.Narrowing.{IsNarrowed-self, IsNarrowedOf-of}
use Rattle.deltastep.proofs.questions.target.values_to_in.Goals as goal

pub returns-in_default-clause-known : goal.returns-in_default-clause-known
returns-in_default-clause-known g c net is =
    let s = c.args.snapshot.now in
    c.in_ok-over.ensures.known net (IsNarrowedOf-of net s s c.nodes.ensures.grouped (IsNarrowed-self s) is)

pub returns : goal.returns
returns g c = record {
  places = subst (λ (n : ℕ). IfOk c.known_over.result (λ (values : List (Option ℕ)). length values ≡ n + 1)) c.narrower-inner.ensures.nodes c.known_over.ensures.places;
  known = IfOk-weaker c.known_over.result (λ (values : List (Option ℕ)). (net : Net) → IsNarrowedOf net c.narrower-inner.result.now → IsKnownTo net c.args.source c.args.target values) (λ (values : List (Option ℕ)). (net : Net) → IsSnapshotOf net c.args.snapshot.now → IsKnownTo net c.args.source c.args.target values) (λ values has net is. has net (c.narrower-inner.ensures.narrowed net is)) c.known_over.ensures.known;
}
