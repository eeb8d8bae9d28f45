use Rattle.std.proofs.Common.{◌≡◌, ◌+◌, ℕ, List, Option, length, subst}
use Rattle.std.specs.Prelude.{IfOk}
use Rattle.std.proofs.lemmas.Result.{IfOk-weaker}
use Rattle.roadnet.specs.Net.{Net}
use Rattle.snapshot.specs.Groups.{IsSnapshotOf}
use Rattle.deltastep.specs.Reach.{Knows}
use Rattle.deltastep.specs.Search.{IsNarrowedOf}
use Rattle.deltastep.proofs.Narrowing.{IsNarrowed-self, IsNarrowedOf-of}
use Rattle.deltastep.proofs.questions.asked.values_for.Goals as goal

pub returns-in_default-clause-knows : goal.returns-in_default-clause-knows
returns-in_default-clause-knows g c net is =
    let s = c.args.snapshot.now in
    c.in_ok-end.ensures.knows net (IsNarrowedOf-of net s s c.nodes.ensures.grouped (IsNarrowed-self s) is)

pub returns : goal.returns
returns g c = record {
  places = subst (λ (n : ℕ). IfOk c.values_over.result (λ (over : Option ℕ × List (Option ℕ)). length over.1 ≡ n + 1)) c.narrower-inner.ensures.nodes c.values_over.ensures.places;
  knows = IfOk-weaker c.values_over.result (λ (over : Option ℕ × List (Option ℕ)). (net : Net) → IsNarrowedOf net c.narrower-inner.result.now → Knows net c.args.source over.0 over.1) (λ (over : Option ℕ × List (Option ℕ)). (net : Net) → IsSnapshotOf net c.args.snapshot.now → Knows net c.args.source over.0 over.1) (λ over has net is. has net (c.narrower-inner.ensures.narrowed net is)) c.values_over.ensures.knows;
  enough = c.values_over.ensures.enough;
}
