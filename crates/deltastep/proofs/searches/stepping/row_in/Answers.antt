use Rattle.std.proofs.Common.{ℕ, List, Option}
use Rattle.std.proofs.lemmas.Result.{IfOk-weaker}
use Rattle.roadnet.specs.Net.{Net}
use Rattle.roadnet.specs.Walks.{RowOf}
use Rattle.snapshot.specs.Groups.{IsSnapshotOf}
use Rattle.deltastep.specs.Search.{IsNarrowedOf}
use Rattle.deltastep.proofs.searches.stepping.row_in.Goals as goal

pub returns : goal.returns
returns g c = record {
  row = IfOk-weaker c.row_over.result (λ (row : List (Option ℕ)). (net : Net) → IsNarrowedOf net c.narrower-inner.result.now → RowOf net c.args.source row) (λ (row : List (Option ℕ)). (net : Net) → IsSnapshotOf net c.args.snapshot.now → RowOf net c.args.source row) (λ row has net is. has net (c.narrower-inner.ensures.narrowed net is)) c.row_over.ensures.row;
}
