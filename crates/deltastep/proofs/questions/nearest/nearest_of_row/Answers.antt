use Rattle.std.proofs.Common.{◌∷◌, ℕ, None, arith}
use Rattle.std.specs.Global.{Vec}
use Rattle.std.proofs.lemmas.Result.{IfOk-weaker}
use Rattle.roadnet.specs.Net.{Net}
use Rattle.roadnet.specs.Walks.{RowOf}
use Rattle.deltastep.specs.Reach.{AreFinal, AreNearest}
use Rattle.deltastep.specs.declared.rows.known.NodeDistance.{NodeDistance}
use Rattle.deltastep.proofs.Ending.{AreFinal-row}
use Rattle.deltastep.proofs.questions.nearest.nearest_of_row.Goals as goal

pub nearest_by-requires : goal.nearest_by-requires
nearest_by-requires c = record {
  nodes = λ k d lt. let w = c.requires.among.nodes k d lt in (w.0, omega (arith, w.1));
  ascending = c.requires.among.ascending;
  enough = tt;
}

pub returns : goal.returns
returns c = record {
  nearest = IfOk-weaker c.nearest_by.result (λ (told : Vec NodeDistance). (net : Net) (source : ℕ) → AreFinal net source None (None ∷ c.args.row.now) → AreNearest net source c.args.among.now c.args.count told.items) (λ (told : Vec NodeDistance). (net : Net) (source : ℕ) → RowOf net source c.args.row.now → AreNearest net source c.args.among.now c.args.count told.items) (λ told has net source row. has net source (AreFinal-row net source c.args.row.now row)) c.nearest_by.ensures;
}
