use Rattle.std.proofs.Common.{◌≡◌, length}
use Rattle.std.specs.Prelude.{All}
use Rattle.roadnet.specs.Net.{Net}
use Rattle.roadnet.specs.Walks.{RowOf}
use Rattle.kept_rows.specs.Cached.{HasRowsOf, KeepsOthers, capacity_of}
use Rattle.kept_rows.proofs.caches.RowCache.keep_all.Given as goal

abbrev pub decreases-loop-source : goal.decreases-loop-source
decreases-loop-source l = length l.rows.items

abbrev pub invariant-loop-source : goal.invariant-loop-source
invariant-loop-source l = record {
  left : (net : Net) → All (λ made. RowOf net made.0 made.1) l.initial.rows.items → All (λ made. RowOf net made.0 made.1) l.rows.items;
  kept : (net : Net) → All (λ made. RowOf net made.0 made.1) l.initial.rows.items → HasRowsOf l.version net l.initial.self → HasRowsOf l.version net l.self;
  others : KeepsOthers l.version l.initial.self l.self;
  capacity : capacity_of l.self ≡ capacity_of l.initial.self;
}
