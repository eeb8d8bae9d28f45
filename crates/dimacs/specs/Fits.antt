-- What may stand behind the problem line of a `.gr` text.
use Rattle.std.specs.Prelude.{◌≡◌, ◌≤◌, true, false, List, length}
use Rattle.roadnet.specs.declared.arcs.RoadArc.{RoadArc}
use Rattle.roadnet.specs.Net.{most_arcs}
use Rattle.roadnet.specs.Made.{is_node_count, has_long_arc, has_stray_end}
use Rattle.dimacs.specs.declared.graphs.problem.Problem.{Problem}

-- a network may have the announced nodes and these arcs, and they are at most as many as announced
pub record Fits (p : Problem) (arcs : List RoadArc) : Type 0 where
  pub nodes : is_node_count p.nodes ≡ true
  pub items : p.items ≤ most_arcs
  pub count : length arcs ≤ p.items
  pub no_long : has_long_arc arcs ≡ false
  pub no_stray : has_stray_end p.nodes arcs ≡ false
