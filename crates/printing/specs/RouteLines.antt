-- The lines of a route.
use Rattle.std.specs.Prelude.{ℕ, List, ◌++◌, length, decimal}
use Rattle.std.specs.List.{flat_map}
use lib.Chars.{codes}
use Rattle.roadnet.specs.Net.{Net}
use Rattle.roadnet.specs.Numbers.{number_of}
use Rattle.rows.specs.declared.queries.Query.TheVariants.{Dist}
use Rattle.rows.specs.declared.queries.Reply.TheVariants.{NoWalk as no_walk}
use Rattle.routes.specs.declared.replies.Route.{Route}
use Rattle.routes.specs.declared.replies.RouteReply.{RouteReply}
use Rattle.routes.specs.declared.replies.RouteReply.TheVariants.{Arcs, NoWalk, Refused}
use Rattle.printing.specs.Looks.{arc_answer}
use Rattle.printing.specs.Printed.{answer_line, refusal_line}
use Rattle.printing.specs.Replied.{number_line}

-- `route S T L C`
abbrev pub route_line : ℕ → ℕ → Route → List ℕ
route_line source target route =
    codes "route " ++ decimal source ++ codes " " ++ decimal target ++ codes " " ++ decimal route.length ++ number_line (codes " ") (length route.arcs.items)

-- that line and the lines of C arcs, in the order of the walk; or `x S T`, or `no CODE`
abbrev pub route_lines : Net → ℕ → ℕ → RouteReply → List ℕ
route_lines net source target (Arcs route) = route_line source target route ++ flat_map (arc_answer net) route.arcs.items
route_lines net source target NoWalk = answer_line (Dist source target) no_walk
route_lines net source target (Refused refusal) = refusal_line (number_of refusal)
