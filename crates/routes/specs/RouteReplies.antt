-- Which reply to a question for a route is right in a network.
use Rattle.std.specs.Prelude.{◌≡◌, ℕ, None, Some}
use Rattle.roadnet.specs.Net.{Net}
use Rattle.roadnet.specs.Walks.{NoWalk}
use Rattle.rows.specs.Replies.{query_refusal_of}
use Rattle.rows.specs.declared.queries.Query.TheVariants.{Dist}
use Rattle.routes.specs.declared.replies.RouteReply.{RouteReply}
use Rattle.routes.specs.declared.replies.RouteReply.TheVariants.{Arcs, NoWalk as no_walk, Refused}
use Rattle.routes.specs.Routes.{IsRouteTold}

-- It is refused as the distance is. Otherwise it tells a route, or that no walk leads there.
abbrev pub IsRightRoute : Net → ℕ → ℕ → RouteReply → Type 0
IsRightRoute net s t (Refused refusal) = query_refusal_of net (Dist s t) ≡ Some refusal
IsRightRoute net s t (Arcs route) = (query_refusal_of net (Dist s t) ≡ None) × IsRouteTold net s t route
IsRightRoute net s t no_walk = (query_refusal_of net (Dist s t) ≡ None) × NoWalk net s t
