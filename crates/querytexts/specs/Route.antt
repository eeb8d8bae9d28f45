-- What one route of a text's network, and the routes of pairs, are answered with.
use Rattle.std.specs.Prelude.{ℕ, Bool, true, false, List, [], ◌∷◌, Option, ◌++◌}
use Rattle.std.specs.List.{AllZip}
use Rattle.std.specs.Io.KnownBytes.{Appends}
use Rattle.roadnet.specs.Net.{Net}
use Rattle.routes.specs.declared.replies.RouteReply.{RouteReply}
use Rattle.routes.specs.RouteReplies.{IsRightRoute}
use Rattle.dimacs.specs.declared.lists.pairs.Pair.{Pair}
use Rattle.printing.specs.Printed.{version_line}
use Rattle.printing.specs.RouteLines.{route_lines}
use Rattle.querytexts.specs.Batch.{AnswersAll}
use Rattle.querytexts.specs.Once.{AfterNetwork}

-- the version, and the lines of a right reply to a question for a route, and nothing else
pub record AnswersRoute (net : Net) (source target : ℕ) (old new : Option (List ℕ)) : Type 0 where
  pub reply : RouteReply
  pub right : IsRightRoute net source target reply
  pub written : Appends old new (version_line 0 ++ route_lines net source target reply)

-- what is written are these, in the network of the text, and nothing else
abbrev pub IsAnsweredRoute : List ℕ → ℕ → ℕ → Option (List ℕ) → Option (List ℕ) → Type 0
IsAnsweredRoute text source target old new = AfterNetwork text (λ net. AnswersRoute net source target old new)

-- to each pair of a source and a target a right reply, in their order
abbrev pub AreRightRoutes : Net → List Pair → List RouteReply → Type 0
AreRightRoutes net pairs replies = AllZip (λ pair reply. IsRightRoute net pair.source pair.target reply) pairs replies

-- their lines
abbrev pub routes_lines : Net → List Pair → List RouteReply → List ℕ
routes_lines net [] replies = []
routes_lines net (pair ∷ pairs) [] = []
routes_lines net (pair ∷ pairs) (reply ∷ replies) = route_lines net pair.source pair.target reply ++ routes_lines net pairs replies

-- the line of the version, and the lines of right replies to questions for routes of the pairs, and nothing else
pub record AnswersRoutes (net : Net) (version : ℕ) (pairs : List Pair) (old new : Option (List ℕ)) : Type 0 where
  pub replies : List RouteReply
  pub right : AreRightRoutes net pairs replies
  pub written : Appends old new (version_line version ++ routes_lines net pairs replies)

-- the same, or if no routes are asked for, the lines of the lengths
abbrev pub AnswersAs : Bool → Net → ℕ → List Pair → Option (List ℕ) → Option (List ℕ) → Type 0
AnswersAs true = AnswersRoutes
AnswersAs false = AnswersAll
