-- Which reply to a query is right in a network.
use Rattle.std.specs.Prelude.{◌≡◌, ℕ, Bool, List, [], ◌∷◌, Option, None, Some, not, ◌&&◌}
use Rattle.roadnet.specs.declared.refusals.Refusal.{Refusal}
use Rattle.roadnet.specs.declared.refusals.Refusal.TheVariants.{NoSuchNode, NotALandmark}
use Rattle.roadnet.specs.Causes.{first_applying}
use Rattle.roadnet.specs.Net.{Net}
use Rattle.roadnet.specs.Step.{is_node, is_landmark}
use Rattle.roadnet.specs.Walks.{Least, NoWalk}
use Rattle.rows.specs.declared.queries.Query.{Query}
use Rattle.rows.specs.declared.queries.Query.TheVariants.{Dist, From, Lower}
use Rattle.rows.specs.declared.queries.Reply.{Reply}
use Rattle.rows.specs.declared.queries.Reply.TheVariants.{Length, NoWalk as no_walk, AtLeast, Refused}
use Rattle.rows.specs.Bounds.{IsShown, IsBound}

abbrev pub source_of : Query → ℕ
source_of (Dist s t) = s
source_of (From l t) = l
source_of (Lower s t) = s

abbrev pub target_of : Query → ℕ
target_of (Dist s t) = t
target_of (From l t) = t
target_of (Lower s t) = t

abbrev pub are_nodes : Net → ℕ → ℕ → Bool
are_nodes net s t = is_node net s && is_node net t

-- for what a query is refused: each refusal with its condition, by ascending number
abbrev pub query_causes : Net → Query → List (Refusal × Bool)
query_causes net (Dist s t) = (NoSuchNode, not (are_nodes net s t)) ∷ []
query_causes net (From l t) = (NoSuchNode, not (are_nodes net l t)) ∷ (NotALandmark, not (is_landmark net l)) ∷ []
query_causes net (Lower s t) = (NoSuchNode, not (are_nodes net s t)) ∷ []

abbrev pub query_refusal_of : Net → Query → Option Refusal
query_refusal_of net query = first_applying (query_causes net query)

-- the least length of a walk, or that there is no walk
abbrev pub IsDistance : Net → ℕ → ℕ → Reply → Type 0
IsDistance net s t (Length d) = Least net s t d
IsDistance net s t no_walk = NoWalk net s t
IsDistance net s t reply = ⊥

-- what the landmarks tell: that there is no walk, or else how long each is at least
abbrev pub IsToldByLandmarks : Net → ℕ → ℕ → Reply → Type 0
IsToldByLandmarks net s t (AtLeast d) = IsBound net s t d
IsToldByLandmarks net s t no_walk = IsShown net s t
IsToldByLandmarks net s t reply = ⊥

-- the answer to a query that is not refused
abbrev pub IsAnswer : Net → Query → Reply → Type 0
IsAnswer net (Dist s t) reply = IsDistance net s t reply
IsAnswer net (From l t) reply = IsDistance net l t reply
IsAnswer net (Lower s t) reply = IsToldByLandmarks net s t reply

-- A refusal is the lowest that applies. A query that is not refused gets its answer.
abbrev pub IsRight : Net → Query → Reply → Type 0
IsRight net query (Refused refusal) = query_refusal_of net query ≡ Some refusal
IsRight net query reply = (query_refusal_of net query ≡ None) × IsAnswer net query reply
