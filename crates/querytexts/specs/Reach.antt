-- What is told of the nodes that a node reaches, or that reach it, and for what that is refused.
use Rattle.std.specs.Prelude.{◌≡◌, ◌≤◌, ℕ, zero, Bool, true, List, ◌++◌, map, Contains, Option, Some, if◌then◌else◌, ⊤}
use Rattle.std.specs.Io.KnownBytes.{Appends}
use Rattle.std.specs.List.{flat_map}
use Rattle.std.specs.List.Sorted.{IsStrictlyIncreasing}
use Rattle.std.specs.Option.{ForSome}
use Rattle.roadnet.specs.Net.{Net, IsNetwork, IsNode}
use Rattle.roadnet.specs.Numbers.{number_of}
use Rattle.roadnet.specs.Reversal.{reversed}
use Rattle.roadnet.specs.Step.{is_node}
use Rattle.roadnet.specs.Walks.{Least}
use Rattle.roadnet.specs.declared.refusals.Refusal.TheVariants.{Write, OutOfMemory, NoSuchNode}
use Rattle.snapshot.specs.Groups.{Groups, IsSnapshotOf}
use Rattle.dimacs.specs.Content.{gr_text}
use Rattle.dimacs.specs.Texts.{Source, FaultOf}
use Rattle.deltastep.specs.declared.rows.known.NodeDistance.{NodeDistance}
use Rattle.deltastep.specs.Reach.{told_node}
use Rattle.rows.specs.declared.queries.Query.{Query}
use Rattle.rows.specs.declared.queries.Query.TheVariants.{Dist}
use Rattle.rows.specs.declared.queries.Reply.TheVariants.{Length}
use Rattle.printing.specs.Printed.{version_line, answer_line, refusal_line}
use Rattle.printing.specs.declared.failed.Failed.{Failed}
use Rattle.printing.specs.declared.failed.Failed.TheVariants.{Text, Code}
use Rattle.querytexts.specs.Once.{AfterNetwork}
use Rattle.querytexts.specs.declared.reaches.Reach.{Reach}
use Rattle.querytexts.specs.declared.reaches.Reach.TheVariants.{From, To}

-- the node from which, or to which, the walks lead
abbrev pub center_of : Reach → ℕ
center_of (From source) = source
center_of (To target) = target

-- the query of the walks between it and another node
abbrev pub reach_query_of : Reach → ℕ → Query
reach_query_of (From source) node = Dist source node
reach_query_of (To target) node = Dist node target

-- this is the least length of those walks
abbrev pub IsLength : Net → Reach → ℕ → ℕ → Type 0
IsLength net (From source) = λ node d. Least net source node d
IsLength net (To target) = λ node d. Least net node target d

-- at most the limit, if one is given
abbrev pub IsWithinLimit : Option ℕ → ℕ → Type 0
IsWithinLimit limit d = ForSome limit (λ most. d ≤ most)

-- every node with such walks whose least length is within the limit, and no other, each with that length, ascending by node
pub record IsReachOfText (net : Net) (reach : Reach) (limit : Option ℕ) (told : List NodeDistance) : Type 0 where
  pub ascending : IsStrictlyIncreasing (map (λ r. r.node) told)
  pub right : (node d : ℕ) → Contains told (told_node node d) → IsNode net node × IsLength net reach node d × IsWithinLimit limit d
  pub each : (node d : ℕ) → IsNode net node → IsLength net reach node d → IsWithinLimit limit d → Contains told (told_node node d)

-- one line `d S T D` a node
abbrev pub reach_line : Reach → NodeDistance → List ℕ
reach_line reach r = answer_line (reach_query_of reach r.node) (Length r.distance)

abbrev pub lines_of_reach : Reach → List NodeDistance → List ℕ
lines_of_reach reach told = flat_map (reach_line reach) told

-- the lines of the nodes; `no 24` where the node is none
abbrev pub reach_answer : Net → Reach → List NodeDistance → List ℕ
reach_answer net reach told = if is_node net (center_of reach) then lines_of_reach reach told else refusal_line (number_of NoSuchNode)

-- the version, and the lines of all nodes within the limit and of no other, and nothing else
pub record AnswersReach (net : Net) (reach : Reach) (limit : Option ℕ) (old new : Option (List ℕ)) : Type 0 where
  pub told : List NodeDistance
  pub right : is_node net (center_of reach) ≡ true → IsReachOfText net reach limit told
  pub written : Appends old new (version_line 0 ++ reach_answer net reach told)

-- the groups of the network's open arcs, for walks from a node, or the other way round, for walks to one
abbrev pub AreGroupsFor : Net → Reach → Groups → Type 0
AreGroupsFor net (From source) groups = IsSnapshotOf net groups
AreGroupsFor net (To target) groups = IsSnapshotOf (reversed net) groups

-- The text has its fault told, or its reader failed in it. Where it has none the writer failed; or memory ran out, and the node is one of its network.
abbrev pub IsRefusedReach : List ℕ → Reach → Source → Failed → Type 0
IsRefusedReach text reach source (Text zero fault) = FaultOf gr_text text source fault
IsRefusedReach text reach source (Code Write) = AfterNetwork text (λ net. ⊤)
IsRefusedReach text reach source (Code OutOfMemory) = AfterNetwork text (λ net. is_node net (center_of reach) ≡ true)
IsRefusedReach text reach source failed = ⊥

-- what is written are the lines of the nodes within the limit, in the network of the text, and nothing else
abbrev pub IsAnsweredReach : List ℕ → Reach → Option ℕ → Option (List ℕ) → Option (List ℕ) → Type 0
IsAnsweredReach text reach limit old new = AfterNetwork text (λ net. AnswersReach net reach limit old new)
