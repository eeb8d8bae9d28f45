-- What a session supposes, and what it is told of that.
--     SupposesAfter origin groups group supposed     it is the desk's network after these groups, with the group carried out
--     IsUnsupposed origin groups group refusal       why nothing is supposed
--     IsReplyIn supposed query told                  the lines of a right reply in what is supposed
--     IsNearIn supposed near told                    the lines of what is near a node there
--     IsTableIn supposed sources targets told        the lines of a table there
use Rattle.std.specs.Prelude.{◌≡◌, ◌⊎◌, ℕ, ◌+◌, true, List, ◌++◌, All, length, Some, Result, Ok, Err}
use lib.Chars.{codes}
use Rattle.history.specs.Origins.{Origin}
use Rattle.roadnet.specs.declared.groups.Group.{Group}
use Rattle.roadnet.specs.declared.refusals.OutOfMemory.{OutOfMemory as NoMemory}
use Rattle.roadnet.specs.declared.refusals.Refusal.{Refusal}
use Rattle.roadnet.specs.declared.refusals.Refusal.TheVariants.{OutOfMemory}
use Rattle.roadnet.specs.Batches.{MayRefuseBatch}
use Rattle.roadnet.specs.Net.{Net, IsNode}
use Rattle.roadnet.specs.Numbers.{number_of}
use Rattle.roadnet.specs.Step.{after, is_node}
use Rattle.rows.specs.declared.queries.Query.{Query}
use Rattle.rows.specs.declared.queries.Query.TheVariants.{Lower}
use Rattle.rows.specs.declared.queries.Reply.{Reply}
use Rattle.rows.specs.Replies.{IsRight}
use Rattle.rows.specs.Views.{AreRight}
use Rattle.deltastep.specs.declared.rows.known.NodeDistance.{NodeDistance}
use Rattle.rows.specs.declared.nearby.Near.{Near}
use Rattle.rows.specs.Nearby.{node_of, IsNear, IsUntold}
use Rattle.printing.specs.Nodes.{pair_lines}
use Rattle.printing.specs.Printed.{answer_line, refusal_line}
use Rattle.printing.specs.Replied.{number_line}
use Rattle.suppositions.specs.Supposing.{Supposition, Supposes, IsSuppositionUnanswered}
use Rattle.sessions.specs.declared.queries.finding.Heading.TheVariants.{Supposed}
use Rattle.sessions.specs.Headings.{supposed_line, untold_lines}
use Rattle.sessions.specs.Nearby.{near_lines}
use Rattle.sessions.specs.Told.{IsUnsighted}
use Rattle.session_lines.specs.Tables.{pairs_of}

-- the desk's network after these groups, with the group carried out, under the version after these groups
pub record SupposesAfter (origin : Origin) (groups : List Group) (group : Group) (supposed : Supposition) : Type 0 where
  pub network : Net
  pub network_is : after origin.base groups ≡ Some network
  pub supposes : Supposes (origin.version + length groups) network group supposed

-- the desk's network after these groups refuses the group with this; or no memory was given for what is supposed
pub record RefusesAfter (origin : Origin) (groups : List Group) (group : Group) (refusal : Refusal) : Type 0 where
  pub network : Net
  pub network_is : after origin.base groups ≡ Some network
  pub refuses : MayRefuseBatch network group refusal

-- why nothing is supposed: that, or that there is no view to look at (60, 11, 61)
abbrev pub IsUnsupposed : Origin → List Group → Group → Refusal → Type 0
IsUnsupposed origin groups group refusal = RefusesAfter origin groups group refusal ⊎ IsUnsighted groups refusal

-- `suppose V`
abbrev pub suppose_line : ℕ → List ℕ
suppose_line version = number_line (codes "suppose ") version

-- `forgotten`
abbrev pub forgotten_line : List ℕ
forgotten_line = codes "forgotten\n"

-- `s V` and the line of an answer
abbrev pub supposed_lines : ℕ → Query → Reply → List ℕ
supposed_lines version query reply = supposed_line version ++ answer_line query reply

-- these, or `no 11`
abbrev pub supposed_or_refusal : ℕ → Query → Result Reply NoMemory → List ℕ
supposed_or_refusal version query (Ok reply) = supposed_lines version query reply
supposed_or_refusal version query (Err error) = refusal_line (number_of OutOfMemory)

-- the lines of a right reply in what is supposed, under the version that it was made of; or that no memory was given for a search (11)
abbrev pub IsReplyIn : Supposition → Query → List ℕ → Type 0
IsReplyIn supposed query told =
    ((reply : Reply) × IsRight supposed.network query reply × (told ≡ supposed_lines supposed.version query reply)) ⊎ (told ≡ refusal_line (number_of OutOfMemory))

-- what a query is told while something is supposed: for `lower`, of which landmarks' rows tell, that it is no line (1)
abbrev pub IsSupposedAnswer : Supposition → Query → List ℕ → Type 0
IsSupposedAnswer supposed (Lower s t) told = told ≡ refusal_line 1
IsSupposedAnswer supposed query told = IsReplyIn supposed query told

-- what is near a node in what is supposed, all of it, under the version that it was made of; or for what it is not told
abbrev pub IsNearIn : Supposition → Near → List ℕ → Type 0
IsNearIn supposed near told =
    ((found : List NodeDistance) × (is_node supposed.network (node_of near) ≡ true) × IsNear supposed.network near found × (told ≡ supposed_line supposed.version ++ near_lines near found))
    ⊎ ((refusal : Refusal) × IsUntold (is_node supposed.network (node_of near)) refusal × (told ≡ untold_lines (Supposed supposed.version) refusal))

-- a right reply to each source with each target in what is supposed, source by source, under the version that it was made of; or for what they are not told
abbrev pub IsTableIn : Supposition → List ℕ → List ℕ → List ℕ → Type 0
IsTableIn supposed sources targets told =
    ((replies : List Reply) × All (IsNode supposed.network) (sources ++ targets) × AreRight supposed.network (pairs_of sources targets) replies
    × (told ≡ supposed_line supposed.version ++ pair_lines (pairs_of sources targets) replies))
    ⊎ ((refusal : Refusal) × IsSuppositionUnanswered (All (IsNode supposed.network) (sources ++ targets)) refusal × (told ≡ untold_lines (Supposed supposed.version) refusal))
