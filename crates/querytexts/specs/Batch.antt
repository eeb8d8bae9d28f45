-- What the pairs of a text are answered with, and for what they are refused.
use Rattle.std.specs.Prelude.{◌≡◌, ◌≤◌, ℕ, zero, suc, List, [], ◌∷◌, ◌++◌, Option, Result, Ok}
use Rattle.std.specs.List.{AllZip}
use Rattle.std.specs.Io.KnownBytes.{Appends}
use Rattle.roadnet.specs.Net.{Net}
use Rattle.roadnet.specs.declared.refusals.Refusal.TheVariants.{Write, OutOfMemory}
use Rattle.dimacs.specs.declared.fault.Fault.{Fault}
use Rattle.dimacs.specs.declared.lists.pairs.Pair.{Pair}
use Rattle.dimacs.specs.Lines.{rows}
use Rattle.dimacs.specs.Content.{gr_text, content}
use Rattle.dimacs.specs.Texts.{Source, FaultOf, content_by}
use Rattle.dimacs.specs.Pairs.{p2p_text}
use Rattle.rows.specs.declared.queries.Query.{Query}
use Rattle.rows.specs.declared.queries.Query.TheVariants.{Dist}
use Rattle.rows.specs.declared.queries.Reply.{Reply}
use Rattle.rows.specs.Replies.{IsRight}
use Rattle.printing.specs.Printed.{version_line, answer_line}
use Rattle.printing.specs.declared.failed.Failed.{Failed}
use Rattle.printing.specs.declared.failed.Failed.TheVariants.{Text, Code}
use Rattle.querytexts.specs.Once.{IsUnanswered, AfterNetwork}

abbrev pub pair_query_of : Pair → Query
pair_query_of pair = Dist pair.source pair.target

-- a right reply to each pair, in their order
abbrev pub ArePairsRight : Net → List Pair → List Reply → Type 0
ArePairsRight net pairs replies = AllZip (λ pair reply. IsRight net (pair_query_of pair) reply) pairs replies

-- one answer line a pair
abbrev pub answer_lines : List Pair → List Reply → List ℕ
answer_lines [] replies = []
answer_lines (pair ∷ pairs) [] = []
answer_lines (pair ∷ pairs) (reply ∷ replies) = answer_line (pair_query_of pair) reply ++ answer_lines pairs replies

-- the line of the version, and the lines of right answers to the pairs, and nothing else
pub record AnswersAll (net : Net) (version : ℕ) (pairs : List Pair) (old new : Option (List ℕ)) : Type 0 where
  pub replies : List Reply
  pub right : ArePairsRight net pairs replies
  pub written : Appends old new (version_line version ++ answer_lines pairs replies)

-- the pairs of a text, or its fault; their nodes are judged by the network
abbrev pub pairs_in : Net → List ℕ → Result (List Pair) Fault
pairs_in net text = content_by (p2p_text net.nodes) (rows text)

-- what is written are the lines of right replies to the pairs of one text, in the network of the other, and nothing else
pub record IsAnsweredBatch (network pairs : List ℕ) (old new : Option (List ℕ)) : Type 0 where
  pub net : Net
  pub network_is : content network ≡ Ok net
  pub list : List Pair
  pub pairs_are : pairs_in net pairs ≡ Ok list
  pub answers : AnswersAll net 0 list old new

-- neither text has a fault
abbrev pub GivePairs : List ℕ → List ℕ → Type 0
GivePairs network pairs = AfterNetwork network (λ net. (list : List Pair) × (pairs_in net pairs ≡ Ok list))

-- a fault of one of the two texts, or the writer failed, or memory ran out: nothing else
abbrev pub IsOfBatch : Failed → Type 0
IsOfBatch (Text which fault) = which ≤ 1
IsOfBatch (Code refusal) = IsUnanswered (Code refusal)

-- The fault of the first text is told, or, where that has none, that of the second; or a reader failed in its text. Where neither has one the
-- writer failed, or memory ran out.
abbrev pub IsRefusedBatch : List ℕ → List ℕ → Source → Source → Failed → Type 0
IsRefusedBatch network pairs network_source pairs_source (Text zero fault) = FaultOf gr_text network network_source fault
IsRefusedBatch network pairs network_source pairs_source (Text (suc zero) fault) = AfterNetwork network (λ net. FaultOf (p2p_text net.nodes) pairs pairs_source fault)
IsRefusedBatch network pairs network_source pairs_source (Code Write) = GivePairs network pairs
IsRefusedBatch network pairs network_source pairs_source (Code OutOfMemory) = GivePairs network pairs
IsRefusedBatch network pairs network_source pairs_source failed = ⊥
