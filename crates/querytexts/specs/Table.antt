-- What a table of sources and targets is answered with, and for what it is refused.
use Rattle.std.specs.Prelude.{◌≡◌, ◌≤◌, ℕ, zero, suc, List, Option, Result, Ok, map, ⊤}
use Rattle.std.specs.List.{flat_map}
use Rattle.roadnet.specs.Net.{Net}
use Rattle.roadnet.specs.declared.refusals.Refusal.TheVariants.{Write, OutOfMemory}
use Rattle.dimacs.specs.declared.fault.Fault.{Fault}
use Rattle.dimacs.specs.declared.lists.pairs.Pair.{Pair}
use Rattle.dimacs.specs.Lines.{rows}
use Rattle.dimacs.specs.Content.{gr_text}
use Rattle.dimacs.specs.Landmarks.{nodes_text}
use Rattle.dimacs.specs.Texts.{Source, FaultOf, content_by}
use Rattle.printing.specs.declared.failed.Failed.{Failed}
use Rattle.printing.specs.declared.failed.Failed.TheVariants.{Text, Code}
use Rattle.querytexts.specs.Once.{IsUnanswered, AfterNetwork}
use Rattle.querytexts.specs.Batch.{AnswersAll}

-- the pair of the source with each target, in the order of the targets
abbrev pub pairs_from : ℕ → List ℕ → List Pair
pairs_from source targets = map (λ target. record { source = source; target = target }) targets

-- each source with each target, source by source
abbrev pub pairs_between : List ℕ → List ℕ → List Pair
pairs_between sources targets = flat_map (λ source. pairs_from source targets) sources

-- the nodes that a text lists, in the order of its lines, or its fault; they are judged by the network
abbrev pub nodes_in : Net → List ℕ → Result (List ℕ) Fault
nodes_in net text = content_by (nodes_text net.nodes) (rows text)

-- two texts list sources and targets, and of the pairs between them this holds
pub record GivesTable (net : Net) (sources targets : List ℕ) (Holds : List Pair → Type 0) : Type 0 where
  pub source_list : List ℕ
  pub sources_are : nodes_in net sources ≡ Ok source_list
  pub target_list : List ℕ
  pub targets_are : nodes_in net targets ≡ Ok target_list
  pub holds : Holds (pairs_between source_list target_list)

-- the text of sources has no fault, and that of targets has this one, or its reader failed in it
abbrev pub HasTargetFault : Net → List ℕ → List ℕ → Source → Fault → Type 0
HasTargetFault net sources targets source fault = (list : List ℕ) × (nodes_in net sources ≡ Ok list) × FaultOf (nodes_text net.nodes) targets source fault

-- what is written are the lines of right replies to the pairs between the nodes of two texts, in the network of another, and nothing else
abbrev pub IsAnsweredTable : List ℕ → List ℕ → List ℕ → Option (List ℕ) → Option (List ℕ) → Type 0
IsAnsweredTable network sources targets old new =
    AfterNetwork network (λ net. GivesTable net sources targets (λ pairs. AnswersAll net 0 pairs old new))

-- none of the three texts has a fault
abbrev pub GiveTable : List ℕ → List ℕ → List ℕ → Type 0
GiveTable network sources targets = AfterNetwork network (λ net. GivesTable net sources targets (λ pairs. ⊤))

-- a fault of one of the three texts, or the writer failed, or memory ran out: nothing else
abbrev pub IsOfTable : Failed → Type 0
IsOfTable (Text which fault) = which ≤ 2
IsOfTable (Code refusal) = IsUnanswered (Code refusal)

-- The fault of the network is told, or, where that has none, that of the sources, or, where these have none, that of the targets; or a reader failed
-- in its text. Where none has one the writer failed, or memory ran out.
abbrev pub IsRefusedTable : List ℕ → List ℕ → List ℕ → Source → Source → Source → Failed → Type 0
IsRefusedTable network sources targets network_source sources_source targets_source (Text zero fault) = FaultOf gr_text network network_source fault
IsRefusedTable network sources targets network_source sources_source targets_source (Text (suc zero) fault) =
    AfterNetwork network (λ net. FaultOf (nodes_text net.nodes) sources sources_source fault)
IsRefusedTable network sources targets network_source sources_source targets_source (Text (suc (suc zero)) fault) =
    AfterNetwork network (λ net. HasTargetFault net sources targets targets_source fault)
IsRefusedTable network sources targets network_source sources_source targets_source (Code Write) = GiveTable network sources targets
IsRefusedTable network sources targets network_source sources_source targets_source (Code OutOfMemory) = GiveTable network sources targets
IsRefusedTable network sources targets network_source sources_source targets_source failed = ⊥
