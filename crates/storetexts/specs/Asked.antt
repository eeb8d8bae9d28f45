-- What the pairs of a text, or those between the nodes of two texts, are answered with by a store, and for what they are refused.
use Rattle.std.specs.Prelude.{◌≡◌, ◌⊎◌, ℕ, Bool, zero, suc, List, Option, Some, Ok, ⊤}
use Rattle.roadnet.specs.declared.refusals.Refusal.{Refusal}
use Rattle.roadnet.specs.declared.refusals.Refusal.TheVariants.{Write}
use Rattle.roadnet.specs.Net.{Net}
use Rattle.dimacs.specs.declared.lists.pairs.Pair.{Pair}
use Rattle.dimacs.specs.Landmarks.{nodes_text}
use Rattle.dimacs.specs.Pairs.{p2p_text}
use Rattle.dimacs.specs.Texts.{Source, IsUnread, FaultOf}
use Rattle.pagereader.specs.Outcomes.{MayEndOpening}
use Rattle.store.specs.State.{HasVersion}
use Rattle.store.specs.Opening.{MayRefuseToOpen}
use Rattle.printing.specs.declared.failed.Failed.{Failed}
use Rattle.printing.specs.declared.failed.Failed.TheVariants.{Text, Code}
use Rattle.querytexts.specs.Batch.{pairs_in, AnswersAll}
use Rattle.querytexts.specs.Route.{AnswersAs}
use Rattle.querytexts.specs.Table.{GivesTable, HasTargetFault}

-- A store was opened, of this network at this version: where the disk keeps the disk model, its file stands for them. Of them this holds.
pub record OfStore (Honest : Type 0) (file : List ℕ) (Holds : Net → ℕ → Type 0) : Type 0 where
  pub net : Net
  pub version : ℕ
  pub stands : Honest → HasVersion file net version
  pub holds : Holds net version

-- With what opening may be refused over any disk; where it keeps the disk model, 40 to 42 are what its file says.
abbrev pub IsStoreUnopened : Type 0 → List ℕ → Refusal → Type 0
IsStoreUnopened Honest file refusal = MayEndOpening refusal × (Honest → MayRefuseToOpen file refusal)

-- what is written are the lines of right answers to the pairs of the text, of routes or of lengths, in this network at this version, and nothing else
pub record AnswersText (routes : Bool) (text : List ℕ) (old new : Option (List ℕ)) (net : Net) (version : ℕ) : Type 0 where
  pub list : List Pair
  pub pairs_are : pairs_in net text ≡ Ok list
  pub answers : AnswersAs routes net version list old new

-- the same in the network and at the version of the store
abbrev pub IsStoreAsked : Bool → Type 0 → List ℕ → List ℕ → Option (List ℕ) → Option (List ℕ) → Type 0
IsStoreAsked routes Honest file text old new = OfStore Honest file (AnswersText routes text old new)

-- the text has no fault, judged by this network
abbrev pub GivesPairs : List ℕ → Net → ℕ → Type 0
GivesPairs text net version = (list : List Pair) × (pairs_in net text ≡ Ok list)

-- The store was opened and the text has its fault told, judged by the network of the store, or its reader failed in it. Where the store was
-- opened and the text has no fault, the writer failed, or memory ran out. Or opening is refused, and the text isn't read.
abbrev pub IsRefusedAsk : Type 0 → List ℕ → List ℕ → Source → Failed → Type 0
IsRefusedAsk Honest file text source (Text zero fault) = OfStore Honest file (λ net version. FaultOf (p2p_text net.nodes) text source fault)
IsRefusedAsk Honest file text source (Code Write) = OfStore Honest file (GivesPairs text)
IsRefusedAsk Honest file text source (Code refusal) = IsStoreUnopened Honest file refusal × (IsUnread text source ⊎ OfStore Honest file (GivesPairs text))
IsRefusedAsk Honest file text source failed = ⊥

-- ---- the pairs between the nodes of two texts

-- what is written are the lines of right answers to the pairs between the nodes of the texts, in this network at this version, and nothing else
abbrev pub AnswersTable : List ℕ → List ℕ → Option (List ℕ) → Option (List ℕ) → Net → ℕ → Type 0
AnswersTable sources targets old new net version = GivesTable net sources targets (λ pairs. AnswersAll net version pairs old new)

-- the same in the network and at the version of the store
abbrev pub IsTableAsked : Type 0 → List ℕ → List ℕ → List ℕ → Option (List ℕ) → Option (List ℕ) → Type 0
IsTableAsked Honest file sources targets old new = OfStore Honest file (AnswersTable sources targets old new)

-- neither text has a fault, judged by this network
abbrev pub GivesNodes : List ℕ → List ℕ → Net → ℕ → Type 0
GivesNodes sources targets net version = GivesTable net sources targets (λ pairs. ⊤)

-- The store was opened and the text of sources has its fault told, judged by the network of the store, or its reader failed in it; or that of targets,
-- where the one of sources has none. Where the store was opened and neither has one, the writer failed, or memory ran out. Or opening is refused, and
-- neither text is read.
abbrev pub IsRefusedStoreTable : Type 0 → List ℕ → List ℕ → List ℕ → Source → Source → Failed → Type 0
IsRefusedStoreTable Honest file sources targets sources_from targets_from (Text zero fault) = OfStore Honest file (λ net version. FaultOf (nodes_text net.nodes) sources sources_from fault)
IsRefusedStoreTable Honest file sources targets sources_from targets_from (Text (suc zero) fault) = OfStore Honest file (λ net version. HasTargetFault net sources targets targets_from fault)
IsRefusedStoreTable Honest file sources targets sources_from targets_from (Code Write) = OfStore Honest file (GivesNodes sources targets)
IsRefusedStoreTable Honest file sources targets sources_from targets_from (Code refusal) =
    IsStoreUnopened Honest file refusal × ((IsUnread sources sources_from × IsUnread targets targets_from) ⊎ OfStore Honest file (GivesNodes sources targets))
IsRefusedStoreTable Honest file sources targets sources_from targets_from failed = ⊥
