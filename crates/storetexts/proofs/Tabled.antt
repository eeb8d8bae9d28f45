-- The pairs between the nodes of two texts, answered by a store that was opened.
use Rattle.std.proofs.Common.{◌≡◌, ℕ, List, Option, None, Some, Result, Ok, Err, refl, subst, inl, inr, false, true}
use Rattle.std.specs.Prelude.{IfSome, OnOk, IfErr, ⊤}
use Rattle.roadnet.specs.declared.refusals.Refusal.{Refusal}
use Rattle.roadnet.specs.declared.refusals.Refusal.TheVariants.{Write, OutOfMemory}
use Rattle.roadnet.specs.Net.{Net}
use Rattle.dimacs.specs.declared.fault.Fault.{Fault}
use Rattle.dimacs.specs.declared.lists.pairs.Pair.{Pair}
use Rattle.dimacs.specs.Lines.{rows}
use Rattle.dimacs.specs.Landmarks.{nodes_text}
use Rattle.dimacs.specs.Texts.{Source, IsUnread, FaultOf, content_by, ReadsText}
use Rattle.pagereader.specs.Outcomes.{MayEndOpening}
use Rattle.store.specs.State.{HasVersion}
use Rattle.printing.specs.declared.failed.Failed.{Failed}
use Rattle.printing.specs.declared.failed.Failed.TheVariants.{Text, Code}
use Rattle.querytexts.specs.Batch.{AnswersAll}
use Rattle.querytexts.specs.Once.{IsUnanswered}
use Rattle.querytexts.specs.Table.{GivesTable, nodes_in, pairs_between}
use Rattle.storetexts.specs.Asked.{OfStore, GivesNodes, IsTableAsked, IsRefusedStoreTable, IsStoreUnopened}
use Rattle.storetexts.specs.Refused.{IsOfTwoTexts}

-- ---- opening is refused
no_write : (P Q : Type 0) → MayEndOpening Write × Q → P
no_write P Q may = absurd (let never : false ≡ true = may.0 in cc)

table_refused : (Honest : Type 0) (file from to : List ℕ) (first second : Source) (refusal : Refusal) → IsUnread from first → IsUnread to second → IsStoreUnopened Honest file refusal
    → IsRefusedStoreTable Honest file from to first second (Code refusal)
table_refused Honest file from to first second Write unread unread' may = no_write _ _ may
table_refused Honest file from to first second _ unread unread' may = (may, inl (unread, unread'))

pub table_refused_known : (Honest : Type 0) (file : List ℕ) (known known' : Option (List ℕ)) (first second : Source) (refusal : Refusal) → IfSome known (λ from. IsUnread from first) → IfSome known' (λ to. IsUnread to second)
    → IsStoreUnopened Honest file refusal → IfSome known (λ from. IfSome known' (λ to. IsRefusedStoreTable Honest file from to first second (Code refusal)))
table_refused_known Honest file None known' first second refusal unread unread' may = tt
table_refused_known Honest file (Some from) None first second refusal unread unread' may = tt
table_refused_known Honest file (Some from) (Some to) first second refusal unread unread' may = table_refused Honest file from to first second refusal unread unread' may

pub opening_of_two : (refusal : Refusal) → MayEndOpening refusal → IsOfTwoTexts (Code refusal)
opening_of_two Write may = tt
opening_of_two _ may = may

-- ---- a store was opened
module _ (Honest : Type 0) (file : List ℕ) (net : Net) (version nodes : ℕ) (stands : Honest → HasVersion file net version) (is : nodes ≡ net.nodes) where
  -- the text lists these nodes
  abbrev pub Lists : List ℕ → List ℕ → Type 0
  Lists text list = content_by (nodes_text nodes) (rows text) ≡ Ok list

  in_net : (text list : List ℕ) → Lists text list → nodes_in net text ≡ Ok list
  in_net text list said = subst (λ (n : ℕ). content_by (nodes_text n) (rows text) ≡ Ok list) is said

  opened : (Holds : Net → ℕ → Type 0) → Holds net version → OfStore Honest file Holds
  opened Holds holds = record { net = net; version = version; stands = stands; holds = holds }

  table : (Holds : List Pair → Type 0) (from to sources targets : List ℕ) → Lists from sources → Lists to targets → Holds (pairs_between sources targets) → GivesTable net from to Holds
  table Holds from to sources targets said said' holds = record {
    source_list = sources;
    sources_are = in_net from sources said;
    target_list = targets;
    targets_are = in_net to targets said';
    holds = holds;
  }

  gives : (from to sources targets : List ℕ) → Lists from sources → Lists to targets → OfStore Honest file (GivesNodes from to)
  gives from to sources targets said said' = opened (GivesNodes from to) (table (λ pairs. ⊤) from to sources targets said said' tt)

  module _ (sources targets : List ℕ) (old new : Option (List ℕ)) where
    asked_one : (from to : List ℕ) → Lists from sources → Lists to targets → AnswersAll net version (pairs_between sources targets) old new → IsTableAsked Honest file from to old new
    asked_one from to said said' answers = opened _ (table (λ pairs. AnswersAll net version pairs old new) from to sources targets said said' answers)

    pub asked_of : {X : Type 0} (r : Result X Failed) (first second : Option (List ℕ)) (source source' : Source) → IfSome first (λ from. ReadsText (nodes_text nodes) from source (Ok sources)) → IfSome second (λ to. ReadsText (nodes_text nodes) to source' (Ok targets))
        → OnOk r (AnswersAll net version (pairs_between sources targets) old new) → OnOk r (IfSome first (λ from. IfSome second (λ to. IsTableAsked Honest file from to old new)))
    asked_of (Ok done) None second source source' said said' answers = tt
    asked_of (Ok done) (Some from) None source source' said said' answers = tt
    asked_of (Ok done) (Some from) (Some to) source source' said said' answers = asked_one from to said.0 said'.0 answers
    asked_of (Err failed) first second source source' said said' answers = tt

  -- ---- a text has a fault
  source_fault : (from to : List ℕ) (first second : Source) (fault : Fault) → FaultOf (nodes_text nodes) from first fault → IsRefusedStoreTable Honest file from to first second (Text 0 fault)
  source_fault from to first second fault said = opened _ (subst (λ (n : ℕ). FaultOf (nodes_text n) from first fault) is said)

  target_fault : (from to sources : List ℕ) (first second : Source) (fault : Fault) → Lists from sources → FaultOf (nodes_text nodes) to second fault → IsRefusedStoreTable Honest file from to first second (Text 1 fault)
  target_fault from to sources first second fault said said' = opened _ (sources, in_net from sources said, subst (λ (n : ℕ). FaultOf (nodes_text n) to second fault) is said')

  pub source_fault_known : (first second : Option (List ℕ)) (source source' : Source) (fault : Fault) → IfSome first (λ from. ReadsText (nodes_text nodes) from source (Err fault))
      → IfSome first (λ from. IfSome second (λ to. IsRefusedStoreTable Honest file from to source source' (Text 0 fault)))
  source_fault_known None second source source' fault said = tt
  source_fault_known (Some from) None source source' fault said = tt
  source_fault_known (Some from) (Some to) source source' fault said = source_fault from to source source' fault said

  pub target_fault_known : (sources : List ℕ) (first second : Option (List ℕ)) (source source' : Source) (fault : Fault) → IfSome first (λ from. ReadsText (nodes_text nodes) from source (Ok sources))
      → IfSome second (λ to. ReadsText (nodes_text nodes) to source' (Err fault)) → IfSome first (λ from. IfSome second (λ to. IsRefusedStoreTable Honest file from to source source' (Text 1 fault)))
  target_fault_known sources None second source source' fault said said' = tt
  target_fault_known sources (Some from) None source source' fault said said' = tt
  target_fault_known sources (Some from) (Some to) source source' fault said said' = target_fault from to sources source source' fault said.0 said'

  -- ---- the answers are not written
  module _ (sources targets : List ℕ) where
    unanswered : (from to : List ℕ) (first second : Source) (failed : Failed) → Lists from sources → Lists to targets → IsUnanswered failed → IsRefusedStoreTable Honest file from to first second failed
    unanswered from to first second (Code Write) said said' h = gives from to sources targets said said'
    unanswered from to first second (Code OutOfMemory) said said' h = ((refl, λ honest. inl (inl refl)), inr (gives from to sources targets said said'))
    unanswered from to first second _ said said' h = absurd h

    pub refused_known : {X : Type 0} (r : Result X Failed) (first second : Option (List ℕ)) (source source' : Source) → IfSome first (λ from. ReadsText (nodes_text nodes) from source (Ok sources)) → IfSome second (λ to. ReadsText (nodes_text nodes) to source' (Ok targets))
        → IfErr r IsUnanswered → IfErr r (λ failed. IfSome first (λ from. IfSome second (λ to. IsRefusedStoreTable Honest file from to source source' failed)))
    refused_known (Ok done) first second source source' said said' h = tt
    refused_known (Err failed) None second source source' said said' h = tt
    refused_known (Err failed) (Some from) None source source' said said' h = tt
    refused_known (Err failed) (Some from) (Some to) source source' said said' h = unanswered from to source source' failed said.0 said'.0 h

two_of_unanswered : (failed : Failed) → IsUnanswered failed → IsOfTwoTexts failed
two_of_unanswered (Code Write) h = tt
two_of_unanswered (Code OutOfMemory) h = refl
two_of_unanswered _ h = absurd h

pub kind_unanswered : {X : Type 0} (r : Result X Failed) → IfErr r IsUnanswered → IfErr r IsOfTwoTexts
kind_unanswered (Ok done) h = tt
kind_unanswered (Err failed) h = two_of_unanswered failed h
