-- The pairs of a text, answered by a store that was opened.
use Rattle.std.proofs.Common.{◌≡◌, ℕ, Bool, List, Option, None, Some, Result, Ok, Err, refl, subst, inl, inr}
use Rattle.std.specs.Prelude.{IfSome, OnOk, IfErr}
use Rattle.roadnet.specs.declared.refusals.Refusal.TheVariants.{Write, OutOfMemory}
use Rattle.roadnet.specs.Net.{Net}
use Rattle.dimacs.specs.declared.fault.Fault.{Fault}
use Rattle.dimacs.specs.declared.lists.pairs.Pair.{Pair}
use Rattle.dimacs.specs.Lines.{rows}
use Rattle.dimacs.specs.Pairs.{p2p_text}
use Rattle.dimacs.specs.Texts.{Source, FaultOf, content_by, ReadsText}
use Rattle.store.specs.State.{HasVersion}
use Rattle.printing.specs.declared.failed.Failed.{Failed}
use Rattle.printing.specs.declared.failed.Failed.TheVariants.{Text, Code}
use Rattle.querytexts.specs.Route.{AnswersAs}
use Rattle.querytexts.specs.Once.{IsUnanswered}
use Rattle.storetexts.specs.Asked.{OfStore, GivesPairs, IsStoreAsked, IsRefusedAsk}
use Rattle.storetexts.specs.Refused.{IsOfStore, CountsDevice}

module _ (Honest : Type 0) (file : List ℕ) (net : Net) (version nodes : ℕ) (stands : Honest → HasVersion file net version) (is : nodes ≡ net.nodes) where
  asked_one : (routes : Bool) (text : List ℕ) (list : List Pair) (old new : Option (List ℕ)) → content_by (p2p_text nodes) (rows text) ≡ Ok list → AnswersAs routes net version list old new → IsStoreAsked routes Honest file text old new
  asked_one routes text list old new said answers = record {
    net = net;
    version = version;
    stands = stands;
    holds = record { list = list; pairs_are = subst (λ (n : ℕ). content_by (p2p_text n) (rows text) ≡ Ok list) is said; answers = answers };
  }

  pub asked_of : {X : Type 0} (routes : Bool) (r : Result X Failed) (known : Option (List ℕ)) (source : Source) (list : List Pair) (old new : Option (List ℕ)) → IfSome known (λ text. ReadsText (p2p_text nodes) text source (Ok list)) → OnOk r (AnswersAs routes net version list old new)
      → OnOk r (IfSome known (λ text. IsStoreAsked routes Honest file text old new))
  asked_of routes (Ok done) None source list old new said answers = tt
  asked_of routes (Ok done) (Some text) source list old new said answers = asked_one routes text list old new said.0 answers
  asked_of routes (Err failed) known source list old new said answers = tt

  fault_of : (text : List ℕ) (source : Source) (fault : Fault) → FaultOf (p2p_text nodes) text source fault → IsRefusedAsk Honest file text source (Text 0 fault)
  fault_of text source fault said = record { net = net; version = version; stands = stands; holds = subst (λ (n : ℕ). FaultOf (p2p_text n) text source fault) is said }

  pub fault_known : (known : Option (List ℕ)) (source : Source) (fault : Fault) → IfSome known (λ text. ReadsText (p2p_text nodes) text source (Err fault)) → IfSome known (λ text. IsRefusedAsk Honest file text source (Text 0 fault))
  fault_known None source fault said = tt
  fault_known (Some text) source fault said = fault_of text source fault said

  gives : (text : List ℕ) (list : List Pair) → content_by (p2p_text nodes) (rows text) ≡ Ok list → OfStore Honest file (GivesPairs text)
  gives text list said = record { net = net; version = version; stands = stands; holds = (list, subst (λ (n : ℕ). content_by (p2p_text n) (rows text) ≡ Ok list) is said) }

  unanswered : (text : List ℕ) (source : Source) (failed : Failed) (list : List Pair) → content_by (p2p_text nodes) (rows text) ≡ Ok list → IsUnanswered failed → IsRefusedAsk Honest file text source failed
  unanswered text source (Code Write) list said h = gives text list said
  unanswered text source (Code OutOfMemory) list said h = ((refl, λ honest. inl (inl refl)), inr (gives text list said))
  unanswered text source _ list said h = absurd h

  pub refused_known : {X : Type 0} (r : Result X Failed) (known : Option (List ℕ)) (source : Source) (list : List Pair) → IfSome known (λ text. ReadsText (p2p_text nodes) text source (Ok list)) → IfErr r IsUnanswered
      → IfErr r (λ failed. IfSome known (λ text. IsRefusedAsk Honest file text source failed))
  refused_known (Ok done) known source list said h = tt
  refused_known (Err failed) None source list said h = tt
  refused_known (Err failed) (Some text) source list said h = unanswered text source failed list said.0 h

of_unanswered : (failed : Failed) → IsUnanswered failed → IsOfStore failed
of_unanswered (Code Write) h = tt
of_unanswered (Code OutOfMemory) h = refl
of_unanswered _ h = absurd h

pub kind_unanswered : {X : Type 0} (r : Result X Failed) → IfErr r IsUnanswered → IfErr r IsOfStore
kind_unanswered (Ok done) h = tt
kind_unanswered (Err failed) h = of_unanswered failed h

counts_one : (X : Type 0) (failed : Failed) (old new : ℕ) → IsUnanswered failed → new ≡ old → CountsDevice {X = X} old new (Err failed)
counts_one X (Code Write) old new h same = tt
counts_one X (Code OutOfMemory) old new h same = same
counts_one X _ old new h same = absurd h

-- answering makes no call of the disk
pub counts_unanswered : {X : Type 0} (r : Result X Failed) (old new : ℕ) → IfErr r IsUnanswered → new ≡ old → CountsDevice old new r
counts_unanswered (Ok done) old new h same = same
counts_unanswered {X} (Err failed) old new h same = counts_one X failed old new h same
