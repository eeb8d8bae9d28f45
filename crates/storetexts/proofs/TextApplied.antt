-- The commands of a text, applied to a store that was opened.
use Rattle.std.proofs.Common.{◌≡◌, ◌⊎◌, ⊎_elim, inl, inr, ℕ, List, [], Option, None, Some, Result, Ok, Err}
use Rattle.std.specs.Prelude.{IfSome, OnOk}
use Rattle.roadnet.specs.declared.groups.Group.{Group}
use Rattle.roadnet.specs.Net.{Net}
use Rattle.dimacs.specs.declared.fault.Fault.{Fault}
use Rattle.dimacs.specs.Commanded.{group_text}
use Rattle.dimacs.specs.Texts.{Source, FaultOf, ReadsText}
use Rattle.disk.specs.declared.disk.Disk.{Ghosts}
use Rattle.disk.specs.Moments.{StaysSame}
use Rattle.disk.proofs.Steps.{started, nothing_leaves, and_then}
use Rattle.machine.specs.Machine.{Machine}
use Rattle.printing.specs.declared.failed.Failed.{Failed}
use Rattle.printing.specs.declared.failed.Failed.TheVariants.{Text}
use Rattle.storetexts.specs.Applied.{groups_of_text, TellsAll, AreGroupsTold, StandsForBeginningOfGroups, StandsForBeginningOfText, AtAnyMoment, IsRefusedApply}
use Rattle.storetexts.specs.Applying.{GroupsTaken}
use Rattle.storetexts.specs.Asked.{OfStore}

-- ---- a fault of the text, which is read behind the opening
module _ (Honest : Type 0) (file : List ℕ) (Begun : Net → ℕ → Type 0) (o : OfStore Honest file Begun) where
  fault_of : (text : List ℕ) (source : Source) (fault : Fault) → FaultOf group_text text source fault → IsRefusedApply Honest file text source (Text 0 fault)
  fault_of text source fault said = record { net = o.net; version = o.version; stands = o.stands; holds = said }

  pub fault_known : (known : Option (List ℕ)) (source : Source) (fault : Fault) → IfSome known (λ text. ReadsText group_text text source (Err fault)) → IfSome known (λ text. IsRefusedApply Honest file text source (Text 0 fault))
  fault_known None source fault said = tt
  fault_known (Some text) source fault said = fault_of text source fault said

-- ---- all of it told
module _ {X : Type 0} (Honest : Type 0) (file : List ℕ) (first : Machine) (o : OfStore Honest file (λ net version. GroupsTaken net version [] [] 0 first)) (list : List Group) (r : Result X Failed) where
  pub told_known : (known : Option (List ℕ)) (rest : Source) (old new : Option (List ℕ)) → ((net : Net) (version : ℕ) → GroupsTaken net version [] [] 0 first → OnOk r (TellsAll net version list old new))
      → IfSome known (λ text. ReadsText group_text text rest (Ok list)) → OnOk r (IfSome known (λ text. AreGroupsTold Honest file text old new))
  told_known known rest old new tells read = go r (tells o.net o.version o.holds)
    where
      read_so : (k : Option (List ℕ)) → IfSome k (λ text. ReadsText group_text text rest (Ok list)) → TellsAll o.net o.version list old new → IfSome k (λ text. AreGroupsTold Honest file text old new)
      read_so None said t = tt
      read_so (Some text) said t = record { net = o.net; version = o.version; stands = o.stands; holds = record { list = list; list_is = said.0; tells = t } }

      go : (e : Result X Failed) → OnOk e (TellsAll o.net o.version list old new) → OnOk e (IfSome known (λ text. AreGroupsTold Honest file text old new))
      go (Ok done) t = read_so known read t
      go (Err failed) t = tt

-- ---- a stop at any moment
module _ {D : Type 0} (disk : Ghosts D) (first mid : D) (only_now : (c : List ℕ) → disk.left_since first (disk.moment first) c → disk.left first c) where
  -- before the first call
  pub at_once : (P : List ℕ → Type 0) → AtAnyMoment disk.moment disk.left_since disk.left first first P
  at_once P = started disk.moment disk.left_since first (λ c. disk.left first c ⊎ P c) (λ c since. inl (only_now c since))

  module _ (opened : StaysSame disk.content disk.left disk.moment disk.left_since first mid) where
    pub nothing_since : (P : List ℕ → Type 0) → AtAnyMoment disk.moment disk.left_since disk.left first mid P
    nothing_since P = nothing_leaves disk.moment disk.left_since first mid (λ c. disk.left first c ⊎ P c) opened.adds_nothing (λ c since. inl (only_now c since))

    since_opening : (new : D) (P Q : List ℕ → Type 0) → ((c : List ℕ) → P c → Q c) → AtAnyMoment disk.moment disk.left_since disk.left mid new P
        → AtAnyMoment disk.moment disk.left_since disk.left first new Q
    since_opening new P Q f a =
        and_then disk.moment disk.left_since first mid new (λ c. disk.left first c ⊎ Q c) (λ c. disk.left mid c ⊎ P c) (nothing_since Q) a
        (λ c. ⊎_elim (λ left. inl (opened.among c left)) (λ p. inr (f c p)))

    text_since : (new : D) (net : Net) (version : ℕ) (list : List Group) (text : List ℕ) → groups_of_text text ≡ Ok list
        → AtAnyMoment disk.moment disk.left_since disk.left mid new (StandsForBeginningOfGroups net version list) → AtAnyMoment disk.moment disk.left_since disk.left first new (StandsForBeginningOfText net version text)
    text_since new net version list text said a = since_opening new (StandsForBeginningOfGroups net version list) (StandsForBeginningOfText net version text) (λ c s. record { list = list; list_is = said; stands = s }) a

    pub known_since : (new : D) (net : Net) (version : ℕ) (list : List Group) (known : Option (List ℕ)) (rest : Source) → IfSome known (λ text. ReadsText group_text text rest (Ok list))
        → AtAnyMoment disk.moment disk.left_since disk.left mid new (StandsForBeginningOfGroups net version list)
        → IfSome known (λ text. AtAnyMoment disk.moment disk.left_since disk.left first new (StandsForBeginningOfText net version text))
    known_since new net version list None rest said a = tt
    known_since new net version list (Some text) rest said a = text_since new net version list text said.0 a
