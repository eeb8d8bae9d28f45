-- With what opening may refuse: over any disk 11 and 40 to 43, and no failed write.
use Rattle.std.proofs.Common.{◌≡◌, ⊎_elim, inl, inr, ℕ, List, Option, None, Some, Result, Ok, Err, false, true, refl, sym, subst}
use Rattle.std.specs.Prelude.{IfSome, IfErr}
use Rattle.roadnet.specs.declared.refusals.Refusal.{Refusal}
use Rattle.roadnet.specs.declared.refusals.Refusal.TheVariants.{OutOfMemory, Device, Write}
use Rattle.pagereader.specs.Outcomes.{MayEndOpening}
use Rattle.roadnet.specs.declared.groups.Group.{Group}
use Rattle.roadnet.specs.Net.{Net}
use Rattle.dimacs.specs.Commanded.{group_text}
use Rattle.dimacs.specs.Texts.{Source, IsUnread, ReadsText}
use Rattle.printing.specs.declared.failed.Failed.{Failed}
use Rattle.printing.specs.declared.failed.Failed.TheVariants.{Text, Code}
use Rattle.printing.specs.Failing.{CountsWrites}
use Rattle.storetexts.specs.Applied.{groups_of_text, GivesGroups, IsRefusedApply}
use Rattle.storetexts.specs.Applying.{IsCutOffBy}
use Rattle.store.specs.Opening.{IsPassing}
use Rattle.storetexts.specs.Asked.{OfStore, IsStoreUnopened, IsRefusedAsk}
use Rattle.storetexts.specs.Refused.{IsOfStore}

pub opening_counts : (T : Type 0) (refusal : Refusal) (n : ℕ) → MayEndOpening refusal → CountsWrites {X = T} n n (Err (Code refusal))
opening_counts T Write n may = absurd (let never : false ≡ true = may in cc)
opening_counts T _ n may = refl

pub opening_of_store : (refusal : Refusal) → MayEndOpening refusal → IsOfStore (Code refusal)
opening_of_store Write may = tt
opening_of_store _ may = may

-- ---- asking
no_write : (P Q : Type 0) → MayEndOpening Write × Q → P
no_write P Q may = absurd (let never : false ≡ true = may.0 in cc)

ask_refused : (Honest : Type 0) (file text : List ℕ) (source : Source) (refusal : Refusal) → IsUnread text source → IsStoreUnopened Honest file refusal → IsRefusedAsk Honest file text source (Code refusal)
ask_refused Honest file text source Write unread may = no_write _ _ may
ask_refused Honest file text source _ unread may = (may, inl unread)

pub ask_refused_known : (Honest : Type 0) (file : List ℕ) (known : Option (List ℕ)) (source : Source) (refusal : Refusal) → IfSome known (λ text. IsUnread text source) → IsStoreUnopened Honest file refusal
    → IfSome known (λ text. IsRefusedAsk Honest file text source (Code refusal))
ask_refused_known Honest file None source refusal unread may = tt
ask_refused_known Honest file (Some text) source refusal unread may = ask_refused Honest file text source refusal unread may

-- ---- applying
apply_refused : (Honest : Type 0) (file text : List ℕ) (source : Source) (refusal : Refusal) → IsUnread text source → IsStoreUnopened Honest file refusal → IsRefusedApply Honest file text source (Code refusal)
apply_refused Honest file text source Write unread may = no_write _ _ may
apply_refused Honest file text source _ unread may = (may, inl unread)

pub apply_refused_known : (Honest : Type 0) (file : List ℕ) (known : Option (List ℕ)) (source : Source) (refusal : Refusal) → IfSome known (λ text. IsUnread text source) → IsStoreUnopened Honest file refusal
    → IfSome known (λ text. IsRefusedApply Honest file text source (Code refusal))
apply_refused_known Honest file None source refusal unread may = tt
apply_refused_known Honest file (Some text) source refusal unread may = apply_refused Honest file text source refusal unread may

apply_refused_later : (Honest : Type 0) (file text : List ℕ) (source : Source) (refusal : Refusal) → OfStore Honest file (GivesGroups text) → IsStoreUnopened Honest file refusal → IsRefusedApply Honest file text source (Code refusal)
apply_refused_later Honest file text source Write gives may = gives
apply_refused_later Honest file text source _ gives may = (may, inr gives)

-- ---- a refusal behind the opening
pub ends_of_device : (refusal : Refusal) → IsPassing refusal → MayEndOpening refusal
ends_of_device refusal h = ⊎_elim
    (λ memory. subst MayEndOpening (sym memory) (let yes : MayEndOpening OutOfMemory = refl in yes))
    (λ device. subst MayEndOpening (sym device) (let yes : MayEndOpening Device = refl in yes))
    h

pub unopened_of_device : (Honest : Type 0) (file : List ℕ) (refusal : Refusal) → IsPassing refusal → IsStoreUnopened Honest file refusal
unopened_of_device Honest file refusal h = (ends_of_device refusal h, λ honest. inl h)

-- ---- a run of groups that ended early
module _ (P : Failed → Type 0) (written : P (Code Write)) (device : (refusal : Refusal) → IsPassing refusal → P (Code refusal)) where
  by_cut_off : (failed : Failed) → IsCutOffBy failed → P failed
  by_cut_off (Text which fault) h = absurd h
  by_cut_off (Code Write) h = written
  by_cut_off (Code refusal) h = device refusal h

  pub if_cut_off : {X : Type 0} (r : Result X Failed) → IfErr r IsCutOffBy → IfErr r P
  if_cut_off (Ok done) h = tt
  if_cut_off (Err failed) h = by_cut_off failed h

pub kind_cut_off : {X : Type 0} (r : Result X Failed) → IfErr r IsCutOffBy → IfErr r IsOfStore
kind_cut_off r h = if_cut_off IsOfStore tt (λ refusal of. opening_of_store refusal (ends_of_device refusal of)) r h

module _ {P : Net → ℕ → Type 0} (Honest : Type 0) (file : List ℕ) (o : OfStore Honest file P) (list : List Group) where
  gives : (text : List ℕ) → groups_of_text text ≡ Ok list → OfStore Honest file (GivesGroups text)
  gives text said = record { net = o.net; version = o.version; stands = o.stands; holds = (list, said) }

  cut_off_refused : {X : Type 0} (r : Result X Failed) (text : List ℕ) (source : Source) → groups_of_text text ≡ Ok list → IfErr r IsCutOffBy → IfErr r (IsRefusedApply Honest file text source)
  cut_off_refused r text source said h =
      if_cut_off (IsRefusedApply Honest file text source) (gives text said) (λ refusal of. apply_refused_later Honest file text source refusal (gives text said) (unopened_of_device Honest file refusal of)) r h

  pub cut_off_refused_known : {X : Type 0} (r : Result X Failed) (known : Option (List ℕ)) (source : Source) → IfSome known (λ text. ReadsText group_text text source (Ok list)) → IfErr r IsCutOffBy
      → IfErr r (λ failed. IfSome known (λ text. IsRefusedApply Honest file text source failed))
  cut_off_refused_known r None source said h = if_cut_off (λ failed. Unit {0}) tt (λ refusal of. tt) r h
  cut_off_refused_known r (Some text) source said h = cut_off_refused r text source said.0 h
