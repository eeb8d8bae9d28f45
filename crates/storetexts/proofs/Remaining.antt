-- What a stop leaves of a store to which groups were applied.
use Rattle.std.proofs.Common.{◌≡◌, ◌∙◌, ℕ, ◌+◌, ◌-◌, ◌<◌, ◌≤◌, false, List, [], ◌∷◌, ◌++◌, length, get_or, take, drop, Option, None, Some, Result, ◌⊎◌, ⊎_elim, inr, Ok, Err, sym, ap, subst, arith}
use Rattle.std.specs.Prelude.{All, OnOk, IfErr, IfSome, slice_get}
use Rattle.std.proofs.lemmas.List.{take_all, take_more}
use Rattle.std.proofs.lemmas.Option.{slice_get_cases}
use Rattle.std.proofs.lemmas.List.Elements.{All-weaker, All-get_or}
use Rattle.roadnet.specs.declared.groups.Group.{Group}
use Rattle.roadnet.specs.Groups.{count_of}
use Rattle.roadnet.specs.Net.{Net}
use Rattle.roadnet.specs.Step.{after}
use Rattle.dimacs.specs.Commanded.{group_text}
use Rattle.dimacs.specs.Texts.{Source, ReadsText}
use Rattle.storefile.specs.StoreFile.{StandsTidyFor}
use Rattle.machine.specs.Machine.{Machine, latest, pending, network_at}
use Rattle.machine.specs.Lives.{HoldsDurable}
use Rattle.machine.proofs.Counted.{versions_are_fewer}
use Rattle.machine.proofs.Kept.{left_between}
use Rattle.keeper.specs.Keeping.{Holds}
use Rattle.printing.specs.declared.failed.Failed.{Failed}
use Rattle.printing.specs.declared.failed.Failed.TheVariants.{Code}
use Rattle.roadnet.specs.declared.refusals.Refusal.TheVariants.{Write}
use Rattle.storetexts.specs.declared.outcomes.Outcome.{Outcome}
use Rattle.storetexts.specs.declared.outcomes.Outcome.TheVariants.{Accepted, Refused}
use Rattle.storetexts.specs.Outcomes.{ComesTo, accepted_outcomes, outcome_lines, IsGroupSettled, IsUnsettledAt}
use Rattle.storetexts.specs.Applied.{StandsForAccepted, AppliesAll, IsApplied, KeepsOutcomes, TellsFront, AppliesSome, IsCutOff, IfNotWrite, TellsAll, StandsForBeginning, StandsForBeginningOfGroups}
use Rattle.storetexts.specs.Applying.{IsSteady, GroupsTaken, FirstGroupsTaken, KeepsAccepted, LinesTold, IfTold, IfEndedEarly, StandsForMachine}
use Rattle.storetexts.proofs.Comings.{IsPlace, place, as_many}
use Rattle.storetexts.proofs.Stepping.{latest_is, settled_all, come_kept, come_told}

settled_later : (a b : ℕ) → a ≤ b → (o : Outcome) → IsGroupSettled a o → IsGroupSettled b o
settled_later a b le (Accepted n) s = omega (arith, s, le)
settled_later a b le (Refused r) s = tt

module _ (net : Net) (version told : ℕ) (cs : List Group) (os : List Outcome) (m : Machine) (h : GroupsTaken net version cs os told m) (s : IsSteady m) where
  network_there : (v : ℕ) → network_at m v ≡ after net (take (v - version) (accepted_outcomes cs os))
  network_there v =
      ap (λ (n : Net). after n (take (v - m.base_version) m.accepted)) h.base_is
      ∙ (ap (λ (b : ℕ). after net (take (v - b) m.accepted)) h.version_is
      ∙ ap (λ (l : List Group). after net (take (v - version) l)) h.accepted_is)

  -- a content that holds what is durable keeps what was told
  pub kept_told : (content : List ℕ) → HoldsDurable (StandsTidyFor m.sizes.journal_pages m.sizes.checkpoint_pages) m content → KeepsOutcomes net version cs os told m.durable content
  kept_told content held =
      let v = held.version in
      let between = left_between m s.state v held.left in
      let from : m.durable ≤ v = between.0 in
      let to : v ≤ latest m = between.1 in
      let base : m.base_version ≤ m.durable = let a = s.state.base_opened in let b = s.state.opened_shown in let d = s.state.shown_durable in omega (arith, a, b, d) in
      let p : IsPlace net version v told cs os = place 0 net version v told cs os h.come (omega (arith, base, from, h.version_is)) (omega (arith, to, latest_is net version told cs os m h)) h.told_to
      (All-weaker (IsGroupSettled m.durable) (IsGroupSettled v) (settled_later m.durable v from) (take told os) h.settled) in
      record {
        kept = p.kept;
        told_kept = p.told_kept;
        kept_to = p.kept_to;
        durable_kept = omega (arith, from, p.counted);
        stands = record {
          network = held.network;
          network_is = ap (after net) p.same ∙ (sym (network_there v) ∙ held.network_is);
          journal_pages = m.sizes.journal_pages;
          checkpoint_pages = m.sizes.checkpoint_pages;
          stands = subst (StandsTidyFor m.sizes.journal_pages m.sizes.checkpoint_pages content held.network) p.counted held.stands;
        };
      }

-- where all is told, it keeps all
pub kept_all : (net : Net) (version durable : ℕ) (cs : List Group) (os : List Outcome) (content : List ℕ) → ComesTo 0 net version cs os → KeepsOutcomes net version cs os (length os) durable content → StandsForAccepted net version cs os content
kept_all net version durable cs os content come k =
    let long : length os ≡ length cs = as_many 0 net version cs os come in
    let same_cs : take k.kept cs ≡ cs = take_all k.kept cs (omega (arith, k.told_kept, long)) in
    let same_os : take k.kept os ≡ os = take_all k.kept os k.told_kept in
    subst (λ (l : List Outcome). StandsForAccepted net version cs l content) same_os (subst (λ (l : List Group). StandsForAccepted net version l (take k.kept os) content) same_cs k.stands)

pub applies_all : (net : Net) (version : ℕ) (cs : List Group) (os : List Outcome) (told : ℕ) (m : Machine) (content : List ℕ) (left : List ℕ → Type 0) (old new : Option (List ℕ))
    → GroupsTaken net version cs os (length os) m → IsSteady m → m.broken ≡ false → Holds content left m → left content → told ≡ length os → LinesTold old new os told
    → AppliesAll net version cs content left old new
applies_all net version cs os told m content left old new h s calm holds now all lines = record {
  outcomes = os;
  come = h.come;
  stands = kept_all net version m.durable cs os content h.come (kept_told net version (length os) cs os m h s content (holds.each_left content now));
  only = holds.only calm;
  written =
      let same : outcome_lines (take told os) ≡ outcome_lines os = ap outcome_lines (take_all told os (omega (arith, all))) in
      rw same at lines;
}

front_of : (failed : Failed) (durable : ℕ) (os : List Outcome) (told : ℕ) (old new : Option (List ℕ)) → All (IsGroupSettled durable) (take told os)
    → IfNotWrite failed (LinesTold old new os told) → IfNotWrite failed (IsUnsettledAt durable os told) → IfNotWrite failed (TellsFront durable os told old new)
front_of (Code Write) durable os told old new settled lines next = tt
front_of _ durable os told old new settled lines next = record { written = lines; settled = settled; next = next }

pub applies_some : (net : Net) (version : ℕ) (cs : List Group) (os : List Outcome) (told : ℕ) (m : Machine) (content : List ℕ) (left : List ℕ → Type 0) (old new : Option (List ℕ)) (failed : Failed)
    → FirstGroupsTaken net version cs os told m → IsSteady m → pending m ≤ 505 → Holds content left m → IfNotWrite failed (LinesTold old new os told) → IfNotWrite failed (IsUnsettledAt m.durable os told)
    → AppliesSome net version cs left old new failed
applies_some net version cs os told m content left old new failed h s waiting holds lines next = record {
  taken = h.taken;
  outcomes = os;
  come = h.come.come;
  durable = m.durable;
  waiting =
      let behind : pending m ≡ count_of (drop (m.durable - version) (accepted_outcomes (take h.taken cs) os)) =
      ap (λ (b : ℕ). count_of (drop (m.durable - b) m.accepted)) h.come.version_is ∙ ap (λ (l : List Group). count_of (drop (m.durable - version) l)) h.come.accepted_is in
      omega (arith, waiting, behind);
  told = told;
  told_to = h.come.told_to;
  each_left = λ c was. kept_told net version told (take h.taken cs) os m h.come s c (holds.each_left c was);
  front = front_of failed m.durable os told old new h.come.settled lines next;
}

-- ---- a flush, and what is told behind it
pub settle_come : (net : Net) (version told told' : ℕ) (cs : List Group) (os : List Outcome) (m m' : Machine)
    → KeepsAccepted m m' → told' ≤ length os → (All (IsGroupSettled m'.durable) (take told os) → All (IsGroupSettled m'.durable) (take told' os))
    → GroupsTaken net version cs os told m → GroupsTaken net version cs os told' m'
settle_come net version told told' cs os m m' k to more h =
    let later = come_kept net version told cs os m h m' k in
    come_told net version told cs os m' later told' to (more later.settled)

unsettled : (durable : ℕ) (o : Option Outcome) (x : Outcome) → o ≡ Some x → IfSome o (λ outcome. IsGroupSettled durable outcome → ⊥) → IsGroupSettled durable x → ⊥
unsettled durable o x is next =
    let here : IfSome (Some x) (λ outcome. IsGroupSettled durable outcome → ⊥) = subst (λ (p : Option Outcome). IfSome p (λ outcome. IsGroupSettled durable outcome → ⊥)) is next in
    here

all_if_unsettled : (durable : ℕ) (os : List Outcome) (told : ℕ) → told ≤ length os → IsUnsettledAt durable os told → All (IsGroupSettled durable) os → told ≡ length os
all_if_unsettled durable os told to next all = ⊎_elim
    (λ here.
    let last : IsGroupSettled durable (get_or os told here.0) = All-get_or (IsGroupSettled durable) os told here.0 here.1 all in
    absurd (unsettled durable (slice_get os told) here.0 here.2 next (subst (IsGroupSettled durable) here.3 last)))
    (λ past. omega (arith, to, past.0))
    (slice_get_cases os told).1

pub settle_all : (net : Net) (version told told' : ℕ) (cs : List Group) (os : List Outcome) (m m' : Machine)
    → KeepsAccepted m m' → IsSteady m' → pending m' ≡ 0 → told' ≤ length os → IsUnsettledAt m'.durable os told'
    → GroupsTaken net version cs os told m → told' ≡ length os
settle_all net version told told' cs os m m' k s none to next h =
    let later = come_kept net version told cs os m h m' k in
    let within = s.state.durable_accepted in
    let fewer = (versions_are_fewer m' s.state).0 in
    all_if_unsettled m'.durable os told' to next (settled_all net version told cs os m' later (omega (arith, within, none, fewer)))

-- ---- groups taken one by one
pub come_next : (net : Net) (version : ℕ) (cs : List Group) (i : ℕ) (d : Group) (os : List Outcome) (told : ℕ) (m : Machine) → i < length cs
    → GroupsTaken net version (take i cs ++ get_or cs i d ∷ []) os told m → GroupsTaken net version (take (i + 1) cs) os told m
come_next net version cs i d os told m lt h = subst (λ (l : List Group). GroupsTaken net version l os told m) (sym (take_more cs i d lt)) h

pub come_end : (net : Net) (version : ℕ) (cs : List Group) (i : ℕ) (os : List Outcome) (told : ℕ) (m : Machine) → length cs ≤ i
    → GroupsTaken net version (take i cs) os told m → GroupsTaken net version cs os told m
come_end net version cs i os told m end h = subst (λ (l : List Group). GroupsTaken net version l os told m) (take_all i cs end) h

pub on_ok_any : {X E : Type 0} (r : Result X E) (P : Type 0) → P → OnOk r P
on_ok_any (Ok x) P p = p
on_ok_any (Err e) P p = tt

pub on_ok_too : {X E : Type 0} (r : Result X E) (P Q : Type 0) → OnOk r P → (P → Q) → OnOk r Q
on_ok_too (Ok x) P Q p f = f p
on_ok_too (Err e) P Q p f = tt

pub on_ok_both : {X E : Type 0} (r : Result X E) (P Q R : Type 0) → OnOk r P → OnOk r Q → (P → Q → R) → OnOk r R
on_ok_both (Ok x) P Q R p q f = f p q
on_ok_both (Err e) P Q R p q f = tt

-- ---- how it ends
module _ (net : Net) (version : ℕ) (first m : Machine) (cs : List Group) (os : List Outcome) (told : ℕ) (content : List ℕ) (left : List ℕ → Type 0) (old new : Option (List ℕ)) (begun : GroupsTaken net version [] [] 0 first) (s : IsSteady m) (holds : Holds content left m) where
  pub ended_all : (r : Result (Unit {0}) Failed) → OnOk r ((n : Net) (v : ℕ) → GroupsTaken n v [] [] 0 first → GroupsTaken n v cs os told m) → OnOk r (m.broken ≡ false)
      → OnOk r ((n : Net) (v : ℕ) → GroupsTaken n v [] [] 0 first → told ≡ length os) → IfTold r (LinesTold old new os told) → left content → OnOk r (AppliesAll net version cs content left old new)
  ended_all (Ok done) come calm all lines now =
      let whole : told ≡ length os = all net version begun in
      applies_all net version cs os told m content left old new (subst (λ (n : ℕ). GroupsTaken net version cs os n m) whole (come net version begun)) s calm holds now whole lines
  ended_all (Err failed) come calm all lines now = tt

  pub ended_some : (r : Result (Unit {0}) Failed) → ((n : Net) (v : ℕ) → GroupsTaken n v [] [] 0 first → FirstGroupsTaken n v cs os told m) → pending m ≤ 505 → IfTold r (LinesTold old new os told) → IfEndedEarly r (IsUnsettledAt m.durable os told)
      → IfErr r (AppliesSome net version cs left old new)
  ended_some (Ok done) some waiting lines next = tt
  ended_some (Err failed) some waiting lines next = applies_some net version cs os told m content left old new failed (some net version begun) s waiting holds lines next

-- all that was told, also where the content isn't known
pub told_all : (net : Net) (version : ℕ) (first m : Machine) (cs : List Group) (os : List Outcome) (told : ℕ) (old new : Option (List ℕ)) → GroupsTaken net version [] [] 0 first → (r : Result (Unit {0}) Failed)
    → OnOk r ((n : Net) (v : ℕ) → GroupsTaken n v [] [] 0 first → GroupsTaken n v cs os told m) → OnOk r ((n : Net) (v : ℕ) → GroupsTaken n v [] [] 0 first → told ≡ length os) → IfTold r (LinesTold old new os told)
    → OnOk r (TellsAll net version cs old new)
told_all net version first m cs os told old new begun (Ok done) come all lines = record {
  outcomes = os;
  come = (come net version begun).come;
  written =
      let whole : told ≡ length os = all net version begun in
      let same : outcome_lines (take told os) ≡ outcome_lines os = ap outcome_lines (take_all told os (omega (arith, whole))) in
      rw same at lines;
}
told_all net version first m cs os told old new begun (Err failed) come all lines = tt

-- a stop at any moment leaves a beginning of what was accepted of the first groups
pub among : (net : Net) (version : ℕ) (cs : List Group) (os : List Outcome) (told : ℕ) (m : Machine) → FirstGroupsTaken net version cs os told m → (c : List ℕ) → StandsForMachine m c → StandsForBeginningOfGroups net version cs c
among net version cs os told m h c w =
    let of_base : StandsForBeginning net m.base_version m.accepted c = subst (λ (n : Net). StandsForBeginning n m.base_version m.accepted c) h.come.base_is w in
    let of_version : StandsForBeginning net version m.accepted c = subst (λ (v : ℕ). StandsForBeginning net v m.accepted c) h.come.version_is of_base in
    record { taken = h.taken; outcomes = os; come = h.come.come; stands = subst (λ (l : List Group). StandsForBeginning net version l c) h.come.accepted_is of_version }

-- ---- the same of a text
pub if_known : (known : Option (List ℕ)) (P : List ℕ → Type 0) → ((text : List ℕ) → P text) → IfSome known P
if_known None P p = tt
if_known (Some text) P p = p text

module _ {X : Type 0} (net : Net) (version : ℕ) (list : List Group) (left : List ℕ → Type 0) (r : Result X Failed) where
  pub applied_known : (content : List ℕ) (known : Option (List ℕ)) (rest : Source) (old new : Option (List ℕ)) → OnOk r (AppliesAll net version list content left old new) → IfSome known (λ text. ReadsText group_text text rest (Ok list))
      → OnOk r (IfSome known (λ text. IsApplied net version text content left old new))
  applied_known content known rest old new applies read = go r applies
    where
      read_so : (k : Option (List ℕ)) → IfSome k (λ text. ReadsText group_text text rest (Ok list)) → AppliesAll net version list content left old new → IfSome k (λ text. IsApplied net version text content left old new)
      read_so None said a = tt
      read_so (Some text) said a = record { list = list; list_is = said.0; applies = a }

      go : (e : Result X Failed) → OnOk e (AppliesAll net version list content left old new) → OnOk e (IfSome known (λ text. IsApplied net version text content left old new))
      go (Ok done) a = read_so known read a
      go (Err failed) a = tt

  pub cut_off_known : (A : Type 0) (known : Option (List ℕ)) (rest : Source) (old new : Option (List ℕ)) → IfErr r (AppliesSome net version list left old new) → IfSome known (λ text. ReadsText group_text text rest (Ok list))
      → IfErr r (λ failed. IfSome known (λ text. A ⊎ IsCutOff net version text left old new failed))
  cut_off_known A known rest old new applies read = go r applies
    where
      read_so : (failed : Failed) (k : Option (List ℕ)) → IfSome k (λ text. ReadsText group_text text rest (Ok list)) → AppliesSome net version list left old new failed → IfSome k (λ text. A ⊎ IsCutOff net version text left old new failed)
      read_so failed None said a = tt
      read_so failed (Some text) said a = inr (record { list = list; list_is = said.0; applies = a })

      go : (e : Result X Failed) → IfErr e (AppliesSome net version list left old new) → IfErr e (λ failed. IfSome known (λ text. A ⊎ IsCutOff net version text left old new failed))
      go (Ok done) a = tt
      go (Err failed) a = read_so failed known read a
