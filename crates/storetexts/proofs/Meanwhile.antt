-- What a stop at any moment leaves while groups are applied, and what the disk's count of failures is.
use Rattle.std.proofs.Common.{◌≡◌, ◌∙◌, ◌⊎◌, ⊎_elim, inl, inr, ℕ, ◌+◌, ◌-◌, ◌≤◌, false, List, [], ◌∷◌, ◌++◌, append-nil, length-append, Result, Ok, Err, refl, sym, ap, subst, arith}
use Rattle.std.proofs.lemmas.List.{take-append-le}
use Rattle.roadnet.specs.declared.groups.Group.{Group}
use Rattle.roadnet.specs.declared.refusals.Refusal.{Refusal}
use Rattle.roadnet.specs.declared.refusals.Refusal.TheVariants.{Write}
use Rattle.roadnet.specs.Net.{Net}
use Rattle.roadnet.specs.Step.{after}
use Rattle.disk.specs.declared.disk.Disk.{Ghosts}
use Rattle.disk.specs.Moments.{LeavesOnly}
use Rattle.disk.proofs.Steps.{and_then, weaker}
use Rattle.pagereader.specs.Outcomes.{failures_with}
use Rattle.storefile.specs.StoreFile.{StandsTidyFor}
use Rattle.machine.specs.declared.calls.Ticket.{Ticket}
use Rattle.machine.specs.Machine.{Machine, IsState, batch, latest}
use Rattle.machine.specs.Calls.{Submits, Flushes, failed}
use Rattle.machine.proofs.Counted.{batch_count}
use Rattle.machine.proofs.Kept.{left_between, broken}
use Rattle.keeper.specs.Keeping.{LedgerState, IsDurableIn}
use Rattle.printing.specs.declared.failed.Failed.{Failed}
use Rattle.printing.specs.declared.failed.Failed.TheVariants.{Code}
use Rattle.store.specs.State.{CameTidy}
use Rattle.storetexts.specs.Applied.{StandsForBeginning}
use Rattle.storetexts.specs.Applying.{IsSteady, IsReady, KeepsAccepted, StandsForMachine, LeavesLedger, Goes}
use Rattle.storetexts.specs.declared.applying.Applying.{Applying}
use Rattle.storetexts.specs.Refused.{CountsDevice}

-- ---- the accepted groups grow
-- the accepted groups of the new machine begin with those of the old one
pub record Grows (old new : Machine) : Type 0 where
  pub base : new.base ≡ old.base
  pub base_version : new.base_version ≡ old.base_version
  pub more : List Group
  pub accepted : new.accepted ≡ old.accepted ++ more

pub within_more : (net : Net) (version : ℕ) (accepted more : List Group) (c : List ℕ) → StandsForBeginning net version accepted c → StandsForBeginning net version (accepted ++ more) c
within_more net version accepted more c w = record {
  count = w.count;
  count_to = omega (arith, w.count_to, length-append accepted more);
  network = w.network;
  network_is = ap (after net) (take-append-le w.count accepted more w.count_to) ∙ w.network_is;
  journal_pages = w.journal_pages;
  checkpoint_pages = w.checkpoint_pages;
  stands = w.stands;
}

pub in_more : (m n : Machine) → Grows m n → (c : List ℕ) → StandsForMachine m c → StandsForMachine n c
in_more m n g c w =
    let more : StandsForBeginning m.base m.base_version (m.accepted ++ g.more) c = within_more m.base m.base_version m.accepted g.more c w in
    let of_base : StandsForBeginning n.base m.base_version (m.accepted ++ g.more) c = subst (λ (b : Net). StandsForBeginning b m.base_version (m.accepted ++ g.more) c) (sym g.base) more in
    let of_version : StandsForBeginning n.base n.base_version (m.accepted ++ g.more) c = subst (λ (v : ℕ). StandsForBeginning n.base v (m.accepted ++ g.more) c) (sym g.base_version) of_base in
    subst (λ (l : List Group). StandsForBeginning n.base n.base_version l c) (sym g.accepted) of_version

pub grows_none : (m : Machine) → Grows m m
grows_none m = record { base = refl; base_version = refl; more = []; accepted = sym (append-nil m.accepted) }

pub grows_kept : (m n : Machine) → KeepsAccepted m n → Grows m n
grows_kept m n k = record { base = k.base; base_version = k.base_version; more = []; accepted = k.accepted ∙ sym (append-nil m.accepted) }

-- what one call kept, and the next
pub kept_both : (l m n : Machine) → KeepsAccepted l m → KeepsAccepted m n → KeepsAccepted l n
kept_both l m n g h = record {
  base = h.base ∙ g.base;
  base_version = h.base_version ∙ g.base_version;
  accepted = h.accepted ∙ g.accepted;
  durable = let first = g.durable in let second = h.durable in omega (arith, first, second);
}

pub grows_submit : (m n : Machine) (c : Group) (r : Result Ticket Refusal) → Submits m c r n → Grows m n
grows_submit m n c (Ok t) h = subst (Grows m) (sym h.2) (record { base = refl; base_version = refl; more = c ∷ []; accepted = refl })
grows_submit m n c (Err r) h = subst (Grows m) (sym h.1) (grows_none m)

pub grows_flush : (m n : Machine) (r : Result ℕ Refusal) → Flushes m r n → Grows m n
grows_flush m n (Ok v) h = subst (Grows m) (sym h.1) (record { base = refl; base_version = refl; more = []; accepted = sym (append-nil m.accepted) })
grows_flush m n (Err r) h = ⊎_elim (λ refused. subst (Grows m) (sym refused.1) (grows_none m))
    (λ broke. subst (Grows m) (sym broke.2) (record { base = refl; base_version = refl; more = []; accepted = sym (append-nil m.accepted) })) h

-- ---- what a flush and a checkpoint leave
pub durable_within : (m : Machine) → IsState m → (c : List ℕ) → IsDurableIn m c → StandsForMachine m c
durable_within m s c held =
    let v = held.version in
    let between = left_between m s v held.left in
    let from : m.durable ≤ v = between.0 in
    let to : v ≤ latest m = between.1 in
    let base : m.base_version ≤ m.durable = let a = s.base_opened in let b = s.opened_shown in let d = s.shown_durable in omega (arith, a, b, d) in
    let counted : v ≡ m.base_version + (v - m.base_version) = omega (arith, base, from) in
    record {
      count = v - m.base_version;
      count_to = omega (arith, to);
      network = held.network;
      network_is = held.network_is;
      journal_pages = m.sizes.journal_pages;
      checkpoint_pages = m.sizes.checkpoint_pages;
      stands = subst (StandsTidyFor m.sizes.journal_pages m.sizes.checkpoint_pages c held.network) counted held.stands;
    }

pub in_flight_within : (m : Machine) → IsState m → (c : List ℕ) → IsDurableIn (failed m (batch m)) c → StandsForMachine m c
in_flight_within m s c held =
    durable_within (failed m (batch m)) (broken m s (batch m) (batch_count m s)) c held

-- ---- one ledger after the other
module _ {D : Type 0} (disk : Ghosts D) where
  -- a stop leaves what it might have left of the first disk, or this
  abbrev LeftOr : D → Machine → List ℕ → Type 0
  LeftOr first m c = disk.left first c ⊎ StandsForMachine m c

  grown : (first now : D) (m n : Machine) → Grows m n → LeavesOnly disk.moment disk.left_since first now (LeftOr first m) → LeavesOnly disk.moment disk.left_since first now (LeftOr first n)
  grown first now m n g was = weaker disk.moment disk.left_since first now (LeftOr first m) (LeftOr first n) was (λ c. ⊎_elim (λ left. inl left) (λ stands. inr (in_more m n g c stands)))

  pub leaves_both : (old mid new : LedgerState D) → mid.given ≡ old.given → LeavesLedger disk old mid → LeavesLedger disk mid new → LeavesLedger disk old new
  leaves_both old mid new given a b came first was = b (subst (CameTidy disk.honest disk.content) (sym given) came) first (a came first was)

  pub leaves_same : (old new : LedgerState D) → new.disk ≡ old.disk → Grows old.machine new.machine → LeavesLedger disk old new
  leaves_same old new same g came first was = subst (λ (d : D). LeavesOnly disk.moment disk.left_since first d (LeftOr first new.machine)) (sym same) (grown first old.disk old.machine new.machine g was)

  leaves_by : (old new : LedgerState D) (P : List ℕ → Type 0) → ((c : List ℕ) → P c → StandsForMachine old.machine c) → Grows old.machine new.machine
      → (CameTidy disk.honest disk.content old.given → LeavesOnly disk.moment disk.left_since old.disk new.disk P) → LeavesLedger disk old new
  leaves_by old new P f g leaves came first was =
      and_then disk.moment disk.left_since first old.disk new.disk (LeftOr first new.machine) P (grown first old.disk old.machine new.machine g was) (leaves came)
      (λ c p. inr (in_more old.machine new.machine g c (f c p)))

  pub leaves_flush : (old new : LedgerState D) (r : Result ℕ Refusal) → Flushes old.machine r new.machine → IsReady old.machine
      → (CameTidy disk.honest disk.content old.given → old.machine.broken ≡ false → LeavesOnly disk.moment disk.left_since old.disk new.disk (IsDurableIn (failed old.machine (batch old.machine))))
      → LeavesLedger disk old new
  leaves_flush old new r step ready leaves =
      leaves_by old new (IsDurableIn (failed old.machine (batch old.machine))) (in_flight_within old.machine ready.steady.state) (grows_flush old.machine new.machine r step) (λ came. leaves came ready.calm)

  pub leaves_checkpoint : (old new : LedgerState D) → KeepsAccepted old.machine new.machine → IsReady old.machine
      → (CameTidy disk.honest disk.content old.given → old.machine.broken ≡ false → LeavesOnly disk.moment disk.left_since old.disk new.disk (IsDurableIn old.machine))
      → LeavesLedger disk old new
  leaves_checkpoint old new kept ready leaves =
      leaves_by old new (IsDurableIn old.machine) (durable_within old.machine ready.steady.state) (grows_kept old.machine new.machine kept) (λ came. leaves came ready.calm)

  pub goes_none : (a : Applying D) → IsSteady a.ledger.machine → Goes disk a a
  goes_none a steady = record { steady = steady; leaves = λ came first was. was; given = refl; honest = (λ h. h, λ h. h); room = refl }

  pub goes_both : (old mid new : Applying D) → Goes disk old mid → Goes disk mid new → Goes disk old new
  goes_both old mid new a b = record {
    steady = b.steady;
    leaves = leaves_both old.ledger mid.ledger new.ledger a.given a.leaves b.leaves;
    given = b.given ∙ a.given;
    honest = (λ now. a.honest.0 (b.honest.0 now), λ was. b.honest.1 (a.honest.1 was));
    room = b.room ∙ a.room;
  }

-- ---- failures
pub counts_code : (X : Type 0) (refusal : Refusal) (old new : ℕ) → new ≡ failures_with refusal old → CountsDevice {X = X} old new (Err (Code refusal))
counts_code X Write old new h = tt
counts_code X _ old new h = h

pub counts_write : (X : Type 0) (failed : Failed) (old new : ℕ) → failed ≡ Code Write → CountsDevice {X = X} old new (Err failed)
counts_write X failed old new is = subst (λ (f : Failed). CountsDevice {X = X} old new (Err f)) (sym is) tt

pub counts_from : {X : Type 0} (r : Result X Failed) (old mid new : ℕ) → mid ≡ old → CountsDevice mid new r → CountsDevice old new r
counts_from r old mid new same h = subst (λ (n : ℕ). CountsDevice n new r) same h
