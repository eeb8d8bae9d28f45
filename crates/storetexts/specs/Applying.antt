-- The groups of a text while they are applied: how the ledger's machine stands to what they came to.
use Rattle.std.specs.Prelude.{◌≡◌, ℕ, ◌≤◌, ◌↔◌, false, List, [], ◌∷◌, ◌++◌, Option, None, All, OnOk, IfErr, length, take, vec_capacity, Result, Ok, Err, ⊤}
use Rattle.std.specs.Io.KnownBytes.{Appends}
use Rattle.roadnet.specs.declared.groups.Group.{Group}
use Rattle.roadnet.specs.declared.refusals.Refusal.{Refusal}
use Rattle.roadnet.specs.declared.refusals.Refusal.TheVariants.{Write}
use Rattle.roadnet.specs.Net.{Net}
use Rattle.disk.specs.declared.disk.Disk.{Ghosts}
use Rattle.pagereader.specs.Outcomes.{failures_told}
use Rattle.store.specs.Opening.{IsPassing}
use Rattle.machine.specs.Machine.{Machine, IsState, pending}
use Rattle.keeper.specs.Keeping.{LedgerState}
use Rattle.store.specs.State.{CameTidy}
use Rattle.storetexts.specs.declared.applying.Applying.{Applying}
use Rattle.storetexts.specs.declared.outcomes.Outcome.{Outcome}
use Rattle.printing.specs.declared.writer.CountedWriter.{CountedWriter}
use Rattle.printing.specs.declared.failed.Failed.{Failed}
use Rattle.printing.specs.declared.failed.Failed.TheVariants.{Text, Code}
use Rattle.storetexts.specs.Applied.{AtAnyMoment, IfNotWrite, StandsForBeginning, StandsForBeginningOfGroups, AppliesAll, AppliesSome, TellsAll}
use Rattle.storetexts.specs.Outcomes.{ComesTo, accepted_outcomes, outcome_lines, IsGroupSettled, IsUnsettledAt}
use Rattle.storetexts.specs.Refused.{CountsDevice}
use Rattle.printing.specs.Writers.{KeepsWriter}

-- a machine between two calls of one life, in which no checkpoint is going while it is not broken, and whose journal has some page
pub record IsSteady (m : Machine) : Type 0 where
  pub state : IsState m
  pub opened_is : m.opened ≡ m.base_version
  pub none_going : m.broken ≡ false → m.checkpoint ≡ None
  pub some_page : 1 ≤ m.sizes.journal_pages

-- the same where no write has failed
pub record IsReady (m : Machine) : Type 0 where
  pub steady : IsSteady m
  pub calm : m.broken ≡ false

-- the same where nothing is pending
pub record IsIdle (m : Machine) : Type 0 where
  pub ready : IsReady m
  pub none : pending m ≡ 0

-- Groups on this network at this version came to these outcomes; the machine has accepted just the accepted ones, and the first
-- outcomes, so many, are settled.
pub record GroupsTaken (net : Net) (version : ℕ) (groups : List Group) (outcomes : List Outcome) (told : ℕ) (m : Machine) : Type 0 where
  pub base_is : m.base ≡ net
  pub version_is : m.base_version ≡ version
  pub come : ComesTo 0 net version groups outcomes
  pub accepted_is : m.accepted ≡ accepted_outcomes groups outcomes
  pub told_to : told ≤ length outcomes
  pub settled : All (IsGroupSettled m.durable) (take told outcomes)

-- the same groups are accepted, and what was durable stays so
pub record KeepsAccepted (old new : Machine) : Type 0 where
  pub base : new.base ≡ old.base
  pub base_version : new.base_version ≡ old.base_version
  pub accepted : new.accepted ≡ old.accepted
  pub durable : old.durable ≤ new.durable

-- the lines of the first outcomes, so many, are what was written since
abbrev pub LinesTold : Option (List ℕ) → Option (List ℕ) → List Outcome → ℕ → Type 0
LinesTold before now outcomes told = Appends before now (outcome_lines (take told outcomes))

-- the lines are known unless the writer failed
abbrev pub IfTold : Result (Unit {0}) Failed → Type 0 → Type 0
IfTold (Ok done) told = told
IfTold (Err failed) told = IfNotWrite failed told

-- what holds where it ended early and the writer did not fail
abbrev pub IfEndedEarly : Result (Unit {0}) Failed → Type 0 → Type 0
IfEndedEarly (Ok done) P = ⊤
IfEndedEarly (Err failed) P = IfNotWrite failed P

-- memory ran out, or the disk or the writer failed
abbrev pub IsCutOffBy : Failed → Type 0
IsCutOffBy (Text which fault) = ⊥
IsCutOffBy (Code Write) = ⊤
IsCutOffBy (Code refusal) = IsPassing refusal

-- the same as `GroupsTaken` of the first of these groups
pub record FirstGroupsTaken (net : Net) (version : ℕ) (groups : List Group) (outcomes : List Outcome) (told : ℕ) (m : Machine) : Type 0 where
  pub taken : ℕ
  pub come : GroupsTaken net version (take taken groups) outcomes told m

-- ---- from one state of the applying to a later one

-- how far groups are applied: what they came to, how many of these outcomes are told, and the machine of the ledger
pub record ApplyingProgress : Type 0 where
  pub outcomes : List Outcome
  pub told : ℕ
  pub machine : Machine

abbrev pub progress : {D : Type 0} → Applying D → ApplyingProgress
progress a = record { outcomes = a.outcomes.items; told = a.told; machine = a.ledger.machine }

-- whatever groups came to the old outcomes came, with this one behind them, to the new ones
abbrev pub TakesGroup : Group → ApplyingProgress → ApplyingProgress → Type 0
TakesGroup group old new = (net : Net) (version : ℕ) (groups : List Group)
    → GroupsTaken net version groups old.outcomes old.told old.machine → GroupsTaken net version (groups ++ group ∷ []) new.outcomes new.told new.machine

-- whatever groups came to the old outcomes came to the new ones
abbrev pub KeepsGroups : ApplyingProgress → ApplyingProgress → Type 0
KeepsGroups old new = (net : Net) (version : ℕ) (groups : List Group)
    → GroupsTaken net version groups old.outcomes old.told old.machine → GroupsTaken net version groups new.outcomes new.told new.machine

-- where groups came to the old outcomes, each of the new ones is told
abbrev pub OutcomesTold : ApplyingProgress → ApplyingProgress → Type 0
OutcomesTold old new = (net : Net) (version : ℕ) (groups : List Group)
    → GroupsTaken net version groups old.outcomes old.told old.machine → new.told ≡ length new.outcomes

-- the first outcomes, so many, are settled
abbrev pub OutcomesSettled : ApplyingProgress → ℕ → Type 0
OutcomesSettled p told = All (IsGroupSettled p.machine.durable) (take told p.outcomes)

-- where the lines of what was told before were written, those of what is told now are
abbrev pub LinesFollow : Option (List ℕ) → Option (List ℕ) → ApplyingProgress → ApplyingProgress → Type 0
LinesFollow mid now old new = (before : Option (List ℕ)) → LinesTold before mid old.outcomes old.told → LinesTold before now new.outcomes new.told

-- of a ledger that has just begun, with this machine: what holds of its network and version
abbrev pub ForNewLedger : Machine → (Net → ℕ → Type 0) → Type 0
ForNewLedger first Holds = (net : Net) (version : ℕ) → GroupsTaken net version [] [] 0 first → Holds net version

-- the same of a ledger whose store came tidy
abbrev pub ForTidyLedger : {D : Type 0} → (D → Type 0) → (D → List ℕ) → LedgerState D → (Net → ℕ → Type 0) → Type 0
ForTidyLedger honest content ledger Holds = CameTidy honest content ledger.given → ForNewLedger ledger.machine Holds

-- all of these groups have come so far, or the first of them
abbrev pub GroupsTakenSince : Machine → List Group → ApplyingProgress → Type 0
GroupsTakenSince first groups p = ForNewLedger first (λ net version. GroupsTaken net version groups p.outcomes p.told p.machine)

abbrev pub FirstGroupsTakenSince : Machine → List Group → ApplyingProgress → Type 0
FirstGroupsTakenSince first groups p = ForNewLedger first (λ net version. FirstGroupsTaken net version groups p.outcomes p.told p.machine)

-- ---- what the calls have in common

-- the content stands for the network after a beginning of the machine's accepted groups
abbrev pub StandsForMachine : Machine → List ℕ → Type 0
StandsForMachine m content = StandsForBeginning m.base m.base_version m.accepted content

-- Where the store came tidy: if a stop at any moment since the first disk left what it might have left of that one, or a beginning of the accepted
-- groups, then so it does after the call.
abbrev pub LeavesLedger : {D : Type 0} → Ghosts D → LedgerState D → LedgerState D → Type 0
LeavesLedger {D} disk old new = CameTidy disk.honest disk.content old.given → (first : D)
    → AtAnyMoment disk.moment disk.left_since disk.left first old.disk (StandsForMachine old.machine)
    → AtAnyMoment disk.moment disk.left_since disk.left first new.disk (StandsForMachine new.machine)

-- no group has come yet
pub record IsNew {D : Type 0} (a : Applying D) : Type 0 where
  pub idle : IsIdle a.ledger.machine
  pub none_come : a.outcomes.items ≡ []
  pub untold : a.told ≡ 0

-- From one state to a later one: no call is going, and the disk is as honest, and leaves no more, as said.
pub record Goes {D : Type 0} (disk : Ghosts D) (old new : Applying D) : Type 0 where
  pub steady : IsSteady new.ledger.machine
  pub leaves : LeavesLedger disk old.ledger new.ledger
  pub given : new.ledger.given ≡ old.ledger.given
  pub honest : disk.honest new.ledger.disk ↔ disk.honest old.ledger.disk
  pub room : vec_capacity new.outcomes ≡ vec_capacity old.outcomes

-- A call that writes for the groups that have come: none is lost or told by it, and no more commands are pending. Each failure of the disk is counted.
pub record Saves {D T : Type 0} (disk : Ghosts D) (result : Result T Refusal) (old new : Applying D) : Type 0 where
  pub goes : Goes disk old new
  pub kept : KeepsAccepted old.ledger.machine new.ledger.machine
  pub no_more : pending new.ledger.machine ≤ pending old.ledger.machine
  pub calm : OnOk result (new.ledger.machine.broken ≡ false)
  pub outcomes : new.outcomes ≡ old.outcomes
  pub told : new.told ≡ old.told
  pub counted : disk.failures new.ledger.disk ≡ failures_told result (disk.failures old.ledger.disk)

-- A call that also tells. What is told ends before the first group that isn't durable. It ends early where memory ran out, or the disk or the writer
-- failed, which is counted.
pub record Advances {D W : Type 0} (disk : Ghosts D) (result : Result (Unit {0}) Failed) (old new : Applying D) (before after : CountedWriter W) : Type 0 where
  pub goes : Goes disk old new
  pub calm : OnOk result (new.ledger.machine.broken ≡ false)
  pub waiting : pending new.ledger.machine ≤ 505
  pub told_to : new.told ≤ length new.outcomes.items
  pub next : IfEndedEarly result (IsUnsettledAt new.ledger.machine.durable new.outcomes.items new.told)
  pub refused : IfErr result IsCutOffBy
  pub counted : CountsDevice (disk.failures old.ledger.disk) (disk.failures new.ledger.disk) result
  pub writer : KeepsWriter result before after

-- What applying these groups to the store of a ledger that has just begun comes to: with the disk, and with what was written before and after.
pub record AppliesGroups {D : Type 0} (disk : Ghosts D) (ledger : LedgerState D) (groups : List Group) (result : Result (Unit {0}) Failed) (new : D) (before after : Option (List ℕ)) : Type 0 where
  pub applied : ForTidyLedger disk.honest disk.content ledger (λ net version. OnOk result (AppliesAll net version groups (disk.content new) (disk.left new) before after))
  pub cut_off : ForTidyLedger disk.honest disk.content ledger (λ net version. IfErr result (AppliesSome net version groups (disk.left new) before after))
  pub told : ForNewLedger ledger.machine (λ net version. OnOk result (TellsAll net version groups before after))
  pub any_moment : ForTidyLedger disk.honest disk.content ledger (λ net version. AtAnyMoment disk.moment disk.left_since disk.left ledger.disk new (StandsForBeginningOfGroups net version groups))
  pub refused : IfErr result IsCutOffBy
  pub counted : CountsDevice (disk.failures ledger.disk) (disk.failures new) result
  pub honest : disk.honest new ↔ disk.honest ledger.disk
