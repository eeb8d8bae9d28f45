-- What a store and a writer are left with once the groups of a text were applied, and for what that is refused.
use Rattle.std.specs.Prelude.{◌≡◌, ◌⊎◌, ℕ, zero, ◌+◌, ◌≤◌, List, All, Option, Some, Ok, Result, ⊤, length, take, drop, ◌-◌}
use Rattle.std.specs.Io.KnownBytes.{Appends}
use Rattle.roadnet.specs.declared.groups.Group.{Group}
use Rattle.roadnet.specs.declared.refusals.Refusal.TheVariants.{NotAStore, WrongFormat, Damaged, Write}
use Rattle.roadnet.specs.Net.{Net}
use Rattle.roadnet.specs.Groups.{count_of}
use Rattle.roadnet.specs.Step.{after}
use Rattle.dimacs.specs.declared.fault.Fault.{Fault}
use Rattle.dimacs.specs.Commanded.{group_text}
use Rattle.dimacs.specs.Lines.{rows}
use Rattle.dimacs.specs.Texts.{Source, IsUnread, FaultOf, content_by}
use Rattle.disk.specs.Contents.{Only}
use Rattle.disk.specs.Moments.{LeavesOnly}
use Rattle.storefile.specs.StoreFile.{StandsTidyFor}
use Rattle.printing.specs.declared.failed.Failed.{Failed}
use Rattle.printing.specs.declared.failed.Failed.TheVariants.{Text, Code}
use Rattle.storetexts.specs.declared.outcomes.Outcome.{Outcome}
use Rattle.storetexts.specs.Asked.{OfStore, IsStoreUnopened}
use Rattle.storetexts.specs.Outcomes.{ComesTo, accepted_outcomes, outcome_lines, IsGroupSettled, IsUnsettledAt}

-- the groups of a text, in order, or its fault
abbrev pub groups_of_text : List ℕ → Result (List Group) Fault
groups_of_text text = content_by group_text (rows text)

-- the content, whatever its sizes, is tidy and stands for the network after the accepted ones of these groups, each counted
pub record StandsForAccepted (net : Net) (version : ℕ) (groups : List Group) (outcomes : List Outcome) (content : List ℕ) : Type 0 where
  pub network : Net
  pub network_is : after net (accepted_outcomes groups outcomes) ≡ Some network
  pub journal_pages : ℕ
  pub checkpoint_pages : ℕ
  pub stands : StandsTidyFor journal_pages checkpoint_pages content network (version + length (accepted_outcomes groups outcomes))

-- All of a store's groups came to these outcomes, each of which is told; the content is what a stop leaves, and stands for the network after them.
pub record AppliesAll (net : Net) (version : ℕ) (list : List Group) (content : List ℕ) (left : List ℕ → Type 0) (old new : Option (List ℕ)) : Type 0 where
  pub outcomes : List Outcome
  pub come : ComesTo 0 net version list outcomes
  pub stands : StandsForAccepted net version list outcomes content
  pub only : Only content left
  pub written : Appends old new (outcome_lines outcomes)

-- the same for the groups of a text
pub record IsApplied (net : Net) (version : ℕ) (text content : List ℕ) (left : List ℕ → Type 0) (old new : Option (List ℕ)) : Type 0 where
  pub list : List Group
  pub list_is : groups_of_text text ≡ Ok list
  pub applies : AppliesAll net version list content left old new

-- The content stands for the network after the first of these groups, with their outcomes: no fewer than were told, and all that are
-- durable.
pub record KeepsOutcomes (net : Net) (version : ℕ) (groups : List Group) (outcomes : List Outcome) (told durable : ℕ) (content : List ℕ) : Type 0 where
  pub kept : ℕ
  pub told_kept : told ≤ kept
  pub kept_to : kept ≤ length outcomes
  pub durable_kept : durable ≤ version + length (accepted_outcomes (take kept groups) (take kept outcomes))
  pub stands : StandsForAccepted net version (take kept groups) (take kept outcomes) content

-- what holds where the writer did not fail
abbrev pub IfNotWrite : Failed → Type 0 → Type 0
IfNotWrite (Code Write) written = ⊤
IfNotWrite failed written = written

-- these lines are told: those of the outcomes before the first group that isn't durable, and nothing else
pub record TellsFront (durable : ℕ) (outcomes : List Outcome) (told : ℕ) (old new : Option (List ℕ)) : Type 0 where
  pub written : Appends old new (outcome_lines (take told outcomes))
  pub settled : All (IsGroupSettled durable) (take told outcomes)
  pub next : IsUnsettledAt durable outcomes told

-- Only the first groups were taken, and came to these outcomes; the accepted ones that are not durable have at most 505 commands. Each content that a stop
-- may leave stands for the network after the first groups, no fewer than were told: nothing that was told is lost.
pub record AppliesSome (net : Net) (version : ℕ) (list : List Group) (left : List ℕ → Type 0) (old new : Option (List ℕ)) (failed : Failed) : Type 0 where
  pub taken : ℕ
  pub outcomes : List Outcome
  pub come : ComesTo 0 net version (take taken list) outcomes
  pub durable : ℕ
  pub waiting : count_of (drop (durable - version) (accepted_outcomes (take taken list) outcomes)) ≤ 505
  pub told : ℕ
  pub told_to : told ≤ length outcomes
  pub each_left : (content : List ℕ) → left content → KeepsOutcomes net version (take taken list) outcomes told durable content
  pub front : IfNotWrite failed (TellsFront durable outcomes told old new)

-- the same for the groups of a text
pub record IsCutOff (net : Net) (version : ℕ) (text : List ℕ) (left : List ℕ → Type 0) (old new : Option (List ℕ)) (failed : Failed) : Type 0 where
  pub list : List Group
  pub list_is : groups_of_text text ≡ Ok list
  pub applies : AppliesSome net version list left old new failed

-- ---- what is known without a tidy content

-- all of these groups came to outcomes on this network from this version on; their lines are written, and nothing else
pub record TellsAll (net : Net) (version : ℕ) (list : List Group) (old new : Option (List ℕ)) : Type 0 where
  pub outcomes : List Outcome
  pub come : ComesTo 0 net version list outcomes
  pub written : Appends old new (outcome_lines outcomes)

-- the same for the groups of a text
pub record TellsText (text : List ℕ) (old new : Option (List ℕ)) (net : Net) (version : ℕ) : Type 0 where
  pub list : List Group
  pub list_is : groups_of_text text ≡ Ok list
  pub tells : TellsAll net version list old new

-- a store was opened, and all groups of the text are told, on its network from its version on
abbrev pub AreGroupsTold : Type 0 → List ℕ → List ℕ → Option (List ℕ) → Option (List ℕ) → Type 0
AreGroupsTold Honest file text old new = OfStore Honest file (TellsText text old new)

-- ---- a stop at any moment

-- the content, whatever its sizes, is tidy and stands for the network after a beginning of these groups, each counted
pub record StandsForBeginning (net : Net) (version : ℕ) (accepted : List Group) (content : List ℕ) : Type 0 where
  pub count : ℕ
  pub count_to : count ≤ length accepted
  pub network : Net
  pub network_is : after net (take count accepted) ≡ Some network
  pub journal_pages : ℕ
  pub checkpoint_pages : ℕ
  pub stands : StandsTidyFor journal_pages checkpoint_pages content network (version + count)

-- the same for the accepted ones of the first of these groups
pub record StandsForBeginningOfGroups (net : Net) (version : ℕ) (list : List Group) (content : List ℕ) : Type 0 where
  pub taken : ℕ
  pub outcomes : List Outcome
  pub come : ComesTo 0 net version (take taken list) outcomes
  pub stands : StandsForBeginning net version (accepted_outcomes (take taken list) outcomes) content

-- the same for the groups of a text
pub record StandsForBeginningOfText (net : Net) (version : ℕ) (text content : List ℕ) : Type 0 where
  pub list : List Group
  pub list_is : groups_of_text text ≡ Ok list
  pub stands : StandsForBeginningOfGroups net version list content

-- a stop at any moment from old to new leaves what it might have left before, or what has P
abbrev pub AtAnyMoment : {D : Type 0} → (D → ℕ) → (D → ℕ → List ℕ → Type 0) → (D → List ℕ → Type 0) → D → D → (List ℕ → Type 0) → Type 0
AtAnyMoment moment left_since left old new P = LeavesOnly moment left_since old new (λ content. left old content ⊎ P content)

-- what holds of the network and the version that the disk's content stands for, tidily, where the disk keeps the disk model
abbrev pub ForTidy : {D : Type 0} → (D → Type 0) → (D → List ℕ) → D → (Net → ℕ → Type 0) → Type 0
ForTidy honest content disk Holds =
    honest disk → (journal_pages checkpoint_pages : ℕ) (net : Net) (version : ℕ) → StandsTidyFor journal_pages checkpoint_pages (content disk) net version → Holds net version

-- ---- refusals

-- the text has a fault, or the file is refused as it is opened: no group was taken
abbrev pub IfTextOrFileRefused : Failed → Type 0 → Type 0
IfTextOrFileRefused (Text which fault) same = same
IfTextOrFileRefused (Code NotAStore) same = same
IfTextOrFileRefused (Code WrongFormat) same = same
IfTextOrFileRefused (Code (Damaged page)) same = same
IfTextOrFileRefused (Code refusal) same = ⊤

-- the text has no fault
abbrev pub GivesGroups : List ℕ → Net → ℕ → Type 0
GivesGroups text net version = (list : List Group) × (groups_of_text text ≡ Ok list)

-- A store was opened and the text has its fault told, or its reader failed in it. Where a store was opened and the text has no fault, the
-- writer failed, memory ran out, or the disk failed. Or opening is refused, and the text isn't read.
abbrev pub IsRefusedApply : Type 0 → List ℕ → List ℕ → Source → Failed → Type 0
IsRefusedApply Honest file text source (Text zero fault) = OfStore Honest file (λ net version. FaultOf group_text text source fault)
IsRefusedApply Honest file text source (Code Write) = OfStore Honest file (GivesGroups text)
IsRefusedApply Honest file text source (Code refusal) = IsStoreUnopened Honest file refusal × (IsUnread text source ⊎ OfStore Honest file (GivesGroups text))
IsRefusedApply Honest file text source failed = ⊥
