-- What holds of steps and of runs.
use Rattle.std.specs.Prelude.{◌≡◌, ℕ, ◌+◌, ◌-◌, ◌≤◌, List, [], ◌∷◌, ◌++◌, Some, Ok, IsSome, length, take}
use Rattle.std.specs.List.{AllByRecursion}
use Rattle.roadnet.specs.declared.groups.Group.{Group}
use Rattle.roadnet.specs.Groups.{count_of}
use Rattle.roadnet.specs.Net.{Net, nth}
use Rattle.roadnet.specs.Step.{after}
use Rattle.rows.specs.declared.queries.Query.{Query}
use Rattle.rows.specs.Replies.{IsRight}
use Rattle.machine.specs.declared.calls.Ticket.{Ticket}
use Rattle.machine.specs.declared.calls.Answer.{Answer}
use Rattle.machine.specs.Machine.{Sizes, Machine, IsState, start, most_versions, most_of_page, latest, pending, of_life, batch, groups_behind, groups_to, network_at}
use Rattle.machine.specs.Calls.{IsLeft}
use Rattle.machine.specs.Runs.{Happened, Step, Run, acknowledged}
use Rattle.machine.specs.Runs.Happened.{Asked}

-- A step leads from a state to a state.
abbrev pub StepsKeepStates : Type 0
StepsKeepStates = (old new : Machine) (h : Happened) → IsState old → Step old h new → IsState new

-- A run begins in a state.
abbrev pub StartsAreStates : Type 0
StartsAreStates =
    (sizes : Sizes) (base : Net) (version unchecked : ℕ) → version ≤ most_versions → unchecked ≤ sizes.journal_pages → IsState (start sizes base version unchecked)

-- what was durable stays so
pub record IsLater (old new : Machine) : Type 0 where
  pub sizes : new.sizes ≡ old.sizes
  pub base : new.base ≡ old.base
  pub base_version : new.base_version ≡ old.base_version
  pub durable : old.durable ≤ new.durable
  pub kept : groups_to new old.durable ≡ groups_to old old.durable

-- A step takes nothing back that is durable.
abbrev pub StepsTakeNothingBack : Type 0
StepsTakeNothingBack = (old new : Machine) (h : Happened) → IsState old → Step old h new → IsLater old new

-- These are the longest front of the groups that has no more commands than this.
pub record IsLongestFront (room : ℕ) (groups : List Group) (n : ℕ) : Type 0 where
  pub count : n ≤ length groups
  pub fits : count_of (take n groups) ≤ room
  pub longest : (k : ℕ) → k ≤ length groups → count_of (take k groups) ≤ room → k ≤ n

-- A flush takes the longest front of the pending groups that fits a journal page, and where some are pending at least one.
abbrev pub FlushTakesLongestFront : Type 0
FlushTakesLongestFront =
    (m : Machine) → IsState m → IsLongestFront most_of_page (groups_behind m m.durable) (batch m) × (m.durable + 1 ≤ latest m → 1 ≤ batch m)

-- No more versions are pending than commands, and no more in one life.
abbrev pub VersionsAreFewer : Type 0
VersionsAreFewer = (m : Machine) → IsState m → (latest m ≤ m.durable + pending m) × (latest m ≤ m.opened + of_life m)

-- There is a network at each version.
abbrev pub VersionsAreNetworks : Type 0
VersionsAreNetworks = (m : Machine) (v : ℕ) → IsState m → IsSome (network_at m v)

-- this ticket's group has its number in these groups, which follow the version
abbrev pub IsAt : ℕ → List Group → Ticket → Type 0
IsAt version groups ticket = (version + 1 ≤ ticket.number) × (nth groups (ticket.number - version) ≡ Some ticket.group)

-- the answer names a version after so many of these groups, and is right in its network
pub record IsRightAfter (base : Net) (version : ℕ) (groups : List Group) (query : Query) (answer : Answer) : Type 0 where
  pub from : version ≤ answer.version
  pub to : answer.version ≤ version + length groups
  pub network : Net
  pub network_is : after base (take (answer.version - version) groups) ≡ Some network
  pub reply : IsRight network query answer.reply

-- Whatever comes, each acknowledged group has its number among the groups of each version that a stop may leave in the end.
abbrev pub AcknowledgedStay : Type 0
AcknowledgedStay =
    (sizes : Sizes) (base : Net) (version unchecked : ℕ) (happened : List Happened) (last : Machine) (left : ℕ)
    → version ≤ most_versions → unchecked ≤ sizes.journal_pages → Run (start sizes base version unchecked) happened last → IsLeft last left
    → AllByRecursion (IsAt version (groups_to last left)) (acknowledged [] happened)

-- Whatever comes, each answer is right after so many of the groups of each version that a stop may leave in the end.
abbrev pub AnswersStayRight : Type 0
AnswersStayRight =
    (sizes : Sizes) (base : Net) (version unchecked : ℕ) (before behind : List Happened) (query : Query) (answer : Answer) (last : Machine) (left : ℕ)
    → version ≤ most_versions → unchecked ≤ sizes.journal_pages
    → Run (start sizes base version unchecked) (before ++ Asked query (Ok answer) ∷ behind) last → IsLeft last left
    → IsRightAfter base version (groups_to last left) query answer
