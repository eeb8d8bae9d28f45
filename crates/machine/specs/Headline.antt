-- What holds of each script, wherever it is stopped and however early its run ends.
use Rattle.std.specs.Prelude.{◌≡◌, ◌⊎◌, ℕ, ◌+◌, ◌-◌, ◌≤◌, Bool, true, false, List, [], ◌∷◌, ◌++◌, Option, None, Some, length, map, take}
use Rattle.std.specs.List.{AllByRecursion, flat_map}
use Rattle.roadnet.specs.declared.groups.Group.{Group}
use Rattle.roadnet.specs.declared.refusals.Refusal.{Refusal}
use Rattle.roadnet.specs.Net.{Net}
use Rattle.roadnet.specs.Step.{after}
use Rattle.machine.specs.declared.calls.Ticket.{Ticket}
use Rattle.machine.specs.declared.events.Event.{Event}
use Rattle.machine.specs.declared.events.Event.TheVariants.{Submit, Flush, Stop, StopWithin}
use Rattle.machine.specs.declared.events.Writing.TheVariants.{Flush as a_flush}
use Rattle.machine.specs.declared.events.Replied.{Replied}
use Rattle.machine.specs.declared.events.Replied.TheVariants.{Accepted, Durable, Answered, Opened, Stopped}
use Rattle.machine.specs.Machine.{Sizes, Machine, start, most_versions, groups_to}
use Rattle.machine.specs.Calls.{IsLeft}
use Rattle.machine.specs.Runs.{Happened, Run, up_to}
use Rattle.machine.specs.Laws.{IsAt, IsRightAfter}
use Rattle.machine.specs.Lives.{Turn, Lives}

-- what a stop with these replies leaves of these tickets: those up to the version that is opened, and none where none is
abbrev pub left_by : List Ticket → List Replied → List Ticket
left_by held [] = []
left_by held (Opened version ∷ replies) = up_to version held
left_by held (_ ∷ replies) = left_by held replies

-- the tickets whose groups stand behind this event with these replies, where those of these stood before
abbrev pub held_behind : {P : Type 0} → List Ticket → Event P → List Replied → List Ticket
held_behind held (Submit group) (Accepted number ∷ replies) = record { number = number; group = group } ∷ held
held_behind held Stop replies = left_by held replies
held_behind held (StopWithin call picks writing) replies = left_by held replies
held_behind held _ replies = held

-- the tickets whose groups a flush with these replies acknowledges
abbrev pub durable_by : List Ticket → List Replied → List Ticket
durable_by held (Durable version ∷ replies) = up_to version held
durable_by held _ = []

-- the tickets whose groups this event with these replies acknowledges
abbrev pub acknowledged_with : {P : Type 0} → List Ticket → Event P → List Replied → List Ticket
acknowledged_with held Flush replies = durable_by held replies
acknowledged_with held (StopWithin call picks a_flush) replies = durable_by held replies
acknowledged_with held _ replies = []

-- the tickets whose groups are acknowledged in these turns
abbrev pub acknowledged_in : {P : Type 0} → List Ticket → List (Turn P) → List Ticket
acknowledged_in held [] = []
acknowledged_in held (turn ∷ turns) = acknowledged_with held turn.0 turn.1 ++ acknowledged_in (held_behind held turn.0 turn.1) turns

-- what a stop with these replies leaves of these groups, which follow the version: those up to the version that is opened, and all where
-- none is, since nothing follows then
abbrev pub groups_left : ℕ → List Group → List Replied → List Group
groups_left version accepted [] = accepted
groups_left version accepted (Opened opened ∷ replies) = take (opened - version) accepted
groups_left version accepted (_ ∷ replies) = groups_left version accepted replies

-- the accepted groups behind this event with these replies, where these were before
abbrev pub accepted_behind : {P : Type 0} → ℕ → List Group → Event P → List Replied → List Group
accepted_behind version accepted (Submit group) (Accepted number ∷ replies) = accepted ++ group ∷ []
accepted_behind version accepted Stop replies = groups_left version accepted replies
accepted_behind version accepted (StopWithin call picks writing) replies = groups_left version accepted replies
accepted_behind version accepted _ replies = accepted

-- the accepted groups behind these turns, of a run that began with this version
abbrev pub accepted_in : {P : Type 0} → ℕ → List Group → List (Turn P) → List Group
accepted_in version accepted [] = accepted
accepted_in version accepted (turn ∷ turns) = accepted_in version (accepted_behind version accepted turn.0 turn.1) turns

-- whether the reply is a stop's own
abbrev pub is_of_stop : Replied → Bool
is_of_stop (Opened version) = true
is_of_stop Stopped = true
is_of_stop _ = false

-- the replies of a stop within an event: its own alone, or that event's before it
abbrev pub TellsStop : List Replied → Type 0
TellsStop replies =
    (own : Replied) × (is_of_stop own ≡ true)
    × ((replies ≡ own ∷ []) ⊎ ((reply : Replied) × (is_of_stop reply ≡ false) × (replies ≡ reply ∷ own ∷ [])))

-- the event has so many replies as its kind: each other one has one
abbrev pub HasReplies : {P : Type 0} → Event P → List Replied → Type 0
HasReplies (StopWithin call picks writing) replies = TellsStop replies
HasReplies _ replies = (reply : Replied) × (replies ≡ reply ∷ [])

abbrev pub EachHasReplies : {P : Type 0} → List (Turn P) → Type 0
EachHasReplies turns = AllByRecursion (λ turn. HasReplies turn.0 turn.1) turns

-- an answer is right after so many of these groups; of other replies nothing is asked
abbrev pub IsRightReply : Net → ℕ → List Group → Replied → Type 0
IsRightReply base version groups (Answered query answer) = IsRightAfter base version groups query answer
IsRightReply base version groups _ = Unit {0}

-- The run of a script is a run of the machine's calls.
abbrev pub ScriptsAreRuns : Type 0 → Type 0
ScriptsAreRuns P =
    (first : Machine) (events : List (Event P)) (replies : List Replied) (ended : Option Refusal) (history : List Group) (last : Machine)
    → Lives first events replies ended history last → (happened : List Happened) × Run first happened last

-- Which replies are whose is told by the events and the replies alone.
abbrev pub TurnsAreTold : Type 0 → Type 0
TurnsAreTold P =
    (turns others : List (Turn P)) (rest other_rest : List (Event P))
    → map (λ turn. turn.0) turns ++ rest ≡ map (λ turn. turn.0) others ++ other_rest
    → flat_map (λ turn. turn.1) turns ≡ flat_map (λ turn. turn.1) others
    → EachHasReplies turns → EachHasReplies others → turns ≡ others

-- The history of a run that is whole is the accepted groups.
abbrev pub WholeHistoriesAreAccepted : Type 0 → Type 0
WholeHistoriesAreAccepted P =
    (sizes : Sizes) (base : Net) (version unchecked : ℕ) (events : List (Event P)) (replies : List Replied) (history : List Group) (last : Machine)
    → version ≤ most_versions → unchecked ≤ sizes.journal_pages
    → (lives : Lives (start sizes base version unchecked) events replies None history last)
    → history ≡ accepted_in version [] lives.turns

-- Each acknowledged group has its number in the history.
abbrev pub AcknowledgedAreInHistory : Type 0 → Type 0
AcknowledgedAreInHistory P =
    (sizes : Sizes) (base : Net) (version unchecked : ℕ) (events : List (Event P)) (replies : List Replied) (ended : Option Refusal) (history : List Group) (last : Machine)
    → version ≤ most_versions → unchecked ≤ sizes.journal_pages
    → (lives : Lives (start sizes base version unchecked) events replies ended history last)
    → AllByRecursion (IsAt version history) (acknowledged_in [] lives.turns)

-- Whatever version a stop leaves in the end, each acknowledged group has its number among the groups up to it.
abbrev pub StopsLeaveAcknowledged : Type 0 → Type 0
StopsLeaveAcknowledged P =
    (sizes : Sizes) (base : Net) (version unchecked : ℕ) (events : List (Event P)) (replies : List Replied) (ended : Option Refusal) (history : List Group) (last : Machine) (left : ℕ)
    → version ≤ most_versions → unchecked ≤ sizes.journal_pages
    → (lives : Lives (start sizes base version unchecked) events replies ended history last) → IsLeft last left
    → AllByRecursion (IsAt version (groups_to last left)) (acknowledged_in [] lives.turns)

-- Each answered query is right in the network after so many groups of the history as its version says.
abbrev pub AnswersAreRight : Type 0 → Type 0
AnswersAreRight P =
    (sizes : Sizes) (base : Net) (version unchecked : ℕ) (events : List (Event P)) (replies : List Replied) (ended : Option Refusal) (history : List Group) (last : Machine)
    → version ≤ most_versions → unchecked ≤ sizes.journal_pages
    → Lives (start sizes base version unchecked) events replies ended history last
    → AllByRecursion (IsRightReply base version history) replies

-- Whatever version a stop leaves in the end, each answered query names one up to it, and is right in the network after that many of the
-- groups that are left: no stop takes an answer's version back.
abbrev pub StopsLeaveAnswers : Type 0 → Type 0
StopsLeaveAnswers P =
    (sizes : Sizes) (base : Net) (version unchecked : ℕ) (events : List (Event P)) (replies : List Replied) (ended : Option Refusal) (history : List Group) (last : Machine) (left : ℕ)
    → version ≤ most_versions → unchecked ≤ sizes.journal_pages
    → Lives (start sizes base version unchecked) events replies ended history last → IsLeft last left
    → AllByRecursion (IsRightReply base version (groups_to last left)) replies

-- WITH A DISK

-- The content stands for the network after a beginning of these groups, in which each acknowledged group has its number, and in whose
-- networks each answer is right.
pub record HoldsTold (StandsFor : List ℕ → Net → ℕ → Type 0) (base : Net) (version : ℕ) (accepted : List Group) (acknowledged : List Ticket) (replies : List Replied) (content : List ℕ) : Type 0 where
  -- how many groups are left
  pub count : ℕ
  pub count_to : count ≤ length accepted
  pub network : Net
  pub network_is : after base (take count accepted) ≡ Some network
  pub stands : StandsFor content network (version + count)
  pub each_acknowledged : AllByRecursion (IsAt version (take count accepted)) acknowledged
  pub each_answer : AllByRecursion (IsRightReply base version (take count accepted)) replies

-- THE HEADLINE, of a run of these events that began with this network and version: whatever content a stop leaves, it holds what was told.
-- The accepted groups are what the turns themselves say. The history begins them; in the end some may be in flight, and then it has just
-- those that are durable.
pub record ToldForGood {P : Type 0} (StandsFor : List ℕ → Net → ℕ → Type 0) (left : List ℕ → Type 0) (base : Net) (version : ℕ) (events : List (Event P)) (replies : List Replied) (history : List Group) : Type 0 where
  -- the events that were run, each with its replies, and those that were not
  pub turns : List (Turn P)
  pub rest : List (Event P)
  pub events_are : events ≡ map (λ turn. turn.0) turns ++ rest
  pub replies_are : replies ≡ flat_map (λ turn. turn.1) turns
  pub each_replied : EachHasReplies turns
  pub history_begins : history ≡ take (length history) (accepted_in version [] turns)
  pub each_left : (content : List ℕ) → left content → HoldsTold StandsFor base version (accepted_in version [] turns) (acknowledged_in [] turns) replies content
