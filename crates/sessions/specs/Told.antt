-- What a session is told by its desk, and what it tells.
use Rattle.std.specs.Prelude.{◌≡◌, ◌⊎◌, ℕ, ◌+◌, ◌≤◌, true, false, List, [], ◌∷◌, ◌++◌, length, All, Option, None, Some, Result, Ok, Err, ⊤}
use mathlib.Core.List.{IsPrefix}
use Rattle.roadnet.specs.declared.groups.Group.{Group}
use Rattle.roadnet.specs.declared.refusals.Refusal.{Refusal}
use Rattle.roadnet.specs.declared.refusals.Refusal.TheVariants.{Closed, NoReaderPlace, Read, Write}
use Rattle.roadnet.specs.Net.{Net}
use Rattle.roadnet.specs.Numbers.{number_of}
use Rattle.roadnet.specs.Step.{after}
use Rattle.rows.specs.declared.queries.Query.{Query}
use Rattle.rows.specs.Replies.{IsRight}
use Rattle.machine.specs.declared.calls.Answer.{Answer}
use Rattle.machine.specs.declared.calls.Ticket.{Ticket}
use Rattle.machine.specs.declared.events.Replied.{Replied}
use Rattle.machine.specs.declared.events.Replied.TheVariants.{Durable, Answered, Refused}
use Rattle.machine.specs.Laws.{IsAt}
use Rattle.history.specs.Claims.{Claimed, IsAcknowledgedIn}
use Rattle.history.specs.Origins.{Origin, Beginning}
use Rattle.published.specs.Showing.{IsUnseen}
use Rattle.desk.specs.Turns.{IsRefusedAfter, IsRefusedOn, IsUnreached, IsUnserved}
use Rattle.dimacs.specs.Counts.{one_more_failed}
use Rattle.printing.specs.declared.failed.Failed.{Failed}
use Rattle.printing.specs.declared.failed.Failed.TheVariants.{Code}
use lib.Chars.{codes}
use Rattle.printing.specs.Printed.{refusal_line}
use Rattle.printing.specs.Replied.{number_line}
use Rattle.session_lines.specs.Copying.{Copying, IsUnmade}
use Rattle.sessions.specs.declared.session.sessions.Accepted.{Accepted}
use Rattle.sessions.specs.declared.session.sessions.Accepted.TheVariants.{Settled, Unsettled}
use Rattle.printing.specs.declared.looks.Look.{Look}
use Rattle.printing.specs.Looks.{look_lines}

-- the ticket of an accepted group, with its desk
abbrev pub claim_of : Accepted → Claimed
claim_of (Settled receipt) = receipt
claim_of (Unsettled ticket) = ticket

-- each of these groups has its number in this beginning of the desk's history, and was acknowledged by then; without one there is none of them
abbrev pub HaveReceipts : Origin → Option Beginning → List Ticket → Type 0
HaveReceipts origin None tickets = tickets ≡ []
HaveReceipts origin (Some front) tickets = (front.origin ≡ origin) × All (IsAcknowledgedIn front) tickets

-- each of these groups with its number behind this version
abbrev pub numbered_groups : ℕ → List Group → List Ticket
numbered_groups version [] = []
numbered_groups version (group ∷ groups) = record { number = version + 1; group = group } ∷ numbered_groups (version + 1) groups

-- a beginning that has some groups goes on to one that has these too
abbrev pub HasMore : Origin → Option Beginning → Option Beginning → List Ticket → Type 0
HasMore origin old new durable = (tickets : List Ticket) → HaveReceipts origin old tickets → HaveReceipts origin new (tickets ++ durable)

-- the same of all groups that are acknowledged in this beginning
abbrev pub HasAllOf : Beginning → Option Beginning → Option Beginning → Type 0
HasAllOf front old new =
    (groups : List Group) → IsPrefix groups front.groups → front.origin.version + length groups ≤ front.acknowledged → HasMore front.origin old new (numbered_groups front.origin.version groups)

-- the session has a receipt of this desk for the group, with this number
abbrev pub HasReceipt : Origin → Option Accepted → ℕ → Group → Type 0
HasReceipt origin (Some (Settled receipt)) number group =
    (receipt.origin ≡ origin) × (receipt.ticket.number ≡ number) × (receipt.ticket.group ≡ group)
HasReceipt origin other number group = ⊥

-- the last accepted group of the session is this one, which was not settled for this: it is lost (45), or the desk has ended (61)
abbrev pub IsUnsettled : Origin → Option Accepted → Group → Refusal → Type 0
IsUnsettled origin (Some (Unsettled ticket)) group refusal = (ticket.origin ≡ origin) × (ticket.ticket.group ≡ group) × IsUnserved origin ticket.ticket.number refusal
IsUnsettled origin other group refusal = ⊥

-- The machine refuses a group so after groups of which each is told to be durable.
pub record RestsOn (origin : Origin) (group : Group) (refusal : Refusal) (durable : List Ticket) : Type 0 where
  pub groups : List Group
  pub refused : IsRefusedAfter origin groups group refusal
  pub all : durable ≡ numbered_groups origin.version groups

-- The machine refuses a group after groups that are not settled for this: they are lost (45), or the desk has ended (61).
pub record RestsOnUnsettled (origin : Origin) (group : Group) (refusal : Refusal) : Type 0 where
  pub groups : List Group
  pub first : Refusal
  pub refused : IsRefusedAfter origin groups group first
  pub unserved : IsUnserved origin (origin.version + length groups) refusal

-- for what a group is refused that was not accepted, and what that tells to be durable: what it rests on is; or that is not settled; or the desk takes no more (61)
abbrev pub IsTurnedDown : Origin → Group → Refusal → List Ticket → Type 0
IsTurnedDown origin group refusal durable = RestsOn origin group refusal durable ⊎ ((RestsOnUnsettled origin group refusal ⊎ (refusal ≡ Closed)) × (durable ≡ []))

-- the same of a group that was not accepted, or was and is not settled (45, 61)
abbrev pub IsGroupRefusedFor : Origin → Option Accepted → Option Accepted → Group → Refusal → List Ticket → Type 0
IsGroupRefusedFor origin before last group refusal durable =
    ((last ≡ before) × IsTurnedDown origin group refusal durable) ⊎ (IsUnsettled origin last group refusal × (durable ≡ []))

-- what a group is told, and what that tells to be durable: its number, of which the session has a receipt; or for what it is refused
abbrev pub Settles : Origin → Option Accepted → Option Accepted → Group → Replied → List Ticket → Type 0
Settles origin before last group (Durable number) durable = HasReceipt origin last number group × (durable ≡ record { number = number; group = group } ∷ [])
Settles origin before last group (Refused refusal) durable = IsGroupRefusedFor origin before last group refusal durable
Settles origin before last group other durable = ⊥

-- A group is carried out and told this. The beginning of the history that the session has goes on to one with what is told to be durable.
pub record Carried (origin : Origin) (before last : Option Accepted) (had has : Option Beginning) (group : Group) (reply : Replied) : Type 0 where
  pub durable : List Ticket
  pub settles : Settles origin before last group reply durable
  pub kept : HasMore origin had has durable

-- A group that was not accepted is told this.
pub record IsDeclined (origin : Origin) (had has : Option Beginning) (group : Group) (refusal : Refusal) : Type 0 where
  pub durable : List Ticket
  pub turned_down : IsTurnedDown origin group refusal durable
  pub kept : HasMore origin had has durable

-- Whichever group was refused for this, on this basis, is told that.
abbrev pub IsDeclinedOn : Origin → Refusal → Option Beginning → Option Beginning → Option Beginning → Refusal → Type 0
IsDeclinedOn origin refusal basis had has told = (group : Group) → IsRefusedOn origin group refusal basis → IsDeclined origin had has group told

-- the answer is right in the desk's network after these groups, and names the version after them
pub record AnswersAfter (origin : Origin) (groups : List Group) (query : Query) (answer : Answer) : Type 0 where
  pub network : Net
  pub network_is : after origin.base groups ≡ Some network
  pub version : answer.version ≡ origin.version + length groups
  pub right : IsRight network query answer.reply

-- why a session that knows these groups sees no view: it knows none, since it has no place among the readers, and none was found free (60); or it was refused
-- a look (11, 61)
abbrev pub IsUnsighted : List Group → Refusal → Type 0
IsUnsighted groups refusal = ((refusal ≡ NoReaderPlace) × (groups ≡ [])) ⊎ IsUnseen refusal

-- what a query is told: an answer after these groups, or that there is no view to ask, or no memory for it (60, 11, 61)
abbrev pub Replies : Origin → List Group → Query → Replied → Type 0
Replies origin groups query (Answered asked answer) = (asked ≡ query) × AnswersAfter origin groups query answer
Replies origin groups query (Refused refusal) = IsUnsighted groups refusal
Replies origin groups query other = ⊥

-- what a look is told: what the desk's network after these groups has, behind the version after them
pub record LooksAfter (origin : Origin) (groups : List Group) (look : Look) (told : List ℕ) : Type 0 where
  pub network : Net
  pub network_is : after origin.base groups ≡ Some network
  pub told_is : told ≡ look_lines network (origin.version + length groups) look

-- or that there is no view to look at (60, 11, 61)
abbrev pub IsLookTold : Origin → List Group → Look → List ℕ → Type 0
IsLookTold origin groups look told = LooksAfter origin groups look told ⊎ ((refusal : Refusal) × IsUnsighted groups refusal × (told ≡ refusal_line (number_of refusal)))

-- `copied V`
abbrev pub copied_line : ℕ → List ℕ
copied_line version = number_line (codes "copied ") version

-- that, or `no CODE`
abbrev pub copied_or_refusal : Result ℕ Refusal → List ℕ
copied_or_refusal (Ok version) = copied_line version
copied_or_refusal (Err refusal) = refusal_line (number_of refusal)

-- a copy of this name was made of the desk's network after these groups, at the version after them, which is told
pub record CopiesAfter (copying : Copying) (origin : Origin) (groups : List Group) (name told : List ℕ) : Type 0 where
  pub network : Net
  pub network_is : after origin.base groups ≡ Some network
  pub made : copying.made name network (origin.version + length groups)
  pub told_is : told ≡ copied_line (origin.version + length groups)

-- why there is no copy: no view to make it of (60, 11, 61), or that it is not made (46, 43, 10, 11)
abbrev pub IsUncopied : List Group → Refusal → Type 0
IsUncopied groups refusal = IsUnsighted groups refusal ⊎ IsUnmade refusal

-- what a line `copy` is told: the version of the copy, or why there is none; where no copies are made, that it is no line (1)
abbrev pub IsCopied : Copying → Origin → List Group → List ℕ → List ℕ → Type 0
IsCopied copying origin groups name told =
    ((copying.allowed ≡ false) × (told ≡ refusal_line 1))
    ⊎ ((copying.allowed ≡ true) × (CopiesAfter copying origin groups name told ⊎ ((refusal : Refusal) × IsUncopied groups refusal × (told ≡ refusal_line (number_of refusal)))))

-- the groups that a session has seen or was told of at its place among the readers, if it has one
abbrev pub known_to : Option Beginning → List Group
known_to None = []
known_to (Some known) = known.groups

-- what is shown of this desk has the last accepted group at its number, where there is one
abbrev pub HasShown : Origin → Option Accepted → Option Beginning → Type 0
HasShown origin None None = ⊤
HasShown origin None (Some shown) = ⊥
HasShown origin (Some accepted) None = ⊥
HasShown origin (Some accepted) (Some shown) = (shown.origin ≡ origin) × IsAt origin.version shown.groups (claim_of accepted).ticket

-- the last accepted group, if there is one, has its number among these groups, and the version is that after them
abbrev pub ShowsLast : Origin → Option Accepted → List Group → ℕ → Type 0
ShowsLast origin None groups version = version ≡ origin.version + length groups
ShowsLast origin (Some accepted) groups version =
    IsAt origin.version groups (claim_of accepted).ticket × (version ≡ origin.version + length groups)

-- the version that is waited for, or a later one, is that after these groups
abbrev pub IsReached : Origin → ℕ → List Group → ℕ → Type 0
IsReached origin number groups version = (number ≤ version) × (version ≡ origin.version + length groups)

-- the last accepted group of a session, if there is one, is not shown for this: it is lost (45), or the desk has ended (61)
abbrev pub IsLastUnserved : Origin → Option Accepted → Refusal → Type 0
IsLastUnserved origin None refusal = ⊥
IsLastUnserved origin (Some accepted) refusal = IsUnserved origin (claim_of accepted).ticket.number refusal

-- why a session that waits is shown nothing: that, or there is no view to look at (60, 11, 61)
abbrev pub IsUnshown : Origin → Option Accepted → List Group → Refusal → Type 0
IsUnshown origin last groups refusal = IsLastUnserved origin last refusal ⊎ IsUnsighted groups refusal

-- why a session that waits for a version is shown none: it will not be shown (45, 61) or is not yet (54), or there is no view to look at (60, 11, 61)
abbrev pub IsUnmet : Origin → ℕ → List Group → Refusal → Type 0
IsUnmet origin number groups refusal = IsUnreached origin number refusal ⊎ IsUnsighted groups refusal

-- the reader's count of failed calls is one more where a failed read is told, and else as it was
abbrev pub CountsRead : {X : Type 0} → ℕ → ℕ → Result X Failed → Type 0
CountsRead old new (Ok x) = new ≡ old
CountsRead old new (Err (Code Read)) = new ≡ one_more_failed old
CountsRead old new (Err other) = new ≡ old

-- a call of the reader or of the writer failed
abbrev pub IsOfStream : Failed → Type 0
IsOfStream failed = (failed ≡ Code Read) ⊎ (failed ≡ Code Write)
