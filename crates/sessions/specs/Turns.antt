-- What a session tells, line by line.
--     SessionState                                              how a session is
--     IsAnswer copying origin group line was is told durable    what it may tell to a line, and how it is then
--     IsTurn · HasServed · Serves                               the next line · the lines so far · the whole of them
use Rattle.std.specs.Prelude.{◌≡◌, ◌⊎◌, ℕ, Bool, true, false, List, [], ◌∷◌, ◌++◌, All, Option, None, Some, Result, Ok, Err, IfOk, IfErr, ⊤}
use Rattle.std.specs.Io.KnownBytes.{Appends}
use mathlib.Core.List.{IsPrefix}
use Rattle.dimacs.specs.declared.fault.Code.{Code}
use Rattle.dimacs.specs.declared.fault.Code.TheVariants.{BadLine, NumberRange, GroupSize}
use Rattle.roadnet.specs.declared.groups.Group.{Group}
use Rattle.roadnet.specs.declared.refusals.Refusal.{Refusal}
use Rattle.roadnet.specs.declared.refusals.Refusal.TheVariants.{Read, OutOfMemory, Closed}
use Rattle.roadnet.specs.Numbers.{number_of}
use Rattle.rows.specs.declared.nearby.Near.{Near}
use Rattle.rows.specs.declared.queries.Query.{Query as Asked}
use Rattle.machine.specs.declared.events.Replied.{Replied}
use Rattle.machine.specs.declared.calls.Ticket.{Ticket}
use Rattle.machine.specs.Laws.{IsAt}
use Rattle.history.specs.Origins.{Origin, Beginning}
use Rattle.office.specs.Left.{KeepsSeen}
use Rattle.desk.specs.declared.handles.states.DeskState.{DeskState}
use Rattle.desk.specs.States.{StoodSo}
use Rattle.printing.specs.declared.failed.Failed.{Failed}
use Rattle.printing.specs.declared.failed.Failed.TheVariants.{Code as of_code}
use Rattle.printing.specs.Printed.{version_line, refusal_line}
use Rattle.printing.specs.Replied.{printed_reply}
use Rattle.session_lines.specs.declared.asked_tables.Table.{Table as AskedTable}
use Rattle.session_lines.specs.declared.lines.Line.{Line}
use Rattle.session_lines.specs.declared.lines.Line.TheVariants.{Command as a_command, Query, Look as a_look, Near as a_near, Route as a_route, Table as a_table, Unkept, Copy, Wait, Until, State, Quit, Begin, End, Refused, Suppose, Forget}
use Rattle.session_lines.specs.declared.reading.LastLine.{LastLine}
use Rattle.session_lines.specs.Drafts.{Drafted, draft_fault_of, no_draft, with_line}
use Rattle.session_lines.specs.Listings.{sources_of, targets_of}
use Rattle.session_lines.specs.Reads.{ReadsOne, FailsInLine, ReadsSessionLine}
use Rattle.session_lines.specs.SessionLines.{is_quit, name_of}
use Rattle.session_lines.specs.Tables.{pairs_of}
use Rattle.suppositions.specs.Supposing.{Supposition}
use Rattle.sessions.specs.declared.session.sessions.Accepted.{Accepted}
use Rattle.sessions.specs.declared.session.sessions.Purpose.{Purpose}
use Rattle.sessions.specs.declared.session.sessions.Purpose.TheVariants.{ToCarryOut, ToSuppose}
use Rattle.session_lines.specs.Copying.{Copying}
use Rattle.sessions.specs.Nearby.{IsNearAnswer, IsTableAnswer, IsToldAfter}
use Rattle.sessions.specs.Routed.{IsRouteAnswer, IsRouteIn}
use Rattle.sessions.specs.Stated.{state_or_refusal}
use Rattle.sessions.specs.Supposing.{SupposesAfter, IsUnsupposed, IsNearIn, IsSupposedAnswer, IsTableIn, suppose_line, forgotten_line}
use Rattle.sessions.specs.Told.{HaveReceipts, Settles, Replies, IsLookTold, IsCopied, IsReached, ShowsLast, IsUnmet, IsUnshown, known_to}

-- the number by which the fault of a line or of a group is told
abbrev pub fault_number : Code → ℕ
fault_number NumberRange = 5
fault_number GroupSize = 13
fault_number other = 1

-- `v V`, or `no CODE`
abbrev pub version_or_refusal : Result ℕ Refusal → List ℕ
version_or_refusal (Ok version) = version_line version
version_or_refusal (Err refusal) = refusal_line (number_of refusal)

-- the number by which a command is refused in a session that asks alone
abbrev pub asks_alone : ℕ
asks_alone = 64

-- ---- how a session is

-- its last accepted group, the groups that it has seen or was told of, and what it supposes
pub record SessionState : Type 0 where
  pub last : Option Accepted
  pub known : List Group
  pub supposed : Option Supposition

-- No group is accepted, none is told to be durable, and this is supposed then.
pub record LeavesSession (supposed : Option Supposition) (was is : SessionState) (durable : List Ticket) : Type 0 where
  pub last : is.last ≡ was.last
  pub supposed_is : is.supposed ≡ supposed
  pub none_durable : durable ≡ []

-- the group that lines are in: what is to become of it, and what the lines said so far
pub record Grouped : Type 0 where
  pub purpose : Purpose
  pub draft : Drafted

-- The group that lines are in behind one line more: `begin` and `suppose` begin one where they are in none, and `end` ends it.
abbrev pub next_group : Option Grouped → Line → Option Grouped
next_group None Begin = Some (record { purpose = ToCarryOut; draft = no_draft })
next_group None Suppose = Some (record { purpose = ToSuppose; draft = no_draft })
next_group None other = None
next_group (Some group) End = None
next_group (Some group) other = Some (record group { draft = with_line group.draft other })

-- ---- what a group is told

-- What a group is told, and whether it is told to be durable: what it comes to, in a session whose commands are carried out; in one that asks alone it is
-- refused (64), and no group was accepted.
abbrev pub IsGroupAnswer : Bool → Origin → Group → SessionState → SessionState → List ℕ → List Ticket → Type 0
IsGroupAnswer true origin group was is told durable =
    (reply : Replied) × Settles origin was.last is.last group reply durable × (is.supposed ≡ was.supposed) × (told ≡ printed_reply reply)
IsGroupAnswer false origin group was is told durable = LeavesSession was.supposed was is durable × (told ≡ refusal_line asks_alone)

-- What the end of a group is told that has this fault or none: the fault; or what its commands are told; or that no memory was given for them.
abbrev pub IsEndAnswer : Copying → Origin → Option Code → Group → SessionState → SessionState → List ℕ → List Ticket → Type 0
IsEndAnswer copying origin (Some code) group was is told durable = LeavesSession was.supposed was is durable × (told ≡ refusal_line (fault_number code))
IsEndAnswer copying origin None group was is told durable =
    IsGroupAnswer copying.changes origin group was is told durable ⊎ (LeavesSession was.supposed was is durable × (told ≡ refusal_line (number_of OutOfMemory)))

-- What the end of a group is told that is to be supposed, and what is supposed then: its fault, and nothing is; or the version that it is made of; or why
-- nothing is.
abbrev pub IsSupposedEnd : Origin → List Group → Option Code → Group → Option Supposition → List ℕ → Type 0
IsSupposedEnd origin known (Some code) group supposed told = (supposed ≡ None) × (told ≡ refusal_line (fault_number code))
IsSupposedEnd origin known None group (Some supposed) told = SupposesAfter origin known group supposed × (told ≡ suppose_line supposed.version)
IsSupposedEnd origin known None group None told = (refusal : Refusal) × IsUnsupposed origin known group refusal × (told ≡ refusal_line (number_of refusal))

-- what the end of a group is told, whatever was to become of it
abbrev pub IsEnd : Copying → Origin → Purpose → Drafted → SessionState → SessionState → List ℕ → List Ticket → Type 0
IsEnd copying origin ToCarryOut draft was is told durable = IsEndAnswer copying origin (draft_fault_of draft) draft.commands was is told durable
IsEnd copying origin ToSuppose draft was is told durable =
    IsSupposedEnd origin is.known (draft_fault_of draft) draft.commands is.supposed told × LeavesSession is.supposed was is durable

-- ---- what a line is told that stands in no group

-- what a query, the nodes near one, a route and a table are told in a session that knows these groups: in what is supposed, if something is, and else in what is shown
abbrev pub IsQueried : Origin → List Group → Option Supposition → Asked → List ℕ → Type 0
IsQueried origin known None query told = (reply : Replied) × Replies origin known query reply × (told ≡ printed_reply reply)
IsQueried origin known (Some supposed) query told = IsSupposedAnswer supposed query told

abbrev pub IsFoundNear : Origin → List Group → Option Supposition → Near → List ℕ → Type 0
IsFoundNear origin known None near told = IsToldAfter origin known (IsNearAnswer near) told
IsFoundNear origin known (Some supposed) near told = IsNearIn supposed near told

abbrev pub IsRouted : Origin → List Group → Option Supposition → ℕ → ℕ → List ℕ → Type 0
IsRouted origin known None source target told = IsToldAfter origin known (IsRouteAnswer source target) told
IsRouted origin known (Some supposed) source target told = IsRouteIn supposed source target told

abbrev pub IsTabled : Origin → List Group → Option Supposition → AskedTable → List ℕ → Type 0
IsTabled origin known None table told = IsToldAfter origin known (IsTableAnswer (pairs_of (sources_of table) (targets_of table))) told
IsTabled origin known (Some supposed) table told = IsTableIn supposed (sources_of table) (targets_of table) told

-- what `forget` is told: that what was supposed is no more, or that nothing was
abbrev pub IsForgotten : Option Supposition → List ℕ → Type 0
IsForgotten None told = told ≡ refusal_line (fault_number BadLine)
IsForgotten (Some supposed) told = told ≡ forgotten_line

-- What a line is told by which no group is accepted and nothing else is supposed, in a session that was so and knows these groups now.
abbrev pub IsLineTold : Copying → Origin → SessionState → List Group → Line → List ℕ → Type 0
IsLineTold copying origin was known (Query query) told = IsQueried origin known was.supposed query told
IsLineTold copying origin was known (a_near near) told = IsFoundNear origin known was.supposed near told
IsLineTold copying origin was known (a_route source target) told = IsRouted origin known was.supposed source target told
IsLineTold copying origin was known (a_table table) told = IsTabled origin known was.supposed table told
IsLineTold copying origin was known (a_look look) told = IsLookTold origin known look told
IsLineTold copying origin was known (Copy name) told = IsCopied copying origin known (name_of name) told
IsLineTold copying origin was known Wait told =
    (shown : Result ℕ Refusal) × IfOk shown (ShowsLast origin was.last known) × IfErr shown (IsUnshown origin was.last known) × (told ≡ version_or_refusal shown)
IsLineTold copying origin was known (Until number) told =
    (shown : Result ℕ Refusal) × IfOk shown (IsReached origin number known) × IfErr shown (IsUnmet origin number known) × (told ≡ version_or_refusal shown)
IsLineTold copying origin was known State told =
    (stood : Result DeskState Refusal) × IfOk stood (StoodSo origin) × IfErr stood (λ refusal. refusal ≡ Closed) × (told ≡ state_or_refusal stood)
IsLineTold copying origin was known Unkept told = told ≡ refusal_line (number_of OutOfMemory)
IsLineTold copying origin was known (Refused code grouped) told = told ≡ refusal_line (fault_number code)
IsLineTold copying origin was known End told = told ≡ refusal_line (fault_number BadLine)
IsLineTold copying origin was known other told = told ≡ []

-- ---- what a line is told

-- What a line is told, and which groups it tells to be durable (those that a refusal rests on too), within this group or outside of groups, in a session that
-- was so and is so then. A command outside is a group of its own. Within a group nothing is told before its end, and nothing of one that is to be supposed is
-- accepted. What is supposed stays until `forget` or another `suppose`.
abbrev pub IsSessionAnswer : Copying → Origin → Option Grouped → Line → SessionState → SessionState → List ℕ → List Ticket → Type 0
IsSessionAnswer copying origin None (a_command command) was is told durable = IsGroupAnswer copying.changes origin (command ∷ []) was is told durable
IsSessionAnswer copying origin None Suppose was is told durable = (told ≡ []) × LeavesSession None was is durable
IsSessionAnswer copying origin None Forget was is told durable = IsForgotten was.supposed told × LeavesSession None was is durable
IsSessionAnswer copying origin None line was is told durable = IsLineTold copying origin was is.known line told × LeavesSession was.supposed was is durable
IsSessionAnswer copying origin (Some group) End was is told durable = IsEnd copying origin group.purpose group.draft was is told durable
IsSessionAnswer copying origin (Some group) line was is told durable = (told ≡ []) × LeavesSession was.supposed was is durable

-- how far a session is: the bytes that are left of its lines, what it told, the groups that it told to be durable, the group that its lines are in, if they
-- are in one, and how it is
pub record SessionStanding : Type 0 where
  pub left : List ℕ
  pub told : List ℕ
  pub durable : List Ticket
  pub group : Option Grouped
  pub state : SessionState

-- the next line, which is not `quit`, is read and answered
pub record IsTurn (copying : Copying) (last_line : LastLine) (origin : Origin) (old new : SessionStanding) : Type 0 where
  pub line : Line
  pub goes_on : is_quit line ≡ false
  pub read : ReadsOne last_line old.left (Some new.left) line
  pub answer : List ℕ
  pub receipts : List Ticket
  pub answers : IsSessionAnswer copying origin old.group line old.state new.state answer receipts
  pub group : new.group ≡ next_group old.group line
  pub told : new.told ≡ old.told ++ answer
  pub durable : new.durable ≡ old.durable ++ receipts
  pub begins : IsPrefix old.state.known new.state.known

-- one line after the other
abbrev pub AreTurns : Copying → LastLine → Origin → SessionStanding → List SessionStanding → SessionStanding → Type 0
AreTurns copying last_line origin first [] last = last ≡ first
AreTurns copying last_line origin first (next ∷ others) last = IsTurn copying last_line origin first next × AreTurns copying last_line origin next others last

-- a session that has just begun
abbrev pub new_state : SessionState
new_state = record { last = None; known = []; supposed = None }

-- a session over this text that has just begun
abbrev pub session_beginning : List ℕ → SessionStanding
session_beginning text = record { left = text; told = []; durable = []; group = None; state = new_state }

-- the lines of the text up to here were answered in their order, and the writer has the answers and no more
pub record HasServed (copying : Copying) (last_line : LastLine) (origin : Origin) (text : List ℕ) (old new : Option (List ℕ)) (last : SessionStanding) : Type 0 where
  pub turns : List SessionStanding
  pub are : AreTurns copying last_line origin (session_beginning text) turns last
  pub written : Appends old new last.told

-- the session has all that it told to be durable, and has seen or was told of these groups
pub record IsSessionAt (origin : Origin) (place receipts : Option Beginning) (last : SessionStanding) : Type 0 where
  pub known : last.state.known ≡ known_to place
  pub durable : HaveReceipts origin receipts last.durable

-- Whatever a stop leaves of the closed desk: each group that the session told to be durable has its number in it, and it begins with all
-- groups after which the session answered a query.
pub record IsSessionKept (history shown : Beginning) (last : SessionStanding) : Type 0 where
  pub durable : (kept : List Group) → KeepsSeen history shown kept → All (IsAt history.origin.version kept) last.durable
  pub known : (kept : List Group) → KeepsSeen history shown kept → IsPrefix last.state.known kept

-- Behind these lines comes the line `quit` or the end of the text, which may follow a line without its end that is dropped; or the reader fails in a line,
-- which is not carried out; and this holds of the session as far as it came. Where the writer fails nothing is said.
abbrev pub Serves : {X : Type 0} → Copying → LastLine → Origin → List ℕ → Option (List ℕ) → Option (List ℕ) → Option (List ℕ) → (SessionStanding → Type 0) → Result X Failed → Type 0
Serves copying last_line origin text left old new Holds (Ok x) =
    (last : SessionStanding) × HasServed copying last_line origin text old new last × Holds last × (ReadsSessionLine last_line last.left left (Ok None) ⊎ ReadsSessionLine last_line last.left left (Ok (Some Quit)))
Serves copying last_line origin text left old new Holds (Err (of_code Read)) = (last : SessionStanding) × HasServed copying last_line origin text old new last × Holds last × FailsInLine last.left left
Serves copying last_line origin text left old new Holds (Err other) = ⊤
