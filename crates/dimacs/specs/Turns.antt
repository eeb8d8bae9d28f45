-- What one call of a reader gives.
use Rattle.std.specs.Prelude.{◌≡◌, ◌≢◌, ℕ, ◌+◌, ◌-◌, ◌^◌, ◌<◌, List, [], Option, None, Some, MatchBool, ⊤}
use Rattle.dimacs.specs.declared.fault.Code.{Code}
use Rattle.dimacs.specs.declared.fault.Code.TheVariants.{Read}
use Rattle.dimacs.specs.declared.lines.feed.Feed.{Feed}
use Rattle.dimacs.specs.declared.lines.counted.Turn.{Turn}
use Rattle.dimacs.specs.declared.lines.counted.Turn.TheVariants.{Failed, AtEnd, Took, Refused}
use Rattle.dimacs.specs.Faults.{Row, Judge}
use Rattle.dimacs.specs.Counts.{one_more_failed}
use Rattle.dimacs.specs.Progress.{Within, BeforeRun, StopsAt}

-- Whatever is left, it is left of some text. This is so of a reader whose bytes nobody knows.
abbrev pub WithinSome : {S : Type 0} → Judge → (List Row → S → Type 0) → ℕ → Feed S → Type 0
WithinSome judge has_taken mark feed = (left : List ℕ) → (text : List ℕ) × Within judge has_taken mark text left feed

-- how far a reader's text is read, or a text of which nobody knows the bytes
abbrev pub FarFrom : {S : Type 0} → Judge → (List Row → S → Type 0) → ℕ → Option (List ℕ) → Option (List ℕ) → Feed S → Type 0
FarFrom judge has_taken mark None left feed = WithinSome judge has_taken mark feed
FarFrom judge has_taken mark (Some text) None feed = ⊥
FarFrom judge has_taken mark (Some text) (Some left) feed = Within judge has_taken mark text left feed

abbrev pub RunFrom : {S : Type 0} → Judge → (List Row → S → Type 0) → Option (List ℕ) → Option (List ℕ) → Feed S → Type 0
RunFrom judge has_taken None left feed = (text : List ℕ) × (rest : List ℕ) × BeforeRun judge has_taken text rest feed
RunFrom judge has_taken (Some text) None feed = ⊥
RunFrom judge has_taken (Some text) (Some left) feed = BeforeRun judge has_taken text left feed

abbrev pub StopsFrom : {S : Type 0} → Judge → Option (List ℕ) → Feed S → Code → Type 0
StopsFrom judge None feed code = ⊤
StopsFrom judge (Some text) feed code = StopsAt judge text feed code

abbrev pub EndsFrom : {S : Type 0} → Judge → (List Row → S → Type 0) → ℕ → Option (List ℕ) → Option (List ℕ) → Feed S → Type 0
EndsFrom judge has_taken mark None left feed = WithinSome judge has_taken mark feed
EndsFrom judge has_taken mark (Some text) None feed = ⊥
EndsFrom judge has_taken mark (Some text) (Some left) feed = Within judge has_taken mark text [] feed × (left ≡ [])

abbrev pub Turns : {S : Type 0} → Judge → (List Row → S → Type 0) → ℕ → Option (List ℕ) → Option (List ℕ) → Feed S → Turn → Type 0
Turns judge has_taken mark known left feed Failed = FarFrom judge has_taken mark known left feed
Turns judge has_taken mark known left feed AtEnd = EndsFrom judge has_taken mark known left feed
Turns judge has_taken mark known left feed (Took part) = MatchBool part.at_run (RunFrom judge has_taken known left feed) (FarFrom judge has_taken mark known left feed)
Turns judge has_taken mark known left feed (Refused code) = StopsFrom judge known feed code

-- the lines can be counted on, and fewer calls are left
abbrev pub HasRoomForLines : {S : Type 0} → Feed S → Feed S → Turn → Type 0
HasRoomForLines old new (Took part) = (new.lines + new.left < 2 ^ 64 - 1) × (new.left < old.left)
HasRoomForLines old new other = new.lines + 1 < 2 ^ 64

-- only a failed call is told as one
abbrev pub IsNoRead : Turn → Type 0
IsNoRead (Refused code) = code ≢ Read
IsNoRead other = ⊤

abbrev pub CountsTurn : ℕ → ℕ → Turn → Type 0
CountsTurn old new Failed = new ≡ one_more_failed old
CountsTurn old new other = new ≡ old
