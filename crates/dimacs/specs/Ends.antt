-- What a call that takes the lines of a text answers.
use Rattle.std.specs.Prelude.{◌≡◌, ℕ, ◌+◌, ◌-◌, ◌<◌, ◌≤◌, Bool, ◌&&◌, List, [], length, take, count_by, Option, None, Some, Result, Ok, Err}
use Rattle.std.specs.Io.KnownBytes.{Consumes}
use Rattle.dimacs.specs.declared.fault.Fault.{Fault}
use Rattle.dimacs.specs.declared.lines.feed.Ended.{Ended}
use Rattle.dimacs.specs.Lines.{is_line_feed, rows}
use Rattle.dimacs.specs.Faults.{Row, Judge, first_fault}
use Rattle.dimacs.specs.Joint.{has_run, taken_of, lines_left}
use Rattle.dimacs.specs.Taking.{ByCode}

-- these lines were taken, in none of which there is a fault
pub record TakenAll {S : Type 0} (judge : Judge) (has_taken : List Row → S → Type 0) (lines : List Row) (ended : Ended S) : Type 0 where
  pub clean : first_fault judge [] lines ≡ None
  pub taken : has_taken lines ended.taker
  pub count : ended.lines ≡ length lines

-- some lines were taken, in none of which there is a fault
abbrev pub HasTakenSome : {S : Type 0} → Judge → (List Row → S → Type 0) → Ended S → Type 0
HasTakenSome judge has_taken ended = (lines : List Row) × TakenAll judge has_taken lines ended

-- memory ran out for what this line says: it is one of the lines, and neither it nor a line before it has a fault
pub record RunsOut (judge : Judge) (lines : List Row) (line : ℕ) : Type 0 where
  pub first : 0 < line
  pub within : line ≤ length lines
  pub clean : first_fault judge [] (take line lines) ≡ None

-- memory ran out for this line's bytes, before it could be judged, or for what it says: it is one of all lines, and no line before it
-- has a fault or is left out
pub record BreaksOff (judge : Judge) (all lines : List Row) (line : ℕ) : Type 0 where
  pub first : 0 < line
  pub within : line ≤ length all
  pub next : line ≤ length lines + 1
  pub clean : first_fault judge [] (take (line - 1) lines) ≡ None

-- the reader failed in this line, which its bytes up to there have as many line feeds before, and no line before it has a fault
pub record FailsIn (judge : Judge) (text : List ℕ) (lines : List Row) (left : Option (List ℕ)) (line : ℕ) : Type 0 where
  pub front : List ℕ
  pub read : Consumes (Some text) left front
  pub feeds : line ≡ count_by is_line_feed front + 1
  pub next : line ≤ length lines + 1
  pub clean : first_fault judge [] (take (line - 1) lines) ≡ None

-- the reader has the bytes of these lines left
abbrev pub HasLeft : List Row → Option (List ℕ) → Type 0
HasLeft lines None = ⊥
HasLeft lines (Some rest) = rows rest ≡ lines

-- the lines up to the end, or up to the first line `run`, were taken, and what follows them is left
pub record ReadAll {S : Type 0} (judge : Judge) (has_taken : List Row → S → Type 0) (until_run : Bool) (text : List ℕ) (left : Option (List ℕ)) (ended : Ended S) : Type 0 where
  pub lines : TakenAll judge has_taken (taken_of until_run (rows text)) ended
  pub at_run : ended.at_run ≡ (until_run && has_run (rows text))
  pub rest : HasLeft (lines_left until_run (rows text)) left

-- the same of a reader that has this text left and may fail; and memory may run out in a line that has a fault, before its bytes are
-- at hand
abbrev pub ReadsLines : {S : Type 0} → Judge → (List Row → S → Type 0) → Bool → List ℕ → Option (List ℕ) → Result (Ended S) Fault → Type 0
ReadsLines judge has_taken until_run text left (Ok ended) = ReadAll judge has_taken until_run text left ended
ReadsLines judge has_taken until_run text left (Err fault) = ByCode fault.code
    (first_fault judge [] (taken_of until_run (rows text)) ≡ Some fault)
    (FailsIn judge text (taken_of until_run (rows text)) left fault.line)
    (BreaksOff judge (rows text) (taken_of until_run (rows text)) fault.line)
