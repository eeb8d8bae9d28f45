-- Kinds of text, and what reading a text of a kind answers.
use Rattle.std.specs.Prelude.{◌≡◌, ℕ, List, [], length, Option, None, Some, Result, Ok, Err, ⊤}
use Rattle.dimacs.specs.declared.fault.Code.{Code}
use Rattle.dimacs.specs.declared.fault.Fault.{Fault}
use Rattle.dimacs.specs.declared.lines.feed.Ended.{Ended}
use Rattle.dimacs.specs.Lines.{rows}
use Rattle.dimacs.specs.Faults.{Row, Judge, first_fault, fault_of}
use Rattle.dimacs.specs.Taking.{ByCode, ByMemory}
use Rattle.dimacs.specs.Ends.{TakenAll, RunsOut, BreaksOff, FailsIn}

-- the code of a line after the lines before it, the code of the end after all lines, and what lines without a fault say
pub record TextKind (X : Type 0) : Type 0 where
  pub judge : Judge
  pub end : List Row → Option Code
  pub says : List Row → X

abbrev pub unless_fault : {X : Type 0} → Option Fault → X → Result X Fault
unless_fault None x = Ok x
unless_fault (Some fault) x = Err fault

-- the content of lines, or their fault
abbrev pub content_by : {X : Type 0} → TextKind X → List Row → Result X Fault
content_by kind rs = unless_fault (fault_of kind.judge kind.end rs) (kind.says rs)

-- this is what some lines say in which there is no fault
abbrev pub IsSaid : {X : Type 0} → TextKind X → X → Type 0
IsSaid kind x = (lines : List Row) × (content_by kind lines ≡ Ok x)

-- these lines of a reader's text have their fault told; or the reader failed, or memory ran out, in a line before which there is none
abbrev pub FaultOfLines : {X : Type 0} → TextKind X → List ℕ → List Row → Option (List ℕ) → Fault → Type 0
FaultOfLines kind text lines left fault = ByCode fault.code (content_by kind lines ≡ Err fault) (FailsIn kind.judge text lines left fault.line) (BreaksOff kind.judge (rows text) lines fault.line)

-- where a text comes from: it is in memory, or a reader gives it, which now has this left
pub data Source : Type 0 where
  InMemory : Source
  OfReader : Option (List ℕ) → Source

-- none of this text is read yet; of one in memory nothing is known
abbrev pub IsUnread : List ℕ → Source → Type 0
IsUnread text InMemory = ⊤
IsUnread text (OfReader left) = left ≡ Some text

-- all of it is read; of a text in memory nothing is known
abbrev pub IsReadUp : Source → Type 0
IsReadUp InMemory = ⊤
IsReadUp (OfReader left) = left ≡ Some []

-- the text's reader failed in this line, before which there is no fault; a text in memory has none
abbrev pub FailsFrom : Judge → List ℕ → Source → ℕ → Type 0
FailsFrom judge text InMemory line = ⊥
FailsFrom judge text (OfReader left) line = FailsIn judge text (rows text) left line

-- memory ran out in this line, before which there is no fault, nor in it if the text is in memory
abbrev pub RunsOutFrom : Judge → List ℕ → Source → ℕ → Type 0
RunsOutFrom judge text InMemory line = RunsOut judge (rows text) line
RunsOutFrom judge text (OfReader left) line = BreaksOff judge (rows text) (rows text) line

-- each line of the text was taken, and all of it is read, or its first fault is told; or its reader failed, or memory ran out
abbrev pub GivesLines : {S : Type 0} → Judge → (List Row → S → Type 0) → List ℕ → Source → Result (Ended S) Fault → Type 0
GivesLines judge has_taken text source (Ok ended) = TakenAll judge has_taken (rows text) ended × IsReadUp source
GivesLines judge has_taken text source (Err fault) = ByCode fault.code (first_fault judge [] (rows text) ≡ Some fault) (FailsFrom judge text source fault.line) (RunsOutFrom judge text source fault.line)

-- the text has its fault told; or its reader failed, or memory ran out
abbrev pub FaultOf : {X : Type 0} → TextKind X → List ℕ → Source → Fault → Type 0
FaultOf kind text source fault = ByCode fault.code (content_by kind (rows text) ≡ Err fault) (FailsFrom kind.judge text source fault.line) (RunsOutFrom kind.judge text source fault.line)

-- the content of the text, all of which is read, or its fault
abbrev pub ReadsText : {X : Type 0} → TextKind X → List ℕ → Source → Result X Fault → Type 0
ReadsText kind text source (Ok x) = (content_by kind (rows text) ≡ Ok x) × IsReadUp source
ReadsText kind text source (Err fault) = FaultOf kind text source fault

-- the end of lines without a fault: what they say, or the code of the end, which names the last line
abbrev pub EndsText : {X : Type 0} → TextKind X → List Row → Result X Fault → Type 0
EndsText kind lines (Ok x) = (kind.end lines ≡ None) × (x ≡ kind.says lines)
EndsText kind lines (Err fault) = ByMemory fault.code (kind.end lines ≡ Some fault.code) ⊥ × (fault.line ≡ length lines)

-- an answer, with f of its value
abbrev pub map_ok : {X Y : Type 0} → (X → Y) → Result X Fault → Result Y Fault
map_ok f (Ok x) = Ok (f x)
map_ok f (Err fault) = Err fault
