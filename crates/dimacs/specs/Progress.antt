-- How far a text is read.
use Rattle.std.specs.Prelude.{◌≡◌, ◌≢◌, ◌<◌, ◌⊎◌, ℕ, Bool, true, false, List, [], ◌∷◌, ◌++◌, All, length, drop, count_by, Option, None, Some, Result, Ok, Err, is_none, MatchBool, ⊤}
use Rattle.std.specs.List.{filter_map}
use Rattle.std.specs.Io.BufRead.{strip_last}
use Rattle.dimacs.specs.declared.fault.Code.{Code}
use Rattle.dimacs.specs.declared.graphs.problem.Problem.{Problem}
use Rattle.dimacs.specs.declared.graphs.gr_lines.GrLines.{GrLines}
use Rattle.dimacs.specs.declared.lines.feed.Feed.{Feed}
use Rattle.dimacs.specs.declared.lines.feed.TakenBytes.{TakenBytes}
use Rattle.dimacs.specs.Format.{gr}
use Rattle.dimacs.specs.Lines.{is_line_feed, rows, fields}
use Rattle.dimacs.specs.Faults.{Row, Judge, is_remark, problem_of, announced, items_of, first_fault, end_code}
use Rattle.dimacs.specs.Content.{arc_of, network_of}
use Rattle.dimacs.specs.Joint.{is_run, has_run}
use Rattle.dimacs.specs.Alike.{SaySame}
use Rattle.dimacs.specs.Taking.{ByMemory}
use Rattle.roadnet.specs.Net.{Net}

abbrev pub problem_counts : Option Problem → List ℕ
problem_counts None = []
problem_counts (Some p) = p.nodes ∷ p.items ∷ []

-- these lines of a `.gr` text were taken, and there is no fault in them
pub record HasTaken (earlier : List Row) (r : GrLines) : Type 0 where
  pub problem : is_none (problem_of earlier) ≡ is_none r.problem
  pub counts : announced gr earlier ≡ problem_counts r.problem
  pub items : items_of gr earlier ≡ length r.arcs.items
  pub arcs : filter_map arc_of earlier ≡ r.arcs.items

-- all lines are taken, and the end is no fault, or its code is told: at the end no memory is wanted
abbrev pub EndsNetwork : List Row → Result Net Code → Type 0
EndsNetwork lines (Ok net) = (end_code gr lines ≡ None) × (net ≡ network_of lines)
EndsNetwork lines (Err code) = ByMemory code (end_code gr lines ≡ Some code) ⊥

-- lines that begin with a front say the same as those that begin with what is kept of it, and something is kept of a line that has begun
pub record SameLines (front kept : List ℕ) : Type 0 where
  pub some : 0 < length front → 0 < length kept
  pub begun : 0 < length kept → 0 < length front
  pub goes_on : (more : List ℕ) → SaySame (fields (strip_last 13 (front ++ more))) (fields (strip_last 13 (kept ++ more)))

-- each line that begins with this front is a comment
abbrev pub IsCommentFront : ℕ → List ℕ → Type 0
IsCommentFront mark front = (more : List ℕ) → is_remark mark (fields (strip_last 13 (front ++ more))) ≡ true

-- what is kept of the front of a line: as much as says the same, or of a comment only its mark
abbrev pub StandsForFront : ℕ → List ℕ → List ℕ → Type 0
StandsForFront mark front kept = SameLines front kept ⊎ (IsCommentFront mark front × (kept ≡ mark ∷ []))

-- a line is taken, or it is the line `run` at which to stop, or it has a fault, or memory ran out
abbrev pub TakesOrRuns : {S : Type 0} → Judge → (List Row → S → Type 0) → Bool → List Row → Row → S → Result Bool Code → Type 0
TakesOrRuns judge has_taken until_run earlier row new (Ok true) = (until_run ≡ true) × (is_run row ≡ true) × has_taken earlier new
TakesOrRuns judge has_taken until_run earlier row new (Ok false) = (judge earlier row ≡ None) × has_taken (earlier ++ row ∷ []) new × (until_run ≡ true → is_run row ≡ false)
TakesOrRuns judge has_taken until_run earlier row new (Err code) = ByMemory code ((judge earlier row ≡ Some code) × (until_run ≡ true → is_run row ≡ false)) ⊤

-- this much of the text is left. The lines before it are taken, but for the front of one that goes on in what is left.
pub record Within {S : Type 0} (judge : Judge) (has_taken : List Row → S → Type 0) (mark : ℕ) (text left : List ℕ) (feed : Feed S) : Type 0 where
  pub earlier : List Row
  pub front : List ℕ
  pub before : List ℕ
  pub lines : rows text ≡ earlier ++ rows (front ++ left)
  pub in_line : All (λ b. b ≢ 10) front
  pub kept : StandsForFront mark front feed.kept.bytes.items
  pub count : length earlier ≡ feed.lines
  pub clean : first_fault judge [] earlier ≡ None
  pub no_run : feed.until_run ≡ true → has_run earlier ≡ false
  pub taken : has_taken earlier feed.taker
  pub read : text ≡ before ++ left
  pub feeds : count_by is_line_feed before ≡ feed.lines

-- the next line is `run`, and this is left after it
pub record BeforeRun {S : Type 0} (judge : Judge) (has_taken : List Row → S → Type 0) (text left : List ℕ) (feed : Feed S) : Type 0 where
  pub earlier : List Row
  pub row : Row
  pub lines : rows text ≡ earlier ++ row ∷ rows left
  pub is : is_run row ≡ true
  pub until : feed.until_run ≡ true
  pub count : length earlier ≡ feed.lines
  pub clean : first_fault judge [] earlier ≡ None
  pub no_run : has_run earlier ≡ false
  pub taken : has_taken earlier feed.taker

-- the next line has a fault, or memory ran out in it
pub record StopsAt {S : Type 0} (judge : Judge) (text : List ℕ) (feed : Feed S) (code : Code) : Type 0 where
  pub earlier : List Row
  pub row : Row
  pub later : List Row
  pub lines : rows text ≡ earlier ++ row ∷ later
  pub count : length earlier ≡ feed.lines
  pub clean : first_fault judge [] earlier ≡ None
  pub no_run : feed.until_run ≡ true → has_run earlier ≡ false
  pub why : ByMemory code ((judge earlier row ≡ Some code) × (feed.until_run ≡ true → is_run row ≡ false)) ⊤

-- what a feed answers that was shown the front of what is left
abbrev pub Feeds : {S : Type 0} → Judge → (List Row → S → Type 0) → ℕ → List ℕ → List ℕ → List ℕ → Feed S → Result TakenBytes Code → Type 0
Feeds judge has_taken mark text bytes more feed (Ok part) = MatchBool part.at_run
    (BeforeRun judge has_taken text (drop part.count bytes ++ more) feed)
    ((part.count ≡ length bytes) × Within judge has_taken mark text more feed)
Feeds judge has_taken mark text bytes more feed (Err code) = StopsAt judge text feed code
