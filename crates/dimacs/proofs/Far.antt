-- How far a text is read, line by line.
use Rattle.std.proofs.Common.{◌≡◌, ◌≢◌, ℕ, suc, ◌+◌, ◌-◌, ◌<◌, ◌≤◌, ◌||◌, ◌&&◌, All, Bool, true, false, cond, inl, inr, List, [], ◌∷◌, ◌++◌, length, take, map, Option, Some, None, Ok, Err, refl, sym, ap, ◌∙◌, arith, append_assoc, drop}
use Rattle.std.specs.Prelude.{⊤}
use Rattle.std.specs.List.{count_by}
use Rattle.std.specs.Option.{option_map}
use Rattle.std.proofs.lemmas.Bool.{or_parts, ne_eqb}
use Rattle.std.proofs.lemmas.List.{append-nil, length-append}
use Rattle.std.proofs.lemmas.List.Folds.{list_any-append}
use Rattle.std.proofs.lemmas.List.Sums.{sum_by-append}
use Rattle.std.proofs.lemmas.List.Elements.{All-append, All-nil}
use Rattle.std.proofs.Math.Seq.{take-append_seam, drop-append_seam}
use Rattle.std.specs.Io.BufRead.{strip_last}
use Rattle.dimacs.specs.declared.lines.feed.Feed.{Feed}
use Rattle.dimacs.specs.declared.lines.feed.Ended.{Ended}
use Rattle.dimacs.specs.declared.fault.Code.{Code}
use Rattle.dimacs.proofs.Items.{by_code_of, by_memory_of}
use Rattle.dimacs.specs.Lines.{is_line_feed, lines, fields, rows}
use Rattle.dimacs.specs.Faults.{Row, Judge, or_else, fault_at, first_fault}
use Rattle.dimacs.specs.Joint.{is_run, before_run, after_run, has_run, taken_of, lines_left}
use Rattle.dimacs.specs.Taking.{Takes, ByCode, ByMemory}
use Rattle.dimacs.specs.Ends.{TakenAll, RunsOut, BreaksOff, FailsIn, ReadAll}
use Rattle.dimacs.specs.Progress.{StandsForFront, TakesOrRuns, Within, BeforeRun, StopsAt}
use Rattle.dimacs.specs.Overflow.{IsFaultOfFront}
use Rattle.dimacs.proofs.Pieces.{line_before_feed, line_at_end, known_position, first_line, last_line}
use Rattle.dimacs.proofs.Fronts.{line_begun}
use Rattle.dimacs.proofs.Remarks.{nothing_kept}

-- The faults of lines, and of those that follow them.

or_else_assoc : {X : Type 0} (a b c : Option X) → or_else (or_else a b) c ≡ or_else a (or_else b c)
or_else_assoc None b c = refl
or_else_assoc (Some x) b c = refl

first_fault-append : (judge : Judge) (before xs ys : List Row) → first_fault judge before (xs ++ ys) ≡ or_else (first_fault judge before xs) (first_fault judge (before ++ xs) ys)
first_fault-append judge before [] ys = rw append-nil refl
first_fault-append judge before (x ∷ xs) ys =
    let joined : (before ++ x ∷ []) ++ xs ≡ before ++ (x ∷ xs) = append_assoc before (x ∷ []) xs in
    rw (first_fault-append judge (before ++ x ∷ []) xs ys, joined) (sym (or_else_assoc (option_map (fault_at (length before + 1)) (judge before x)) (first_fault judge (before ++ x ∷ []) xs) (first_fault judge (before ++ x ∷ xs) ys)))

pub clean_more : (judge : Judge) (earlier : List Row) (row : Row) → first_fault judge [] earlier ≡ None → judge earlier row ≡ None → first_fault judge [] (earlier ++ row ∷ []) ≡ None
clean_more judge earlier row clean none =
    let last : first_fault judge earlier (row ∷ []) ≡ None = rw none refl in
    first_fault-append judge [] earlier (row ∷ []) ∙ rw clean last

pub fault_next : (judge : Judge) (earlier : List Row) (row : Row) (later : List Row) (code : Code) → first_fault judge [] earlier ≡ None → judge earlier row ≡ Some code
    → first_fault judge [] (earlier ++ row ∷ later) ≡ Some (fault_at (length earlier + 1) code)
fault_next judge earlier row later code clean found =
    let here : first_fault judge earlier (row ∷ later) ≡ Some (fault_at (length earlier + 1) code) = rw found refl in
    first_fault-append judge [] earlier (row ∷ later) ∙ rw clean here

-- The lines up to a line `run`.

pub no_run_more : (earlier : List Row) (row : Row) → has_run earlier ≡ false → is_run row ≡ false → has_run (earlier ++ row ∷ []) ≡ false
no_run_more earlier row none other = list_any-append is_run earlier (row ∷ []) ∙ rw (none, other) refl

before_run-append : (earlier rest : List Row) → has_run earlier ≡ false → before_run (earlier ++ rest) ≡ earlier ++ before_run rest
before_run-append [] rest none = refl
before_run-append (x ∷ xs) rest none =
    let parts = or_parts (is_run x) (has_run xs) none in
    rw (parts.0, before_run-append xs rest parts.1) refl

after_run-append : (earlier rest : List Row) → has_run earlier ≡ false → after_run (earlier ++ rest) ≡ after_run rest
after_run-append [] rest none = refl
after_run-append (x ∷ xs) rest none =
    let parts = or_parts (is_run x) (has_run xs) none in
    rw (parts.0, after_run-append xs rest parts.1) refl

pub taken_of-append : (until : Bool) (earlier rest : List Row) → (until ≡ true → has_run earlier ≡ false) → taken_of until (earlier ++ rest) ≡ earlier ++ taken_of until rest
taken_of-append true earlier rest none = before_run-append earlier rest (none refl)
taken_of-append false earlier rest none = refl

taken_of-cons : (until : Bool) (row : Row) (later : List Row) → (until ≡ true → is_run row ≡ false) → taken_of until (row ∷ later) ≡ row ∷ taken_of until later
taken_of-cons true row later none = rw (none refl) refl
taken_of-cons false row later none = refl

-- Some lines were taken, and the rest are left.

-- the line after them is told
pub told : (judge : Judge) (until : Bool) (earlier : List Row) (row : Row) (later : List Row) (code : Code) → first_fault judge [] earlier ≡ None
    → (until ≡ true → has_run earlier ≡ false) → judge earlier row ≡ Some code → (until ≡ true → is_run row ≡ false)
    → first_fault judge [] (taken_of until (earlier ++ row ∷ later)) ≡ Some (fault_at (length earlier + 1) code)
told judge until earlier row later code clean none found other =
    let lines : taken_of until (earlier ++ row ∷ later) ≡ earlier ++ row ∷ taken_of until later
    = taken_of-append until earlier (row ∷ later) none ∙ ap (λ (l : List Row). earlier ++ l) (taken_of-cons until row later other) in
    rw lines (fault_next judge earlier row (taken_of until later) code clean found)

next_of : (n : ℕ) → n + 1 - 1 ≡ n
next_of n = omega arith

-- no line before the next one is faulty
pub clean_front : (judge : Judge) (until : Bool) (earlier rest : List Row) → first_fault judge [] earlier ≡ None → (until ≡ true → has_run earlier ≡ false)
    → first_fault judge [] (take (length earlier + 1 - 1) (taken_of until (earlier ++ rest))) ≡ None
clean_front judge until earlier rest clean none =
    rw (taken_of-append until earlier rest none, next_of (length earlier), take-append_seam earlier (taken_of until rest)) clean

pub front_within : (until : Bool) (earlier rest : List Row) → (until ≡ true → has_run earlier ≡ false) → length earlier + 1 ≤ length (taken_of until (earlier ++ rest)) + 1
front_within until earlier rest none = rw (taken_of-append until earlier rest none, length-append earlier (taken_of until rest)) (omega arith)

pub breaks_off : (judge : Judge) (until : Bool) (earlier : List Row) (row : Row) (later : List Row) → first_fault judge [] earlier ≡ None → (until ≡ true → has_run earlier ≡ false)
    → BreaksOff judge (earlier ++ row ∷ later) (taken_of until (earlier ++ row ∷ later)) (length earlier + 1)
breaks_off judge until earlier row later clean none =
    record {
      first = omega arith;
      within = omega (arith, length-append earlier (row ∷ later));
      next = front_within until earlier (row ∷ later) none;
      clean = clean_front judge until earlier (row ∷ later) clean none;
    }

-- memory ran out for what the next line says
pub runs_out : (judge : Judge) (earlier : List Row) (row : Row) (later : List Row) → first_fault judge [] earlier ≡ None → judge earlier row ≡ None
    → RunsOut judge (earlier ++ row ∷ later) (length earlier + 1)
runs_out judge earlier row later clean none =
    let joined : earlier ++ row ∷ later ≡ (earlier ++ row ∷ []) ++ later = sym (append_assoc earlier (row ∷ []) later) in
    let count : length earlier + 1 ≡ length (earlier ++ row ∷ []) = sym (length-append earlier (row ∷ [])) in
    record {
      first = omega arith;
      within = omega (arith, length-append earlier (row ∷ later));
      clean = rw (joined, count, take-append_seam (earlier ++ row ∷ []) later) (clean_more judge earlier row clean none);
    }

-- The next line of what is left.

pub row_next : (front piece more : List ℕ) → All (λ b. b ≢ 10) front → All (λ b. b ≢ 10) piece → rows (front ++ (piece ++ 10 ∷ more)) ≡ fields (strip_last 13 (front ++ piece)) ∷ rows more
row_next front piece more in_front in_piece =
    let joined : front ++ (piece ++ 10 ∷ more) ≡ (front ++ piece) ++ 10 ∷ more = sym (append_assoc front piece (10 ∷ more)) in
    rw joined (ap (map fields) (line_before_feed (front ++ piece) more (All-append (λ b. b ≢ 10) front piece in_front in_piece)))

pub row_last : (front : List ℕ) → All (λ b. b ≢ 10) front → 0 < length front → rows front ≡ fields (strip_last 13 front) ∷ []
row_last front in_front some = ap (map fields) (line_at_end front in_front some)

pub last_row : (front : List ℕ) → All (λ b. b ≢ 10) front → 0 < length front → rows (front ++ []) ≡ fields (strip_last 13 (front ++ [])) ∷ []
last_row front in_front some = rw append-nil (row_last front in_front some)

-- bytes have a line
pub some_row : (text : List ℕ) → 0 < length text → (row : Row) × (later : List Row) × (rows text ≡ row ∷ later)
some_row text some =
    elim (known_position is_line_feed text) [
      | inl e ↦ (fields (strip_last 13 text), [], ap (map fields) (last_line text e some))
      | inr (i, e) ↦ (fields (strip_last 13 (take i text)), rows (drop (i + 1) text), ap (map fields) (first_line text i e))
    ]

rest_is : (rest piece more after : List ℕ) → rest ≡ piece ++ 10 ∷ more → rest ++ after ≡ piece ++ 10 ∷ (more ++ after)
rest_is rest piece more after e = rw e (append_assoc piece (10 ∷ more) after)

-- the row of the next line
pub next_row : (front rest piece more after : List ℕ) → All (λ b. b ≢ 10) front → All (λ b. b ≢ 10) piece → rest ≡ piece ++ 10 ∷ more
    → rows (front ++ (rest ++ after)) ≡ fields (strip_last 13 (front ++ piece)) ∷ rows (more ++ after)
next_row front rest piece more after in_front in_piece e = rw (rest_is rest piece more after e) (row_next front piece (more ++ after) in_front in_piece)

-- One line is taken, and the rest of the bytes that are shown are left.

module _ {S : Type 0} (judge : Judge) (has_taken : List Row → S → Type 0) (mark : ℕ) (text : List ℕ) where
  feeds_none : (bytes : List ℕ) → All (λ b. b ≢ 10) bytes → count_by is_line_feed bytes ≡ 0
  feeds_none [] none = refl
  feeds_none (b ∷ bs) none =
      let here : is_line_feed b ≡ false = ne_eqb _ _ (none 0 0 (omega arith)) in
      rw here (omega (arith, feeds_none bs (λ k d l. none (suc k) d (omega arith))))

  feeds_line : (before piece : List ℕ) → All (λ b. b ≢ 10) piece → count_by is_line_feed (before ++ (piece ++ 10 ∷ [])) ≡ count_by is_line_feed before + 1
  feeds_line before piece none =
      sum_by-append (λ b. cond (is_line_feed b) 1 0) before (piece ++ 10 ∷ [])
      ∙ ap (λ (n : ℕ). count_by is_line_feed before + n) (sum_by-append (λ b. cond (is_line_feed b) 1 0) piece (10 ∷ []) ∙ rw (feeds_none piece none) refl)

  pub took_line : (rest piece more after : List ℕ) (old new : Feed S) → (at : Within judge has_taken mark text (rest ++ after) old)
      → rest ≡ piece ++ 10 ∷ more → All (λ b. b ≢ 10) piece
      → judge at.earlier (fields (strip_last 13 (at.front ++ piece))) ≡ None
      → has_taken (at.earlier ++ fields (strip_last 13 (at.front ++ piece)) ∷ []) new.taker
      → (old.until_run ≡ true → is_run (fields (strip_last 13 (at.front ++ piece))) ≡ false)
      → new.until_run ≡ old.until_run → new.lines ≡ old.lines + 1 → new.kept.bytes.items ≡ []
      → Within judge has_taken mark text (more ++ after) new
  took_line rest piece more after old new at e in_piece none taken other until lines kept =
      let row = fields (strip_last 13 (at.front ++ piece)) in
      record {
        earlier = at.earlier ++ row ∷ [];
        front = [];
        before = at.before ++ (piece ++ 10 ∷ []);
        lines = at.lines ∙ ap (λ (l : List Row). at.earlier ++ l) (next_row at.front rest piece more after at.in_line in_piece e) ∙ sym (append_assoc at.earlier (row ∷ []) (rows (more ++ after)));
        in_line = All-nil (λ b. b ≢ 10);
        kept = nothing_kept mark new.kept.bytes.items kept;
        count = omega (arith, length-append at.earlier (row ∷ []), at.count, lines);
        clean = clean_more judge at.earlier row at.clean none;
        no_run = λ u. no_run_more at.earlier row (at.no_run (sym until ∙ u)) (other (sym until ∙ u));
        taken = taken;
        read = at.read ∙ ap (λ (l : List ℕ). at.before ++ l) (rest_is rest piece more after e ∙ sym (append_assoc piece (10 ∷ []) (more ++ after))) ∙ sym (append_assoc at.before (piece ++ 10 ∷ []) (more ++ after));
        feeds = feeds_line at.before piece in_piece ∙ omega (arith, at.feeds, lines);
      }

  -- the next line is `run`
  pub met_run : (left after : List ℕ) (row : Row) (old new : Feed S) → (at : Within judge has_taken mark text left old) → rows (at.front ++ left) ≡ row ∷ rows after
      → old.until_run ≡ true → is_run row ≡ true → has_taken at.earlier new.taker → new.until_run ≡ old.until_run → new.lines ≡ old.lines
      → BeforeRun judge has_taken text after new
  met_run left after row old new at next until is taken same lines =
      record {
        earlier = at.earlier;
        row = row;
        lines = at.lines ∙ ap (λ (l : List Row). at.earlier ++ l) next;
        is = is;
        until = same ∙ until;
        count = at.count ∙ sym lines;
        clean = at.clean;
        no_run = at.no_run until;
        taken = taken;
      }

  -- the next line has a fault, or memory ran out in it
  pub met_fault : (left : List ℕ) (row : Row) (later : List Row) (old new : Feed S) (code : Code) → (at : Within judge has_taken mark text left old)
      → rows (at.front ++ left) ≡ row ∷ later
      → ByMemory code ((judge at.earlier row ≡ Some code) × (old.until_run ≡ true → is_run row ≡ false)) ⊤
      → new.until_run ≡ old.until_run → new.lines ≡ old.lines → StopsAt judge text new code
  met_fault left row later old new code at next why same lines =
      record {
        earlier = at.earlier;
        row = row;
        later = later;
        lines = at.lines ∙ ap (λ (l : List Row). at.earlier ++ l) next;
        count = at.count ∙ sym lines;
        clean = at.clean;
        no_run = λ u. at.no_run (sym same ∙ u);
        why = by_memory_of code why (λ p. (p.0, λ u. p.1 (sym same ∙ u))) (λ t. tt);
      }

  pub kept_front : (rest after : List ℕ) (old new : Feed S) → (at : Within judge has_taken mark text (rest ++ after) old) → All (λ b. b ≢ 10) rest
      → ((front : List ℕ) → StandsForFront mark front old.kept.bytes.items → StandsForFront mark (front ++ rest) new.kept.bytes.items)
      → new.taker ≡ old.taker → new.until_run ≡ old.until_run → new.lines ≡ old.lines
      → Within judge has_taken mark text after new
  kept_front rest after old new at in_rest stands taker same lines =
      record {
        earlier = at.earlier;
        front = at.front ++ rest;
        before = at.before ++ rest;
        lines = at.lines ∙ ap (λ (l : List ℕ). at.earlier ++ rows l) (sym (append_assoc at.front rest after));
        in_line = All-append (λ b. b ≢ 10) at.front rest at.in_line in_rest;
        kept = stands at.front at.kept;
        count = at.count ∙ sym lines;
        clean = at.clean;
        no_run = λ u. at.no_run (sym same ∙ u);
        taken = rw taker at.taken;
        read = at.read ∙ sym (append_assoc at.before rest after);
        feeds = sum_by-append (λ b. cond (is_line_feed b) 1 0) at.before rest ∙ omega (arith, feeds_none rest in_rest, at.feeds, lines);
      }

  -- the fault of the next line is known by its front, or memory ran out for it
  pub stopped_front : (rest after : List ℕ) (old new : Feed S) (code : Code) → (at : Within judge has_taken mark text (rest ++ after) old) → All (λ b. b ≢ 10) rest → 0 < length rest
      → ByMemory code (IsFaultOfFront judge at.earlier (at.front ++ rest) code) ⊤
      → new.until_run ≡ old.until_run → new.lines ≡ old.lines → StopsAt judge text new code
  stopped_front rest after old new code at in_rest some why same lines =
      let line = line_begun (at.front ++ rest) after (All-append (λ b. b ≢ 10) at.front rest at.in_line in_rest) (omega (arith, some, length-append at.front rest)) in
      let next : rows (at.front ++ (rest ++ after)) ≡ fields (strip_last 13 ((at.front ++ rest) ++ line.0)) ∷ line.1 = ap rows (sym (append_assoc at.front rest after)) ∙ line.2 in
      met_fault (rest ++ after) (fields (strip_last 13 ((at.front ++ rest) ++ line.0))) line.1 old new code at next
      (by_memory_of code why (λ fault. ((fault line.0).0, λ u. (fault line.0).1)) (λ t. tt)) same lines

-- how far a feed is in the bytes that it was shown
pub record Gone {S : Type 0} (judge : Judge) (has_taken : List Row → S → Type 0) (mark : ℕ) (bytes rest : List ℕ) (old new : Feed S) : Type 0 where
  pub front : List ℕ
  pub split : bytes ≡ front ++ rest
  pub within : (text more : List ℕ) → Within judge has_taken mark text (bytes ++ more) old → Within judge has_taken mark text (rest ++ more) new
  pub lines : new.lines + length rest ≤ old.lines + length bytes
  pub until : new.until_run ≡ old.until_run
  pub left : new.left ≡ old.left

pub suffix_is : (bytes front rest : List ℕ) (n : ℕ) → bytes ≡ front ++ rest → n ≡ length bytes - length rest → drop n bytes ≡ rest
suffix_is bytes front rest n e is =
    let at : n ≡ length front = omega (arith, length-append front rest, ap length e) in
    rw (at, e) (drop-append_seam front rest)

pub suffix_next : (bytes front rest piece more : List ℕ) → bytes ≡ front ++ rest → rest ≡ piece ++ 10 ∷ more → bytes ≡ (front ++ (piece ++ 10 ∷ [])) ++ more
suffix_next bytes front rest piece more e f = e ∙ rw f (sym (append_assoc front (piece ++ 10 ∷ []) more ∙ ap (λ (l : List ℕ). front ++ l) (append_assoc piece (10 ∷ []) more)))

pub answered : {S : Type 0} (judge : Judge) (has_taken : List Row → S → Type 0) (until : Bool) (earlier : List Row) (row : Row) (new : S) (b b' : Bool) → b ≡ b'
    → TakesOrRuns judge has_taken until earlier row new (Ok b) → TakesOrRuns judge has_taken until earlier row new (Ok b')
answered judge has_taken until earlier row new b b' e t = rw e at t

-- What a text answers whose lines are taken.

taken_all : (until : Bool) (lines : List Row) → (until ≡ true → has_run lines ≡ false) → taken_of until lines ≡ lines
taken_all false lines none = refl
taken_all true lines none = sym (ap before_run (append-nil lines)) ∙ before_run-append lines [] (none refl) ∙ append-nil lines

left_none : (until : Bool) (lines : List Row) → (until ≡ true → has_run lines ≡ false) → lines_left until lines ≡ []
left_none false lines none = refl
left_none true lines none = sym (ap after_run (append-nil lines)) ∙ after_run-append lines [] (none refl)

no_run_at : (until : Bool) (lines : List Row) → (until ≡ true → has_run lines ≡ false) → false ≡ (until && has_run lines)
no_run_at false lines none = refl
no_run_at true lines none = sym (none refl)

has_run_at : (earlier : List Row) (row : Row) (later : List Row) → is_run row ≡ true → has_run (earlier ++ row ∷ later) ≡ true
has_run_at earlier row later is = list_any-append is_run earlier (row ∷ later) ∙ rw is (or_true (has_run earlier))
  where
    or_true : (b : Bool) → (b || true) ≡ true
    or_true true = refl
    or_true false = refl

module _ {S : Type 0} (judge : Judge) (has_taken : List Row → S → Type 0) where
  pub whole_reads : (until : Bool) (text : List ℕ) (lines : List Row) (ended : Ended S) → rows text ≡ lines → first_fault judge [] lines ≡ None → (until ≡ true → has_run lines ≡ false)
      → has_taken lines ended.taker → ended.lines ≡ length lines → ended.at_run ≡ false → ReadAll judge has_taken until text (Some []) ended
  whole_reads until text lines ended is clean none taken count at =
      record {
        lines = rw (is, taken_all until lines none) (record { clean = clean; taken = taken; count = count });
        at_run = at ∙ rw is (no_run_at until lines none);
        rest = rw (is, left_none until lines none) refl;
      }

  pub run_reads : (until : Bool) (text left : List ℕ) (feed : Feed S) (ended : Ended S) → BeforeRun judge has_taken text left feed → feed.until_run ≡ until
      → ended.taker ≡ feed.taker → ended.lines ≡ feed.lines → ended.at_run ≡ true → ReadAll judge has_taken until text (Some left) ended
  run_reads until text left feed ended run same taker lines at =
      let is : until ≡ true = sym same ∙ run.until in
      let front : before_run (run.row ∷ rows left) ≡ [] = rw run.is refl in
      let back : after_run (run.row ∷ rows left) ≡ rows left = rw run.is refl in
      let taken : taken_of until (rows text) ≡ run.earlier = rw (is, run.lines) (before_run-append run.earlier (run.row ∷ rows left) run.no_run ∙ ap (λ (l : List Row). run.earlier ++ l) front ∙ append-nil run.earlier) in
      let rest : lines_left until (rows text) ≡ rows left = rw (is, run.lines) (after_run-append run.earlier (run.row ∷ rows left) run.no_run ∙ back) in
      record {
        lines = rw taken (record { clean = run.clean; taken = rw taker run.taken; count = lines ∙ sym run.count });
        at_run = at ∙ rw (is, run.lines) (sym (has_run_at run.earlier run.row (rows left) run.is));
        rest = sym rest;
      }

  pub last_reads : (mark : ℕ) (text : List ℕ) (old new : Feed S) (ended : Ended S) → (at : Within judge has_taken mark text [] old) → 0 < length at.front
      → judge at.earlier (fields (strip_last 13 (at.front ++ []))) ≡ None
      → has_taken (at.earlier ++ fields (strip_last 13 (at.front ++ [])) ∷ []) new.taker
      → (old.until_run ≡ true → is_run (fields (strip_last 13 (at.front ++ []))) ≡ false)
      → ended.taker ≡ new.taker → ended.lines ≡ old.lines + 1 → ended.at_run ≡ false → ReadAll judge has_taken old.until_run text (Some []) ended
  last_reads mark text old new ended at some none taken other taker lines run =
      let row = fields (strip_last 13 (at.front ++ [])) in
      let last : rows text ≡ at.earlier ++ row ∷ [] = at.lines ∙ ap (λ (l : List Row). at.earlier ++ l) (last_row at.front at.in_line some) in
      whole_reads old.until_run text (at.earlier ++ row ∷ []) ended last (clean_more judge at.earlier row at.clean none) (λ u. no_run_more at.earlier row (at.no_run u) (other u)) (rw taker taken)
      (omega (arith, length-append at.earlier (row ∷ []), at.count, lines)) run

  pub all_reads : (mark : ℕ) (text : List ℕ) (old : Feed S) (ended : Ended S) → (at : Within judge has_taken mark text [] old) → at.front ≡ []
      → ended.taker ≡ old.taker → ended.lines ≡ old.lines → ended.at_run ≡ false → ReadAll judge has_taken old.until_run text (Some []) ended
  all_reads mark text old ended at none taker lines run =
      let last : rows text ≡ at.earlier = at.lines ∙ rw none (append-nil at.earlier) in
      whole_reads old.until_run text at.earlier ended last at.clean at.no_run (rw taker at.taken) (lines ∙ sym at.count) run

pub stop_told : {S : Type 0} (judge : Judge) (text : List ℕ) (left : Option (List ℕ)) (until : Bool) (feed : Feed S) (line : ℕ) (code : Code) → StopsAt judge text feed code → feed.until_run ≡ until → line ≡ feed.lines + 1
    → ByCode code (first_fault judge [] (taken_of until (rows text)) ≡ Some (fault_at line code)) (FailsIn judge text (taken_of until (rows text)) left line) (BreaksOff judge (rows text) (taken_of until (rows text)) line)
stop_told judge text left until feed line code stop same at =
    let count : line ≡ length stop.earlier + 1 = at ∙ ap (λ (n : ℕ). n + 1) (sym stop.count) in
    by_code_of (FailsIn judge text (taken_of until (rows text)) left line) code stop.why
    (λ p. rw (stop.lines, count) (told judge until stop.earlier stop.row stop.later code stop.clean (λ u. stop.no_run (same ∙ u)) p.0 (λ u. p.1 (same ∙ u))))
    (λ _. rw (stop.lines, count) (breaks_off judge until stop.earlier stop.row stop.later stop.clean (λ u. stop.no_run (same ∙ u))))

-- Bytes that are at hand.

pub record SoFar {S : Type 0} (judge : Judge) (has_taken : List Row → S → Type 0) (text rest : List ℕ) (line : ℕ) (taker : S) : Type 0 where
  pub earlier : List Row
  pub whole : rows text ≡ earlier ++ rows rest
  pub count : length earlier ≡ line
  pub clean : first_fault judge [] earlier ≡ None
  pub taken : has_taken earlier taker

module _ {S : Type 0} (judge : Judge) (has_taken : List Row → S → Type 0) (text : List ℕ) where
  pub nothing_yet : (taker : S) → has_taken [] taker → SoFar judge has_taken text text 0 taker
  nothing_yet taker taken = record { earlier = []; whole = refl; count = refl; clean = refl; taken = taken }

  pub one_more : (rest line more : List ℕ) (n : ℕ) (old new : S) → (far : SoFar judge has_taken text rest n old) → lines rest ≡ line ∷ lines more
      → Takes judge has_taken far.earlier (fields line) new (Ok tt) → SoFar judge has_taken text more (n + 1) new
  one_more rest line more n old new far e takes =
      record {
        earlier = far.earlier ++ fields line ∷ [];
        whole = far.whole ∙ ap (λ (l : List (List ℕ)). far.earlier ++ map fields l) e ∙ sym (append_assoc far.earlier (fields line ∷ []) (rows more));
        count = omega (arith, length-append far.earlier (fields line ∷ []), far.count);
        clean = clean_more judge far.earlier (fields line) far.clean takes.0;
        taken = takes.1;
      }

  pub stops : (rest line more : List ℕ) (n : ℕ) (old new : S) (code : Code) → (far : SoFar judge has_taken text rest n old) → lines rest ≡ line ∷ lines more
      → Takes judge has_taken far.earlier (fields line) new (Err code)
      → ByMemory code (first_fault judge [] (rows text) ≡ Some (fault_at (n + 1) code)) (RunsOut judge (rows text) (n + 1))
  stops rest line more n old new code far e takes =
      let whole : rows text ≡ far.earlier ++ fields line ∷ rows more = far.whole ∙ ap (λ (l : List (List ℕ)). far.earlier ++ map fields l) e in
      by_memory_of code takes
      (λ found. rw (whole, ← far.count) (fault_next judge far.earlier (fields line) (rows more) code far.clean found))
      (λ none. rw (whole, ← far.count) (runs_out judge far.earlier (fields line) (rows more) far.clean none))

  pub all_parsed : (rest : List ℕ) (n : ℕ) (taker : S) (ended : Ended S) → SoFar judge has_taken text rest n taker → lines rest ≡ [] → ended.taker ≡ taker → ended.lines ≡ n
      → TakenAll judge has_taken (rows text) ended
  all_parsed rest n taker ended far e same count =
      let whole : rows text ≡ far.earlier = far.whole ∙ ap (λ (l : List (List ℕ)). far.earlier ++ map fields l) e ∙ append-nil far.earlier in
      rw whole (record { clean = far.clean; taken = rw same far.taken; count = count ∙ sym far.count })
