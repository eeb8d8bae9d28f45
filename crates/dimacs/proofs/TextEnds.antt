-- The content of lines that were taken, or their fault: of any kind of text.
use Rattle.std.proofs.Common.{◌≡◌, ℕ, false, List, [], ◌∷◌, length, Option, Some, None, Result, Ok, Err, refl, sym, ap, arith}
use Rattle.std.specs.Prelude.{◌≢◌, IfSome, IfOk, IfErr}
use Rattle.dimacs.specs.declared.lines.feed.Ended.{Ended}
use Rattle.dimacs.specs.declared.fault.Code.{Code}
use Rattle.dimacs.specs.declared.fault.Code.TheVariants.{BadLine, NoProblemLine, SecondProblemLine, WrongKind, NumberRange, NodeRange, LengthRange, LineCount, TooLarge, Read, OutOfMemory, GroupSize, OpenGroup}
use Rattle.dimacs.specs.declared.fault.Fault.{Fault}
use Rattle.dimacs.specs.Lines.{rows}
use Rattle.dimacs.specs.Faults.{Row, Judge, first_fault, fault_at, fault_of}
use Rattle.dimacs.specs.Taking.{ByCode}
use Rattle.dimacs.specs.Counts.{CountsFailures, one_more_failed}
use Rattle.dimacs.specs.Ends.{HasTakenSome, ReadsLines}
use Rattle.dimacs.specs.Texts.{TextKind, unless_fault, content_by, IsSaid, Source, InMemory, OfReader, FailsFrom, RunsOutFrom, GivesLines, ReadsText, EndsText, map_ok}
use Rattle.dimacs.proofs.Items.{by_code_of}
use Rattle.dimacs.proofs.Far.{some_row}

-- ---- what a code means
by_same : {P : Type 0} (Q : Type 0) (code : Code) → P → (code ≢ Read) → ByCode code P Q P
by_same Q BadLine p n = p
by_same Q NoProblemLine p n = p
by_same Q SecondProblemLine p n = p
by_same Q WrongKind p n = p
by_same Q NumberRange p n = p
by_same Q NodeRange p n = p
by_same Q LengthRange p n = p
by_same Q LineCount p n = p
by_same Q TooLarge p n = p
by_same Q Read p n = absurd (n refl)
by_same Q OutOfMemory p n = p
by_same Q GroupSize p n = p
by_same Q OpenGroup p n = p

pub counts_same : {X : Type 0} (old new : ℕ) (result : Result X Fault) → new ≡ old → IfErr result (λ fault. fault.code ≢ Read) → CountsFailures old new result
counts_same old new (Ok x) e none = e
counts_same old new (Err fault) e none = by_same (new ≡ one_more_failed old) fault.code e none

pub same_code : {P P' : Type 0} (F Q : Type 0) (code : Code) → ByCode code P F Q → (P → P') → ByCode code P' F Q
same_code F Q BadLine m f = f m
same_code F Q NoProblemLine m f = f m
same_code F Q SecondProblemLine m f = f m
same_code F Q WrongKind m f = f m
same_code F Q NumberRange m f = f m
same_code F Q NodeRange m f = f m
same_code F Q LengthRange m f = f m
same_code F Q LineCount m f = f m
same_code F Q TooLarge m f = f m
same_code F Q Read m f = m
same_code F Q OutOfMemory m f = m
same_code F Q GroupSize m f = f m
same_code F Q OpenGroup m f = f m

-- ---- the lines of a text

no_rows : (text : List ℕ) → rows text ≡ [] → text ≡ []
no_rows [] e = refl
no_rows (b ∷ bs) e = let next = some_row (b ∷ bs) (omega arith) in absurd (let clash = next.2 in cc)

module _ {S : Type 0} (judge : Judge) (has_taken : List Row → S → Type 0) where
  -- a reader has given them
  pub given_by_reader : (known left : Option (List ℕ)) (result : Result (Ended S) Fault) → IfSome known (λ text. ReadsLines judge has_taken false text left result) → IfSome known (λ text. GivesLines judge has_taken text (OfReader left) result)
  given_by_reader None left result read = tt
  given_by_reader (Some text) left (Err fault) read = read
  given_by_reader (Some text) None (Ok ended) read = absurd read.rest
  given_by_reader (Some text) (Some rest) (Ok ended) read = (read.lines, ap Some (no_rows rest read.rest))

  -- they are in memory
  pub given_in_memory : (text : List ℕ) (result : Result (Ended S) Fault) → GivesLines judge has_taken text InMemory result → IfOk result (HasTakenSome judge has_taken)
  given_in_memory text (Ok ended) given = (rows text, given.0)
  given_in_memory text (Err fault) given = tt

  pub none_failed : (text : List ℕ) (result : Result (Ended S) Fault) → GivesLines judge has_taken text InMemory result → CountsFailures 0 0 result
  none_failed text (Ok ended) given = refl
  none_failed text (Err fault) given = by_code_of (0 ≡ one_more_failed 0) fault.code given (λ first. refl) (λ out. refl)

-- ---- what they say, or the fault of their end

module _ {X S : Type 0} (kind : TextKind X) (has_taken : List Row → S → Type 0) where
  pub content_ends : (rs : List Row) (fault : Fault) → first_fault kind.judge [] rs ≡ None → kind.end rs ≡ Some fault.code → fault.line ≡ length rs → content_by kind rs ≡ Err fault
  content_ends rs fault clean e line = rw (clean, e) (ap (λ (n : ℕ). Err (fault_at n fault.code)) (sym line))

  pub content_is : (rs : List Row) (x : X) → first_fault kind.judge [] rs ≡ None → kind.end rs ≡ None → x ≡ kind.says rs → content_by kind rs ≡ Ok x
  content_is rs x clean e same = rw (clean, e) (ap Ok (sym same))

  pub content_fault : (rs : List Row) (fault : Fault) → first_fault kind.judge [] rs ≡ Some fault → content_by kind rs ≡ Err fault
  content_fault rs fault e = rw e refl

  pub read_told : (known : Option (List ℕ)) (source : Source) (fault : Fault) → IfSome known (λ text. GivesLines kind.judge has_taken text source (Err fault)) → IfSome known (λ text. ReadsText kind text source (Err fault))
  read_told None source fault given = tt
  read_told (Some text) source fault given = same_code (FailsFrom kind.judge text source fault.line) (RunsOutFrom kind.judge text source fault.line) fault.code given (content_fault (rows text) fault)

  pub read_ended : (known : Option (List ℕ)) (source : Source) (ended : Ended S) (result : Result X Fault) → IfSome known (λ text. GivesLines kind.judge has_taken text source (Ok ended))
      → ((lines : List Row) → has_taken lines ended.taker → ended.lines ≡ length lines → EndsText kind lines result) → IfSome known (λ text. ReadsText kind text source result)
  read_ended None source ended result given ends = tt
  read_ended (Some text) source ended (Ok x) given ends =
      let end = ends (rows text) given.0.taken given.0.count in
      (content_is (rows text) x given.0.clean end.0 end.1, given.1)
  read_ended (Some text) source ended (Err fault) given ends =
      let end = ends (rows text) given.0.taken given.0.count in
      by_code_of (FailsFrom kind.judge text source fault.line) fault.code end.0 (λ e. content_ends (rows text) fault given.0.clean e end.1) (λ none. absurd none)

  pub said_by_lines : {Y : Type 0} (value : Y → X) (ended : Ended S) (result : Result Y Fault) → HasTakenSome kind.judge has_taken ended
      → ((lines : List Row) → has_taken lines ended.taker → ended.lines ≡ length lines → EndsText kind lines (map_ok value result)) → IfOk result (λ y. IsSaid kind (value y))
  said_by_lines value ended (Err fault) some ends = tt
  said_by_lines value ended (Ok y) some ends =
      let end = ends some.0 some.1.taken some.1.count in
      (some.0, content_is some.0 (value y) some.1.clean end.0 end.1)

-- A kind of text that says f of what another says.
ok_of : {X Y : Type 0} (f : X → Y) (o : Option Fault) (a x : X) → unless_fault o a ≡ Ok x → unless_fault o (f a) ≡ Ok (f x)
ok_of f None a x e = let same : a ≡ x = cc in ap (λ y. Ok (f y)) same
ok_of f (Some fault) a x e = absurd (let absurdity : ⊥ = cc in absurdity)

err_of : {X Y : Type 0} (f : X → Y) (o : Option Fault) (a : X) (fault : Fault) → unless_fault o a ≡ Err fault → unless_fault o (f a) ≡ Err fault
err_of f None a fault e = absurd (let absurdity : ⊥ = cc in absurdity)
err_of f (Some found) a fault e = let same : found ≡ fault = cc in ap Err same

module _ {X Y : Type 0} (f : X → Y) (kind : TextKind X) where
  abbrev pub said_of : TextKind Y
  said_of = record { judge = kind.judge; end = kind.end; says = λ rs. f (kind.says rs) }

  content_of_said : (rs : List Row) (fault : Fault) → content_by kind rs ≡ Err fault → content_by said_of rs ≡ Err fault
  content_of_said rs fault e = err_of f (fault_of kind.judge kind.end rs) (kind.says rs) fault e

  pub reads_ok : (known : Option (List ℕ)) (source : Source) (x : X) → IfSome known (λ text. ReadsText kind text source (Ok x)) → IfSome known (λ text. ReadsText said_of text source (Ok (f x)))
  reads_ok None source x read = tt
  reads_ok (Some text) source x read = (ok_of f (fault_of kind.judge kind.end (rows text)) (kind.says (rows text)) x read.0, read.1)

  pub reads_err : (known : Option (List ℕ)) (source : Source) (fault : Fault) → IfSome known (λ text. ReadsText kind text source (Err fault)) → IfSome known (λ text. ReadsText said_of text source (Err fault))
  reads_err None source fault read = tt
  reads_err (Some text) source fault read = same_code (FailsFrom kind.judge text source fault.line) (RunsOutFrom kind.judge text source fault.line) fault.code read (content_of_said (rows text) fault)
