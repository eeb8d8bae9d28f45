-- The fault of a line that overflows is told by its front.
use Rattle.std.proofs.Common.{◌≡◌, ℕ, ◌<◌, Bool, true, false, List, [], ◌∷◌, ◌++◌, length, Option, Some, None, Ok, refl, sym, ap, ◌∙◌, arith, inl, inr, append-nil, length-append}
use Rattle.std.specs.Prelude.{⊤}
use Rattle.std.specs.Io.BufRead.{strip_last}
use Rattle.dimacs.specs.declared.fault.Code.{Code}
use Rattle.dimacs.specs.Lines.{is_blank, fields}
use Rattle.dimacs.specs.Faults.{Row, Judge, is_remark}
use Rattle.dimacs.specs.Joint.{is_run}
use Rattle.dimacs.specs.Taking.{Takes, ByMemory}
use Rattle.dimacs.specs.Progress.{StandsForFront}
use Rattle.dimacs.specs.Overflow.{overflows, OverflowsBehind, Overflowing, IsFaultOfFront}
use Rattle.dimacs.specs.Alike.{SaySame}
use Rattle.dimacs.proofs.Alikes.{run_same_row}
use Rattle.dimacs.proofs.Items.{by_memory_of}
use Rattle.dimacs.proofs.Fronts.{strip_front, stripped_front}
use Rattle.dimacs.proofs.Remarks.{remark_same, remark_grows, mark_remark}
use Rattle.dimacs.proofs.Beyond.{beyond_no_run}

module _ {S : Type 0} (judge : Judge) (has_taken : List Row → S → Type 0) (mark : ℕ) (code_of : List Row → Row → Code)
    (law : (earlier : List Row) (before : Row) (field : List ℕ) (after : Row) → overflows before field ≡ true → is_remark mark (before ++ field ∷ after) ≡ false
    → judge earlier (before ++ field ∷ after) ≡ Some (code_of earlier before))
    (no_blank : is_blank mark ≡ false) (judged : (earlier : List Row) (one other : Row) → SaySame one other → judge earlier one ≡ judge earlier other) where
  -- the code of a row that overflows behind these fields
  code_behind : (earlier : List Row) (before row : Row) → OverflowsBehind before row → is_remark mark row ≡ false → judge earlier row ≡ Some (code_of earlier before)
  code_behind earlier before row (field, after, is, over) other = rw is (law earlier before field after over (rw is at other))

  run_behind : (before row : Row) → OverflowsBehind before row → is_run row ≡ false
  run_behind before row (field, after, is, over) = rw is (beyond_no_run before field after over)

  some_behind : (before row : Row) → OverflowsBehind before row → 0 < length row
  some_behind before row (field, after, is, over) = rw is (omega (arith, length-append before (field ∷ after)))

  not_remark : (kept : List ℕ) → is_remark mark (fields kept) ≡ false → is_remark mark (fields (strip_last 13 kept)) ≡ false
  not_remark kept other = go (is_remark mark (fields (strip_last 13 kept))) refl
    where
      go : (b : Bool) → is_remark mark (fields (strip_last 13 kept)) ≡ b → b ≡ false
      go false e = refl
      go true e =
          let tail = stripped_front kept in
          absurd (let clash : is_remark mark (fields kept) ≡ true = ap (λ (l : List ℕ). is_remark mark (fields l)) tail.1 ∙ remark_grows mark (strip_last 13 kept) tail.0 e in cc)

  front_behind : (kept : List ℕ) (over : Overflowing (strip_last 13 kept)) → OverflowsBehind over.0 (fields (strip_last 13 kept))
  front_behind kept over = let none = over.1 [] in rw (append-nil (strip_last 13 kept)) at none

  -- the code with which the front is refused as a line is that of each line that begins with it
  pub front_told : (earlier : List Row) (front kept : List ℕ) (code : Code) → StandsForFront mark front kept → is_remark mark (fields kept) ≡ false → Overflowing (strip_last 13 kept)
      → judge earlier (fields (strip_last 13 kept)) ≡ Some code → IsFaultOfFront judge earlier front code
  front_told earlier front kept code (inr both) other over told = absurd (let clash : is_remark mark (fields kept) ≡ true = rw both.1 (mark_remark mark no_blank) in cc)
  front_told earlier front kept code (inl same) other over told = λ more.
      let rest = strip_front kept more in
      let here = over.1 rest.0 in
      let whole : SaySame (fields (strip_last 13 (front ++ more))) (fields (strip_last 13 kept ++ rest.0)) = (let goes = same.goes_on more in rw rest.1 at goes) in
      let plain : is_remark mark (fields (strip_last 13 kept)) ≡ false = not_remark kept other in
      let some : 0 < length (fields (strip_last 13 kept)) = some_behind over.0 _ (front_behind kept over) in
      let goes : is_remark mark (fields (strip_last 13 kept ++ rest.0)) ≡ false = remark_same mark (strip_last 13 kept) rest.0 some ∙ plain in
      let code_is : ◌≡◌ {A = Option Code} (Some (code_of earlier over.0)) (Some code) = sym (code_behind earlier over.0 _ (front_behind kept over) plain) ∙ told in
      (judged earlier _ _ whole ∙ code_behind earlier over.0 _ here goes ∙ code_is, run_same_row _ _ whole ∙ run_behind over.0 _ here)

  -- the same of what taking the front as a line answers
  pub told_early : (earlier : List Row) (front kept : List ℕ) (code : Code) → StandsForFront mark front kept → is_remark mark (fields kept) ≡ false → Overflowing (strip_last 13 kept)
      → ByMemory code (judge earlier (fields (strip_last 13 kept)) ≡ Some code) (judge earlier (fields (strip_last 13 kept)) ≡ None) → ByMemory code (IsFaultOfFront judge earlier front code) ⊤
  told_early earlier front kept code stands other over refused = by_memory_of code refused (λ told. front_told earlier front kept code stands other over told) (λ none. tt)

  -- it is never taken
  pub never_taken : (P : Type 0) (earlier : List Row) (kept : List ℕ) (new : S) → is_remark mark (fields kept) ≡ false → Overflowing (strip_last 13 kept)
      → Takes judge has_taken earlier (fields (strip_last 13 kept)) new (Ok tt) → P
  never_taken P earlier kept new other over takes =
      absurd (let clash : ◌≡◌ {A = Option Code} None (Some (code_of earlier over.0)) = sym takes.0 ∙ code_behind earlier over.0 _ (front_behind kept over) (not_remark kept other) in cc)
