-- A line that is read byte by byte.
use Rattle.std.proofs.Common.{◌≡◌, ◌≢◌, ◌∙◌, ◌⊎◌, ℕ, ◌<◌, Bool, true, false, List, [], ◌∷◌, ◌++◌, All, Option, None, Some, Ok, Err, length, refl, sym, ap, subst, arith, inl, inr, append_assoc}
use Rattle.std.specs.Prelude.{⊤, IfSome}
use Rattle.std.specs.Io.BufRead.{strip_last}
use Rattle.std.specs.Io.KnownBytes.{Consumes, IsAtEnd, Keeps}
use Rattle.std.proofs.lemmas.List.{append-nil, length-append}
use Rattle.std.proofs.lemmas.List.Elements.{All-append, All-nil}
use Rattle.dimacs.specs.declared.fault.Code.{Code}
use Rattle.dimacs.specs.Lines.{fields}
use Rattle.session_lines.specs.declared.lines.Line.{Line}
use Rattle.session_lines.specs.declared.so_far.LineSoFar.{LineSoFar}
use Rattle.session_lines.specs.declared.reading.LastLine.{LastLine}
use Rattle.session_lines.specs.declared.reading.LastLine.TheVariants.{Taken, Dropped}
use Rattle.session_lines.specs.Judging.{IsSoFar}
use Rattle.session_lines.specs.Reads.{HasNoLine, ReadsOne, ReadsSessionLine}
use Rattle.session_lines.specs.SessionLines.{IsLine}

-- these bytes of the first line were taken
pub record HasRead (text : List ℕ) (left : Option (List ℕ)) (line : LineSoFar) (is_empty : Bool) : Type 0 where
  pub front : List ℕ
  pub in_line : All (λ b. b ≢ 10) front
  pub so_far : IsSoFar front line
  pub empty : is_empty ≡ true → front ≡ []
  pub some : is_empty ≡ false → 0 < length front
  pub read : Consumes (Some text) left front

abbrev pub FarRead : Option (List ℕ) → Option (List ℕ) → LineSoFar → Bool → Type 0
FarRead None left line is_empty = ⊤
FarRead (Some text) left line is_empty = HasRead text left line is_empty

pub far_begun : (known : Option (List ℕ)) (line : LineSoFar) → IsSoFar [] line → FarRead known known line true
far_begun None line is = tt
far_begun (Some text) line is = record { front = []; in_line = All-nil (λ b. b ≢ 10); so_far = is; empty = λ _. refl; some = λ e. absurd cc; read = refl }

one_other : (b : ℕ) → b ≢ 10 → All (λ x. x ≢ 10) (b ∷ [])
one_other b other k d l = let first : k ≡ 0 = omega (arith, l) in rw first other

consumes_more : (text : List ℕ) (left rest : Option (List ℕ)) (front : List ℕ) (b : ℕ) → Consumes (Some text) left front → Consumes left rest (b ∷ []) → Consumes (Some text) rest (front ++ b ∷ [])
consumes_more text None rest front b p q = absurd p
consumes_more text (Some xs) None front b p q = absurd q
consumes_more text (Some xs) (Some ys) front b p q = p ∙ ap (λ (l : List ℕ). front ++ l) q ∙ sym (append_assoc front (b ∷ []) ys)

pub far_more : (known left rest : Option (List ℕ)) (old new : LineSoFar) (is_empty : Bool) (b : ℕ) → FarRead known left old is_empty → b ≢ 10
    → ((front : List ℕ) → IsSoFar front old → IsSoFar (front ++ b ∷ []) new) → Consumes left rest (b ∷ []) → FarRead known rest new false
far_more None left rest old new is_empty b far other with_byte took = tt
far_more (Some text) left rest old new is_empty b far other with_byte took = record {
  front = far.front ++ b ∷ [];
  in_line = All-append (λ x. x ≢ 10) far.front (b ∷ []) far.in_line (one_other b other);
  so_far = with_byte far.front far.so_far;
  empty = λ e. absurd cc;
  some = λ _. omega (arith, length-append far.front (b ∷ []));
  read = consumes_more text left rest far.front b far.read took;
}

ended_by_feed : (last_line : LastLine) (text : List ℕ) (left rest : Option (List ℕ)) (front : List ℕ) (line : Line) → Consumes (Some text) left front → All (λ b. b ≢ 10) front → Consumes left rest (10 ∷ [])
    → IsLine (fields (strip_last 13 front)) line → ReadsOne last_line text rest line
ended_by_feed last_line text None rest front line p in_line q is = absurd p
ended_by_feed last_line text (Some xs) None front line p in_line q is = absurd q
ended_by_feed last_line text (Some xs) (Some ys) front line p in_line q is = record {
  bytes = front;
  rest = ys;
  first = record { in_line = in_line; whole = inl (p ∙ ap (λ (l : List ℕ). front ++ l) q) };
  left_is = refl;
  is = is;
}

pub far_fed : (last_line : LastLine) (known left rest : Option (List ℕ)) (old : LineSoFar) (is_empty : Bool) (b : ℕ) (line : Line) → FarRead known left old is_empty → b ≡ 10 → Consumes left rest (b ∷ [])
    → ((front : List ℕ) → IsSoFar front old → IsLine (fields (strip_last 13 front)) line) → IfSome known (λ text. ReadsSessionLine last_line text rest (Ok (Some line)))
far_fed last_line None left rest old is_empty b line far feed took reads = tt
far_fed last_line (Some text) left rest old is_empty b line far feed took reads =
    ended_by_feed last_line text left rest far.front line far.read far.in_line (rw feed at took) (reads far.front far.so_far)

ended_by_text : (last_line : LastLine) (text : List ℕ) (left rest : Option (List ℕ)) (front : List ℕ) (line : Line) → Consumes (Some text) left front → All (λ b. b ≢ 10) front → 0 < length front → last_line ≡ Taken → IsAtEnd left → Keeps left rest
    → IsLine (fields (strip_last 13 front)) line → ReadsOne last_line text rest line
ended_by_text last_line text None rest front line p in_line some taken none kept is = absurd p
ended_by_text last_line text (Some xs) None front line p in_line some taken none kept is = absurd kept
ended_by_text last_line text (Some xs) (Some ys) front line p in_line some taken none kept is = record {
  bytes = front;
  rest = ys;
  first = record { in_line = in_line; whole = inr (taken, p ∙ ap (λ (l : List ℕ). front ++ l) none ∙ append-nil front, kept ∙ none, some) };
  left_is = refl;
  is = is;
}

pub far_ended : (last_line : LastLine) (known left rest : Option (List ℕ)) (old : LineSoFar) (is_empty : Bool) (line : Line) → FarRead known left old is_empty → is_empty ≡ false → last_line ≡ Taken → IsAtEnd left × Keeps left rest
    → ((front : List ℕ) → IsSoFar front old → IsLine (fields (strip_last 13 front)) line) → IfSome known (λ text. ReadsSessionLine last_line text rest (Ok (Some line)))
far_ended last_line None left rest old is_empty line far some taken ends reads = tt
far_ended last_line (Some text) left rest old is_empty line far some taken ends reads =
    ended_by_text last_line text left rest far.front line far.read far.in_line (far.some some) taken ends.0 ends.1 (reads far.front far.so_far)

-- the rest of the text has no line: nothing was taken of it, or a line without its end, which is dropped
no_line : (last_line : LastLine) (text front : List ℕ) (is_empty : Bool) → text ≡ front → All (λ b. b ≢ 10) front → (is_empty ≡ true → front ≡ []) → (is_empty ≡ true) ⊎ (last_line ≡ Dropped) → HasNoLine last_line text
no_line Taken text front is_empty is in_line empty (inl none) = is ∙ empty none
no_line Taken text front is_empty is in_line empty (inr dropped) = absurd (let absurdity : ⊥ = cc in absurdity)
no_line Dropped text front is_empty is in_line empty none = subst (λ (l : List ℕ). All (λ b. b ≢ 10) l) (sym is) in_line

no_text : (last_line : LastLine) (text : List ℕ) (left rest : Option (List ℕ)) (front : List ℕ) (is_empty : Bool) → Consumes (Some text) left front → All (λ b. b ≢ 10) front → (is_empty ≡ true → front ≡ [])
    → (is_empty ≡ true) ⊎ (last_line ≡ Dropped) → IsAtEnd left → Keeps left rest → HasNoLine last_line text × (rest ≡ Some [])
no_text last_line text None rest front is_empty p in_line empty why none kept = absurd p
no_text last_line text (Some xs) None front is_empty p in_line empty why none kept = absurd kept
no_text last_line text (Some xs) (Some ys) front is_empty p in_line empty why none kept =
    (no_line last_line text front is_empty (p ∙ ap (λ (l : List ℕ). front ++ l) none ∙ append-nil front) in_line empty why, ap Some (kept ∙ none))

pub far_none : (last_line : LastLine) (known left rest : Option (List ℕ)) (old : LineSoFar) (is_empty : Bool) → FarRead known left old is_empty → (is_empty ≡ true) ⊎ (last_line ≡ Dropped) → IsAtEnd left × Keeps left rest
    → IfSome known (λ text. ReadsSessionLine last_line text rest (Ok None))
far_none last_line None left rest old is_empty far why ends = tt
far_none last_line (Some text) left rest old is_empty far why ends = no_text last_line text left rest far.front is_empty far.read far.in_line far.empty why ends.0 ends.1

consumes_kept : (text : List ℕ) (left rest : Option (List ℕ)) (front : List ℕ) → Consumes (Some text) left front → Keeps left rest → Consumes (Some text) rest front
consumes_kept text None rest front p kept = absurd p
consumes_kept text (Some xs) None front p kept = absurd kept
consumes_kept text (Some xs) (Some ys) front p kept = p ∙ ap (λ (l : List ℕ). front ++ l) (sym kept)

pub far_failed : (last_line : LastLine) (known left rest : Option (List ℕ)) (old : LineSoFar) (is_empty : Bool) (code : Code) → FarRead known left old is_empty → Keeps left rest
    → IfSome known (λ text. ReadsSessionLine last_line text rest (Err code))
far_failed last_line None left rest old is_empty code far kept = tt
far_failed last_line (Some text) left rest old is_empty code far kept = record { front = far.front; in_line = far.in_line; read = consumes_kept text left rest far.front far.read kept }
