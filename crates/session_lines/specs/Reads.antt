-- What reading the next line of a session answers.
use Rattle.std.specs.Prelude.{◌≡◌, ◌≢◌, ◌⊎◌, ℕ, ◌<◌, List, [], ◌∷◌, ◌++◌, All, length, Option, None, Some, Result, Ok, Err}
use Rattle.std.specs.Io.BufRead.{strip_last}
use Rattle.std.specs.Io.KnownBytes.{Consumes}
use Rattle.dimacs.specs.declared.fault.Code.{Code}
use Rattle.dimacs.specs.Lines.{fields}
use Rattle.session_lines.specs.declared.lines.Line.{Line}
use Rattle.session_lines.specs.declared.reading.LastLine.{LastLine}
use Rattle.session_lines.specs.declared.reading.LastLine.TheVariants.{Taken, Dropped}
use Rattle.session_lines.specs.SessionLines.{IsLine}

-- The first line of a text: its bytes, which end before a line feed, and what is left behind that. Where a last line without its end is taken, it is one too.
pub record IsFirstLine (last_line : LastLine) (text bytes rest : List ℕ) : Type 0 where
  pub in_line : All (λ b. b ≢ 10) bytes
  pub whole : (text ≡ bytes ++ 10 ∷ rest) ⊎ ((last_line ≡ Taken) × (text ≡ bytes) × (rest ≡ []) × (0 < length bytes))

-- a line was read that asks for this, and what follows it is left
pub record ReadsOne (last_line : LastLine) (text : List ℕ) (left : Option (List ℕ)) (line : Line) : Type 0 where
  pub bytes : List ℕ
  pub rest : List ℕ
  pub first : IsFirstLine last_line text bytes rest
  pub left_is : left ≡ Some rest
  pub is : IsLine (fields (strip_last 13 bytes)) line

-- the reader failed in the first line, of which these bytes were read
pub record FailsInLine (text : List ℕ) (left : Option (List ℕ)) : Type 0 where
  pub front : List ℕ
  pub in_line : All (λ b. b ≢ 10) front
  pub read : Consumes (Some text) left front

-- The text has no line: it is empty, or, where a last line without its end is dropped, it has no line feed.
abbrev pub HasNoLine : LastLine → List ℕ → Type 0
HasNoLine Taken text = text ≡ []
HasNoLine Dropped text = All (λ b. b ≢ 10) text

-- the first line of the text asks for this, and what follows it is left; or the text has no line, and is read to its end; or the reader failed
abbrev pub ReadsSessionLine : LastLine → List ℕ → Option (List ℕ) → Result (Option Line) Code → Type 0
ReadsSessionLine last_line text left (Ok (Some line)) = ReadsOne last_line text left line
ReadsSessionLine last_line text left (Ok None) = HasNoLine last_line text × (left ≡ Some [])
ReadsSessionLine last_line text left (Err code) = FailsInLine text left
