-- What is known of a line before it ends, without its bytes.
use Rattle.std.specs.Prelude.{◌≡◌, ℕ, true, false, List, [], ◌∷◌, ◌++◌, All, take, Some, ◌≢◌, if◌then◌else◌}
use Rattle.std.specs.Io.BufRead.{strip_last}
use lib.Chars.{codes}
use Rattle.dimacs.specs.declared.fault.Code.TheVariants.{BadLine}
use Rattle.dimacs.specs.Faults.{Row, is_remark}
use Rattle.dimacs.specs.Lines.{is_blank, fields}
use Rattle.session_lines.specs.declared.fields.Field.{Field}
use Rattle.session_lines.specs.declared.fields.Numbers.{Numbers}
use Rattle.session_lines.specs.declared.tables.Listing.{Listing}
use Rattle.session_lines.specs.declared.words.SessionWord.{SessionWord}
use Rattle.session_lines.specs.declared.letters.Letters.{Letters}
use Rattle.session_lines.specs.declared.lines.Stage.{Stage}
use Rattle.session_lines.specs.declared.lines.Stage.TheVariants.{Blank, Beginning, Remark, Unknown, Behind, Listing as a_listing, Unnamed, Naming, Named}
use Rattle.session_lines.specs.declared.so_far.LineSoFar.{LineSoFar}
use Rattle.session_lines.specs.Fields.{IsField, IsNumbers}
use Rattle.session_lines.specs.Listings.{IsListing}
use Rattle.session_lines.specs.SessionLines.{session_code, name_of}
use Rattle.session_lines.specs.Spelled.{session_spelling}

-- the bytes of the first field
abbrev pub letters_of : Letters → List ℕ
letters_of letters = take letters.count letters.bytes

-- no byte of it is a blank
abbrev pub IsOneField : List ℕ → Type 0
IsOneField field = All (λ b. is_blank b ≡ false) field

-- these letters begin a line's first field: there are some, and they begin no comment
pub record BeginsWith (front letters : List ℕ) : Type 0 where
  pub first : ℕ
  pub others : List ℕ
  pub letters_are : letters ≡ first ∷ others
  pub no_remark : first ≢ 35
  pub no_blank : IsOneField letters
  pub goes_on : (more : List ℕ) → fields (front ++ more) ≡ fields (letters ++ more)

-- the line begins with this word, then has whole fields and one that may go on
pub record GoesOnBehind (front : List ℕ) (word : SessionWord) (numbers : Numbers) (field : Field) : Type 0 where
  pub whole : Row
  pub last : List ℕ
  pub numbers_are : IsNumbers whole numbers
  pub field_is : IsField last field
  pub no_blank : IsOneField last
  pub goes_on : (more : List ℕ) → fields (front ++ more) ≡ session_spelling word ∷ (whole ++ fields (last ++ more))

-- the line begins with `table`, then has whole fields and one that may go on
pub record GoesOnListing (front : List ℕ) (listing : Listing) (field : Field) : Type 0 where
  pub whole : Row
  pub last : List ℕ
  pub listing_is : IsListing whole listing
  pub field_is : IsField last field
  pub no_blank : IsOneField last
  pub goes_on : (more : List ℕ) → fields (front ++ more) ≡ codes "table" ∷ (whole ++ fields (last ++ more))

-- the line begins with `copy`, then has a field that begins with this name, and may go on
pub record GoesOnNaming (front name : List ℕ) : Type 0 where
  pub no_blank : IsOneField name
  pub goes_on : (more : List ℕ) → fields (front ++ more) ≡ codes "copy" ∷ fields (name ++ more)

-- what is known of the front of a line
abbrev pub IsStage : List ℕ → Stage → Type 0
IsStage front Blank = (more : List ℕ) → fields (front ++ more) ≡ fields more
IsStage front (Beginning letters) = BeginsWith front (letters_of letters)
IsStage front Remark = (more : List ℕ) → is_remark 35 (fields (front ++ more)) ≡ true
IsStage front Unknown = (more : List ℕ) → session_code (fields (front ++ more)) ≡ Some BadLine
IsStage front (Behind word numbers field) = GoesOnBehind front word numbers field
IsStage front (a_listing listing field) = GoesOnListing front listing field
IsStage front Unnamed = (more : List ℕ) → fields (front ++ more) ≡ codes "copy" ∷ fields more
IsStage front (Naming name) = GoesOnNaming front (name_of name)
IsStage front (Named name) = (more : List ℕ) → fields (front ++ more) ≡ codes "copy" ∷ name_of name ∷ fields more

-- these bytes came: where the last is a carriage return, it waits for what follows
pub record IsSoFar (front : List ℕ) (line : LineSoFar) : Type 0 where
  pub judged : List ℕ
  pub front_is : front ≡ judged ++ (if line.after_return then 13 ∷ [] else [])
  pub plain : strip_last 13 front ≡ judged
  pub stage : IsStage judged line.stage
