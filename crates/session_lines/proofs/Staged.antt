-- What is known of a line with one more byte.
use Rattle.std.proofs.Common.{◌≡◌, ◌≢◌, ◌∙◌, ℕ, ◌<◌, Bool, true, false, ◌||◌, List, [], ◌∷◌, ◌++◌, None, Some, length, refl, sym, ap, subst, inl, inr, arith, append_assoc}
use Rattle.std.proofs.lemmas.Bool.{cases_Bool}
use Rattle.std.proofs.lemmas.List.{append-nil, length-append, length-take}
use Rattle.dimacs.specs.declared.fault.Code.TheVariants.{BadLine}
use Rattle.dimacs.specs.Faults.{Row, is_empty, is_remark}
use Rattle.dimacs.specs.Lines.{is_blank, fields}
use Rattle.dimacs.proofs.Spelled.{spelled}
use Rattle.session_lines.specs.declared.fields.Field.{Field}
use Rattle.session_lines.specs.declared.fields.Field.TheVariants.{Unbegun}
use Rattle.session_lines.specs.declared.fields.Numbers.{Numbers}
use Rattle.session_lines.specs.declared.fields.Numbers.TheVariants.{Nothing}
use Rattle.session_lines.specs.declared.letters.Letters.{Letters}
use Rattle.session_lines.specs.declared.lines.Line.{Line}
use Rattle.session_lines.specs.declared.lines.Line.TheVariants.{Ignored}
use Rattle.session_lines.specs.declared.so_far.LineSoFar.{LineSoFar}
use Rattle.session_lines.specs.declared.lines.Stage.{Stage}
use Rattle.session_lines.specs.declared.lines.Stage.TheVariants.{Blank, Beginning, Remark, Unknown, Behind}
use Rattle.session_lines.specs.declared.words.SessionWord.{SessionWord}
use Rattle.session_lines.specs.Fields.{IsField, IsNumbers, as_row}
use Rattle.session_lines.specs.Judging.{IsOneField, IsSoFar, IsStage, letters_of}
use Rattle.session_lines.specs.SessionLines.{session_code, IsLine}
use Rattle.session_lines.specs.Spelled.{session_spelling, session_words, session_word_from}
use Rattle.session_lines.proofs.Fieldwise.{blank_first, ended_by_blank, ended_by_line, one_byte, one_more, first_field, remark_first, without_return, no_return}
use Rattle.std.specs.Str.{bytes_eq}
use lib.Chars.{codes}
use Rattle.session_lines.specs.Names.{copy_of}
use Rattle.session_lines.proofs.Worded.{unknown_row, long_field, not_copy, long_not_copy, long_not_table, copy_alone}

-- ---- blanks and the first byte behind them
pub more_blanks : (front : List ℕ) (b : ℕ) → is_blank b ≡ true → IsStage front Blank → IsStage (front ++ b ∷ []) Blank
more_blanks front b blank is more = rw (append_assoc front (b ∷ []) more) (is (b ∷ more) ∙ blank_first b more blank)

pub begins_remark : (front : List ℕ) (b : ℕ) → b ≡ 35 → IsStage front Blank → IsStage (front ++ b ∷ []) Remark
begins_remark front b mark is more =
    let row : fields ((front ++ b ∷ []) ++ more) ≡ fields (35 ∷ more) = rw (append_assoc front (b ∷ []) more) (is (b ∷ more) ∙ ap (λ (x : ℕ). fields (x ∷ more)) mark) in
    ap (is_remark 35) row ∙ remark_first more

pub begins_field : (front : List ℕ) (b : ℕ) (letters : Letters) → is_blank b ≡ false → b ≢ 35 → letters_of letters ≡ b ∷ [] → IsStage front Blank → IsStage (front ++ b ∷ []) (Beginning letters)
begins_field front b letters plain other are is = record {
  first = b;
  others = [];
  letters_are = are;
  no_remark = other;
  no_blank = rw are (one_byte b plain);
  goes_on = λ more. rw (append_assoc front (b ∷ []) more, are) (is (b ∷ more));
}

-- ---- a byte behind something that goes on whatever follows
pub still_remark : (front : List ℕ) (b : ℕ) → IsStage front Remark → IsStage (front ++ b ∷ []) Remark
still_remark front b is more = rw (append_assoc front (b ∷ []) more) (is (b ∷ more))

pub still_unknown : (front : List ℕ) (b : ℕ) → IsStage front Unknown → IsStage (front ++ b ∷ []) Unknown
still_unknown front b is more = rw (append_assoc front (b ∷ []) more) (is (b ∷ more))

-- ---- the first field
pub more_letters : (front : List ℕ) (b : ℕ) (old new : Letters) → is_blank b ≡ false → letters_of new ≡ letters_of old ++ b ∷ [] → IsStage front (Beginning old) → IsStage (front ++ b ∷ []) (Beginning new)
more_letters front b old new plain are is = record {
  first = is.first;
  others = is.others ++ b ∷ [];
  letters_are = are ∙ ap (λ (l : List ℕ). l ++ b ∷ []) is.letters_are;
  no_remark = is.no_remark;
  no_blank = rw are (one_more (letters_of old) b is.no_blank plain);
  goes_on = λ more. rw (append_assoc front (b ∷ []) more, are, append_assoc (letters_of old) (b ∷ []) more) (is.goes_on (b ∷ more));
}

-- more letters than a word has
pub too_long : (front : List ℕ) (b : ℕ) (letters : Letters) → is_blank b ≡ false → length (letters_of letters) ≡ 9 → IsStage front (Beginning letters) → IsStage (front ++ b ∷ []) Unknown
too_long front b letters plain nine is more =
    let w = is.others ++ b ∷ [] in
    let one : IsOneField (is.first ∷ w) = subst IsOneField (ap (λ (l : List ℕ). l ++ b ∷ []) is.letters_are) (one_more (letters_of letters) b is.no_blank plain) in
    let found = first_field is.first w more one in
    let row : fields ((front ++ b ∷ []) ++ more) ≡ (is.first ∷ (w ++ found.tail)) ∷ found.others =
    rw (append_assoc front (b ∷ []) more) (is.goes_on (b ∷ more) ∙ ap (λ (l : List ℕ). fields (l ++ b ∷ more)) is.letters_are ∙ ap (λ (l : List ℕ). fields (is.first ∷ l)) (sym (append_assoc is.others (b ∷ []) more)) ∙ found.row) in
    let count : length (is.first ∷ is.others) ≡ 9 = sym (ap length is.letters_are) ∙ nine in
    let long : 9 < length (is.first ∷ (w ++ found.tail)) = omega (arith, count, length-append w found.tail, length-append is.others (b ∷ [])) in
    ap session_code row ∙ unknown_row is.first (w ++ found.tail) found.others is.no_remark (long_field (is.first ∷ (w ++ found.tail)) long) (long_not_copy (is.first ∷ (w ++ found.tail)) found.others long)
    (long_not_table (is.first ∷ (w ++ found.tail)) long)

some_letters : (letters : List ℕ) (first : ℕ) (others : List ℕ) → letters ≡ first ∷ others → as_row letters ≡ letters ∷ []
some_letters letters first others e = rw e refl

pub first_whole : (front : List ℕ) (b : ℕ) (letters : Letters) (more : List ℕ) → is_blank b ≡ true → IsStage front (Beginning letters) → fields ((front ++ b ∷ []) ++ more) ≡ letters_of letters ∷ fields more
first_whole front b letters more blank is =
    rw (append_assoc front (b ∷ []) more) (
    is.goes_on (b ∷ more) ∙ ended_by_blank (letters_of letters) b more is.no_blank blank
    ∙ ap (λ (l : Row). l ++ fields more) (some_letters (letters_of letters) is.first is.others is.letters_are)
    )

pub unknown_ended : (front : List ℕ) (b : ℕ) (letters : Letters) → is_blank b ≡ true → None ≡ session_word_from (letters_of letters) → bytes_eq (letters_of letters) (codes "copy") ≡ false
    → bytes_eq (letters_of letters) (codes "table") ≡ false → IsStage front (Beginning letters) → IsStage (front ++ b ∷ []) Unknown
unknown_ended front b letters blank none other no_table is more =
    let row : fields ((front ++ b ∷ []) ++ more) ≡ (is.first ∷ is.others) ∷ fields more = first_whole front b letters more blank is ∙ ap (λ (l : List ℕ). l ∷ fields more) is.letters_are in
    let no : session_word_from (is.first ∷ is.others) ≡ None = sym (ap session_word_from is.letters_are) ∙ sym none in
    let no_copy : copy_of ((is.first ∷ is.others) ∷ fields more) ≡ None = not_copy (is.first ∷ is.others) (fields more) (sym (ap (λ (l : List ℕ). bytes_eq l (codes "copy")) is.letters_are) ∙ other) in
    let none_of_table : bytes_eq (is.first ∷ is.others) (codes "table") ≡ false = sym (ap (λ (l : List ℕ). bytes_eq l (codes "table")) is.letters_are) ∙ no_table in
    ap session_code row ∙ unknown_row is.first is.others (fields more) is.no_remark no no_copy none_of_table

pub no_bytes : IsOneField []
no_bytes k d l = absurd (omega (arith, l))

pub word_ended : (front : List ℕ) (b : ℕ) (letters : Letters) (word : SessionWord) → is_blank b ≡ true → Some word ≡ session_word_from (letters_of letters) → IsStage front (Beginning letters)
    → IsStage (front ++ b ∷ []) (Behind word Nothing Unbegun)
word_ended front b letters word blank is_word is = record {
  whole = [];
  last = [];
  numbers_are = refl;
  field_is = refl;
  no_blank = no_bytes;
  goes_on = λ more. first_whole front b letters more blank is ∙ ap (λ (l : List ℕ). l ∷ fields more) (spelled session_spelling session_words (letters_of letters) word (sym is_word));
}

-- ---- behind the word
pub field_ended : (front : List ℕ) (b : ℕ) (word : SessionWord) (old new : Numbers) (field : Field) → is_blank b ≡ true
    → ((row : Row) (last : List ℕ) → IsNumbers row old → IsField last field → IsNumbers (row ++ as_row last) new)
    → IsStage front (Behind word old field) → IsStage (front ++ b ∷ []) (Behind word new Unbegun)
field_ended front b word old new field blank ended is = record {
  whole = is.whole ++ as_row is.last;
  last = [];
  numbers_are = ended is.whole is.last is.numbers_are is.field_is;
  field_is = refl;
  no_blank = no_bytes;
  goes_on = λ more.
      rw (append_assoc front (b ∷ []) more) (
      is.goes_on (b ∷ more)
      ∙ ap (λ (l : Row). session_spelling word ∷ (is.whole ++ l)) (ended_by_blank is.last b more is.no_blank blank)
      ∙ ap (λ (l : Row). session_spelling word ∷ l) (sym (append_assoc is.whole (as_row is.last) (fields more)))
      );
}

pub field_goes_on : (front : List ℕ) (b : ℕ) (word : SessionWord) (numbers : Numbers) (old new : Field) → is_blank b ≡ false
    → ((field : List ℕ) → IsField field old → IsField (field ++ b ∷ []) new)
    → IsStage front (Behind word numbers old) → IsStage (front ++ b ∷ []) (Behind word numbers new)
field_goes_on front b word numbers old new plain with_byte is = record {
  whole = is.whole;
  last = is.last ++ b ∷ [];
  numbers_are = is.numbers_are;
  field_is = with_byte is.last is.field_is;
  no_blank = one_more is.last b is.no_blank plain;
  goes_on = λ more. rw (append_assoc front (b ∷ []) more, append_assoc is.last (b ∷ []) more) (is.goes_on (b ∷ more));
}

-- ---- the line that ends here
pub blank_line : (front : List ℕ) → IsStage front Blank → IsLine (fields front) Ignored
blank_line front is = let row : fields front ≡ [] = rw (append-nil front) at (is []) in rw row refl

pub remark_line : (front : List ℕ) → IsStage front Remark → IsLine (fields front) Ignored
remark_line front is = or_right (is_empty (fields front)) (is_remark 35 (fields front)) (rw (append-nil front) at (is []))
  where
    or_right : (a b : Bool) → b ≡ true → (a || b) ≡ true
    or_right true b e = refl
    or_right false b e = e

pub unknown_line : (front : List ℕ) → IsStage front Unknown → session_code (fields front) ≡ Some BadLine
unknown_line front is = rw (append-nil front) at (is [])

first_alone : (front : List ℕ) (letters : Letters) → IsStage front (Beginning letters) → fields front ≡ letters_of letters ∷ []
first_alone front letters is =
    ap fields (sym (append-nil front)) ∙ is.goes_on [] ∙ ended_by_line (letters_of letters) is.no_blank ∙ some_letters (letters_of letters) is.first is.others is.letters_are

-- a field alone that is no word: `table` has numbers behind it
no_line : (first : ℕ) (w : List ℕ) → first ≢ 35 → session_word_from (first ∷ w) ≡ None → session_code ((first ∷ w) ∷ []) ≡ Some BadLine
no_line first w plain none =
    elim (cases_Bool (bytes_eq (first ∷ w) (codes "table"))) [
      | inl spelled ↦ rw (copy_alone (first ∷ w), spelled) refl
      | inr other ↦ unknown_row first w [] plain none (copy_alone (first ∷ w)) other
    ]

pub unknown_alone : (front : List ℕ) (letters : Letters) → None ≡ session_word_from (letters_of letters) → IsStage front (Beginning letters) → session_code (fields front) ≡ Some BadLine
unknown_alone front letters none is =
    let no : session_word_from (is.first ∷ is.others) ≡ None = sym (ap session_word_from is.letters_are) ∙ sym none in
    ap session_code (first_alone front letters is ∙ ap (λ (l : List ℕ). l ∷ []) is.letters_are) ∙ no_line is.first is.others is.no_remark no

pub word_alone : (front : List ℕ) (letters : Letters) (word : SessionWord) (line : Line) → Some word ≡ session_word_from (letters_of letters)
    → ((row : Row) → IsNumbers row Nothing → IsLine (session_spelling word ∷ row) line) → IsStage front (Beginning letters) → IsLine (fields front) line
word_alone front letters word line is_word reads is =
    rw (first_alone front letters is, spelled session_spelling session_words (letters_of letters) word (sym is_word)) (reads [] refl)

pub whole_line : (front : List ℕ) (word : SessionWord) (numbers ended : Numbers) (field : Field) (line : Line)
    → ((row : Row) (last : List ℕ) → IsNumbers row numbers → IsField last field → IsNumbers (row ++ as_row last) ended)
    → ((row : Row) → IsNumbers row ended → IsLine (session_spelling word ∷ row) line) → IsStage front (Behind word numbers field) → IsLine (fields front) line
whole_line front word numbers ended field line ends reads is =
    let row : fields front ≡ session_spelling word ∷ (is.whole ++ as_row is.last) =
    ap fields (sym (append-nil front)) ∙ is.goes_on [] ∙ ap (λ (l : Row). session_spelling word ∷ (is.whole ++ l)) (ended_by_line is.last is.no_blank) in
    rw row (reads (is.whole ++ as_row is.last) (ends is.whole is.last is.numbers_are is.field_is))

-- nine bytes are nine letters
pub nine_letters : (letters : Letters) → letters.count ≡ 9 → length letters.bytes ≡ 9 → length (letters_of letters) ≡ 9
nine_letters letters nine whole = omega (arith, nine, whole, length-take letters.count letters.bytes)

-- ---- carriage returns
pub settled_return : (front : List ℕ) (line : LineSoFar) (new : Stage) → IsSoFar front line → line.after_return ≡ true
    → ((f : List ℕ) → IsStage f line.stage → IsStage (f ++ 13 ∷ []) new) → IsStage front new
settled_return front line new is waits with_return = let whole : front ≡ is.judged ++ 13 ∷ [] = rw waits at is.front_is in rw whole (with_return is.judged is.stage)

pub settled_plain : (front : List ℕ) (line : LineSoFar) → IsSoFar front line → line.after_return ≡ false → IsStage front line.stage
settled_plain front line is waits = let whole : front ≡ is.judged = (rw waits at is.front_is) ∙ append-nil is.judged in rw whole is.stage

pub with_return : (front : List ℕ) (b : ℕ) (stage : Stage) → b ≡ 13 → IsStage front stage → IsSoFar (front ++ b ∷ []) (record { stage = stage; after_return = true })
with_return front b stage is_return is = rw is_return (record { judged = front; front_is = refl; plain = without_return front; stage = is })

pub with_other : (front : List ℕ) (b : ℕ) (stage : Stage) → b ≢ 13 → IsStage (front ++ b ∷ []) stage → IsSoFar (front ++ b ∷ []) (record { stage = stage; after_return = false })
with_other front b stage other is = record { judged = front ++ b ∷ []; front_is = sym (append-nil (front ++ b ∷ [])); plain = no_return front b other; stage = is }
