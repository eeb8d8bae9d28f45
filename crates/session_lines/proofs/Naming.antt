-- What is known of a line `copy` with one more byte, and where it ends.
use Rattle.std.proofs.Common.{◌≡◌, ◌∙◌, ℕ, ◌<◌, Bool, true, false, ◌&&◌, List, [], ◌∷◌, ◌++◌, Some, length, refl, sym, ap, arith, append_assoc}
use Rattle.std.specs.Prelude.{nat_le}
use Rattle.std.specs.List.{list_all}
use Rattle.std.specs.Str.{bytes_eq}
use Rattle.std.proofs.lemmas.Bool.{lt-leb}
use Rattle.std.proofs.lemmas.List.{append-nil, length-append, length-take}
use Rattle.std.proofs.lemmas.List.Folds.{list_all-append}
use Rattle.std.proofs.lemmas.Slice.Eq.{bytes_eq-Decides}
use lib.Chars.{codes}
use Rattle.dimacs.specs.declared.fault.Code.TheVariants.{BadLine}
use Rattle.dimacs.specs.Commands.{command_code}
use Rattle.dimacs.specs.Faults.{Row}
use Rattle.dimacs.specs.Lines.{is_blank, fields}
use Rattle.session_lines.specs.declared.letters.Letters.{Letters}
use Rattle.session_lines.specs.declared.names.Name.{Name}
use Rattle.session_lines.specs.declared.lines.Line.TheVariants.{Copy}
use Rattle.session_lines.specs.declared.lines.Stage.TheVariants.{Beginning, Unknown, Unnamed, Naming, Named}
use Rattle.session_lines.specs.Fields.{as_row}
use Rattle.session_lines.specs.Judging.{IsOneField, IsStage, letters_of}
use Rattle.session_lines.specs.Names.{is_name, is_name_byte, copy_of}
use Rattle.session_lines.specs.SessionLines.{session_code, name_of, IsLine}
use Rattle.session_lines.proofs.Fieldwise.{blank_first, ended_by_blank, ended_by_line, one_byte, one_more, first_field}
use Rattle.session_lines.proofs.Staged.{first_whole}

-- ---- names
and_no : (b : Bool) → (b && false) ≡ false
and_no true = refl
and_no false = refl

-- a field with a byte that stands in no name
bad_name : (name tail : List ℕ) (b : ℕ) → is_name_byte b ≡ false → is_name ((name ++ b ∷ []) ++ tail) ≡ false
bad_name name tail b bad =
    let inner : list_all is_name_byte (name ++ b ∷ []) ≡ false = list_all-append is_name_byte name (b ∷ []) ∙ rw bad (and_no (list_all is_name_byte name)) in
    let whole : list_all is_name_byte ((name ++ b ∷ []) ++ tail) ≡ false = list_all-append is_name_byte (name ++ b ∷ []) tail ∙ rw inner refl in
    rw whole refl

-- a field of more bytes than a name has
long_name : (field : List ℕ) → 64 < length field → is_name field ≡ false
long_name field long =
    let most : nat_le (length field) 64 ≡ false = lt-leb (length field) 64 long in
    rw (most, and_no (nat_le 1 (length field))) (and_no (list_all is_name_byte field))

-- a name that is whole has a byte
some_byte : (name : List ℕ) → is_name name ≡ true → as_row name ≡ name ∷ []
some_byte [] is = absurd (let absurdity : ⊥ = cc in absurdity)
some_byte (b ∷ bs) is = refl

-- ---- lines that are no copy's
copy_bad : (field : List ℕ) (others : Row) → is_name field ≡ false → session_code (codes "copy" ∷ field ∷ others) ≡ Some BadLine
unfolding command_code
copy_bad field [] bad = rw bad refl
copy_bad field (other ∷ others) bad = refl

copy_two : (field other : List ℕ) (others : Row) → session_code (codes "copy" ∷ field ∷ other ∷ others) ≡ Some BadLine
unfolding command_code
copy_two field other others = refl

copy_none : session_code (codes "copy" ∷ []) ≡ Some BadLine
unfolding command_code
copy_none = refl

copy_named : (name : List ℕ) → is_name name ≡ true → copy_of (codes "copy" ∷ name ∷ []) ≡ Some name
copy_named name is = rw is refl

-- ---- one more byte
-- `copy`, and a blank
pub copy_ended : (front : List ℕ) (b : ℕ) (letters : Letters) → is_blank b ≡ true → bytes_eq (letters_of letters) (codes "copy") ≡ true → IsStage front (Beginning letters) → IsStage (front ++ b ∷ []) Unnamed
copy_ended front b letters blank spelled is more =
    let are : letters_of letters ≡ codes "copy" = (bytes_eq-Decides (letters_of letters) (codes "copy")).0 spelled in
    first_whole front b letters more blank is ∙ ap (λ (l : List ℕ). l ∷ fields more) are

pub still_unnamed : (front : List ℕ) (b : ℕ) → is_blank b ≡ true → IsStage front Unnamed → IsStage (front ++ b ∷ []) Unnamed
still_unnamed front b blank is more = rw (append_assoc front (b ∷ []) more) (is (b ∷ more) ∙ ap (λ (l : Row). codes "copy" ∷ l) (blank_first b more blank))

-- a field behind `copy` that begins with these bytes
record BeginsField (begun : List ℕ) (front more : List ℕ) : Type 0 where
  tail : List ℕ
  others : Row
  row : fields (front ++ more) ≡ codes "copy" ∷ (begun ++ tail) ∷ others

begun_field : (begun front more : List ℕ) → 0 < length begun → IsOneField begun → fields (front ++ more) ≡ codes "copy" ∷ fields (begun ++ more) → BeginsField begun front more
begun_field [] front more some plain goes_on = absurd (omega (arith, some))
begun_field (x ∷ xs) front more some plain goes_on =
    let found = first_field x xs more plain in
    record { tail = found.tail; others = found.others; row = goes_on ∙ ap (λ (l : Row). codes "copy" ∷ l) found.row }

pub begins_name : (front : List ℕ) (b : ℕ) (name : Name) → is_blank b ≡ false → name_of name ≡ b ∷ [] → IsStage front Unnamed → IsStage (front ++ b ∷ []) (Naming name)
begins_name front b name plain are is = record {
  no_blank = rw are (one_byte b plain);
  goes_on = λ more. rw (append_assoc front (b ∷ []) more, are) (is (b ∷ more));
}

pub begins_other : (front : List ℕ) (b : ℕ) → is_blank b ≡ false → is_name_byte b ≡ false → IsStage front Unnamed → IsStage (front ++ b ∷ []) Unknown
begins_other front b plain bad is more =
    let found = begun_field (b ∷ []) (front ++ b ∷ []) more (omega arith) (one_byte b plain) (rw (append_assoc front (b ∷ []) more) (is (b ∷ more))) in
    ap session_code found.row ∙ copy_bad ((b ∷ []) ++ found.tail) found.others (bad_name [] found.tail b bad)

pub more_name : (front : List ℕ) (b : ℕ) (old new : Name) → is_blank b ≡ false → name_of new ≡ name_of old ++ b ∷ [] → IsStage front (Naming old) → IsStage (front ++ b ∷ []) (Naming new)
more_name front b old new plain are is = record {
  no_blank = rw are (one_more (name_of old) b is.no_blank plain);
  goes_on = λ more. rw (append_assoc front (b ∷ []) more, are, append_assoc (name_of old) (b ∷ []) more) (is.goes_on (b ∷ more));
}

-- the field that a name and a byte begin
field_on : (front : List ℕ) (b : ℕ) (name : Name) (more : List ℕ) → is_blank b ≡ false → IsStage front (Naming name) → BeginsField (name_of name ++ b ∷ []) (front ++ b ∷ []) more
field_on front b name more plain is =
    begun_field (name_of name ++ b ∷ []) (front ++ b ∷ []) more (omega (arith, length-append (name_of name) (b ∷ []))) (one_more (name_of name) b is.no_blank plain)
    (rw (append_assoc front (b ∷ []) more, append_assoc (name_of name) (b ∷ []) more) (is.goes_on (b ∷ more)))

pub other_byte : (front : List ℕ) (b : ℕ) (name : Name) → is_blank b ≡ false → is_name_byte b ≡ false → IsStage front (Naming name) → IsStage (front ++ b ∷ []) Unknown
other_byte front b name plain bad is more =
    let found = field_on front b name more plain is in
    ap session_code found.row ∙ copy_bad ((name_of name ++ b ∷ []) ++ found.tail) found.others (bad_name (name_of name) found.tail b bad)

pub name_too_long : (front : List ℕ) (b : ℕ) (name : Name) → is_blank b ≡ false → length (name_of name) ≡ 64 → IsStage front (Naming name) → IsStage (front ++ b ∷ []) Unknown
name_too_long front b name plain full is more =
    let found = field_on front b name more plain is in
    let long : 64 < length ((name_of name ++ b ∷ []) ++ found.tail) = omega (arith, full, length-append (name_of name ++ b ∷ []) found.tail, length-append (name_of name) (b ∷ [])) in
    ap session_code found.row ∙ copy_bad ((name_of name ++ b ∷ []) ++ found.tail) found.others (long_name ((name_of name ++ b ∷ []) ++ found.tail) long)

-- a blank behind the name
pub name_ended : (front : List ℕ) (b : ℕ) (name : Name) → is_blank b ≡ true → IsStage front (Naming name) → IsStage (front ++ b ∷ []) (Named name)
name_ended front b name blank is more =
    rw (append_assoc front (b ∷ []) more) (
    is.goes_on (b ∷ more)
    ∙ ap (λ (l : Row). codes "copy" ∷ l) (ended_by_blank (name_of name) b more is.no_blank blank ∙ ap (λ (l : Row). l ++ fields more) (some_byte (name_of name) name.fit))
    )

pub still_named : (front : List ℕ) (b : ℕ) (name : Name) → is_blank b ≡ true → IsStage front (Named name) → IsStage (front ++ b ∷ []) (Named name)
still_named front b name blank is more =
    rw (append_assoc front (b ∷ []) more) (is (b ∷ more) ∙ ap (λ (l : Row). codes "copy" ∷ name_of name ∷ l) (blank_first b more blank))

pub second_field : (front : List ℕ) (b : ℕ) (name : Name) → is_blank b ≡ false → IsStage front (Named name) → IsStage (front ++ b ∷ []) Unknown
second_field front b name plain is more =
    let found = first_field b [] more (one_byte b plain) in
    let row : fields ((front ++ b ∷ []) ++ more) ≡ codes "copy" ∷ name_of name ∷ (b ∷ ([] ++ found.tail)) ∷ found.others =
    rw (append_assoc front (b ∷ []) more) (is (b ∷ more) ∙ ap (λ (l : Row). codes "copy" ∷ name_of name ∷ l) found.row) in
    ap session_code row ∙ copy_two (name_of name) (b ∷ ([] ++ found.tail)) found.others

-- ---- the line that ends here
pub unnamed_line : (front : List ℕ) → IsStage front Unnamed → session_code (fields front) ≡ Some BadLine
unnamed_line front is = let row : fields front ≡ codes "copy" ∷ [] = rw (append-nil front) at (is []) in ap session_code row ∙ copy_none

pub naming_line : (front : List ℕ) (name : Name) → IsStage front (Naming name) → IsLine (fields front) (Copy name)
naming_line front name is =
    let row : fields front ≡ codes "copy" ∷ name_of name ∷ [] =
    ap fields (sym (append-nil front)) ∙ is.goes_on [] ∙ ap (λ (l : Row). codes "copy" ∷ l) (ended_by_line (name_of name) is.no_blank ∙ some_byte (name_of name) name.fit) in
    ap copy_of row ∙ copy_named (name_of name) name.fit

pub named_line : (front : List ℕ) (name : Name) → IsStage front (Named name) → IsLine (fields front) (Copy name)
named_line front name is = let row : fields front ≡ codes "copy" ∷ name_of name ∷ [] = rw (append-nil front) at (is []) in ap copy_of row ∙ copy_named (name_of name) name.fit

-- sixty-four bytes
pub full_name : (name : Name) → name.count ≡ 64 → length name.bytes ≡ 64 → length (name_of name) ≡ 64
full_name name full whole = omega (arith, full, whole, length-take name.count name.bytes)
