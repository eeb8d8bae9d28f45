-- The numbers behind `table`, with one more, and where the line ends.
use Rattle.std.proofs.Common.{◌≡◌, ◌≢◌, ◌∙◌, ℕ, ◌+◌, ◌-◌, ◌*◌, ◌^◌, ◌<◌, ◌≤◌, min, Bool, true, false, ◌&&◌, ◌||◌, eqb, List, [], ◌∷◌, ◌++◌, Option, None, Some, length, get_or, take, drop, map, refl, sym, ap, subst, inl, inr, arith, append_assoc}
use Rattle.std.specs.Prelude.{is_none, nat_lt, slice_index_or}
use Rattle.std.specs.List.{flat_map, list_any}
use Rattle.std.specs.Option.{option_map_or}
use Rattle.std.specs.Str.{bytes_eq}
use Rattle.std.proofs.Math.ListN.{get_or-map, get_or-append}
use Rattle.std.proofs.Math.Nat.{le-mul_of_pos_right, mul_comm}
use Rattle.std.proofs.lemmas.Bool.{and_parts, or_parts, cases_Bool, eq-eqb, eqb-true, false_from_ne_true, leb-true, ltb-false, ltb-true, ne_eqb}
use Rattle.std.proofs.lemmas.Bool.Decides.{nat_tests}
use Rattle.std.proofs.lemmas.Grind.{flat_map-append}
use Rattle.std.proofs.lemmas.List.{append-nil, drop-map, length-append, length-map, map-append, take_more}
use Rattle.std.proofs.lemmas.List.Folds.{list_any-append}
use Rattle.std.proofs.lemmas.Slice.Eq.{bytes_eq-Decides}
use lib.Chars.{codes}
use Rattle.dimacs.specs.declared.fault.Code.TheVariants.{BadLine, NumberRange}
use Rattle.dimacs.specs.declared.numerals.numeral.Numeral.{Numeral}
use Rattle.dimacs.specs.Commands.{is_refused}
use Rattle.dimacs.specs.Content.{size_at}
use Rattle.dimacs.specs.Faults.{Row, size_of, some_numeral}
use Rattle.dimacs.specs.Lines.{is_blank, fields}
use Rattle.dimacs.specs.Numerals.{numeral}
use Rattle.dimacs.proofs.CommandRows.{kept_number, kept_refused}
use Rattle.dimacs.proofs.Items.{known}
use Rattle.session_lines.specs.declared.fields.Field.{Field}
use Rattle.session_lines.specs.declared.fields.Field.TheVariants.{Unbegun, Minus, Number, Other}
use Rattle.session_lines.specs.declared.letters.Letters.{Letters}
use Rattle.session_lines.specs.declared.lines.Line.{Line}
use Rattle.session_lines.specs.declared.lines.Line.TheVariants.{Refused}
use Rattle.session_lines.proofs.Grouped.{other_within}
use Rattle.session_lines.specs.declared.lines.Stage.TheVariants.{Beginning, Listing as a_listing}
use Rattle.session_lines.specs.declared.tables.Listing.{Listing}
use Rattle.session_lines.specs.declared.tables.Listing.TheVariants.{Faulty, Unkept}
use Rattle.session_lines.specs.Fields.{IsField, as_row, field_number_of, signed_field}
use Rattle.session_lines.specs.Judging.{IsStage, letters_of}
use Rattle.session_lines.specs.Listings.{AreInOrder, AreListed, IsListing, has_room, is_sized, is_whole, listed_size, numbers_by}
use Rattle.session_lines.specs.SessionLines.{session_code, AsksForTable, IsLine}
use Rattle.session_lines.specs.Tables.{is_no_table, is_table_size, numbers_of_table, pairs_of, table_code}
use Rattle.session_lines.proofs.Fieldwise.{ended_by_blank, ended_by_line, one_more}
use Rattle.session_lines.proofs.Numbered.{as_one, number_is, no_number}
use Rattle.session_lines.proofs.Staged.{first_whole, no_bytes}
use Rattle.session_lines.proofs.Worded.{kept_as, no_numeral}

-- ---- sizes that are kept
-- each count of a table is no greater than its pairs
small : (a b : ℕ) → is_table_size a b ≡ true → (a ≤ 16777216) × (b ≤ 16777216)
small a b is =
    let parts = and_parts _ _ is in
    let others = and_parts _ _ parts.1 in
    let one : 1 ≤ a = leb-true 1 a parts.0 in
    let two : 1 ≤ b = leb-true 1 b others.0 in
    let product : a * b ≤ 16777216 = leb-true (a * b) 16777216 others.1 in
    let some : 0 < a = omega (arith, one) in
    let more : 0 < b = omega (arith, two) in
    let left : a ≤ a * b = le-mul_of_pos_right a more in
    let turned : b ≤ b * a = le-mul_of_pos_right b some in
    let right : b ≤ a * b = rw (mul_comm b a) at turned in
    (omega (arith, product, left), omega (arith, product, right))

-- whether counts are those of a table is told by what is kept of them
size_kept : (a b : ℕ) → is_table_size (min a (2 ^ 64 - 1)) (min b (2 ^ 64 - 1)) ≡ is_table_size a b
size_kept a b =
    elim (cases_Bool (is_table_size a b)) [
      | inl sized ↦
          let s = small a b sized in
          let a_is : min a (2 ^ 64 - 1) ≡ a = omega (arith, s.0) in
          let b_is : min b (2 ^ 64 - 1) ≡ b = omega (arith, s.1) in
          rw (a_is, b_is) refl
      | inr amiss ↦
          false_from_ne_true _ (λ sized.
          let s = small (min a (2 ^ 64 - 1)) (min b (2 ^ 64 - 1)) sized in
          let a_is : min a (2 ^ 64 - 1) ≡ a = omega (arith, s.0) in
          let b_is : min b (2 ^ 64 - 1) ≡ b = omega (arith, s.1) in
          let still : is_table_size a b ≡ true = rw (a_is, b_is) at sized in
          let absurdity : ⊥ = cc in
          absurdity)
          ∙ sym amiss
    ]

-- of fields of which none is refused the sizes are as they are kept
one_size : (field : List ℕ) → option_map_or is_refused (numeral field) false ≡ false → listed_size field ≡ size_of field
one_size field plain =
    elim (known (numeral field)) [
      | inl none ↦ rw none refl
      | inr (a, is) ↦
          let other : is_refused a ≡ false = rw is at plain in
          rw is (ap (λ (n : Numeral). n.size) (kept_number a other))
    ]

plain_sizes : (row : Row) → some_numeral is_refused row ≡ false → map listed_size row ≡ map size_of row
plain_sizes [] plain = refl
plain_sizes (field ∷ others) plain =
    let parts = or_parts _ _ plain in
    ap (λ (n : ℕ). n ∷ map listed_size others) (one_size field parts.0) ∙ ap (λ (l : List ℕ). size_of field ∷ l) (plain_sizes others parts.1)

-- ---- all numbers of a table
module _ (row : Row) (sizes : List ℕ) (refused : Bool) (are : AreListed row sizes refused) where
  count_is : length sizes ≡ length row
  count_is = ap length are.sizes_are ∙ length-map row listed_size

  first_is : slice_index_or sizes 0 0 ≡ min (size_at row 0) (2 ^ 64 - 1)
  first_is = ap (λ (l : List ℕ). slice_index_or l 0 0) are.sizes_are ∙ get_or-map listed_size row 0 []

  second_is : slice_index_or sizes 1 0 ≡ min (size_at row 1) (2 ^ 64 - 1)
  second_is = ap (λ (l : List ℕ). slice_index_or l 1 0) are.sizes_are ∙ get_or-map listed_size row 1 []

  sized_is : is_sized sizes ≡ is_table_size (size_at row 0) (size_at row 1)
  sized_is = rw (first_is, second_is) (size_kept (size_at row 0) (size_at row 1))

  numbers_is : is_table_size (size_at row 0) (size_at row 1) ≡ true → numbers_by sizes ≡ numbers_of_table row
  numbers_is sized =
      let s = small (size_at row 0) (size_at row 1) sized in
      let same : 2 + slice_index_or sizes 0 0 + slice_index_or sizes 1 0 ≡ 2 + size_at row 0 + size_at row 1 = omega (arith, first_is, second_is, s.0, s.1) in
      same

  pub whole_table : is_whole sizes ≡ true → is_no_table row ≡ false
  whole_table whole =
      let parts = and_parts _ _ whole in
      let sized : is_table_size (size_at row 0) (size_at row 1) ≡ true = sym sized_is ∙ parts.0 in
      let count : length row ≡ numbers_of_table row = sym count_is ∙ eqb-true (length sizes) (numbers_by sizes) parts.1 ∙ numbers_is sized in
      let same : eqb (length row) (numbers_of_table row) ≡ true = eq-eqb _ _ count in
      rw (sized, same, are.numerals) refl

  pub other_table : is_whole sizes ≡ false → is_no_table row ≡ true
  other_table other =
      elim (cases_Bool (is_table_size (size_at row 0) (size_at row 1))) [
        | inr amiss ↦ rw amiss refl
        | inl sized ↦
            let differs : length row ≢ numbers_of_table row = λ same.
            let whole : is_whole sizes ≡ true = rw (sized_is ∙ sized, eq-eqb (length sizes) (numbers_by sizes) (count_is ∙ same ∙ sym (numbers_is sized))) refl in
            let absurdity : ⊥ = cc in
            absurdity in
            let amiss : eqb (length row) (numbers_of_table row) ≡ false = ne_eqb _ _ differs in
            rw (sized, amiss) refl
      ]

  -- its sources and its targets
  pub first_size : some_numeral is_refused row ≡ false → slice_index_or sizes 0 0 ≡ size_at row 0
  first_size plain = ap (λ (l : List ℕ). slice_index_or l 0 0) (are.sizes_are ∙ plain_sizes row plain) ∙ get_or-map size_of row 0 []

  pub nodes_are : some_numeral is_refused row ≡ false → drop 2 sizes ≡ map size_of (drop 2 row)
  nodes_are plain = ap (drop 2) (are.sizes_are ∙ plain_sizes row plain) ∙ drop-map size_of 2 row

  -- no number may follow
  pub full_table : has_room sizes ≡ false → (field : List ℕ) (more : Row) → is_no_table (row ++ field ∷ more) ≡ true
  full_table full field more =
      let parts : (nat_lt (length sizes) 2 ≡ false) × ((is_sized sizes && nat_lt (length sizes) (numbers_by sizes)) ≡ false) = or_parts _ _ full in
      let two : 2 ≤ length row = omega (arith, ltb-false (length sizes) 2 parts.0, count_is) in
      let first : size_at (row ++ field ∷ more) 0 ≡ size_at row 0 = ap size_of (get_or-append row (field ∷ more) [] 0 (omega (arith, two))) in
      let second : size_at (row ++ field ∷ more) 1 ≡ size_at row 1 = ap size_of (get_or-append row (field ∷ more) [] 1 (omega (arith, two))) in
      let numbers : numbers_of_table (row ++ field ∷ more) ≡ numbers_of_table row = rw (first, second) refl in
      let size : is_table_size (size_at (row ++ field ∷ more) 0) (size_at (row ++ field ∷ more) 1) ≡ is_table_size (size_at row 0) (size_at row 1) = rw (first, second) refl in
      elim (cases_Bool (is_table_size (size_at row 0) (size_at row 1))) [
        | inr amiss ↦ let none = size ∙ amiss in rw none refl
        | inl sized ↦
            let some = size ∙ sized in
            let last : (is_sized sizes && nat_lt (length sizes) (numbers_by sizes)) ≡ false = parts.1 in
            let beyond : nat_lt (length sizes) (numbers_by sizes) ≡ false = rw (sized_is ∙ sized) at last in
            let long : numbers_by sizes ≤ length sizes = ltb-false (length sizes) (numbers_by sizes) beyond in
            let least : numbers_of_table row ≤ length row = omega (arith, long, count_is, numbers_is sized) in
            let longer : length (row ++ field ∷ more) ≡ length row + length (field ∷ more) = length-append row (field ∷ more) in
            let amiss : eqb (length (row ++ field ∷ more)) (numbers_of_table (row ++ field ∷ more)) ≡ false = ne_eqb _ _ (λ same. omega (arith, same, numbers, least, longer)) in
            rw (some, amiss) refl
      ]

  -- one number more, for which no memory was given
  pub in_order : has_room sizes ≡ true → (field : List ℕ) (n : Numeral) → Some n ≡ field_number_of field → AreInOrder (row ++ field ∷ [])
  in_order room field n is =
      let k = kept_as field n is in
      let test : List ℕ → Bool = λ f. is_none (numeral f) in
      let longer : length (row ++ field ∷ []) ≡ length row + 1 = length-append row (field ∷ []) in
      record {
        numerals = list_any-append test row (field ∷ []) ∙ rw (are.numerals, k.is) refl;
        counted = λ more.
            let two : 2 ≤ length row = omega (arith, more, longer) in
            let few : nat_lt (length sizes) 2 ≡ false = grind (arith, nat_tests, two, count_is) in
            let last : (is_sized sizes && nat_lt (length sizes) (numbers_by sizes)) ≡ true = rw few at room in
            let parts : (is_sized sizes ≡ true) × (nat_lt (length sizes) (numbers_by sizes) ≡ true) = and_parts _ _ last in
            let sized : is_table_size (size_at row 0) (size_at row 1) ≡ true = sym sized_is ∙ parts.0 in
            let below : length sizes < numbers_by sizes = ltb-true (length sizes) (numbers_by sizes) parts.1 in
            let first : size_at (row ++ field ∷ []) 0 ≡ size_at row 0 = ap size_of (get_or-append row (field ∷ []) [] 0 (omega (arith, two))) in
            let second : size_at (row ++ field ∷ []) 1 ≡ size_at row 1 = ap size_of (get_or-append row (field ∷ []) [] 1 (omega (arith, two))) in
            let numbers : numbers_of_table (row ++ field ∷ []) ≡ numbers_of_table row = rw (first, second) refl in
            (rw (first, second) sized, omega (arith, below, count_is, numbers_is sized, numbers, longer));
      }

-- a field that is no numeral
or_last : (a b c : Bool) → c ≡ true → (a || (b || c)) ≡ true
or_last true b c e = refl
or_last false true c e = refl
or_last false false c e = e

or_first : (a b : Bool) → b ≡ true → (a || b) ≡ true
or_first true b e = refl
or_first false b e = e

pub no_number_row : (row : Row) (field : List ℕ) (more : Row) → None ≡ field_number_of field → table_code ((row ++ field ∷ []) ++ more) ≡ Some BadLine
no_number_row row field more e =
    let none : numeral field ≡ None = no_numeral field e in
    let test : List ℕ → Bool = λ f. is_none (numeral f) in
    let here : list_any test (field ∷ []) ≡ true = rw none refl in
    let front : list_any test (row ++ field ∷ []) ≡ true = list_any-append test row (field ∷ []) ∙ or_first (list_any test row) _ here in
    let all : list_any test ((row ++ field ∷ []) ++ more) ≡ true = list_any-append test (row ++ field ∷ []) more ∙ rw front refl in
    let amiss : is_no_table ((row ++ field ∷ []) ++ more) ≡ true = or_last _ _ _ all in
    rw amiss refl

pub full_row : (row : Row) (sizes : List ℕ) (refused : Bool) → AreListed row sizes refused → has_room sizes ≡ false → (field : List ℕ) (more : Row) → table_code ((row ++ field ∷ []) ++ more) ≡ Some BadLine
full_row row sizes refused are full field more =
    let amiss : is_no_table ((row ++ field ∷ []) ++ more) ≡ true = subst (λ (r : Row). is_no_table r ≡ true) (sym (append_assoc row (field ∷ []) more)) (full_table row sizes refused are full field more) in
    rw amiss refl

pub still_faulty : (row : Row) (field : List ℕ) → IsListing row Faulty → IsListing (row ++ field ∷ []) Faulty
still_faulty row field is more = rw (append_assoc row (field ∷ []) more) (is (field ∷ more))

-- a number for which no memory was given ends those that are in order
pub first_unkept : (row : Row) (field : List ℕ) (sizes : List ℕ) (refused : Bool) (n : Numeral) → AreListed row sizes refused → has_room sizes ≡ true → Some n ≡ field_number_of field → IsListing (row ++ field ∷ []) Unkept
first_unkept row field sizes refused n are room is = record {
  front = row ++ field ∷ [];
  rest = [];
  row_is = sym (append-nil (row ++ field ∷ []));
  some = omega (arith, length-append row (field ∷ []));
  in_order = in_order row sizes refused are room field n is;
}

pub still_unkept : (row : Row) (field : List ℕ) → IsListing row Unkept → IsListing (row ++ field ∷ []) Unkept
still_unkept row field is = record {
  front = is.front;
  rest = is.rest ++ field ∷ [];
  row_is = ap (λ (r : Row). r ++ field ∷ []) is.row_is ∙ append_assoc is.front is.rest (field ∷ []);
  some = is.some;
  in_order = is.in_order;
}

-- one number more
pub listed_more : (row : Row) (field : List ℕ) (sizes more : List ℕ) (refused : Bool) (n : Numeral) → AreListed row sizes refused → Some n ≡ field_number_of field → more ≡ sizes ++ n.size ∷ []
    → AreListed (row ++ field ∷ []) more (refused || is_refused n)
listed_more row field sizes more refused n are is more_is =
    let k = kept_as field n is in
    let test : List ℕ → Bool = λ f. is_none (numeral f) in
    let bad : List ℕ → Bool = λ f. option_map_or is_refused (numeral f) false in
    let size : n.size ≡ listed_size field = ap (λ (m : Numeral). m.size) k.kept_as ∙ rw k.is refl in
    let same : is_refused n ≡ is_refused k.a = ap is_refused k.kept_as ∙ kept_refused k.a in
    let here : list_any bad (field ∷ []) ≡ (is_refused k.a || false) = rw k.is refl in
    record {
      numerals = list_any-append test row (field ∷ []) ∙ rw (are.numerals, k.is) refl;
      sizes_are = more_is ∙ ap (λ (l : List ℕ). l ++ n.size ∷ []) are.sizes_are ∙ ap (λ (m : ℕ). map listed_size row ++ m ∷ []) size ∙ sym (map-append listed_size row (field ∷ []));
      refused_is = ap (λ (b : Bool). b || is_refused n) are.refused_is ∙ ap (λ (b : Bool). some_numeral is_refused row || b) (same ∙ or_none (is_refused k.a) ∙ sym here) ∙ sym (list_any-append bad row (field ∷ []));
    }
  where
    or_none : (b : Bool) → b ≡ (b || false)
    or_none true = refl
    or_none false = refl

-- ---- a field that ends is one more
module _ (row : Row) (last : List ℕ) (old new : Listing) (listing : IsListing row old) where
  one_ended : (a : Option Numeral) → 0 < length last → a ≡ field_number_of last
      → ((r : Row) (f : List ℕ) → IsListing r old → a ≡ field_number_of f → IsListing (r ++ f ∷ []) new) → IsListing (row ++ as_row last) new
  one_ended a some is and = rw (as_one last some) (and row last listing is)

  pub minus_listed : IsField last Minus → ((r : Row) (f : List ℕ) → IsListing r old → None ≡ field_number_of f → IsListing (r ++ f ∷ []) new) → IsListing (row ++ as_row last) new
  minus_listed is and = one_ended None (rw is (omega arith)) (rw is refl) and

  pub number_listed : (n : Numeral) → IsField last (Number n) → ((r : Row) (f : List ℕ) → IsListing r old → Some n ≡ field_number_of f → IsListing (r ++ f ∷ []) new) → IsListing (row ++ as_row last) new
  number_listed n is and = one_ended (Some n) (signed_length n.has_minus is.digits is.some is.signed) (number_is last n is) and
    where
      signed_length : (has_minus : Bool) (digits : List ℕ) → 0 < length digits → last ≡ signed_field has_minus digits → 0 < length last
      signed_length true digits some e = rw e (omega arith)
      signed_length false digits some e = rw e some

  pub other_listed : IsField last Other → ((r : Row) (f : List ℕ) → IsListing r old → None ≡ field_number_of f → IsListing (r ++ f ∷ []) new) → IsListing (row ++ as_row last) new
  other_listed is and = one_ended None is.0 (no_number last is) and

pub no_field_listed : (row : Row) (last : List ℕ) (listing : Listing) → last ≡ [] → IsListing row listing → IsListing (row ++ as_row last) listing
no_field_listed row last listing none are = rw (none, append-nil row) are

-- ---- the line
pub faulty_line : (row : Row) → IsListing row Faulty → session_code (codes "table" ∷ row) ≡ Some BadLine
faulty_line row is = let code : table_code row ≡ Some BadLine = rw (append-nil row) at (is []) in code

pub no_table_line : (row : Row) → is_no_table row ≡ true → session_code (codes "table" ∷ row) ≡ Some BadLine
no_table_line row amiss = rw amiss refl

pub range_line : (row : Row) → is_no_table row ≡ false → some_numeral is_refused row ≡ true → IsLine (codes "table" ∷ row) (Refused NumberRange BadLine)
range_line row whole bad = (rw (whole, bad) refl, other_within (codes "table") row refl refl)

plain_code : (row : Row) → is_no_table row ≡ false → some_numeral is_refused row ≡ false → session_code (codes "table" ∷ row) ≡ None
plain_code row whole plain = rw (whole, plain) refl

-- a whole table of which no number is refused
pub table_asked : (row : Row) (sizes : List ℕ) (refused : Bool) → AreListed row sizes refused → (sources : ℕ) → is_whole sizes ≡ true → refused ≡ false → sources ≡ slice_index_or sizes 0 0
    → AsksForTable (codes "table" ∷ row) (take sources (drop 2 sizes)) (drop sources (drop 2 sizes))
table_asked row sizes refused are sources whole none sources_are =
    let plain : some_numeral is_refused row ≡ false = sym are.refused_is ∙ none in
    let first : sources ≡ size_at row 0 = sources_are ∙ first_size row sizes refused are plain in
    let nodes = nodes_are row sizes refused are plain in
    record {
      table = refl;
      plain = plain_code row (whole_table row sizes refused are whole) plain;
      sources_are = rw (first, nodes) refl;
      targets_are = rw (first, nodes) refl;
    }

pub whole_fits : (sizes : List ℕ) → is_whole sizes ≡ true → slice_index_or sizes 0 0 + 2 ≤ length sizes
whole_fits sizes whole =
    let parts : (is_sized sizes ≡ true) × (eqb (length sizes) (numbers_by sizes) ≡ true) = and_parts _ _ whole in
    let count : length sizes ≡ numbers_by sizes = eqb-true (length sizes) (numbers_by sizes) parts.1 in
    omega (arith, count)

-- ---- the line with one more byte
pub table_ended : (front : List ℕ) (b : ℕ) (letters : Letters) (listing : Listing) → is_blank b ≡ true → bytes_eq (letters_of letters) (codes "table") ≡ true → IsListing [] listing → IsStage front (Beginning letters)
    → IsStage (front ++ b ∷ []) (a_listing listing Unbegun)
table_ended front b letters listing blank spelled none is =
    let are : letters_of letters ≡ codes "table" = (bytes_eq-Decides (letters_of letters) (codes "table")).0 spelled in
    record {
      whole = [];
      last = [];
      listing_is = none;
      field_is = refl;
      no_blank = no_bytes;
      goes_on = λ more. first_whole front b letters more blank is ∙ ap (λ (l : List ℕ). l ∷ fields more) are;
    }

pub number_ended : (front : List ℕ) (b : ℕ) (old new : Listing) (field : Field) → is_blank b ≡ true
    → ((row : Row) (last : List ℕ) → IsListing row old → IsField last field → IsListing (row ++ as_row last) new)
    → IsStage front (a_listing old field) → IsStage (front ++ b ∷ []) (a_listing new Unbegun)
number_ended front b old new field blank ended is = record {
  whole = is.whole ++ as_row is.last;
  last = [];
  listing_is = ended is.whole is.last is.listing_is is.field_is;
  field_is = refl;
  no_blank = no_bytes;
  goes_on = λ more.
      rw (append_assoc front (b ∷ []) more) (
      is.goes_on (b ∷ more)
      ∙ ap (λ (l : Row). codes "table" ∷ (is.whole ++ l)) (ended_by_blank is.last b more is.no_blank blank)
      ∙ ap (λ (l : Row). codes "table" ∷ l) (sym (append_assoc is.whole (as_row is.last) (fields more)))
      );
}

pub number_goes_on : (front : List ℕ) (b : ℕ) (listing : Listing) (old new : Field) → is_blank b ≡ false
    → ((field : List ℕ) → IsField field old → IsField (field ++ b ∷ []) new)
    → IsStage front (a_listing listing old) → IsStage (front ++ b ∷ []) (a_listing listing new)
number_goes_on front b listing old new plain with_byte is = record {
  whole = is.whole;
  last = is.last ++ b ∷ [];
  listing_is = is.listing_is;
  field_is = with_byte is.last is.field_is;
  no_blank = one_more is.last b is.no_blank plain;
  goes_on = λ more. rw (append_assoc front (b ∷ []) more, append_assoc is.last (b ∷ []) more) (is.goes_on (b ∷ more));
}

pub table_line : (front : List ℕ) (listing ended : Listing) (field : Field) (line : Line)
    → ((row : Row) (last : List ℕ) → IsListing row listing → IsField last field → IsListing (row ++ as_row last) ended)
    → ((row : Row) → IsListing row ended → IsLine (codes "table" ∷ row) line) → IsStage front (a_listing listing field) → IsLine (fields front) line
table_line front listing ended field line ends reads is =
    let row : fields front ≡ codes "table" ∷ (is.whole ++ as_row is.last) =
    ap fields (sym (append-nil front)) ∙ is.goes_on [] ∙ ap (λ (l : Row). codes "table" ∷ (is.whole ++ l)) (ended_by_line is.last is.no_blank) in
    rw row (reads (is.whole ++ as_row is.last) (ends is.whole is.last is.listing_is is.field_is))

-- ---- pairs
pub pair_more : {X Y : Type 0} (pair : X → Y) (before now : List Y) (xs : List X) (i : ℕ) (d : X) → i < length xs → now ≡ before ++ map pair (take i xs)
    → now ++ pair (get_or xs i d) ∷ [] ≡ before ++ map pair (take (i + 1) xs)
pair_more pair before now xs i d lt is =
    ap (λ l. l ++ pair (get_or xs i d) ∷ []) is ∙ append_assoc before (map pair (take i xs)) (pair (get_or xs i d) ∷ [])
    ∙ ap (λ l. before ++ l) (sym (ap (map pair) (take_more xs i d lt) ∙ map-append pair (take i xs) (get_or xs i d ∷ [])))

pub source_more : (sources targets : List ℕ) (i d : ℕ) (now more : List (ℕ × ℕ)) → i < length sources → now ≡ pairs_of (take i sources) targets → more ≡ now ++ map (λ target. (get_or sources i d, target)) targets
    → more ≡ pairs_of (take (i + 1) sources) targets
source_more sources targets i d now more lt is more_is =
    let row : ℕ → List (ℕ × ℕ) = λ source. map (λ target. (source, target)) targets in
    more_is ∙ ap (λ (l : List (ℕ × ℕ)). l ++ row (get_or sources i d)) is
    ∙ sym (ap (flat_map row) (take_more sources i d lt) ∙ flat_map-append row (take i sources) (get_or sources i d ∷ []) ∙ ap (λ (l : List (ℕ × ℕ)). flat_map row (take i sources) ++ l) (append-nil (row (get_or sources i d))))
