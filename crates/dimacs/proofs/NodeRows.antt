-- The lines of a text of nodes, and one more.
use Rattle.std.proofs.Common.{◌≡◌, ℕ, ◌^◌, Bool, true, false, not, ◌||◌, cond, eqb, ltb, leb, List, [], ◌∷◌, ◌++◌, length, drop, map, suc, ◌<◌, ◌≤◌, Option, Some, None, Result, Ok, Err, refl, sym, ap, ◌∙◌, arith, inl, inr, ◌⊎◌}
use Rattle.std.specs.Prelude.{is_none, is_some, filter}
use Rattle.std.specs.List.{starts_with}
use Rattle.std.specs.Str.{bytes_eq}
use Rattle.std.proofs.lemmas.Bool.{cases_Bool, ne_eqb, eqb-true, lt-ltb, le-ltb, le-leb, lt-leb}
use Rattle.std.proofs.lemmas.Bool.Decides.{nat_tests}
use Rattle.std.proofs.lemmas.List.{append-nil, map-append}
use Rattle.std.proofs.lemmas.List.Elements.{filter-append}
use Rattle.std.proofs.lemmas.List.Sums.{length-filter}
use lib.Chars.{codes}
use Rattle.dimacs.specs.declared.numerals.numeral.Numeral.{Numeral}
use Rattle.dimacs.specs.declared.fault.Code.{Code}
use Rattle.dimacs.specs.declared.fault.Code.TheVariants.{BadLine, SecondProblemLine, WrongKind, NumberRange, LineCount, TooLarge}
use Rattle.dimacs.specs.Format.{Format, Quantity}
use Rattle.dimacs.specs.Numerals.{numeral, kept}
use Rattle.dimacs.specs.Content.{size_at}
use Rattle.dimacs.specs.Faults.{Row, is_empty, is_comment, is_remark, is_problem, is_item, is_unknown, is_malformed, is_unreadable, is_under, is_over, item_fields, problem_of, size_of, announced, announced_items, items_of, applies, code_of, end_code}
use Rattle.dimacs.specs.Reading.{one_numeral}
use Rattle.dimacs.specs.Listed.{kind_words, listed, items_in, item_line, code_after, ReadsItem, HasItems}
use Rattle.dimacs.specs.ListedReading.{count_of_numeral, count_read, count_after}
use Rattle.dimacs.proofs.Items.{known, or_code, or_code-cond, or-false, kept_is, unreadable_kept, find_push, problem_kept}

-- a field that is a numeral, alone
pub record One (numbers : Row) : Type 0 where
  pub field : List ℕ
  pub fields : numbers ≡ field ∷ []
  pub a : Numeral
  pub field_is : numeral field ≡ Some a

abbrev NotOne : Row → Type 0
NotOne numbers = (one_numeral numbers ≡ None) × (is_malformed 1 numbers ≡ true)

pub one_cases : (numbers : Row) → NotOne numbers ⊎ One numbers
one_cases [] = inl (refl, refl)
one_cases (u ∷ []) =
    elim (known (numeral u)) [ inl e ↦ inl (rw e refl, rw e refl) | inr (a, e) ↦ inr (record { field = u; fields = refl; a = a; field_is = e }) ]
one_cases (u ∷ x ∷ more) =
    let long : eqb (length (u ∷ x ∷ more)) 1 ≡ false = ne_eqb _ _ (λ e. absurd (omega arith)) in
    let bad : is_malformed 1 (u ∷ x ∷ more) ≡ true = rw long refl in
    elim (known (numeral u)) [ inl e ↦ inl (rw e refl, bad) | inr (a, e) ↦ inl (rw e refl, bad) ]

flipped : (a b : ℕ) → eqb a b ≡ false → eqb b a ≡ false
flipped a b e = grind (arith, nat_tests)

same_number : (a : ℕ) → eqb a a ≡ true
same_number a = grind (arith, nat_tests)

or_right : (a b : Bool) → b ≡ true → (a || b) ≡ true
or_right true b e = refl
or_right false b e = e

not-is_none : {X : Type 0} (o : Option X) → not (is_none o) ≡ is_some o
not-is_none None = refl
not-is_none (Some x) = refl

none_is : {X : Type 0} (o : Option X) → not (is_none o) ≡ false → o ≡ None
none_is None e = refl
none_is (Some x) e = absurd (let absurdity : ⊥ = cc in absurdity)

abbrev has_problem : List Row → Bool
has_problem earlier = not (is_none (problem_of earlier))

-- what `or_code` says
pub code_and_value : {X : Type 0} (o : Option Code) (x y : X) → or_code o x ≡ Ok y → (o ≡ None) × (x ≡ y)
code_and_value None x y e = (refl, cc)
code_and_value (Some code) x y e = absurd (let absurdity : ⊥ = cc in absurdity)

pub code_is : {X : Type 0} (o : Option Code) (x : X) (code : Code) → or_code o x ≡ Err code → o ≡ Some code
code_is None x code e = absurd (let absurdity : ⊥ = cc in absurdity)
code_is (Some found) x code e = cc

-- ---- the items of lines, and of one more
pub items_push : {X : Type 0} (f : Format) (says : Row → X) (earlier : List Row) (row : Row)
    → items_in f says (earlier ++ row ∷ []) ≡ items_in f says earlier ++ cond (is_item f row) (says (item_fields row) ∷ []) []
items_push f says earlier row =
    ap (map (λ r. says (item_fields r))) (filter-append (is_item f) earlier (row ∷ []))
    ∙ map-append (λ r. says (item_fields r)) (filter (is_item f) earlier) (filter (is_item f) (row ∷ []))
    ∙ ap (λ (l : List _). items_in f says earlier ++ l) (one (is_item f row))
  where
    one : (b : Bool) → map (λ r. says (item_fields r)) (cond b (row ∷ []) []) ≡ cond b (says (item_fields row) ∷ []) []
    one true = refl
    one false = refl

pub number_of_items : {X : Type 0} (f : Format) (says : Row → X) (rs : List Row) (items : List X) → items_in f says rs ≡ items → items_of f rs ≡ length items
number_of_items f says rs items e = sym (length-filter (is_item f) rs) ∙ sym (length-map (λ r. says (item_fields r)) (filter (is_item f) rs)) ∙ ap length e
  where
    length-map : {A B : Type 0} (g : A → B) (xs : List A) → length (map g xs) ≡ length xs
    length-map g [] = refl
    length-map g (x ∷ xs) = ap suc (length-map g xs)

announced_same : (f : Format) (earlier : List Row) (row : Row) → is_problem row ≡ false → announced f (earlier ++ row ∷ []) ≡ announced f earlier
announced_same f earlier row e = rw (problem_kept earlier row e) refl

-- ---- a format of this form
module _ (word : List ℕ) (letter : ℕ) (quantities : List Quantity) (n : ℕ) (no_mark : eqb letter 99 ≡ false) (no_problem : eqb letter 112 ≡ false) where
  abbrev format : Format
  format = listed word letter quantities n

  problem_is_no_item : (words : Row) → is_item format (codes "p" ∷ words) ≡ false
  problem_is_no_item words = rw (flipped letter 112 no_problem) refl

  item_is_item : (numbers : Row) → is_item format (item_line format numbers) ≡ true
  item_is_item numbers = rw (same_number letter) refl

  item_is_no_problem : (numbers : Row) → is_problem (item_line format numbers) ≡ false
  item_is_no_problem numbers = rw no_problem refl

  -- lines without a field, and comments
  record IsIgnored (earlier : List Row) (row : Row) : Type 0 where
    no_code : code_of format earlier row ≡ None
    no_problem_line : is_problem row ≡ false
    no_item : is_item format row ≡ false

  -- a first field that begins with the mark of a comment
  comment_code : (earlier : List Row) (bs : List ℕ) (others : Row) → ltb 0 (length (99 ∷ bs)) ≡ true → eqb 99 letter ≡ false → code_of format earlier ((99 ∷ bs) ∷ others) ≡ None
  unfolding code_of applies
  comment_code earlier bs others some other = rw (some, other) refl

  comment_item : (bs : List ℕ) (others : Row) → eqb 99 letter ≡ false → is_item format ((99 ∷ bs) ∷ others) ≡ false
  comment_item bs others other = rw other refl

  comment : (earlier : List Row) (b : ℕ) (bs : List ℕ) (others : Row) → b ≡ 99 → IsIgnored earlier ((b ∷ bs) ∷ others)
  comment earlier b bs others e =
      let other : eqb 99 letter ≡ false = flipped letter 99 no_mark in
      rw e (record { no_code = comment_code earlier bs others (lt-ltb _ _ (omega arith)) other; no_problem_line = refl; no_item = comment_item bs others other })

  ignored : (earlier : List Row) (row : Row) → (is_empty row || is_comment row) ≡ true → IsIgnored earlier row
  unfolding code_of applies
  ignored earlier [] e = record { no_code = refl; no_problem_line = refl; no_item = refl }
  ignored earlier ([] ∷ others) e = absurd (let absurdity : ⊥ = cc in absurdity)
  ignored earlier ((b ∷ bs) ∷ others) e =
      let some : ltb 0 (length (b ∷ bs)) ≡ true = lt-ltb _ _ (omega arith) in
      comment earlier b bs others (eqb-true b 99 (rw some at e))

  pub unknown_fault : (earlier : List Row) (row : Row) → is_unknown format row ≡ true → code_of format earlier row ≡ Some BadLine
  unfolding code_of applies
  unknown_fault earlier row e = rw e refl

  -- problem lines
  other_kind : (earlier : List Row) (words : Row) → starts_with bytes_eq words (kind_words word) ≡ false
      → code_of format earlier (codes "p" ∷ words) ≡ cond (has_problem earlier) (Some SecondProblemLine) (Some WrongKind)
  unfolding code_of applies
  other_kind earlier words k = rw (flipped letter 112 no_problem, k) refl

  malformed_count : (earlier : List Row) (words : Row) → starts_with bytes_eq words (kind_words word) ≡ true → is_malformed 1 (drop 3 words) ≡ true
      → code_of format earlier (codes "p" ∷ words) ≡ Some BadLine
  unfolding code_of applies
  malformed_count earlier words k e = rw (flipped letter 112 no_problem, k, e) refl

  -- the lowest code of a problem line of one numeral
  abbrev code_of_count : List Row → Numeral → Option Code
  code_of_count earlier a =
      cond (has_problem earlier) (Some SecondProblemLine)
      (cond (is_unreadable a || is_under 0 a) (Some NumberRange)
      (cond (is_over (2 ^ 24) a) (Some TooLarge) None))

  code_of_one : (earlier : List Row) (words : Row) (u : List ℕ) (a : Numeral) → starts_with bytes_eq words (kind_words word) ≡ true → drop 3 words ≡ u ∷ [] → numeral u ≡ Some a
      → code_of format earlier (codes "p" ∷ words) ≡ code_of_count earlier a
  unfolding code_of applies
  code_of_one earlier words u a k d e = rw (flipped letter 112 no_problem, k, d, e) (simp or-false)

  same_count : (a x : Numeral) → a ≡ x → count_of_numeral a ≡ count_of_numeral x
  same_count a x e = ap count_of_numeral e

  counts_row : (earlier : List Row) (words : Row) → starts_with bytes_eq words (kind_words word) ≡ true
      → or_code (code_of format earlier (codes "p" ∷ words)) (size_at (drop 3 words) 0) ≡ count_read (has_problem earlier) (one_numeral (drop 3 words))
  counts_row earlier words k =
      elim (one_cases (drop 3 words)) [
        | inl bad ↦ rw (malformed_count earlier words k bad.1, bad.0) refl
        | inr one ↦
            let read : one_numeral (drop 3 words) ≡ Some (kept one.a) = rw (one.fields, one.field_is) refl in
            let size : size_at (drop 3 words) 0 ≡ one.a.size = rw (one.fields, one.field_is) refl in
            rw (code_of_one earlier words one.field one.a k one.fields one.field_is, read, size) (elim (cases_Bool (is_unreadable one.a)) [
              | inl big ↦ rw (unreadable_kept one.a, big) (or_code-cond (has_problem earlier) SecondProblemLine (Some NumberRange) one.a.size)
              | inr small ↦
                  let plain : or_code (code_of_count earlier one.a) one.a.size ≡ cond (has_problem earlier) (Err SecondProblemLine) (count_of_numeral one.a) = simp or_code-cond in
                  plain ∙ ap (λ (r : Result ℕ Code). cond (has_problem earlier) (Err SecondProblemLine) r) (same_count one.a (kept one.a) (sym (kept_is one.a small)))
            ])
      ]

  count_row : (earlier : List Row) (words : Row) → or_code (code_of format earlier (codes "p" ∷ words)) (size_at (drop 3 words) 0) ≡ count_after word (has_problem earlier) words
  count_row earlier words =
      elim (cases_Bool (starts_with bytes_eq words (kind_words word))) [
        | inl kind ↦ counts_row earlier words kind ∙ sym (rw kind refl)
        | inr other ↦ rw (other_kind earlier words other, other) (or_code-cond (has_problem earlier) SecondProblemLine (Some WrongKind) (size_at (drop 3 words) 0))
      ]

  cond_ok : {E X : Type 0} (b : Bool) (e : E) (r : Result X E) (x : X) → cond b (Err e) r ≡ Ok x → (b ≡ false) × (r ≡ Ok x)
  cond_ok true e r x h = absurd (let absurdity : ⊥ = cc in absurdity)
  cond_ok false e r x h = (refl, h)

  -- what a problem line without a fault tells of the earlier lines and of its fields
  record Announces (has : Bool) (words : Row) : Type 0 where
    first : has ≡ false
    counts : map size_of (drop 3 words) ≡ size_at (drop 3 words) 0 ∷ []

  announces : (has : Bool) (words : Row) (count : ℕ) → count_after word has words ≡ Ok count → Announces has words
  announces has words count e =
      elim (cases_Bool (starts_with bytes_eq words (kind_words word))) [
        | inr other ↦ absurd (let r = cond_ok has SecondProblemLine (Err WrongKind) count (rw other at e) in let absurdity : ⊥ = cc in absurdity)
        | inl kind ↦
            let read_is : count_read has (one_numeral (drop 3 words)) ≡ Ok count = rw kind at e in
            elim (one_cases (drop 3 words)) [
              | inl bad ↦ absurd (let wrong : Err BadLine ≡ Ok count = rw bad.0 at read_is in let absurdity : ⊥ = cc in absurdity)
              | inr one ↦
                  let read : one_numeral (drop 3 words) ≡ Some (kept one.a) = rw (one.fields, one.field_is) refl in
                  let r = cond_ok has SecondProblemLine (count_of_numeral (kept one.a)) count (rw read at read_is) in
                  record { first = r.0; counts = rw one.fields refl }
            ]
      ]

  module _ {X : Type 0} (says : Row → X) (earlier : List Row) (nodes : ℕ) where
    pub takes_ignored : (row : Row) (count : Option ℕ) (items : List X) → HasItems format says earlier nodes count items → (is_empty row || is_comment row) ≡ true
        → (code_of format earlier row ≡ None) × HasItems format says (earlier ++ row ∷ []) nodes count items
    takes_ignored row count items taken e =
        let is = ignored earlier row e in (
          is.no_code,
          record {
            told = taken.told;
            problem = rw (problem_kept earlier row is.no_problem_line) taken.problem;
            counts = rw (announced_same format earlier row is.no_problem_line) taken.counts;
            said = items_push format says earlier row ∙ rw (is.no_item, taken.said) (append-nil items);
          },
        )

    pub comment_passes : (row : Row) (count : Option ℕ) (items : List X) → is_remark 99 row ≡ true → HasItems format says earlier nodes count items
        → (code_of format earlier row ≡ None) × HasItems format says (earlier ++ row ∷ []) nodes count items
    comment_passes row count items e taken = takes_ignored row count items taken (or_right (is_empty row) (is_comment row) e)

    has_is : (count : Option ℕ) (items : List X) → HasItems format says earlier nodes count items → has_problem earlier ≡ is_some count
    has_is count items taken = ap not taken.problem ∙ not-is_none count

    pub takes_problem : (words : Row) (old : Option ℕ) (count : ℕ) (items : List X) → HasItems format says earlier nodes old items → count_after word (is_some old) words ≡ Ok count
        → (code_of format earlier (codes "p" ∷ words) ≡ None) × HasItems format says (earlier ++ (codes "p" ∷ words) ∷ []) nodes (Some count) items
    takes_problem words old count items taken e =
        let ok : count_after word (has_problem earlier) words ≡ Ok count = rw (has_is old items taken) e in
        let right = code_and_value (code_of format earlier (codes "p" ∷ words)) (size_at (drop 3 words) 0) count (count_row earlier words ∙ ok) in
        let says_so = announces (has_problem earlier) words count ok in
        let first : problem_of earlier ≡ None = none_is (problem_of earlier) says_so.first in
        let found : problem_of (earlier ++ (codes "p" ∷ words) ∷ []) ≡ Some (codes "p" ∷ words) = find_push is_problem earlier (codes "p" ∷ words) ∙ rw first refl in (
          right.0,
          record {
            told = taken.told;
            problem = rw found refl;
            counts = rw (found, says_so.counts, right.1) refl;
            said = items_push format says earlier (codes "p" ∷ words) ∙ rw (problem_is_no_item words, taken.said) (append-nil items);
          },
        )

    pub problem_fault : (words : Row) (old : Option ℕ) (items : List X) (code : Code) → HasItems format says earlier nodes old items → count_after word (is_some old) words ≡ Err code
        → code_of format earlier (codes "p" ∷ words) ≡ Some code
    problem_fault words old items code taken e =
        let err : count_after word (has_problem earlier) words ≡ Err code = rw (has_is old items taken) e in
        code_is (code_of format earlier (codes "p" ∷ words)) (size_at (drop 3 words) 0) code (count_row earlier words ∙ err)

    -- item lines
    code_at_count : (count : ℕ) (items : List X) → HasItems format says earlier nodes (Some count) items → code_after format earlier None ≡ cond (leb count (length items)) (Some LineCount) None
    code_at_count count items taken =
        let most : announced_items format earlier ≡ count = rw taken.counts refl in
        rw (taken.problem, most, number_of_items format says earlier items taken.said) refl

    -- the nodes that are given are those of the format
    code_of_item : (numbers : Row) (item : X) (old : Option ℕ) (items : List X) → HasItems format says earlier nodes old items
        → ReadsItem (listed word letter quantities nodes) says numbers (Some (Ok item)) → code_of format earlier (item_line format numbers) ≡ code_after format earlier None
    code_of_item numbers item old items taken reads =
        let same : nodes ≡ n = let told = taken.told in cc in
        rw same at (reads.1 earlier)

    pub item_fault : (numbers : Row) (count : ℕ) (old : Option ℕ) (items : List X) (code : Code) → HasItems format says earlier nodes old items → old ≡ Some count
        → ReadsItem (listed word letter quantities nodes) says numbers (Some (Err code)) → code_of format earlier (item_line format numbers) ≡ Some code
    item_fault numbers count old items code taken is reads =
        let same : nodes ≡ n = let told = taken.told in cc in
        let some : is_none (problem_of earlier) ≡ false = taken.problem ∙ ap is_none is in
        rw same at (reads earlier) ∙ rw some refl

    module _ (numbers : Row) (item : X) (count : ℕ) (old : Option ℕ) (items : List X) (taken : HasItems format says earlier nodes old items) (is : old ≡ Some count)
        (reads : ReadsItem (listed word letter quantities nodes) says numbers (Some (Ok item))) where
      code_is_of_count : code_of format earlier (item_line format numbers) ≡ cond (leb count (length items)) (Some LineCount) None
      code_is_of_count = code_of_item numbers item old items taken reads ∙ code_at_count count items (rw is at taken)

      pub item_beyond : count ≤ length items → code_of format earlier (item_line format numbers) ≡ Some LineCount
      item_beyond beyond = code_is_of_count ∙ rw (le-leb _ _ beyond) refl

      pub item_stands : length items < count → code_of format earlier (item_line format numbers) ≡ None
      item_stands within = code_is_of_count ∙ rw (lt-leb _ _ within) refl

      pub takes_item : (new : List X) → length items < count → new ≡ items ++ item ∷ []
          → (code_of format earlier (item_line format numbers) ≡ None) × HasItems format says (earlier ++ item_line format numbers ∷ []) nodes old new
      takes_item new within pushed = (
        item_stands within,
        record {
          told = taken.told;
          problem = rw (problem_kept earlier (item_line format numbers) (item_is_no_problem numbers)) taken.problem;
          counts = rw (announced_same format earlier (item_line format numbers) (item_is_no_problem numbers)) taken.counts;
          said = items_push format says earlier (item_line format numbers) ∙ rw (item_is_item numbers, taken.said, reads.0) (sym pushed);
        },
      )

  -- the end
  module _ {X : Type 0} (says : Row → X) (lines : List Row) (nodes count : ℕ) (items : List X) (taken : HasItems format says lines nodes (Some count) items) where
    end_is : end_code format lines ≡ cond (ltb (length items) count) (Some LineCount) None
    end_is =
        let most : announced_items format lines ≡ count = rw taken.counts refl in
        rw (taken.problem, most, number_of_items format says lines items taken.said) refl

    pub too_few : length items < count → end_code format lines ≡ Some LineCount
    too_few few = end_is ∙ rw (lt-ltb _ _ few) refl

    pub enough : count ≤ length items → end_code format lines ≡ None
    enough all = end_is ∙ rw (le-ltb _ _ all) refl
