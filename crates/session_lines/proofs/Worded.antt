-- What a line asks for, by its word and the numbers behind it.
use Rattle.std.proofs.Common.{◌≡◌, ◌≢◌, ◌∙◌, ℕ, ◌<◌, Bool, true, false, ◌||◌, cond, eqb, ltb, List, [], ◌∷◌, Option, None, Some, length, refl, sym, ap, inl, inr, arith}
use Rattle.std.specs.Prelude.{if◌then◌else◌}
use Rattle.std.specs.Str.{bytes_eq}
use Rattle.std.proofs.lemmas.Bool.{or_parts, lt-ltb, ne_eqb, false_from_ne_true}
use Rattle.std.proofs.lemmas.Slice.Eq.{bytes_eq-Decides}
use lib.Chars.{codes}
use Rattle.roadnet.specs.declared.commands.Command.TheVariants.{Lay as lay_arc}
use Rattle.dimacs.specs.declared.fault.Code.TheVariants.{BadLine, NumberRange}
use Rattle.dimacs.specs.declared.numerals.numeral.Numeral.{Numeral}
use Rattle.dimacs.specs.declared.commands.words.OneNumber.TheVariants.{Close, Reopen, Mark, Unmark}
use Rattle.dimacs.specs.declared.commands.words.TwoNumbers.TheVariants.{Set, Dist, From, Lower}
use Rattle.dimacs.specs.Commands.{form, form_of, is_refused, command_code}
use Rattle.dimacs.specs.Content.{size_at}
use Rattle.dimacs.specs.Faults.{Row, is_empty, is_remark, is_malformed}
use Rattle.dimacs.specs.Numerals.{numeral, kept}
use Rattle.dimacs.proofs.CommandRows.{kept_refused, kept_number}
use Rattle.dimacs.proofs.Items.{known, or-false}
use Rattle.dimacs.proofs.Spelled.{unformed}
use Rattle.session_lines.specs.declared.words.Bare.{Bare}
use Rattle.session_lines.specs.declared.words.Bare.TheVariants.{Wait, Quit, Begin, End, Landmarks, Closed, State, Suppose, Forget}
use Rattle.session_lines.specs.declared.words.One.{One as OneWord}
use Rattle.session_lines.specs.declared.words.One.TheVariants.{Common as one_common, Arc, Until}
use Rattle.session_lines.specs.declared.words.Two.{Two as TwoWord}
use Rattle.session_lines.specs.declared.words.Two.TheVariants.{Common as two_common, Arcs, Reach, Reached, Nearest, Route}
use Rattle.session_lines.specs.declared.words.SessionWord.TheVariants.{WithNone, WithOne, WithTwo, Lay}
use Rattle.session_lines.specs.declared.lines.Line.{Line}
use Rattle.session_lines.specs.declared.lines.Line.TheVariants.{Command as a_command}
use Rattle.session_lines.specs.declared.fields.Numbers.{Numbers}
use Rattle.session_lines.specs.declared.fields.Numbers.TheVariants.{Nothing, One, Two, Three, TooMany}
use Rattle.session_lines.specs.Fields.{IsNumbers, AreTwo, AreThree, field_number_of, has_one, has_two, has_three}
use Rattle.session_lines.specs.SessionLines.{forms, session_code, session_line_of, AsksFor, IsLine}
use Rattle.session_lines.specs.Names.{copy_of, name_from}
use Rattle.session_lines.specs.Spelled.{session_spelling, session_words, session_word_from}
use Rattle.session_lines.specs.Words.{bare_line, one_line, two_line}

-- ---- the word of a field
-- a field that is no word and begins no comment
pub unknown_row : (first : ℕ) (w : List ℕ) (others : Row) → first ≢ 35 → session_word_from (first ∷ w) ≡ None → copy_of ((first ∷ w) ∷ others) ≡ None → bytes_eq (first ∷ w) (codes "table") ≡ false
    → session_code ((first ∷ w) ∷ others) ≡ Some BadLine
unfolding command_code
unknown_row first w others plain none no_copy no_table =
    let some : ltb 0 (length (first ∷ w)) ≡ true = lt-ltb _ _ (omega arith) in
    let mark : eqb first 35 ≡ false = ne_eqb first 35 plain in
    rw (no_copy, no_table, some, mark, unformed session_spelling session_words (first ∷ w) others forms none refl) refl

-- more bytes than a word has
other_bytes : (field word : List ℕ) → length word < length field → bytes_eq field word ≡ false
other_bytes field word longer = false_from_ne_true (bytes_eq field word) (λ e. let same : field ≡ word = (bytes_eq-Decides field word).0 e in absurd (omega (arith, ap length same, longer)))

pub long_field : (field : List ℕ) → 9 < length field → session_word_from field ≡ None
long_field field long =
    rw (
      other_bytes field (codes "close") (omega (arith, long)),
      other_bytes field (codes "reopen") (omega (arith, long)),
      other_bytes field (codes "mark") (omega (arith, long)),
      other_bytes field (codes "unmark") (omega (arith, long)),
      other_bytes field (codes "arc") (omega (arith, long)),
      other_bytes field (codes "until") (omega (arith, long)),
      other_bytes field (codes "set") (omega (arith, long)),
      other_bytes field (codes "dist") (omega (arith, long)),
      other_bytes field (codes "from") (omega (arith, long)),
      other_bytes field (codes "lower") (omega (arith, long)),
      other_bytes field (codes "arcs") (omega (arith, long)),
      other_bytes field (codes "reach") (omega (arith, long)),
      other_bytes field (codes "reached") (omega (arith, long)),
      other_bytes field (codes "nearest") (omega (arith, long)),
      other_bytes field (codes "route") (omega (arith, long)),
      other_bytes field (codes "wait") (omega (arith, long)),
      other_bytes field (codes "quit") (omega (arith, long)),
      other_bytes field (codes "begin") (omega (arith, long)),
      other_bytes field (codes "end") (omega (arith, long)),
      other_bytes field (codes "landmarks") (omega (arith, long)),
      other_bytes field (codes "closed") (omega (arith, long)),
      other_bytes field (codes "state") (omega (arith, long)),
      other_bytes field (codes "suppose") (omega (arith, long)),
      other_bytes field (codes "forget") (omega (arith, long)),
      other_bytes field (codes "lay") (omega (arith, long)),
    ) refl

-- a first field that is not `copy`
pub not_copy : (field : List ℕ) (others : Row) → bytes_eq field (codes "copy") ≡ false → copy_of (field ∷ others) ≡ None
not_copy field others other = rw other refl

pub long_not_copy : (field : List ℕ) (others : Row) → 9 < length field → copy_of (field ∷ others) ≡ None
long_not_copy field others long = not_copy field others (other_bytes field (codes "copy") (omega (arith, long)))

pub long_not_table : (field : List ℕ) → 9 < length field → bytes_eq field (codes "table") ≡ false
long_not_table field long = other_bytes field (codes "table") (omega (arith, long))

-- `copy` without a name
pub copy_alone : (field : List ℕ) → copy_of (field ∷ []) ≡ None
copy_alone field = go (bytes_eq field (codes "copy"))
  where
    go : (b : Bool) → (if b then name_from [] else None) ≡ None
    go true = refl
    go false = refl

-- ---- words with so many numbers behind them
pub record IsForm (word : List ℕ) (n : ℕ) : Type 0 where
  pub plain : (numbers : Row) → (is_empty (word ∷ numbers) || is_remark 35 (word ∷ numbers)) ≡ false
  pub formed : (numbers : Row) → form_of forms (word ∷ numbers) ≡ Some (form word n)
  pub no_copy : (numbers : Row) → copy_of (word ∷ numbers) ≡ None
  pub no_table : bytes_eq word (codes "table") ≡ false

pub bare_form : (word : Bare) → IsForm (session_spelling (WithNone word)) 0
bare_form Wait = record { plain = λ numbers. refl; formed = λ numbers. refl; no_copy = λ numbers. refl; no_table = refl }
bare_form Quit = record { plain = λ numbers. refl; formed = λ numbers. refl; no_copy = λ numbers. refl; no_table = refl }
bare_form Begin = record { plain = λ numbers. refl; formed = λ numbers. refl; no_copy = λ numbers. refl; no_table = refl }
bare_form End = record { plain = λ numbers. refl; formed = λ numbers. refl; no_copy = λ numbers. refl; no_table = refl }
bare_form Landmarks = record { plain = λ numbers. refl; formed = λ numbers. refl; no_copy = λ numbers. refl; no_table = refl }
bare_form Closed = record { plain = λ numbers. refl; formed = λ numbers. refl; no_copy = λ numbers. refl; no_table = refl }
bare_form State = record { plain = λ numbers. refl; formed = λ numbers. refl; no_copy = λ numbers. refl; no_table = refl }
bare_form Suppose = record { plain = λ numbers. refl; formed = λ numbers. refl; no_copy = λ numbers. refl; no_table = refl }
bare_form Forget = record { plain = λ numbers. refl; formed = λ numbers. refl; no_copy = λ numbers. refl; no_table = refl }

pub one_form : (word : OneWord) → IsForm (session_spelling (WithOne word)) 1
one_form (one_common Close) = record { plain = λ numbers. refl; formed = λ numbers. refl; no_copy = λ numbers. refl; no_table = refl }
one_form (one_common Reopen) = record { plain = λ numbers. refl; formed = λ numbers. refl; no_copy = λ numbers. refl; no_table = refl }
one_form (one_common Mark) = record { plain = λ numbers. refl; formed = λ numbers. refl; no_copy = λ numbers. refl; no_table = refl }
one_form (one_common Unmark) = record { plain = λ numbers. refl; formed = λ numbers. refl; no_copy = λ numbers. refl; no_table = refl }
one_form Arc = record { plain = λ numbers. refl; formed = λ numbers. refl; no_copy = λ numbers. refl; no_table = refl }
one_form Until = record { plain = λ numbers. refl; formed = λ numbers. refl; no_copy = λ numbers. refl; no_table = refl }

pub two_form : (word : TwoWord) → IsForm (session_spelling (WithTwo word)) 2
two_form (two_common Set) = record { plain = λ numbers. refl; formed = λ numbers. refl; no_copy = λ numbers. refl; no_table = refl }
two_form (two_common Dist) = record { plain = λ numbers. refl; formed = λ numbers. refl; no_copy = λ numbers. refl; no_table = refl }
two_form (two_common From) = record { plain = λ numbers. refl; formed = λ numbers. refl; no_copy = λ numbers. refl; no_table = refl }
two_form (two_common Lower) = record { plain = λ numbers. refl; formed = λ numbers. refl; no_copy = λ numbers. refl; no_table = refl }
two_form Arcs = record { plain = λ numbers. refl; formed = λ numbers. refl; no_copy = λ numbers. refl; no_table = refl }
two_form Reach = record { plain = λ numbers. refl; formed = λ numbers. refl; no_copy = λ numbers. refl; no_table = refl }
two_form Reached = record { plain = λ numbers. refl; formed = λ numbers. refl; no_copy = λ numbers. refl; no_table = refl }
two_form Nearest = record { plain = λ numbers. refl; formed = λ numbers. refl; no_copy = λ numbers. refl; no_table = refl }
two_form Route = record { plain = λ numbers. refl; formed = λ numbers. refl; no_copy = λ numbers. refl; no_table = refl }

pub lay_form : IsForm (session_spelling Lay) 3
lay_form = record { plain = λ numbers. refl; formed = λ numbers. refl; no_copy = λ numbers. refl; no_table = refl }

bare_made : (word : Bare) (numbers : Row) → session_line_of (session_spelling (WithNone word) ∷ numbers) ≡ Some (bare_line word)
bare_made Wait numbers = refl
bare_made Quit numbers = refl
bare_made Begin numbers = refl
bare_made End numbers = refl
bare_made Landmarks numbers = refl
bare_made Closed numbers = refl
bare_made State numbers = refl
bare_made Suppose numbers = refl
bare_made Forget numbers = refl

one_made : (word : OneWord) (numbers : Row) → session_line_of (session_spelling (WithOne word) ∷ numbers) ≡ Some (one_line word (size_at numbers 0))
one_made (one_common Close) numbers = refl
one_made (one_common Reopen) numbers = refl
one_made (one_common Mark) numbers = refl
one_made (one_common Unmark) numbers = refl
one_made Arc numbers = refl
one_made Until numbers = refl

two_made : (word : TwoWord) (numbers : Row) → session_line_of (session_spelling (WithTwo word) ∷ numbers) ≡ Some (two_line word (size_at numbers 0) (size_at numbers 1))
two_made (two_common Set) numbers = refl
two_made (two_common Dist) numbers = refl
two_made (two_common From) numbers = refl
two_made (two_common Lower) numbers = refl
two_made Arcs numbers = refl
two_made Reach numbers = refl
two_made Reached numbers = refl
two_made Nearest numbers = refl
two_made Route numbers = refl

lay_made : (numbers : Row) → session_line_of (session_spelling Lay ∷ numbers) ≡ Some (a_command (lay_arc (size_at numbers 0) (size_at numbers 1) (size_at numbers 2)))
lay_made numbers = refl

malformed : (word : List ℕ) (n : ℕ) (numbers : Row) → IsForm word n → is_malformed n numbers ≡ true → session_code (word ∷ numbers) ≡ Some BadLine
unfolding command_code
malformed word n numbers f e = rw (f.no_copy numbers, f.no_table, f.plain numbers, f.formed numbers, e) refl

code_alone : (word : List ℕ) → IsForm word 0 → session_code (word ∷ []) ≡ None
unfolding command_code
code_alone word f = rw (f.no_copy [], f.no_table, f.plain [], f.formed []) refl

code_of_one : (word u : List ℕ) (a : Numeral) → IsForm word 1 → numeral u ≡ Some a → session_code (word ∷ u ∷ []) ≡ cond (is_refused a) (Some NumberRange) None
unfolding command_code
code_of_one word u a f e = rw (f.no_copy (u ∷ []), f.no_table, f.plain (u ∷ []), f.formed (u ∷ []), e) (simp or-false)

code_of_two : (word u v : List ℕ) (a b : Numeral) → IsForm word 2 → numeral u ≡ Some a → numeral v ≡ Some b
    → session_code (word ∷ u ∷ v ∷ []) ≡ cond (is_refused a || is_refused b) (Some NumberRange) None
unfolding command_code
code_of_two word u v a b f d e = rw (f.no_copy (u ∷ v ∷ []), f.no_table, f.plain (u ∷ v ∷ []), f.formed (u ∷ v ∷ []), d, e) (simp or-false)

code_of_three : (word u v w : List ℕ) (a b d : Numeral) → IsForm word 3 → numeral u ≡ Some a → numeral v ≡ Some b → numeral w ≡ Some d
    → session_code (word ∷ u ∷ v ∷ w ∷ []) ≡ cond (is_refused a || (is_refused b || is_refused d)) (Some NumberRange) None
unfolding command_code
code_of_three word u v w a b d f e g h = rw (f.no_copy (u ∷ v ∷ w ∷ []), f.no_table, f.plain (u ∷ v ∷ w ∷ []), f.formed (u ∷ v ∷ w ∷ []), e, g, h) (simp or-false)

-- ---- what stands behind a word
-- not so many fields
other_count : (n : ℕ) (numbers : Row) → length numbers ≢ n → is_malformed n numbers ≡ true
other_count n numbers other = let count : eqb (length numbers) n ≡ false = ne_eqb _ _ other in rw count refl

-- how many fields are known to be there
abbrev pub count_of : Numbers → ℕ
count_of Nothing = 0
count_of (One a) = 1
count_of (Two a b) = 2
count_of (Three a b c) = 3
count_of TooMany = 4

bad_bare : (word : Bare) (row : Row) → length row ≢ 0 → session_code (session_spelling (WithNone word) ∷ row) ≡ Some BadLine
bad_bare word row other = malformed (session_spelling (WithNone word)) 0 row (bare_form word) (other_count 0 row other)

bad_one : (word : OneWord) (row : Row) → length row ≢ 1 → session_code (session_spelling (WithOne word) ∷ row) ≡ Some BadLine
bad_one word row other = malformed (session_spelling (WithOne word)) 1 row (one_form word) (other_count 1 row other)

bad_two : (word : TwoWord) (row : Row) → length row ≢ 2 → session_code (session_spelling (WithTwo word) ∷ row) ≡ Some BadLine
bad_two word row other = malformed (session_spelling (WithTwo word)) 2 row (two_form word) (other_count 2 row other)

bad_lay : (row : Row) → length row ≢ 3 → session_code (session_spelling Lay ∷ row) ≡ Some BadLine
bad_lay row other = malformed (session_spelling Lay) 3 row lay_form (other_count 3 row other)

bare_asks : (word : Bare) (row : Row) → AsksFor row (bare_line word) → IsLine row (bare_line word)
bare_asks Wait row asks = asks
bare_asks Quit row asks = asks
bare_asks Begin row asks = asks
bare_asks End row asks = asks
bare_asks Landmarks row asks = asks
bare_asks Closed row asks = asks
bare_asks State row asks = asks
bare_asks Suppose row asks = asks
bare_asks Forget row asks = asks

one_asks : (word : OneWord) (n : ℕ) (row : Row) → AsksFor row (one_line word n) → IsLine row (one_line word n)
one_asks (one_common Close) n row asks = asks
one_asks (one_common Reopen) n row asks = asks
one_asks (one_common Mark) n row asks = asks
one_asks (one_common Unmark) n row asks = asks
one_asks Arc n row asks = asks
one_asks Until n row asks = asks

two_asks : (word : TwoWord) (n m : ℕ) (row : Row) → AsksFor row (two_line word n m) → IsLine row (two_line word n m)
two_asks (two_common Set) n m row asks = asks
two_asks (two_common Dist) n m row asks = asks
two_asks (two_common From) n m row asks = asks
two_asks (two_common Lower) n m row asks = asks
two_asks Arcs n m row asks = asks
two_asks Reach n m row asks = asks
two_asks Reached n m row asks = asks
two_asks Nearest n m row asks = asks
two_asks Route n m row asks = asks

-- a word that stands alone
pub bare_reads : (word : Bare) (row : Row) → IsNumbers row Nothing → IsLine (session_spelling (WithNone word) ∷ row) (bare_line word)
bare_reads word row none = rw none (bare_asks word (session_spelling (WithNone word) ∷ []) (code_alone (session_spelling (WithNone word)) (bare_form word), bare_made word []))

pub bare_fault : (word : Bare) (row : Row) (numbers : Numbers) → IsNumbers row numbers → 0 < count_of numbers → session_code (session_spelling (WithNone word) ∷ row) ≡ Some BadLine
bare_fault word row Nothing are some = let no : 0 < 0 = some in absurd (omega (arith, no))
bare_fault word row (One a) are some = bad_bare word row (λ e. absurd (omega (arith, e, ap length are.row_is)))
bare_fault word row (Two a b) are some = bad_bare word row (λ e. absurd (omega (arith, e, ap length are.row_is)))
bare_fault word row (Three a b c) are some = bad_bare word row (λ e. absurd (omega (arith, e, ap length are.row_is)))
bare_fault word row TooMany are some = bad_bare word row (λ e. absurd (omega (arith, e, are)))

-- what a field is whose numeral is kept
pub record KeptAs (field : List ℕ) (n : Numeral) : Type 0 where
  pub a : Numeral
  pub is : numeral field ≡ Some a
  pub kept_as : n ≡ kept a

pub kept_as : (field : List ℕ) (n : Numeral) → Some n ≡ field_number_of field → KeptAs field n
kept_as field n e =
    elim (known (numeral field)) [
      | inl none ↦ absurd (let clash : Some n ≡ None = e ∙ rw none refl in let absurdity : ⊥ = cc in absurdity)
      | inr (a, is) ↦ let same : Some n ≡ Some (kept a) = e ∙ rw is refl in record { a = a; is = is; kept_as = cc }
    ]

pub no_numeral : (field : List ℕ) → None ≡ field_number_of field → numeral field ≡ None
no_numeral field e =
    elim (known (numeral field)) [
      | inl none ↦ none
      | inr (a, is) ↦ absurd (let clash : None ≡ Some (kept a) = e ∙ rw is refl in let absurdity : ⊥ = cc in absurdity)
    ]

-- a word with one number
one_is : (word : OneWord) (u : List ℕ) (a : Numeral) → numeral u ≡ Some a → is_refused a ≡ false → IsLine (session_spelling (WithOne word) ∷ u ∷ []) (one_line word (kept a).size)
one_is word u a e plain =
    let size : size_at (u ∷ []) 0 ≡ (kept a).size = rw e (sym (ap (λ (n : Numeral). n.size) (kept_number a plain))) in
    one_asks word (kept a).size (session_spelling (WithOne word) ∷ u ∷ []) (
      code_of_one (session_spelling (WithOne word)) u a (one_form word) e ∙ rw plain refl,
      one_made word (u ∷ []) ∙ ap (λ (x : ℕ). Some (one_line word x)) size,
    )

pub one_reads : (word : OneWord) (row : Row) (n : Numeral) → IsNumbers row (One (Some n)) → is_refused n ≡ false → IsLine (session_spelling (WithOne word) ∷ row) (one_line word n.size)
one_reads word row n are plain =
    let k = kept_as are.field n are.number in
    let still : is_refused k.a ≡ false = sym (kept_refused k.a) ∙ sym (ap is_refused k.kept_as) ∙ plain in
    rw (are.row_is, k.kept_as) (one_is word are.field k.a k.is still)

pub one_code : (word : OneWord) (row : Row) (n : Numeral) → IsNumbers row (One (Some n)) → is_refused n ≡ true → session_code (session_spelling (WithOne word) ∷ row) ≡ Some NumberRange
one_code word row n are bad =
    let k = kept_as are.field n are.number in
    let still : is_refused k.a ≡ true = sym (kept_refused k.a) ∙ sym (ap is_refused k.kept_as) ∙ bad in
    rw are.row_is (code_of_one (session_spelling (WithOne word)) are.field k.a (one_form word) k.is ∙ rw still refl)

pub one_fault : (word : OneWord) (row : Row) (numbers : Numbers) → IsNumbers row numbers → has_one numbers ≡ false → session_code (session_spelling (WithOne word) ∷ row) ≡ Some BadLine
one_fault word row Nothing are none = bad_one word row (λ e. absurd (omega (arith, e, ap length are)))
one_fault word row (One None) are none =
    let no : numeral are.field ≡ None = no_numeral are.field are.number in
    let bad : is_malformed 1 (are.field ∷ []) ≡ true = rw no refl in
    rw are.row_is (malformed (session_spelling (WithOne word)) 1 (are.field ∷ []) (one_form word) bad)
one_fault word row (One (Some n)) are none = absurd (let absurdity : ⊥ = cc in absurdity)
one_fault word row (Two a b) are none = bad_one word row (λ e. absurd (omega (arith, e, ap length are.row_is)))
one_fault word row (Three a b c) are none = bad_one word row (λ e. absurd (omega (arith, e, ap length are.row_is)))
one_fault word row TooMany are none = bad_one word row (λ e. absurd (omega (arith, e, are)))

-- a word with two numbers
two_is : (word : TwoWord) (u v : List ℕ) (a b : Numeral) → numeral u ≡ Some a → numeral v ≡ Some b → (is_refused a || is_refused b) ≡ false
    → IsLine (session_spelling (WithTwo word) ∷ u ∷ v ∷ []) (two_line word (kept a).size (kept b).size)
two_is word u v a b d e plain =
    let parts = or_parts _ _ plain in
    let first : size_at (u ∷ v ∷ []) 0 ≡ (kept a).size = rw d (sym (ap (λ (n : Numeral). n.size) (kept_number a parts.0))) in
    let second : size_at (u ∷ v ∷ []) 1 ≡ (kept b).size = rw e (sym (ap (λ (n : Numeral). n.size) (kept_number b parts.1))) in
    two_asks word (kept a).size (kept b).size (session_spelling (WithTwo word) ∷ u ∷ v ∷ []) (
      code_of_two (session_spelling (WithTwo word)) u v a b (two_form word) d e ∙ rw plain refl,
      two_made word (u ∷ v ∷ []) ∙ ap (λ (x : ℕ). Some (two_line word x (size_at (u ∷ v ∷ []) 1))) first ∙ ap (λ (y : ℕ). Some (two_line word (kept a).size y)) second,
    )

pub both_refused : (a b : Numeral) (n m : Numeral) → n ≡ kept a → m ≡ kept b → (is_refused a || is_refused b) ≡ (is_refused n || is_refused m)
both_refused a b n m p q =
    ap (λ (x : Bool). x || is_refused b) (sym (kept_refused a) ∙ sym (ap is_refused p)) ∙ ap (λ (y : Bool). is_refused n || y) (sym (kept_refused b) ∙ sym (ap is_refused q))

pub two_reads : (word : TwoWord) (row : Row) (n m : Numeral) → IsNumbers row (Two (Some n) (Some m)) → (is_refused n || is_refused m) ≡ false
    → IsLine (session_spelling (WithTwo word) ∷ row) (two_line word n.size m.size)
two_reads word row n m are plain =
    let j = kept_as are.first n are.first_number in
    let k = kept_as are.second m are.second_number in
    rw (are.row_is, j.kept_as, k.kept_as) (two_is word are.first are.second j.a k.a j.is k.is (both_refused j.a k.a n m j.kept_as k.kept_as ∙ plain))

pub two_code : (word : TwoWord) (row : Row) (n m : Numeral) → IsNumbers row (Two (Some n) (Some m)) → (is_refused n || is_refused m) ≡ true
    → session_code (session_spelling (WithTwo word) ∷ row) ≡ Some NumberRange
two_code word row n m are bad =
    let j = kept_as are.first n are.first_number in
    let k = kept_as are.second m are.second_number in
    rw are.row_is (code_of_two (session_spelling (WithTwo word)) are.first are.second j.a k.a (two_form word) j.is k.is ∙ rw (both_refused j.a k.a n m j.kept_as k.kept_as ∙ bad) refl)

bad_pair : (word : TwoWord) (row : Row) (a b : Option Numeral) → AreTwo row a b → is_malformed 2 row ≡ true → session_code (session_spelling (WithTwo word) ∷ row) ≡ Some BadLine
bad_pair word row a b are bad = malformed (session_spelling (WithTwo word)) 2 row (two_form word) bad

pub two_fault : (word : TwoWord) (row : Row) (numbers : Numbers) → IsNumbers row numbers → has_two numbers ≡ false → session_code (session_spelling (WithTwo word) ∷ row) ≡ Some BadLine
two_fault word row Nothing are none = bad_two word row (λ e. absurd (omega (arith, e, ap length are)))
two_fault word row (One a) are none = bad_two word row (λ e. absurd (omega (arith, e, ap length are.row_is)))
two_fault word row (Two None b) are none =
    let no : numeral are.first ≡ None = no_numeral are.first are.first_number in
    bad_pair word row None b are (rw (are.row_is, no) refl)
two_fault word row (Two (Some n) None) are none =
    let k = kept_as are.first n are.first_number in
    let no : numeral are.second ≡ None = no_numeral are.second are.second_number in
    bad_pair word row (Some n) None are (rw (are.row_is, k.is, no) refl)
two_fault word row (Two (Some n) (Some m)) are none = absurd (let absurdity : ⊥ = cc in absurdity)
two_fault word row (Three a b c) are none = bad_two word row (λ e. absurd (omega (arith, e, ap length are.row_is)))
two_fault word row TooMany are none = bad_two word row (λ e. absurd (omega (arith, e, are)))

-- `lay` with three numbers
same_lay : (x x' y y' z z' : ℕ) → x ≡ x' → y ≡ y' → z ≡ z' → ◌≡◌ {A = Option Line} (Some (a_command (lay_arc x y z))) (Some (a_command (lay_arc x' y' z')))
same_lay x x' y y' z z' e f g = rw (e, f, g) refl

lay_is : (u v w : List ℕ) (a b d : Numeral) → numeral u ≡ Some a → numeral v ≡ Some b → numeral w ≡ Some d → (is_refused a || (is_refused b || is_refused d)) ≡ false
    → IsLine (session_spelling Lay ∷ u ∷ v ∷ w ∷ []) (a_command (lay_arc (kept a).size (kept b).size (kept d).size))
lay_is u v w a b d e f g plain =
    let parts = or_parts _ _ plain in
    let others = or_parts _ _ parts.1 in
    let first : size_at (u ∷ v ∷ w ∷ []) 0 ≡ (kept a).size = rw e (sym (ap (λ (n : Numeral). n.size) (kept_number a parts.0))) in
    let second : size_at (u ∷ v ∷ w ∷ []) 1 ≡ (kept b).size = rw f (sym (ap (λ (n : Numeral). n.size) (kept_number b others.0))) in
    let third : size_at (u ∷ v ∷ w ∷ []) 2 ≡ (kept d).size = rw g (sym (ap (λ (n : Numeral). n.size) (kept_number d others.1))) in
    (code_of_three (session_spelling Lay) u v w a b d lay_form e f g ∙ rw plain refl, lay_made (u ∷ v ∷ w ∷ []) ∙ same_lay _ _ _ _ _ _ first second third)

pub all_refused : (a b d n m k : Numeral) → n ≡ kept a → m ≡ kept b → k ≡ kept d → (is_refused a || (is_refused b || is_refused d)) ≡ (is_refused n || (is_refused m || is_refused k))
all_refused a b d n m k p q r =
    ap (λ (x : Bool). x || (is_refused b || is_refused d)) (sym (kept_refused a) ∙ sym (ap is_refused p)) ∙ ap (λ (y : Bool). is_refused n || y) (both_refused b d m k q r)

pub lay_reads : (row : Row) (n m k : Numeral) → IsNumbers row (Three (Some n) (Some m) (Some k)) → (is_refused n || (is_refused m || is_refused k)) ≡ false
    → IsLine (session_spelling Lay ∷ row) (a_command (lay_arc n.size m.size k.size))
lay_reads row n m k are plain =
    let h = kept_as are.first n are.first_number in
    let i = kept_as are.second m are.second_number in
    let j = kept_as are.third k are.third_number in
    rw (are.row_is, h.kept_as, i.kept_as, j.kept_as) (lay_is are.first are.second are.third h.a i.a j.a h.is i.is j.is (all_refused h.a i.a j.a n m k h.kept_as i.kept_as j.kept_as ∙ plain))

pub lay_code : (row : Row) (n m k : Numeral) → IsNumbers row (Three (Some n) (Some m) (Some k)) → (is_refused n || (is_refused m || is_refused k)) ≡ true → session_code (session_spelling Lay ∷ row) ≡ Some NumberRange
lay_code row n m k are bad =
    let h = kept_as are.first n are.first_number in
    let i = kept_as are.second m are.second_number in
    let j = kept_as are.third k are.third_number in
    rw are.row_is
    (code_of_three (session_spelling Lay) are.first are.second are.third h.a i.a j.a lay_form h.is i.is j.is ∙ rw (all_refused h.a i.a j.a n m k h.kept_as i.kept_as j.kept_as ∙ bad) refl)

bad_triple : (row : Row) (a b c : Option Numeral) → AreThree row a b c → is_malformed 3 row ≡ true → session_code (session_spelling Lay ∷ row) ≡ Some BadLine
bad_triple row a b c are bad = malformed (session_spelling Lay) 3 row lay_form bad

pub lay_fault : (row : Row) (numbers : Numbers) → IsNumbers row numbers → has_three numbers ≡ false → session_code (session_spelling Lay ∷ row) ≡ Some BadLine
lay_fault row Nothing are none = bad_lay row (λ e. absurd (omega (arith, e, ap length are)))
lay_fault row (One a) are none = bad_lay row (λ e. absurd (omega (arith, e, ap length are.row_is)))
lay_fault row (Two a b) are none = bad_lay row (λ e. absurd (omega (arith, e, ap length are.row_is)))
lay_fault row (Three None b c) are none =
    let no : numeral are.first ≡ None = no_numeral are.first are.first_number in
    bad_triple row None b c are (rw (are.row_is, no) refl)
lay_fault row (Three (Some n) None c) are none =
    let h = kept_as are.first n are.first_number in
    let no : numeral are.second ≡ None = no_numeral are.second are.second_number in
    bad_triple row (Some n) None c are (rw (are.row_is, h.is, no) refl)
lay_fault row (Three (Some n) (Some m) None) are none =
    let h = kept_as are.first n are.first_number in
    let i = kept_as are.second m are.second_number in
    let no : numeral are.third ≡ None = no_numeral are.third are.third_number in
    bad_triple row (Some n) (Some m) None are (rw (are.row_is, h.is, i.is, no) refl)
lay_fault row (Three (Some n) (Some m) (Some k)) are none = absurd (let absurdity : ⊥ = cc in absurdity)
lay_fault row TooMany are none = bad_lay row (λ e. absurd (omega (arith, e, are)))
