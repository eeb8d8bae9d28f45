-- A line of a command text that is read from left to right has the lowest code that applies to it, or is the command that it says.
use Rattle.std.proofs.Common.{◌≡◌, ◌∙◌, ℕ, Bool, true, false, ◌||◌, cond, List, [], ◌∷◌, None, Some, Result, Ok, Err, length, ltb, refl, sym, ap, subst, inl, inr, arith}
use Rattle.std.specs.List.{find}
use Rattle.std.proofs.lemmas.Bool.{or_parts, eqb-true, lt-ltb}
use lib.Chars.{codes}
use Rattle.roadnet.specs.declared.commands.Command.{Command}
use Rattle.roadnet.specs.declared.commands.Command.TheVariants.{Set, Lay}
use Rattle.dimacs.specs.declared.fault.Code.{Code}
use Rattle.dimacs.specs.declared.fault.Code.TheVariants.{BadLine, NumberRange, Read}
use Rattle.dimacs.specs.declared.numerals.numeral.Numeral.{Numeral}
use Rattle.dimacs.specs.declared.commands.words.OneNumber.{OneNumber}
use Rattle.dimacs.specs.declared.commands.words.OneNumber.TheVariants.{Close, Reopen, Mark, Unmark}
use Rattle.dimacs.specs.Commands.{Form, form, commands, form_of, is_refused, command_applies, command_code}
use Rattle.dimacs.specs.Commanded.{command_of}
use Rattle.dimacs.specs.CommandReading.{number_read, numbers_read, three_read, ReadsCommandLine}
use Rattle.dimacs.specs.Content.{size_at}
use Rattle.dimacs.specs.Faults.{Row, is_empty, is_remark, is_malformed}
use Rattle.dimacs.specs.Numerals.{numeral, kept}
use Rattle.dimacs.specs.Reading.{one_numeral, two_numerals, three_numerals}
use Rattle.dimacs.specs.Spelling.{one_spelling, one_command}
use Rattle.dimacs.proofs.Items.{kept_is, unreadable_kept, or-false, IsOfTable, found_of_table, three_cases}
use Rattle.dimacs.proofs.NodeRows.{one_cases}
use Rattle.dimacs.proofs.Problems.{two_cases}

-- ---- lines that say nothing
no_command : (b : ℕ) (bs : List ℕ) (others : Row) → b ≡ 35 → command_of ((b ∷ bs) ∷ others) ≡ None
no_command b bs others e = rw e refl

pub ignored_command : (row : Row) → (is_empty row || is_remark 35 row) ≡ true → command_of row ≡ None
ignored_command [] e = refl
ignored_command ([] ∷ others) e = absurd (let absurdity : ⊥ = cc in absurdity)
ignored_command ((b ∷ bs) ∷ others) e =
    let some : ltb 0 (length (b ∷ bs)) ≡ true = lt-ltb _ _ (omega arith) in
    no_command b bs others (eqb-true b 35 (rw some at e))

pub ignored_row : (row : Row) → (is_empty row || is_remark 35 row) ≡ true → ReadsCommandLine row (Ok None)
unfolding command_code
ignored_row row e = ((λ earlier. rw e refl), ignored_command row e)

pub unknown_row : (row : Row) → (is_empty row || is_remark 35 row) ≡ false → form_of commands row ≡ None → ReadsCommandLine row (Err BadLine)
unfolding command_code
unknown_row row e f = λ earlier. rw (e, f) refl

-- ---- numbers
pub kept_refused : (n : Numeral) → is_refused (kept n) ≡ is_refused n
kept_refused n = ap (λ b. n.has_minus || b) (unreadable_kept n)

pub kept_number : (n : Numeral) → is_refused n ≡ false → kept n ≡ n
kept_number n e = kept_is n (or_parts _ _ e).1

-- What is right of the fields behind a word, whether they are no numeral, one that is refused or one that is not, is right of what they are read as.
module _ (Right : Row → Result ℕ Code → Type 0) (malformed : (numbers : Row) → is_malformed 1 numbers ≡ true → Right numbers (Err BadLine))
    (refused : (u : List ℕ) (a : Numeral) → numeral u ≡ Some a → is_refused a ≡ true → Right (u ∷ []) (Err NumberRange))
    (plain : (u : List ℕ) (a : Numeral) → numeral u ≡ Some a → is_refused a ≡ false → Right (u ∷ []) (Ok (size_at (u ∷ []) 0))) where
  of_numeral : (u : List ℕ) (a : Numeral) → numeral u ≡ Some a → (b : Bool) → is_refused a ≡ b → Right (u ∷ []) (cond b (Err NumberRange) (Ok (kept a).size))
  of_numeral u a e true is = refused u a e is
  of_numeral u a e false is =
      let size : size_at (u ∷ []) 0 ≡ (kept a).size = rw e (sym (ap (λ (n : Numeral). n.size) (kept_number a is))) in
      subst (λ (n : ℕ). Right (u ∷ []) (Ok n)) size (plain u a e is)

  pub number_right : (numbers : Row) → Right numbers (number_read (one_numeral numbers))
  number_right numbers =
      elim (one_cases numbers) [
        | inl bad ↦ rw bad.0 (malformed numbers bad.1)
        | inr one ↦
            let read : one_numeral (one.field ∷ []) ≡ Some (kept one.a) = rw one.field_is refl in
            let result : number_read (one_numeral (one.field ∷ [])) ≡ cond (is_refused one.a) (Err NumberRange) (Ok (kept one.a).size) =
            ap number_read read ∙ ap (λ (x : Bool). cond x (Err NumberRange) (Ok (kept one.a).size)) (kept_refused one.a) in
            rw one.fields (subst (Right (one.field ∷ [])) (sym result) (of_numeral one.field one.a one.field_is (is_refused one.a) refl))
      ]

-- the same of two numbers
module _ (Right : Row → Result (ℕ × ℕ) Code → Type 0) (malformed : (numbers : Row) → is_malformed 2 numbers ≡ true → Right numbers (Err BadLine))
    (refused : (u v : List ℕ) (a b : Numeral) → numeral u ≡ Some a → numeral v ≡ Some b → (is_refused a || is_refused b) ≡ true → Right (u ∷ v ∷ []) (Err NumberRange))
    (plain : (u v : List ℕ) (a b : Numeral) → numeral u ≡ Some a → numeral v ≡ Some b → (is_refused a || is_refused b) ≡ false
    → Right (u ∷ v ∷ []) (Ok (size_at (u ∷ v ∷ []) 0, size_at (u ∷ v ∷ []) 1))) where
  of_numerals : (u v : List ℕ) (a b : Numeral) → numeral u ≡ Some a → numeral v ≡ Some b → (c : Bool) → (is_refused a || is_refused b) ≡ c
      → Right (u ∷ v ∷ []) (cond c (Err NumberRange) (Ok ((kept a).size, (kept b).size)))
  of_numerals u v a b d e true is = refused u v a b d e is
  of_numerals u v a b d e false is =
      let parts = or_parts _ _ is in
      let first : size_at (u ∷ v ∷ []) 0 ≡ (kept a).size = rw d (sym (ap (λ (n : Numeral). n.size) (kept_number a parts.0))) in
      let second : size_at (u ∷ v ∷ []) 1 ≡ (kept b).size = rw e (sym (ap (λ (n : Numeral). n.size) (kept_number b parts.1))) in
      subst (λ (m : ℕ). Right (u ∷ v ∷ []) (Ok ((kept a).size, m))) second
      (subst (λ (n : ℕ). Right (u ∷ v ∷ []) (Ok (n, size_at (u ∷ v ∷ []) 1))) first (plain u v a b d e is))

  pub numbers_right : (numbers : Row) → Right numbers (numbers_read (two_numerals numbers))
  numbers_right numbers =
      elim (two_cases numbers) [
        | inl bad ↦ rw bad.0 (malformed numbers bad.1)
        | inr two ↦
            let read : two_numerals (two.nodes ∷ two.items ∷ []) ≡ Some (kept two.a, kept two.b) = rw (two.nodes_is, two.items_is) refl in
            let same : (is_refused (kept two.a) || is_refused (kept two.b)) ≡ (is_refused two.a || is_refused two.b) =
            ap (λ (x : Bool). x || is_refused (kept two.b)) (kept_refused two.a) ∙ ap (λ (y : Bool). is_refused two.a || y) (kept_refused two.b) in
            let result : numbers_read (two_numerals (two.nodes ∷ two.items ∷ [])) ≡ cond (is_refused two.a || is_refused two.b) (Err NumberRange) (Ok ((kept two.a).size, (kept two.b).size)) =
            ap numbers_read read ∙ ap (λ (x : Bool). cond x (Err NumberRange) (Ok ((kept two.a).size, (kept two.b).size))) same in
            rw two.fields (subst (Right (two.nodes ∷ two.items ∷ [])) (sym result) (of_numerals two.nodes two.items two.a two.b two.nodes_is two.items_is (is_refused two.a || is_refused two.b) refl))
      ]

-- the same of three numbers
module _ (Right : Row → Result (ℕ × ℕ × ℕ) Code → Type 0) (malformed : (numbers : Row) → is_malformed 3 numbers ≡ true → Right numbers (Err BadLine))
    (refused : (u v w : List ℕ) (a b d : Numeral) → numeral u ≡ Some a → numeral v ≡ Some b → numeral w ≡ Some d → (is_refused a || (is_refused b || is_refused d)) ≡ true → Right (u ∷ v ∷ w ∷ []) (Err NumberRange))
    (plain : (u v w : List ℕ) (a b d : Numeral) → numeral u ≡ Some a → numeral v ≡ Some b → numeral w ≡ Some d → (is_refused a || (is_refused b || is_refused d)) ≡ false
    → Right (u ∷ v ∷ w ∷ []) (Ok (size_at (u ∷ v ∷ w ∷ []) 0, size_at (u ∷ v ∷ w ∷ []) 1, size_at (u ∷ v ∷ w ∷ []) 2))) where
  of_three : (u v w : List ℕ) (a b d : Numeral) → numeral u ≡ Some a → numeral v ≡ Some b → numeral w ≡ Some d → (c : Bool) → (is_refused a || (is_refused b || is_refused d)) ≡ c
      → Right (u ∷ v ∷ w ∷ []) (cond c (Err NumberRange) (Ok ((kept a).size, (kept b).size, (kept d).size)))
  of_three u v w a b d e f g true is = refused u v w a b d e f g is
  of_three u v w a b d e f g false is =
      let parts = or_parts _ _ is in
      let later = or_parts _ _ parts.1 in
      let first : size_at (u ∷ v ∷ w ∷ []) 0 ≡ (kept a).size = rw e (sym (ap (λ (n : Numeral). n.size) (kept_number a parts.0))) in
      let second : size_at (u ∷ v ∷ w ∷ []) 1 ≡ (kept b).size = rw f (sym (ap (λ (n : Numeral). n.size) (kept_number b later.0))) in
      let third : size_at (u ∷ v ∷ w ∷ []) 2 ≡ (kept d).size = rw g (sym (ap (λ (n : Numeral). n.size) (kept_number d later.1))) in
      subst (λ (x : ℕ). Right (u ∷ v ∷ w ∷ []) (Ok ((kept a).size, (kept b).size, x))) third
      (subst (λ (m : ℕ). Right (u ∷ v ∷ w ∷ []) (Ok ((kept a).size, m, size_at (u ∷ v ∷ w ∷ []) 2))) second
      (subst (λ (n : ℕ). Right (u ∷ v ∷ w ∷ []) (Ok (n, size_at (u ∷ v ∷ w ∷ []) 1, size_at (u ∷ v ∷ w ∷ []) 2))) first (plain u v w a b d e f g is)))

  pub three_right : (numbers : Row) → Right numbers (three_read (three_numerals numbers))
  three_right numbers =
      elim (three_cases numbers) [
        | inl bad ↦ rw bad.0 (malformed numbers bad.1)
        | inr all ↦
            let read : three_numerals (all.tail ∷ all.head ∷ all.length ∷ []) ≡ Some (kept all.a, kept all.b, kept all.c) = rw (all.tail_is, all.head_is, all.length_is) refl in
            let same : (is_refused (kept all.a) || (is_refused (kept all.b) || is_refused (kept all.c))) ≡ (is_refused all.a || (is_refused all.b || is_refused all.c)) = rw (kept_refused all.a, kept_refused all.b, kept_refused all.c) refl in
            let result : three_read (three_numerals (all.tail ∷ all.head ∷ all.length ∷ [])) ≡ cond (is_refused all.a || (is_refused all.b || is_refused all.c)) (Err NumberRange) (Ok ((kept all.a).size, (kept all.b).size, (kept all.c).size)) =
            ap three_read read ∙ ap (λ (x : Bool). cond x (Err NumberRange) (Ok ((kept all.a).size, (kept all.b).size, (kept all.c).size))) same in
            rw all.fields (subst (Right (all.tail ∷ all.head ∷ all.length ∷ [])) (sym result) (of_three all.tail all.head all.length all.a all.b all.c all.tail_is all.head_is all.length_is (is_refused all.a || (is_refused all.b || is_refused all.c)) refl))
      ]

-- a word with one number
module _ (word : List ℕ) (make : ℕ → Command) (plain : (numbers : Row) → (is_empty (word ∷ numbers) || is_remark 35 (word ∷ numbers)) ≡ false)
    (formed : (numbers : Row) → form_of commands (word ∷ numbers) ≡ Some (form word 1)) (made : (numbers : Row) → command_of (word ∷ numbers) ≡ Some (make (size_at numbers 0))) where
  code_of_number : (earlier : List Row) (u : List ℕ) (a : Numeral) → numeral u ≡ Some a → command_code commands earlier (word ∷ u ∷ []) ≡ cond (is_refused a) (Some NumberRange) None
  unfolding command_code
  code_of_number earlier u a e = rw (plain (u ∷ []), formed (u ∷ []), e) (simp or-false)

  malformed_number : (earlier : List Row) (numbers : Row) → is_malformed 1 numbers ≡ true → command_code commands earlier (word ∷ numbers) ≡ Some BadLine
  unfolding command_code
  malformed_number earlier numbers e = rw (plain numbers, formed numbers, e) refl

  abbrev RightNumber : Row → Result ℕ Code → Type 0
  RightNumber numbers (Ok x) = ReadsCommandLine (word ∷ numbers) (Ok (Some (make x)))
  RightNumber numbers (Err code) = ReadsCommandLine (word ∷ numbers) (Err code)

  number_row : (numbers : Row) → RightNumber numbers (number_read (one_numeral numbers))
  number_row =
      number_right RightNumber
      (λ numbers bad earlier. malformed_number earlier numbers bad)
      (λ u a e bad earlier. code_of_number earlier u a e ∙ rw bad refl)
      (λ u a e good. ((λ earlier. code_of_number earlier u a e ∙ rw good refl), made (u ∷ [])))

  number_says : (row numbers : Row) (x : ℕ) → row ≡ word ∷ numbers → Ok x ≡ number_read (one_numeral numbers) → ReadsCommandLine row (Ok (Some (make x)))
  number_says row numbers x e is = rw e (subst (RightNumber numbers) (sym is) (number_row numbers))

  number_fault : (row numbers : Row) (code : Code) → row ≡ word ∷ numbers → Err code ≡ number_read (one_numeral numbers) → ReadsCommandLine row (Err code)
  number_fault row numbers code e is = rw e (subst (RightNumber numbers) (sym is) (number_row numbers))

-- such a word is one of the words with one number
one_plain : (word : OneNumber) (numbers : Row) → (is_empty (one_spelling word ∷ numbers) || is_remark 35 (one_spelling word ∷ numbers)) ≡ false
one_plain Close numbers = refl
one_plain Reopen numbers = refl
one_plain Mark numbers = refl
one_plain Unmark numbers = refl

one_formed : (word : OneNumber) (numbers : Row) → form_of commands (one_spelling word ∷ numbers) ≡ Some (form (one_spelling word) 1)
one_formed Close numbers = refl
one_formed Reopen numbers = refl
one_formed Mark numbers = refl
one_formed Unmark numbers = refl

one_made : (word : OneNumber) (numbers : Row) → command_of (one_spelling word ∷ numbers) ≡ Some (one_command word (size_at numbers 0))
one_made Close numbers = refl
one_made Reopen numbers = refl
one_made Mark numbers = refl
one_made Unmark numbers = refl

pub one_says : (word : OneNumber) (row numbers : Row) (x : ℕ) → row ≡ one_spelling word ∷ numbers → Ok x ≡ number_read (one_numeral numbers) → ReadsCommandLine row (Ok (Some (one_command word x)))
one_says word = number_says (one_spelling word) (one_command word) (one_plain word) (one_formed word) (one_made word)

pub one_fault : (word : OneNumber) (row numbers : Row) (code : Code) → row ≡ one_spelling word ∷ numbers → Err code ≡ number_read (one_numeral numbers) → ReadsCommandLine row (Err code)
one_fault word = number_fault (one_spelling word) (one_command word) (one_plain word) (one_formed word) (one_made word)

-- `set` and its two numbers
code_of_numbers : (earlier : List Row) (u v : List ℕ) (a b : Numeral) → numeral u ≡ Some a → numeral v ≡ Some b
    → command_code commands earlier (codes "set" ∷ u ∷ v ∷ []) ≡ cond (is_refused a || is_refused b) (Some NumberRange) None
unfolding command_code
code_of_numbers earlier u v a b e f = rw (e, f) (simp or-false)

malformed_numbers : (earlier : List Row) (numbers : Row) → is_malformed 2 numbers ≡ true → command_code commands earlier (codes "set" ∷ numbers) ≡ Some BadLine
unfolding command_code
malformed_numbers earlier numbers e = rw e refl

abbrev RightNumbers : Row → Result (ℕ × ℕ) Code → Type 0
RightNumbers numbers (Ok x) = ReadsCommandLine (codes "set" ∷ numbers) (Ok (Some (Set x.0 x.1)))
RightNumbers numbers (Err code) = ReadsCommandLine (codes "set" ∷ numbers) (Err code)

numbers_row : (numbers : Row) → RightNumbers numbers (numbers_read (two_numerals numbers))
numbers_row =
    numbers_right RightNumbers
    (λ numbers bad earlier. malformed_numbers earlier numbers bad)
    (λ u v a b d e bad earlier. code_of_numbers earlier u v a b d e ∙ rw bad refl)
    (λ u v a b d e good. ((λ earlier. code_of_numbers earlier u v a b d e ∙ rw good refl), refl))

pub set_says : (row numbers : Row) (x y : ℕ) → row ≡ codes "set" ∷ numbers → Ok (x, y) ≡ numbers_read (two_numerals numbers) → ReadsCommandLine row (Ok (Some (Set x y)))
set_says row numbers x y e is = rw e (subst (RightNumbers numbers) (sym is) (numbers_row numbers))

pub set_fault : (row numbers : Row) (code : Code) → row ≡ codes "set" ∷ numbers → Err code ≡ numbers_read (two_numerals numbers) → ReadsCommandLine row (Err code)
set_fault row numbers code e is = rw e (subst (RightNumbers numbers) (sym is) (numbers_row numbers))

-- `lay` and its three numbers
code_of_three : (earlier : List Row) (u v w : List ℕ) (a b d : Numeral) → numeral u ≡ Some a → numeral v ≡ Some b → numeral w ≡ Some d
    → command_code commands earlier (codes "lay" ∷ u ∷ v ∷ w ∷ []) ≡ cond (is_refused a || (is_refused b || is_refused d)) (Some NumberRange) None
unfolding command_code
code_of_three earlier u v w a b d e f g = rw (e, f, g) (simp or-false)

malformed_three : (earlier : List Row) (numbers : Row) → is_malformed 3 numbers ≡ true → command_code commands earlier (codes "lay" ∷ numbers) ≡ Some BadLine
unfolding command_code
malformed_three earlier numbers e = rw e refl

abbrev RightThree : Row → Result (ℕ × ℕ × ℕ) Code → Type 0
RightThree numbers (Ok x) = ReadsCommandLine (codes "lay" ∷ numbers) (Ok (Some (Lay x.0 x.1 x.2)))
RightThree numbers (Err code) = ReadsCommandLine (codes "lay" ∷ numbers) (Err code)

three_row : (numbers : Row) → RightThree numbers (three_read (three_numerals numbers))
three_row =
    three_right RightThree
    (λ numbers bad earlier. malformed_three earlier numbers bad)
    (λ u v w a b d e f g bad earlier. code_of_three earlier u v w a b d e f g ∙ rw bad refl)
    (λ u v w a b d e f g good. ((λ earlier. code_of_three earlier u v w a b d e f g ∙ rw good refl), refl))

pub lay_says : (row numbers : Row) (x y z : ℕ) → row ≡ codes "lay" ∷ numbers → Ok (x, y, z) ≡ three_read (three_numerals numbers) → ReadsCommandLine row (Ok (Some (Lay x y z)))
lay_says row numbers x y z e is = rw e (subst (RightThree numbers) (sym is) (three_row numbers))

pub lay_fault : (row numbers : Row) (code : Code) → row ≡ codes "lay" ∷ numbers → Err code ≡ three_read (three_numerals numbers) → ReadsCommandLine row (Err code)
lay_fault row numbers code e is = rw e (subst (RightThree numbers) (sym is) (three_row numbers))

pub code_of_table : (forms : List Form) (earlier : List Row) (row : Row) (code : Code) → command_code forms earlier row ≡ Some code → IsOfTable code
unfolding command_code
code_of_table forms earlier row code e = listed (is_empty row || is_remark 35 row) e
  where
    listed : (b : Bool) → cond b None (find (command_applies forms row) (BadLine ∷ NumberRange ∷ [])) ≡ Some code → IsOfTable code
    listed true e = absurd (let absurdity : ⊥ = cc in absurdity)
    listed false e = found_of_table (command_applies forms row) (BadLine ∷ NumberRange ∷ []) code (tt, (tt, tt)) e

pub never_read : (row : Row) → command_code commands [] row ≡ Some Read → ⊥
never_read row e = code_of_table commands [] row Read e
