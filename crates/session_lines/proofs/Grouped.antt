-- The code of a line within a group, by that of the line alone.
use Rattle.std.proofs.Common.{◌≡◌, ◌∙◌, ℕ, Bool, true, false, ◌||◌, cond, List, [], ◌∷◌, None, Some, refl, sym, ap, subst, inl, inr}
use Rattle.std.specs.Prelude.{is_some}
use Rattle.std.specs.Str.{bytes_eq}
use Rattle.std.proofs.lemmas.Bool.{cases_Bool}
use Rattle.std.proofs.lemmas.Slice.Eq.{bytes_eq-Decides}
use lib.Chars.{codes}
use Rattle.dimacs.specs.declared.fault.Code.TheVariants.{BadLine, NumberRange}
use Rattle.dimacs.specs.declared.numerals.numeral.Numeral.{Numeral}
use Rattle.dimacs.specs.declared.commands.words.OneNumber.TheVariants.{Close, Reopen, Mark, Unmark}
use Rattle.dimacs.specs.declared.commands.words.TwoNumbers.TheVariants.{Set, Dist, From, Lower}
use Rattle.dimacs.specs.Commands.{form, form_of, is_refused, command_code}
use Rattle.dimacs.specs.Faults.{Row, is_empty, is_remark, is_malformed, some_numeral}
use Rattle.dimacs.specs.Numerals.{numeral}
use Rattle.dimacs.proofs.CommandRows.{kept_refused}
use Rattle.dimacs.proofs.Items.{or-false}
use Rattle.session_lines.specs.declared.words.Bare.TheVariants.{End}
use Rattle.session_lines.specs.declared.words.One.{One as OneWord}
use Rattle.session_lines.specs.declared.words.One.TheVariants.{Common as one_common, Arc, Until}
use Rattle.session_lines.specs.declared.words.Two.{Two as TwoWord}
use Rattle.session_lines.specs.declared.words.Two.TheVariants.{Common as two_common, Arcs, Reach, Reached, Nearest, Route}
use Rattle.session_lines.specs.declared.words.SessionWord.TheVariants.{WithOne, WithTwo, Lay}
use Rattle.session_lines.specs.declared.fields.Numbers.TheVariants.{One, Two, Three}
use Rattle.session_lines.specs.declared.lines.Line.TheVariants.{Refused}
use Rattle.session_lines.specs.Fields.{IsNumbers}
use Rattle.session_lines.specs.Names.{copy_of}
use Rattle.session_lines.specs.SessionLines.{IsLine, grouped_forms, grouped_code, session_code}
use Rattle.session_lines.specs.Spelled.{session_spelling}
use Rattle.session_lines.specs.Words.{one_out_of_range, two_out_of_range}
use Rattle.session_lines.proofs.Worded.{IsForm, bare_form, one_form, two_form, lay_form, kept_as, one_code, two_code, lay_code, both_refused, all_refused}

-- ---- a line that is no line alone is none within a group

-- a word of a group, with numbers that are no numbers of it
not_bad : (b : Bool) → cond b (Some NumberRange) None ≡ Some BadLine → ⊥
not_bad true e = cc
not_bad false e = cc

command_within : (word : List ℕ) (n : ℕ) (numbers : Row) → IsForm word n → form_of grouped_forms (word ∷ numbers) ≡ Some (form word n) → session_code (word ∷ numbers) ≡ Some BadLine
    → grouped_code (word ∷ numbers) ≡ Some BadLine
unfolding command_code
command_within word n numbers f formed e =
    elim (cases_Bool (is_malformed n numbers)) [
      | inl bad ↦ rw (f.plain numbers, formed, bad) refl
      | inr well ↦ absurd (not_bad (some_numeral is_refused numbers) (rw (f.no_copy numbers, f.no_table, f.plain numbers, f.formed numbers, well) at e))
    ]

-- any other word
pub other_within : (word : List ℕ) (numbers : Row) → (is_empty (word ∷ numbers) || is_remark 35 (word ∷ numbers)) ≡ false → form_of grouped_forms (word ∷ numbers) ≡ None
    → grouped_code (word ∷ numbers) ≡ Some BadLine
unfolding command_code
other_within word numbers plain none = rw (plain, none) refl

step : (word : List ℕ) (n : ℕ) (first : List ℕ) (others : Row) → IsForm word n → form_of grouped_forms (word ∷ others) ≡ Some (form word n) → session_code (first ∷ others) ≡ Some BadLine
    → (bytes_eq first word ≡ false → grouped_code (first ∷ others) ≡ Some BadLine) → grouped_code (first ∷ others) ≡ Some BadLine
step word n first others f formed e otherwise =
    elim (cases_Bool (bytes_eq first word)) [
      | inl is ↦
          let same : first ≡ word = (bytes_eq-Decides first word).0 is in
          subst (λ (w : List ℕ). session_code (w ∷ others) ≡ Some BadLine → grouped_code (w ∷ others) ≡ Some BadLine) (sym same) (command_within word n others f formed) e
      | inr other ↦ otherwise other
    ]

-- a line that asks for nothing has no code
not_plain : (first : List ℕ) (others : Row) → session_code (first ∷ others) ≡ Some BadLine → (is_empty (first ∷ others) || is_remark 35 (first ∷ others)) ≡ false
unfolding command_code
not_plain first others e =
    elim (cases_Bool (is_empty (first ∷ others) || is_remark 35 (first ∷ others))) [
      | inr some ↦ some
      | inl nothing ↦ absurd (
          elim (cases_Bool (is_some (copy_of (first ∷ others)))) [
            | inl named ↦ let never : None ≡ Some BadLine = rw named at e in let absurdity : ⊥ = cc in absurdity
            | inr unnamed ↦
                elim (cases_Bool (bytes_eq first (codes "table"))) [
                  | inl tabled ↦
                      let same : first ≡ codes "table" = (bytes_eq-Decides first (codes "table")).0 tabled in
                      let never : false ≡ true = subst (λ (w : List ℕ). (is_empty (w ∷ others) || is_remark 35 (w ∷ others)) ≡ true) same nothing in
                      let absurdity : ⊥ = cc in absurdity
                  | inr untabled ↦ let never : None ≡ Some BadLine = rw (unnamed, untabled, nothing) at e in let absurdity : ⊥ = cc in absurdity
                ]
          ])
    ]

none_of_these : (first : List ℕ) (others : Row) → bytes_eq first (codes "set") ≡ false → bytes_eq first (codes "close") ≡ false → bytes_eq first (codes "reopen") ≡ false → bytes_eq first (codes "mark") ≡ false
    → bytes_eq first (codes "unmark") ≡ false → bytes_eq first (codes "lay") ≡ false → bytes_eq first (codes "end") ≡ false → form_of grouped_forms (first ∷ others) ≡ None
none_of_these first others set close reopen mark unmark lay ends = rw (set, close, reopen, mark, unmark, lay, ends) refl

pub bad_within : (row : Row) → session_code row ≡ Some BadLine → grouped_code row ≡ Some BadLine
unfolding command_code
bad_within [] e = absurd cc
bad_within (first ∷ others) e =
    step (codes "set") 2 first others (two_form (two_common Set)) refl e (λ set.
    step (codes "close") 1 first others (one_form (one_common Close)) refl e (λ close.
    step (codes "reopen") 1 first others (one_form (one_common Reopen)) refl e (λ reopen.
    step (codes "mark") 1 first others (one_form (one_common Mark)) refl e (λ mark.
    step (codes "unmark") 1 first others (one_form (one_common Unmark)) refl e (λ unmark.
    step (codes "lay") 3 first others lay_form refl e (λ lay.
    step (codes "end") 0 first others (bare_form End) refl e (λ ends.
    other_within first others (not_plain first others e) (none_of_these first others set close reopen mark unmark lay ends))))))))

-- ---- a number out of range

one_within : (word u : List ℕ) (a : Numeral) → (is_empty (word ∷ u ∷ []) || is_remark 35 (word ∷ u ∷ [])) ≡ false → form_of grouped_forms (word ∷ u ∷ []) ≡ Some (form word 1) → numeral u ≡ Some a → is_refused a ≡ true
    → grouped_code (word ∷ u ∷ []) ≡ Some NumberRange
unfolding command_code
one_within word u a plain formed e bad = rw (plain, formed, e, bad) refl

two_within : (word u v : List ℕ) (a b : Numeral) → (is_empty (word ∷ u ∷ v ∷ []) || is_remark 35 (word ∷ u ∷ v ∷ [])) ≡ false → form_of grouped_forms (word ∷ u ∷ v ∷ []) ≡ Some (form word 2)
    → numeral u ≡ Some a → numeral v ≡ Some b → (is_refused a || is_refused b) ≡ true → grouped_code (word ∷ u ∷ v ∷ []) ≡ Some NumberRange
unfolding command_code
two_within word u v a b plain formed d e bad =
    let code : grouped_code (word ∷ u ∷ v ∷ []) ≡ cond (is_refused a || is_refused b) (Some NumberRange) None = rw (plain, formed, d, e) (simp or-false) in
    code ∙ rw bad refl

three_within : (word u v w : List ℕ) (a b d : Numeral) → (is_empty (word ∷ u ∷ v ∷ w ∷ []) || is_remark 35 (word ∷ u ∷ v ∷ w ∷ [])) ≡ false → form_of grouped_forms (word ∷ u ∷ v ∷ w ∷ []) ≡ Some (form word 3)
    → numeral u ≡ Some a → numeral v ≡ Some b → numeral w ≡ Some d → (is_refused a || (is_refused b || is_refused d)) ≡ true → grouped_code (word ∷ u ∷ v ∷ w ∷ []) ≡ Some NumberRange
unfolding command_code
three_within word u v w a b d plain formed e g h bad =
    let code : grouped_code (word ∷ u ∷ v ∷ w ∷ []) ≡ cond (is_refused a || (is_refused b || is_refused d)) (Some NumberRange) None = rw (plain, formed, e, g, h) (simp or-false) in
    code ∙ rw bad refl

one_grouped : (word : OneWord) (u : List ℕ) (a : Numeral) → numeral u ≡ Some a → is_refused a ≡ true → grouped_code (session_spelling (WithOne word) ∷ u ∷ []) ≡ Some (one_out_of_range word)
one_grouped (one_common Close) u a e bad = one_within (codes "close") u a refl refl e bad
one_grouped (one_common Reopen) u a e bad = one_within (codes "reopen") u a refl refl e bad
one_grouped (one_common Mark) u a e bad = one_within (codes "mark") u a refl refl e bad
one_grouped (one_common Unmark) u a e bad = one_within (codes "unmark") u a refl refl e bad
one_grouped Arc u a e bad = other_within (codes "arc") (u ∷ []) refl refl
one_grouped Until u a e bad = other_within (codes "until") (u ∷ []) refl refl

two_grouped : (word : TwoWord) (u v : List ℕ) (a b : Numeral) → numeral u ≡ Some a → numeral v ≡ Some b → (is_refused a || is_refused b) ≡ true
    → grouped_code (session_spelling (WithTwo word) ∷ u ∷ v ∷ []) ≡ Some (two_out_of_range word)
two_grouped (two_common Set) u v a b d e bad = two_within (codes "set") u v a b refl refl d e bad
two_grouped (two_common Dist) u v a b d e bad = other_within (codes "dist") (u ∷ v ∷ []) refl refl
two_grouped (two_common From) u v a b d e bad = other_within (codes "from") (u ∷ v ∷ []) refl refl
two_grouped (two_common Lower) u v a b d e bad = other_within (codes "lower") (u ∷ v ∷ []) refl refl
two_grouped Arcs u v a b d e bad = other_within (codes "arcs") (u ∷ v ∷ []) refl refl
two_grouped Reach u v a b d e bad = other_within (codes "reach") (u ∷ v ∷ []) refl refl
two_grouped Reached u v a b d e bad = other_within (codes "reached") (u ∷ v ∷ []) refl refl
two_grouped Nearest u v a b d e bad = other_within (codes "nearest") (u ∷ v ∷ []) refl refl
two_grouped Route u v a b d e bad = other_within (codes "route") (u ∷ v ∷ []) refl refl

pub one_range : (word : OneWord) (row : Row) (n : Numeral) → IsNumbers row (One (Some n)) → is_refused n ≡ true → IsLine (session_spelling (WithOne word) ∷ row) (Refused NumberRange (one_out_of_range word))
one_range word row n are bad =
    let k = kept_as are.field n are.number in
    let still : is_refused k.a ≡ true = sym (kept_refused k.a) ∙ sym (ap is_refused k.kept_as) ∙ bad in
    (one_code word row n are bad, rw are.row_is (one_grouped word are.field k.a k.is still))

pub two_range : (word : TwoWord) (row : Row) (n m : Numeral) → IsNumbers row (Two (Some n) (Some m)) → (is_refused n || is_refused m) ≡ true
    → IsLine (session_spelling (WithTwo word) ∷ row) (Refused NumberRange (two_out_of_range word))
two_range word row n m are bad =
    let j = kept_as are.first n are.first_number in
    let k = kept_as are.second m are.second_number in
    (two_code word row n m are bad, rw are.row_is (two_grouped word are.first are.second j.a k.a j.is k.is (both_refused j.a k.a n m j.kept_as k.kept_as ∙ bad)))

pub lay_range : (row : Row) (n m k : Numeral) → IsNumbers row (Three (Some n) (Some m) (Some k)) → (is_refused n || (is_refused m || is_refused k)) ≡ true → IsLine (session_spelling Lay ∷ row) (Refused NumberRange NumberRange)
lay_range row n m k are bad =
    let h = kept_as are.first n are.first_number in
    let i = kept_as are.second m are.second_number in
    let j = kept_as are.third k are.third_number in
    (lay_code row n m k are bad, rw are.row_is (three_within (session_spelling Lay) are.first are.second are.third h.a i.a j.a refl refl h.is i.is j.is (all_refused h.a i.a j.a n m k h.kept_as i.kept_as j.kept_as ∙ bad)))
