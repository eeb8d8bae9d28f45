-- A line of a script that is read from left to right has the lowest code that applies to it, or is the event that it says.
use Rattle.std.proofs.Common.{◌≡◌, ◌∙◌, ℕ, true, false, ◌||◌, cond, eqb, List, [], ◌∷◌, None, Some, Result, Ok, Err, length, ltb, refl, sym, ap, subst, arith}
use Rattle.std.proofs.lemmas.Bool.{eqb-true, lt-ltb, ne_eqb}
use lib.Chars.{codes}
use Rattle.dimacs.specs.declared.fault.Code.{Code}
use Rattle.dimacs.specs.declared.fault.Code.TheVariants.{BadLine, NumberRange}
use Rattle.dimacs.specs.declared.numerals.numeral.Numeral.{Numeral}
use Rattle.dimacs.specs.declared.commands.words.OneNumber.{OneNumber}
use Rattle.dimacs.specs.declared.commands.words.OneNumber.TheVariants.{Close, Reopen, Mark, Unmark}
use Rattle.dimacs.specs.declared.commands.words.TwoNumbers.{TwoNumbers}
use Rattle.dimacs.specs.declared.commands.words.TwoNumbers.TheVariants.{Set, Dist, From, Lower}
use Rattle.dimacs.specs.Commands.{form, form_of, is_refused, command_code}
use Rattle.dimacs.specs.CommandReading.{number_read, numbers_read, three_read}
use Rattle.dimacs.specs.Content.{size_at}
use Rattle.dimacs.specs.Faults.{Row, is_empty, is_remark, is_malformed}
use Rattle.dimacs.specs.Numerals.{numeral}
use Rattle.dimacs.specs.Reading.{one_numeral, two_numerals, three_numerals}
use Rattle.dimacs.proofs.CommandRows.{number_right, numbers_right, three_right}
use Rattle.dimacs.proofs.Items.{or-false}
use Rattle.disk.specs.declared.stoppable.Pick.{Pick}
use Rattle.machine.specs.declared.events.Event.{Event}
use Rattle.scripts.specs.declared.script_words.BareScriptWord.{BareScriptWord}
use Rattle.scripts.specs.declared.script_words.BareScriptWord.TheVariants.{Flush, Checkpoint, Task, Publish}
use Rattle.scripts.specs.declared.script_words.ScriptWord.TheVariants.{WithNone, WithOne, WithTwo, Lay}
use Rattle.scripts.specs.ScriptTexts.{as_line, script_line_of, numbered_words, is_stop_line, is_step, event_code}
use Rattle.scripts.specs.ScriptReading.{script_spelling, bare_script_line, one_script_line, two_script_line, lay_line, ReadsEvent, ReadsScriptLine}

-- ---- lines that say nothing
remark_code : (earlier : List Row) (bs : List ℕ) (others : Row) → ltb 0 (length (35 ∷ bs)) ≡ true → event_code earlier ((35 ∷ bs) ∷ others) ≡ None
unfolding event_code command_code
remark_code earlier bs others some = rw some refl

empty_code : (earlier : List Row) → event_code earlier [] ≡ None
unfolding event_code command_code
empty_code earlier = refl

no_event : (b : ℕ) (bs : List ℕ) (others : Row) → b ≡ 35 → script_line_of ((b ∷ bs) ∷ others) ≡ None
no_event b bs others e = rw e refl

pub ignored : (earlier : List Row) (row : Row) → (is_empty row || is_remark 35 row) ≡ true → (event_code earlier row ≡ None) × (script_line_of row ≡ None)
ignored earlier [] e = (empty_code earlier, refl)
ignored earlier ([] ∷ others) e = absurd (let absurdity : ⊥ = cc in absurdity)
ignored earlier ((b ∷ bs) ∷ others) e =
    let some : ltb 0 (length (b ∷ bs)) ≡ true = lt-ltb _ _ (omega arith) in
    let still : ltb 0 (length (35 ∷ bs)) ≡ true = lt-ltb _ _ (omega arith) in
    let is : b ≡ 35 = eqb-true b 35 (rw some at e) in
    (rw is (remark_code earlier bs others still), no_event b bs others is)

pub ignored_row : (row : Row) → (is_empty row || is_remark 35 row) ≡ true → ReadsScriptLine row (Ok None)
ignored_row row e = ((λ earlier. (ignored earlier row e).0), (ignored [] row e).1)

pub unknown_row : (row : Row) → (is_empty row || is_remark 35 row) ≡ false → is_stop_line row ≡ false → is_step row ≡ false → form_of numbered_words row ≡ None → ReadsScriptLine row (Err BadLine)
unfolding event_code command_code
unknown_row row e s p f = λ earlier. rw (s, p, e, f) refl

-- ---- words with so many numbers behind them
record IsForm (word : List ℕ) (n : ℕ) : Type 0 where
  plain : (numbers : Row) → (is_empty (word ∷ numbers) || is_remark 35 (word ∷ numbers)) ≡ false
  no_stop : (numbers : Row) → is_stop_line (word ∷ numbers) ≡ false
  no_step : (numbers : Row) → is_step (word ∷ numbers) ≡ false
  formed : (numbers : Row) → form_of numbered_words (word ∷ numbers) ≡ Some (form word n)

bare_form : (word : BareScriptWord) → IsForm (script_spelling (WithNone word)) 0
bare_form Flush = record { plain = λ numbers. refl; no_stop = λ numbers. refl; no_step = λ numbers. refl; formed = λ numbers. refl }
bare_form Checkpoint = record { plain = λ numbers. refl; no_stop = λ numbers. refl; no_step = λ numbers. refl; formed = λ numbers. refl }
bare_form Task = record { plain = λ numbers. refl; no_stop = λ numbers. refl; no_step = λ numbers. refl; formed = λ numbers. refl }
bare_form Publish = record { plain = λ numbers. refl; no_stop = λ numbers. refl; no_step = λ numbers. refl; formed = λ numbers. refl }

one_form : (word : OneNumber) → IsForm (script_spelling (WithOne word)) 1
one_form Close = record { plain = λ numbers. refl; no_stop = λ numbers. refl; no_step = λ numbers. refl; formed = λ numbers. refl }
one_form Reopen = record { plain = λ numbers. refl; no_stop = λ numbers. refl; no_step = λ numbers. refl; formed = λ numbers. refl }
one_form Mark = record { plain = λ numbers. refl; no_stop = λ numbers. refl; no_step = λ numbers. refl; formed = λ numbers. refl }
one_form Unmark = record { plain = λ numbers. refl; no_stop = λ numbers. refl; no_step = λ numbers. refl; formed = λ numbers. refl }

two_form : (word : TwoNumbers) → IsForm (script_spelling (WithTwo word)) 2
two_form Set = record { plain = λ numbers. refl; no_stop = λ numbers. refl; no_step = λ numbers. refl; formed = λ numbers. refl }
two_form Dist = record { plain = λ numbers. refl; no_stop = λ numbers. refl; no_step = λ numbers. refl; formed = λ numbers. refl }
two_form From = record { plain = λ numbers. refl; no_stop = λ numbers. refl; no_step = λ numbers. refl; formed = λ numbers. refl }
two_form Lower = record { plain = λ numbers. refl; no_stop = λ numbers. refl; no_step = λ numbers. refl; formed = λ numbers. refl }

bare_made : (word : BareScriptWord) (numbers : Row) → script_line_of (script_spelling (WithNone word) ∷ numbers) ≡ Some (bare_script_line word)
bare_made Flush numbers = refl
bare_made Checkpoint numbers = refl
bare_made Task numbers = refl
bare_made Publish numbers = refl

one_made : (word : OneNumber) (numbers : Row) → script_line_of (script_spelling (WithOne word) ∷ numbers) ≡ Some (one_script_line word (size_at numbers 0))
one_made Close numbers = refl
one_made Reopen numbers = refl
one_made Mark numbers = refl
one_made Unmark numbers = refl

two_made : (word : TwoNumbers) (numbers : Row) → script_line_of (script_spelling (WithTwo word) ∷ numbers) ≡ Some (two_script_line word (size_at numbers 0) (size_at numbers 1))
two_made Set numbers = refl
two_made Dist numbers = refl
two_made From numbers = refl
two_made Lower numbers = refl

module _ (word : List ℕ) where
  malformed : (n : ℕ) (earlier : List Row) (numbers : Row) → IsForm word n → is_malformed n numbers ≡ true → event_code earlier (word ∷ numbers) ≡ Some BadLine
  unfolding event_code command_code
  malformed n earlier numbers f e = rw (f.no_stop numbers, f.no_step numbers, f.plain numbers, f.formed numbers, e) refl

  code_alone : (earlier : List Row) → IsForm word 0 → event_code earlier (word ∷ []) ≡ None
  unfolding event_code command_code
  code_alone earlier f = rw (f.no_stop [], f.no_step [], f.plain [], f.formed []) refl

  code_of_one : (earlier : List Row) (u : List ℕ) (a : Numeral) → IsForm word 1 → numeral u ≡ Some a
      → event_code earlier (word ∷ u ∷ []) ≡ cond (is_refused a) (Some NumberRange) None
  unfolding event_code command_code
  code_of_one earlier u a f e = rw (f.no_stop (u ∷ []), f.no_step (u ∷ []), f.plain (u ∷ []), f.formed (u ∷ []), e) (simp or-false)

  code_of_two : (earlier : List Row) (u v : List ℕ) (a b : Numeral) → IsForm word 2 → numeral u ≡ Some a → numeral v ≡ Some b
      → event_code earlier (word ∷ u ∷ v ∷ []) ≡ cond (is_refused a || is_refused b) (Some NumberRange) None
  unfolding event_code command_code
  code_of_two earlier u v a b f d e = rw (f.no_stop (u ∷ v ∷ []), f.no_step (u ∷ v ∷ []), f.plain (u ∷ v ∷ []), f.formed (u ∷ v ∷ []), d, e) (simp or-false)

-- ---- a word alone
pub bare_says : (word : BareScriptWord) (rest : Row) (event : Event Pick) → rest ≡ [] → as_line event ≡ bare_script_line word → ReadsEvent (script_spelling (WithNone word) ∷ rest) (Ok event)
bare_says word rest event none is = rw none ((λ earlier. code_alone (script_spelling (WithNone word)) earlier (bare_form word)), bare_made word [] ∙ ap Some (sym is))

pub bare_fault : (word : BareScriptWord) (rest others : Row) (first : List ℕ) → rest ≡ first ∷ others → ReadsEvent (script_spelling (WithNone word) ∷ rest) (Err BadLine)
bare_fault word rest others first is =
    let long : eqb (length (first ∷ others)) 0 ≡ false = ne_eqb _ _ (λ e. absurd (omega arith)) in
    let bad : is_malformed 0 (first ∷ others) ≡ true = rw long refl in
    rw is (λ earlier. malformed (script_spelling (WithNone word)) 0 earlier (first ∷ others) (bare_form word) bad)

-- ---- numbers
-- ---- a word with one number
abbrev RightOne : OneNumber → Row → Result ℕ Code → Type 0
RightOne word numbers (Ok n) = ((earlier : List Row) → event_code earlier (script_spelling (WithOne word) ∷ numbers) ≡ None) × (script_line_of (script_spelling (WithOne word) ∷ numbers) ≡ Some (one_script_line word n))
RightOne word numbers (Err code) = ReadsEvent (script_spelling (WithOne word) ∷ numbers) (Err code)

one_row : (word : OneNumber) (numbers : Row) → RightOne word numbers (number_read (one_numeral numbers))
one_row word =
    number_right (RightOne word)
    (λ numbers bad earlier. malformed (script_spelling (WithOne word)) 1 earlier numbers (one_form word) bad)
    (λ u a e bad earlier. code_of_one (script_spelling (WithOne word)) earlier u a (one_form word) e ∙ rw bad refl)
    (λ u a e good. ((λ earlier. code_of_one (script_spelling (WithOne word)) earlier u a (one_form word) e ∙ rw good refl), one_made word (u ∷ [])))

pub one_says : (word : OneNumber) (numbers : Row) (n : ℕ) (event : Event Pick) → Ok n ≡ number_read (one_numeral numbers) → as_line event ≡ one_script_line word n → ReadsEvent (script_spelling (WithOne word) ∷ numbers) (Ok event)
one_says word numbers n event read is =
    let right : RightOne word numbers (Ok n) = subst (RightOne word numbers) (sym read) (one_row word numbers) in
    (right.0, right.1 ∙ ap Some (sym is))

pub one_fault : (word : OneNumber) (numbers : Row) (code : Code) → Err code ≡ number_read (one_numeral numbers) → ReadsEvent (script_spelling (WithOne word) ∷ numbers) (Err code)
one_fault word numbers code read = subst (RightOne word numbers) (sym read) (one_row word numbers)

-- ---- a word with two numbers
abbrev RightTwo : TwoNumbers → Row → Result (ℕ × ℕ) Code → Type 0
RightTwo word numbers (Ok n) = ((earlier : List Row) → event_code earlier (script_spelling (WithTwo word) ∷ numbers) ≡ None) × (script_line_of (script_spelling (WithTwo word) ∷ numbers) ≡ Some (two_script_line word n.0 n.1))
RightTwo word numbers (Err code) = ReadsEvent (script_spelling (WithTwo word) ∷ numbers) (Err code)

two_row : (word : TwoNumbers) (numbers : Row) → RightTwo word numbers (numbers_read (two_numerals numbers))
two_row word =
    numbers_right (RightTwo word)
    (λ numbers bad earlier. malformed (script_spelling (WithTwo word)) 2 earlier numbers (two_form word) bad)
    (λ u v a b d e bad earlier. code_of_two (script_spelling (WithTwo word)) earlier u v a b (two_form word) d e ∙ rw bad refl)
    (λ u v a b d e good. ((λ earlier. code_of_two (script_spelling (WithTwo word)) earlier u v a b (two_form word) d e ∙ rw good refl), two_made word (u ∷ v ∷ [])))

pub two_says : (word : TwoNumbers) (numbers : Row) (n : ℕ × ℕ) (event : Event Pick) → Ok n ≡ numbers_read (two_numerals numbers) → as_line event ≡ two_script_line word n.0 n.1 → ReadsEvent (script_spelling (WithTwo word) ∷ numbers) (Ok event)
two_says word numbers n event read is =
    let right : RightTwo word numbers (Ok n) = subst (RightTwo word numbers) (sym read) (two_row word numbers) in
    (right.0, right.1 ∙ ap Some (sym is))

pub two_fault : (word : TwoNumbers) (numbers : Row) (code : Code) → Err code ≡ numbers_read (two_numerals numbers) → ReadsEvent (script_spelling (WithTwo word) ∷ numbers) (Err code)
two_fault word numbers code read = subst (RightTwo word numbers) (sym read) (two_row word numbers)

-- ---- `lay` and its three numbers
code_of_three : (earlier : List Row) (u v w : List ℕ) (a b d : Numeral) → numeral u ≡ Some a → numeral v ≡ Some b → numeral w ≡ Some d
    → event_code earlier (codes "lay" ∷ u ∷ v ∷ w ∷ []) ≡ cond (is_refused a || (is_refused b || is_refused d)) (Some NumberRange) None
unfolding event_code command_code
code_of_three earlier u v w a b d e f g = rw (e, f, g) (simp or-false)

malformed_three : (earlier : List Row) (numbers : Row) → is_malformed 3 numbers ≡ true → event_code earlier (codes "lay" ∷ numbers) ≡ Some BadLine
unfolding event_code command_code
malformed_three earlier numbers e = rw e refl

abbrev RightThree : Row → Result (ℕ × ℕ × ℕ) Code → Type 0
RightThree numbers (Ok n) = ((earlier : List Row) → event_code earlier (codes "lay" ∷ numbers) ≡ None) × (script_line_of (codes "lay" ∷ numbers) ≡ Some (lay_line n.0 n.1 n.2))
RightThree numbers (Err code) = ReadsEvent (codes "lay" ∷ numbers) (Err code)

three_row : (numbers : Row) → RightThree numbers (three_read (three_numerals numbers))
three_row =
    three_right RightThree
    (λ numbers bad earlier. malformed_three earlier numbers bad)
    (λ u v w a b d e f g bad earlier. code_of_three earlier u v w a b d e f g ∙ rw bad refl)
    (λ u v w a b d e f g good. ((λ earlier. code_of_three earlier u v w a b d e f g ∙ rw good refl), refl))

pub lay_says : (numbers : Row) (n : ℕ × ℕ × ℕ) (event : Event Pick) → Ok n ≡ three_read (three_numerals numbers) → as_line event ≡ lay_line n.0 n.1 n.2 → ReadsEvent (script_spelling Lay ∷ numbers) (Ok event)
lay_says numbers n event read is =
    let right : RightThree numbers (Ok n) = subst (RightThree numbers) (sym read) (three_row numbers) in
    (right.0, right.1 ∙ ap Some (sym is))

pub lay_fault : (numbers : Row) (code : Code) → Err code ≡ three_read (three_numerals numbers) → ReadsEvent (script_spelling Lay ∷ numbers) (Err code)
lay_fault numbers code read = subst (RightThree numbers) (sym read) (three_row numbers)
