-- Lines of a command text that say the same have the same code, and the same is taken of them.
use Rattle.std.proofs.Common.{◌≡◌, ◌∙◌, ℕ, Bool, true, false, ◌||◌, cond, List, [], ◌∷◌, ◌++◌, Option, None, Some, refl, sym, ap, inl, inr}
use Rattle.std.specs.Prelude.{is_some}
use Rattle.std.specs.Option.{option_map_or}
use Rattle.std.specs.Str.{bytes_eq}
use lib.Chars.{codes}
use Rattle.std.proofs.lemmas.Bool.{cases_Bool, or_parts}
use Rattle.roadnet.specs.declared.commands.Command.{Command}
use Rattle.dimacs.specs.declared.commands.group_lines.GroupLines.{GroupLines}
use Rattle.dimacs.specs.declared.fault.Code.{Code}
use Rattle.dimacs.specs.declared.fault.Code.TheVariants.{BadLine, NumberRange}
use Rattle.dimacs.specs.declared.numerals.numeral.Numeral.{Numeral}
use Rattle.dimacs.specs.Alike.{AllAlike, SaySame}
use Rattle.dimacs.specs.Commands.{Form, commands, form_of, is_refused, command_applies, command_code}
use Rattle.dimacs.specs.Commanded.{begins, command_from, command_of, ends, group_code, grouping_of, next_grouping}
use Rattle.dimacs.specs.CommandReading.{HasGroups}
use Rattle.dimacs.specs.Faults.{Row, is_empty, is_remark, is_malformed, is_unreadable, some_numeral, or_else}
use Rattle.dimacs.proofs.AlikeNumbers.{malformed_same, numerals_same, size_at_same, all_readable}
use Rattle.dimacs.proofs.CommandRows.{ignored_command, kept_refused}
use Rattle.dimacs.proofs.GroupCodes.{more}

pub refused_covers : (n : Numeral) → is_refused n ≡ false → is_unreadable n ≡ false
refused_covers n e = (or_parts _ _ e).1

pub empty_same : (xs ys : Row) → AllAlike xs ys → is_empty xs ≡ is_empty ys
empty_same [] [] alike = refl
empty_same [] (y ∷ ys) alike = absurd alike
empty_same (x ∷ xs) [] alike = absurd alike
empty_same (x ∷ xs) (y ∷ ys) alike = refl

-- The code of a command.

module _ (forms : List Form) (x : List ℕ) (xs ys : Row) (alike : AllAlike xs ys) where
  bad_same : (o : Option Form) → option_map_or (λ f. is_malformed f.numbers xs) o true ≡ option_map_or (λ f. is_malformed f.numbers ys) o true
  bad_same None = refl
  bad_same (Some f) = malformed_same f.numbers xs ys alike

  refused_same : (o : Option Form) → option_map_or (λ f. some_numeral is_refused xs) o false ≡ option_map_or (λ f. some_numeral is_refused ys) o false
  refused_same None = refl
  refused_same (Some f) = numerals_same is_refused kept_refused xs ys alike

  pub command_row_same : (earlier : List Row) → command_code forms earlier (x ∷ xs) ≡ command_code forms earlier (x ∷ ys)
  unfolding command_code
  command_row_same earlier =
      let bad : command_applies forms (x ∷ xs) BadLine ≡ command_applies forms (x ∷ ys) BadLine = bad_same (form_of forms (x ∷ xs)) in
      let range : command_applies forms (x ∷ xs) NumberRange ≡ command_applies forms (x ∷ ys) NumberRange = refused_same (form_of forms (x ∷ xs)) in
      ap (λ (b : Bool). cond (is_empty (x ∷ xs) || is_remark 35 (x ∷ xs)) None (cond b (Some BadLine) (cond (command_applies forms (x ∷ xs) NumberRange) (Some NumberRange) None))) bad
      ∙ ap (λ (b : Bool). cond (is_empty (x ∷ xs) || is_remark 35 (x ∷ xs)) None (cond (command_applies forms (x ∷ ys) BadLine) (Some BadLine) (cond b (Some NumberRange) None))) range

  -- of a line without a fault, that is no comment, the sizes are the same
  no_code : (i b r : Bool) → i ≡ false → ◌≡◌ {A = Option Code} (cond i None (cond b (Some BadLine) (cond r (Some NumberRange) None))) None → (b ≡ false) × (r ≡ false)
  no_code true b r e is = absurd cc
  no_code false true r e is = absurd cc
  no_code false false true e is = absurd cc
  no_code false false false e is = (refl, refl)

  by_form : (o : Option Form) → option_map_or (λ f. is_malformed f.numbers xs) o true ≡ false → option_map_or (λ f. some_numeral is_refused xs) o false ≡ false → some_numeral is_refused xs ≡ false
  by_form None bad range = absurd cc
  by_form (Some f) bad range = range

  pub none_refused : (earlier : List Row) → (is_empty (x ∷ xs) || is_remark 35 (x ∷ xs)) ≡ false → command_code forms earlier (x ∷ xs) ≡ None → some_numeral is_refused xs ≡ false
  unfolding command_code
  none_refused earlier other clean =
      let codes = no_code (is_empty (x ∷ xs) || is_remark 35 (x ∷ xs)) (command_applies forms (x ∷ xs) BadLine) (command_applies forms (x ∷ xs) NumberRange) other clean in
      by_form (form_of forms (x ∷ xs)) codes.0 codes.1

-- What a command says.

some_cond : (b : Bool) (c d : Command) (o p : Option Command) → is_some o ≡ is_some p → is_some (cond b (Some c) o) ≡ is_some (cond b (Some d) p)
some_cond true c d o p e = refl
some_cond false c d o p e = e

pub is_command_same : (x : List ℕ) (xs ys : Row) → is_some (command_from x xs) ≡ is_some (command_from x ys)
is_command_same x xs ys =
    some_cond (bytes_eq x (codes "set")) _ _ _ _ (some_cond (bytes_eq x (codes "close")) _ _ _ _ (some_cond (bytes_eq x (codes "reopen")) _ _ _ _
    (some_cond (bytes_eq x (codes "mark")) _ _ _ _ (some_cond (bytes_eq x (codes "unmark")) _ _ _ _ (some_cond (bytes_eq x (codes "lay")) _ _ None None refl)))))

pub command_from_same : (x : List ℕ) (xs ys : Row) → AllAlike xs ys → some_numeral is_refused xs ≡ false → command_from x xs ≡ command_from x ys
command_from_same x xs ys alike none =
    let same = size_at_same xs ys alike (all_readable is_refused refused_covers xs none) in
    rw (same 0, same 1, same 2) refl

command_said : (earlier : List Row) (x : List ℕ) (xs ys : Row) → AllAlike xs ys → command_code commands earlier (x ∷ xs) ≡ None → command_of (x ∷ xs) ≡ command_of (x ∷ ys)
command_said earlier x xs ys alike clean =
    elim (cases_Bool (is_empty (x ∷ xs) || is_remark 35 (x ∷ xs))) [
      | inl ignored ↦ ignored_command (x ∷ xs) ignored ∙ sym (ignored_command (x ∷ ys) ignored)
      | inr other ↦ command_from_same x xs ys alike (none_refused commands x xs ys alike earlier other clean)
    ]

-- Groups.

group_row_same : (earlier : List Row) (x : List ℕ) (xs ys : Row) → AllAlike xs ys → group_code earlier (x ∷ xs) ≡ group_code earlier (x ∷ ys)
unfolding group_code
group_row_same earlier x xs ys alike = rw (empty_same xs ys alike, command_row_same commands x xs ys alike earlier, is_command_same x xs ys) refl

pub group_code_same : (earlier : List Row) (one other : Row) → SaySame one other → group_code earlier one ≡ group_code earlier other
group_code_same earlier [] [] same = refl
group_code_same earlier [] (y ∷ ys) same = absurd same
group_code_same earlier (x ∷ xs) [] same = absurd same
group_code_same earlier (x ∷ xs) (y ∷ ys) same = rw (← same.0) (group_row_same earlier x xs ys same.1)

first_none : (o p : Option Code) → or_else o p ≡ None → o ≡ None
first_none None p e = refl
first_none (Some c) p e = absurd cc

no_command_code : (earlier : List Row) (row : Row) → begins row ≡ false → ends row ≡ false → group_code earlier row ≡ None → command_code commands earlier row ≡ None
unfolding group_code
no_command_code earlier row no_begin no_end clean = first_none _ _ (rw (no_begin, no_end) at clean)

-- the group that is open behind a line without a fault
pub next_same : (earlier : List Row) (x : List ℕ) (xs ys : Row) → AllAlike xs ys → group_code earlier (x ∷ xs) ≡ None → next_grouping (grouping_of earlier) (x ∷ xs) ≡ next_grouping (grouping_of earlier) (x ∷ ys)
next_same earlier x xs ys alike clean =
    elim (cases_Bool (begins (x ∷ xs))) [
      | inl begin ↦ rw begin refl
      | inr no_begin ↦
          elim (cases_Bool (ends (x ∷ xs))) [
            | inl end ↦ rw (no_begin, end) refl
            | inr no_end ↦ rw (no_begin, no_end, command_said earlier x xs ys alike (no_command_code earlier (x ∷ xs) no_begin no_end clean)) refl
          ]
    ]

pub grouping_same : (earlier : List Row) (one other : Row) → SaySame one other → group_code earlier one ≡ None → grouping_of (earlier ++ one ∷ []) ≡ grouping_of (earlier ++ other ∷ [])
grouping_same earlier [] [] same clean = refl
grouping_same earlier [] (y ∷ ys) same clean = absurd same
grouping_same earlier (x ∷ xs) [] same clean = absurd same
grouping_same earlier (x ∷ xs) (y ∷ ys) same clean = rw (← same.0) (more earlier (x ∷ xs) ∙ next_same earlier x xs ys same.1 clean ∙ sym (more earlier (x ∷ ys)))

pub groups_taken_same : (earlier : List Row) (one other : Row) (taken : GroupLines) → SaySame one other → group_code earlier one ≡ None → HasGroups (earlier ++ other ∷ []) taken → HasGroups (earlier ++ one ∷ []) taken
groups_taken_same earlier one other taken same clean has = has ∙ sym (grouping_same earlier one other same clean)
