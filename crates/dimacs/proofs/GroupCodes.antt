-- Which code a line has by the group that is open before it, and what is open behind it.
use Rattle.std.proofs.Common.{◌≡◌, ◌∙◌, ℕ, ◌≤◌, not, Bool, true, false, true≢false, ◌&&◌, ◌||◌, cond, eqb, List, [], ◌∷◌, ◌++◌, Option, None, Some, length, ⊎_elim, inl, inr, ◌⊎◌, refl, sym, ap, subst, arith}
use Rattle.std.specs.Prelude.{is_some, is_none, unwrap_or}
use Rattle.std.specs.Str.{bytes_eq}
use Rattle.std.proofs.lemmas.Bool.{cases_Bool, ne_eqb}
use Rattle.std.proofs.lemmas.List.Sums.{fold-append}
use lib.Chars.{codes}
use Rattle.roadnet.specs.declared.commands.Command.{Command}
use Rattle.dimacs.specs.declared.fault.Code.{Code}
use Rattle.dimacs.specs.declared.fault.Code.TheVariants.{BadLine, GroupSize}
use Rattle.dimacs.specs.Commands.{commands, command_code}
use Rattle.dimacs.specs.Commanded.{Grouping, begins, command_of, ends, group_code, grouping_of, has_no_command, is_full, next_grouping, no_grouping, with_command}
use Rattle.dimacs.specs.Faults.{Row, is_empty, is_remark, or_else}
use Rattle.dimacs.specs.OpenGroups.{is_full_group, IsUnended, IsNotAdded}
use Rattle.dimacs.specs.Overflow.{overflows}
use Rattle.dimacs.specs.Taking.{ByMemory}
use Rattle.dimacs.proofs.Beyond.{command_overflows, first_is_long, long_no_word}

-- what tests of the fields behind a word found
pub filled : (b : Bool) (rest : Row) → b ≡ is_empty rest → b ≡ false → is_empty rest ≡ false
filled b rest is e = sym is ∙ e

pub blank : (b : Bool) (rest : Row) → b ≡ is_empty rest → b ≡ true → is_empty rest ≡ true
blank b rest is e = sym is ∙ e

-- what a test found of the group that is open
pub shut_of : (b : Bool) (opened : Option (List Command)) → b ≡ is_some opened → b ≡ false → opened ≡ None
shut_of b None is e = refl
shut_of b (Some cs) is e = absurd (true≢false (sym is ∙ e))

-- one line more
pub more : (earlier : List Row) (row : Row) → grouping_of (earlier ++ row ∷ []) ≡ next_grouping (grouping_of earlier) row
more earlier row = fold-append next_grouping no_grouping earlier (row ∷ [])

opened_more : (earlier : List Row) (row : Row) (next : Grouping) → next_grouping (grouping_of earlier) row ≡ next → (grouping_of (earlier ++ row ∷ [])).opened ≡ next.opened
opened_more earlier row next is = ap (λ (g : Grouping). g.opened) (more earlier row ∙ is)

some_code : (n : ℕ) → 1 ≤ n → cond (eqb n 0) (Some GroupSize) None ≡ None
some_code n le = rw (ne_eqb n 0 (λ e. absurd (omega (arith, le, e)))) refl

module _ (earlier : List Row) (opened : Option (List Command)) (opened_is : (grouping_of earlier).opened ≡ opened) where
  -- ---- `begin`
  code_begin : (rest : Row) → group_code earlier (codes "begin" ∷ rest) ≡ cond (not (is_empty rest) || is_some (grouping_of earlier).opened) (Some BadLine) None
  unfolding group_code
  code_begin rest = refl

  pub begin_bad : (rest : Row) → is_empty rest ≡ false → group_code earlier (codes "begin" ∷ rest) ≡ Some BadLine
  begin_bad rest bad = code_begin rest ∙ rw bad refl

  pub begin_within : (rest : Row) → is_empty rest ≡ true → is_some opened ≡ true → group_code earlier (codes "begin" ∷ rest) ≡ Some BadLine
  begin_within rest alone within = code_begin rest ∙ rw (alone, opened_is, within) refl

  pub begin_clean : (rest : Row) → is_empty rest ≡ true → opened ≡ None → group_code earlier (codes "begin" ∷ rest) ≡ None
  begin_clean rest alone shut = code_begin rest ∙ rw (alone, opened_is, shut) refl

  pub opened_by_begin : (rest : Row) → (grouping_of (earlier ++ (codes "begin" ∷ rest) ∷ [])).opened ≡ Some []
  opened_by_begin rest = opened_more earlier (codes "begin" ∷ rest) (record { closed = (grouping_of earlier).closed; opened = Some [] }) refl

  -- ---- `end`
  code_end : (rest : Row) → group_code earlier (codes "end" ∷ rest) ≡ cond (not (is_empty rest) || is_none (grouping_of earlier).opened) (Some BadLine) (cond (has_no_command (grouping_of earlier)) (Some GroupSize) None)
  unfolding group_code
  code_end rest = refl

  pub end_bad : (rest : Row) → is_empty rest ≡ false → group_code earlier (codes "end" ∷ rest) ≡ Some BadLine
  end_bad rest bad = code_end rest ∙ rw bad refl

  pub end_outside : (rest : Row) → is_empty rest ≡ true → opened ≡ None → group_code earlier (codes "end" ∷ rest) ≡ Some BadLine
  end_outside rest alone shut = code_end rest ∙ rw (alone, opened_is, shut) refl

  pub end_empty : (rest : Row) → is_empty rest ≡ true → opened ≡ Some [] → group_code earlier (codes "end" ∷ rest) ≡ Some GroupSize
  end_empty rest alone none = code_end rest ∙ rw (alone, opened_is, none) refl

  pub end_clean : (rest : Row) (cs : List Command) → is_empty rest ≡ true → opened ≡ Some cs → 1 ≤ length cs → group_code earlier (codes "end" ∷ rest) ≡ None
  end_clean rest cs alone within some = code_end rest ∙ (rw (alone, opened_is, within) (some_code (length cs) some))

  pub opened_by_end : (rest : Row) → (grouping_of (earlier ++ (codes "end" ∷ rest) ∷ [])).opened ≡ None
  opened_by_end rest = opened_more earlier (codes "end" ∷ rest) (record { closed = (grouping_of earlier).closed ++ unwrap_or (grouping_of earlier).opened [] ∷ []; opened = None }) refl

  -- ---- a line that neither begins nor ends a group
  module _ (row : Row) (no_begin : begins row ≡ false) (no_end : ends row ≡ false) where
    other_code : group_code earlier row ≡ or_else (command_code commands earlier row) (cond (is_some (command_of row) && is_full (grouping_of earlier)) (Some GroupSize) None)
    unfolding group_code
    other_code = rw (no_begin, no_end) refl

    pub other_fault : (code : Code) → command_code commands earlier row ≡ Some code → group_code earlier row ≡ Some code
    other_fault code is = other_code ∙ rw is refl

    pub other_clean : command_code commands earlier row ≡ None → command_of row ≡ None → group_code earlier row ≡ None
    other_clean clean says = other_code ∙ rw (clean, says) refl

    pub next_other : command_of row ≡ None → next_grouping (grouping_of earlier) row ≡ grouping_of earlier
    next_other says = rw (no_begin, no_end, says) refl

    pub opened_by_other : command_of row ≡ None → (grouping_of (earlier ++ row ∷ [])).opened ≡ opened
    opened_by_other says = opened_more earlier row (grouping_of earlier) (next_other says) ∙ opened_is

    -- ---- a command
    module _ (command : Command) (says : command_of row ≡ Some command) where
      pub next_command : next_grouping (grouping_of earlier) row ≡ with_command (grouping_of earlier) command
      next_command = rw (no_begin, no_end, says) refl

      module _ (clean : command_code commands earlier row ≡ None) where
        code_of_command : group_code earlier row ≡ cond (is_full_group opened) (Some GroupSize) None
        code_of_command = other_code ∙ rw (clean, says, opened_is) refl

        pub command_full : is_full_group opened ≡ true → group_code earlier row ≡ Some GroupSize
        command_full full = code_of_command ∙ rw full refl

        pub command_fits : is_full_group opened ≡ false → group_code earlier row ≡ None
        command_fits fits = code_of_command ∙ rw fits refl

        pub command_outside : opened ≡ None → group_code earlier row ≡ None
        command_outside shut = code_of_command ∙ rw shut refl

      pub with_outside : opened ≡ None → with_command (grouping_of earlier) command ≡ record { closed = (grouping_of earlier).closed ++ (command ∷ []) ∷ []; opened = None }
      with_outside shut = outside (grouping_of earlier) (opened_is ∙ shut)
        where
          outside : (g : Grouping) → g.opened ≡ None → with_command g command ≡ record { closed = g.closed ++ (command ∷ []) ∷ []; opened = None }
          outside g none = rw none refl

      pub with_inside : (cs : List Command) → opened ≡ Some cs → with_command (grouping_of earlier) command ≡ record { closed = (grouping_of earlier).closed; opened = Some (cs ++ command ∷ []) }
      with_inside cs within = inside (grouping_of earlier) (opened_is ∙ within)
        where
          inside : (g : Grouping) → g.opened ≡ Some cs → with_command g command ≡ record { closed = g.closed; opened = Some (cs ++ command ∷ []) }
          inside g some = rw some refl

      pub opened_by_command : (cs : List Command) → opened ≡ Some cs → (grouping_of (earlier ++ row ∷ [])).opened ≡ Some (cs ++ command ∷ [])
      opened_by_command cs within = opened_more earlier row (record { closed = (grouping_of earlier).closed; opened = Some (cs ++ command ∷ []) }) (next_command ∙ with_inside cs within)

    -- none is open behind it where none was before
    pub still_shut : opened ≡ None → (grouping_of (earlier ++ row ∷ [])).opened ≡ None
    still_shut shut = by_says (command_of row) refl
      where
        by_says : (o : Option Command) → command_of row ≡ o → (grouping_of (earlier ++ row ∷ [])).opened ≡ None
        by_says None says = opened_by_other says ∙ shut
        by_says (Some command) says = opened_more earlier row (record { closed = (grouping_of earlier).closed ++ (command ∷ []) ∷ []; opened = None }) (next_command command says ∙ with_outside command says shut)

-- a group that could not be closed has the code that is told
pub not_ended : (earlier : List Row) (opened : Option (List Command)) (opened_is : (grouping_of earlier).opened ≡ opened) (rest : Row) → is_empty rest ≡ true → (code : Code) → IsUnended opened code
    → ByMemory code (group_code earlier (codes "end" ∷ rest) ≡ Some code) (group_code earlier (codes "end" ∷ rest) ≡ None)
not_ended earlier None is rest alone code why =
    subst (λ (k : Code). ByMemory k (group_code earlier (codes "end" ∷ rest) ≡ Some k) (group_code earlier (codes "end" ∷ rest) ≡ None)) (sym why) (end_outside earlier None is rest alone refl)
not_ended earlier (Some cs) is rest alone code why =
    subst (λ (k : Code). ByMemory k (group_code earlier (codes "end" ∷ rest) ≡ Some k) (group_code earlier (codes "end" ∷ rest) ≡ None)) (sym why.0) (end_empty earlier (Some cs) is rest alone (ap Some why.1))

-- a command that was not added has the code that is told, or no memory was given
pub not_added : (earlier : List Row) (opened : Option (List Command)) (opened_is : (grouping_of earlier).opened ≡ opened) (row : Row) → begins row ≡ false → ends row ≡ false
    → (command : Command) → command_of row ≡ Some command → command_code commands earlier row ≡ None → (code : Code) → IsNotAdded opened code
    → ByMemory code (group_code earlier row ≡ Some code) (group_code earlier row ≡ None)
not_added earlier opened is row no_begin no_end command says clean code why =
    let P : Code → Type 0 = λ k. ByMemory k (group_code earlier row ≡ Some k) (group_code earlier row ≡ None) in
    ⊎_elim (λ full. subst P (sym full.0) (command_full earlier opened is row no_begin no_end command says clean full.1))
    (λ none. subst P (sym none.0) (command_fits earlier opened is row no_begin no_end command says clean none.1))
    why

-- A line that has too many fields, or too long a word, is bad, whether or not it begins or ends a group.
some_field : (xs : Row) (field : List ℕ) (after : Row) → is_empty (xs ++ field ∷ after) ≡ false
some_field [] field after = refl
some_field (x ∷ xs) field after = refl

bad_bound : (earlier : List Row) (x : List ℕ) (rest : Row) → is_empty rest ≡ false → (bytes_eq x (codes "begin") ≡ true) ⊎ (bytes_eq x (codes "end") ≡ true)
    → group_code earlier (x ∷ rest) ≡ Some BadLine
unfolding group_code
bad_bound earlier x rest some (inl begin) = rw (begin, some) refl
bad_bound earlier x rest some (inr end) =
    elim (cases_Bool (bytes_eq x (codes "begin"))) [
      | inl begin ↦ rw (begin, some) refl
      | inr other ↦ rw (other, end, some) refl
    ]

pub group_overflows : (earlier : List Row) (before : Row) (field : List ℕ) (after : Row) → overflows before field ≡ true → is_remark 35 (before ++ field ∷ after) ≡ false
    → group_code earlier (before ++ field ∷ after) ≡ Some BadLine
group_overflows earlier [] field after e other =
    let long = first_is_long field e in
    other_fault earlier (grouping_of earlier).opened refl (field ∷ after) (long_no_word field (codes "begin") long refl) (long_no_word field (codes "end") long refl) BadLine
    (command_overflows earlier [] field after e other)
group_overflows earlier (x ∷ xs) field after e other =
    let some = some_field xs field after in
    elim (cases_Bool (bytes_eq x (codes "begin"))) [
      | inl begin ↦ bad_bound earlier x (xs ++ field ∷ after) some (inl begin)
      | inr no_begin ↦
          elim (cases_Bool (bytes_eq x (codes "end"))) [
            | inl end ↦ bad_bound earlier x (xs ++ field ∷ after) some (inr end)
            | inr no_end ↦
                other_fault earlier (grouping_of earlier).opened refl (x ∷ (xs ++ field ∷ after)) no_begin no_end BadLine (command_overflows earlier (x ∷ xs) field after e other)
          ]
    ]
