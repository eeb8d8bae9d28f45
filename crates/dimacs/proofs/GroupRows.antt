-- Lines that are taken into groups: what is taken after each.
use Rattle.std.proofs.Common.{◌≡◌, ◌∙◌, ◌≤◌, Bool, true, false, true≢false, ◌||◌, ltb, List, [], ◌∷◌, ◌++◌, Option, None, Some, Ok, Err, length, refl, sym, ap, arith}
use Rattle.std.specs.Prelude.{is_some, option_map, unwrap_or}
use Rattle.std.proofs.lemmas.Bool.{eqb-true, lt-ltb}
use lib.Chars.{codes}
use Rattle.roadnet.specs.declared.commands.Command.{Command}
use Rattle.dimacs.specs.declared.commands.group_lines.GroupLines.{GroupLines}
use Rattle.dimacs.specs.declared.fault.Code.{Code}
use Rattle.dimacs.specs.Commands.{commands, command_code}
use Rattle.dimacs.specs.Commanded.{Grouping, begins, command_of, ends, group_code, grouping_of, next_grouping}
use Rattle.dimacs.specs.CommandReading.{HasGroups, ReadsCommandLine, taken_grouping}
use Rattle.dimacs.specs.Faults.{Row, is_empty, is_remark}
use Rattle.dimacs.specs.OpenGroups.{is_full_group}
use Rattle.dimacs.specs.Taking.{Takes}
use Rattle.dimacs.proofs.CommandRows.{code_of_table, ignored_row}
use Rattle.dimacs.proofs.GroupCodes.{more, begin_clean, end_clean, other_clean, other_fault, next_other, next_command, command_fits, command_outside, with_inside, with_outside}
use Rattle.dimacs.proofs.Items.{told}

same_grouping : (a b : List (List Command)) (o p : Option (List Command)) → a ≡ b → o ≡ p → ◌≡◌ {A = Grouping} (record { closed = a; opened = o }) (record { closed = b; opened = p })
same_grouping a b o p e f = rw (e, f) refl

has_more : (earlier : List Row) (row : Row) (new : GroupLines) (next : Grouping) → next_grouping (grouping_of earlier) row ≡ next → taken_grouping new ≡ next → HasGroups (earlier ++ row ∷ []) new
has_more earlier row new next is taken = taken ∙ sym (more earlier row ∙ is)

module _ (earlier : List Row) (old : GroupLines) (has : HasGroups earlier old) where
  closed_is : (grouping_of earlier).closed ≡ old.closed.items
  closed_is = sym (ap (λ (g : Grouping). g.closed) has)

  pub opened_is : (grouping_of earlier).opened ≡ old.open
  opened_is = sym (ap (λ (g : Grouping). g.opened) has)

  pub takes_begin : (rest : Row) (new : GroupLines) → is_empty rest ≡ true → old.open ≡ None → new.closed.items ≡ old.closed.items → new.open ≡ Some [] → Takes group_code HasGroups earlier (codes "begin" ∷ rest) new (Ok tt)
  takes_begin rest new alone shut closed opened = (
    begin_clean earlier old.open opened_is rest alone shut,
    has_more earlier (codes "begin" ∷ rest) new (record { closed = (grouping_of earlier).closed; opened = Some [] }) refl
        (same_grouping new.closed.items (grouping_of earlier).closed new.open (Some []) (closed ∙ sym closed_is) opened),
  )

  pub takes_end : (rest : Row) (cs : List Command) (new : GroupLines) → is_empty rest ≡ true → old.open ≡ Some cs → 1 ≤ length cs → new.closed.items ≡ old.closed.items ++ cs ∷ [] → new.open ≡ None → Takes group_code HasGroups earlier (codes "end" ∷ rest) new (Ok tt)
  takes_end rest cs new alone within some closed opened = (
    end_clean earlier old.open opened_is rest cs alone within some,
    has_more earlier (codes "end" ∷ rest) new (record { closed = (grouping_of earlier).closed ++ unwrap_or (grouping_of earlier).opened [] ∷ []; opened = None }) refl
        (same_grouping new.closed.items _ new.open None (closed ∙ sym (rw (opened_is, within, closed_is) refl)) opened),
  )

  module _ (row : Row) (no_begin : begins row ≡ false) (no_end : ends row ≡ false) where
    -- ---- a command
    module _ (command : Command) (clean : command_code commands earlier row ≡ None) (says : command_of row ≡ Some command) where
      pub takes_outside : (new : GroupLines) → old.open ≡ None → new.closed.items ≡ old.closed.items ++ (command ∷ []) ∷ [] → new.open ≡ None → Takes group_code HasGroups earlier row new (Ok tt)
      takes_outside new shut closed opened = (
        command_outside earlier old.open opened_is row no_begin no_end command says clean shut,
        has_more earlier row new (record { closed = (grouping_of earlier).closed ++ (command ∷ []) ∷ []; opened = None })
            (next_command earlier old.open opened_is row no_begin no_end command says ∙ with_outside earlier old.open opened_is row no_begin no_end command says shut)
            (same_grouping new.closed.items _ new.open None (closed ∙ sym (rw closed_is refl)) opened),
      )

      pub takes_inside : (new : GroupLines) (cs : List Command) → old.open ≡ Some cs → is_full_group old.open ≡ false → new.closed.items ≡ old.closed.items → new.open ≡ Some (cs ++ command ∷ []) → Takes group_code HasGroups earlier row new (Ok tt)
      takes_inside new cs within fits closed opened = (
        command_fits earlier old.open opened_is row no_begin no_end command says clean fits,
        has_more earlier row new (record { closed = (grouping_of earlier).closed; opened = Some (cs ++ command ∷ []) })
            (next_command earlier old.open opened_is row no_begin no_end command says ∙ with_inside earlier old.open opened_is row no_begin no_end command says cs within)
            (same_grouping new.closed.items _ new.open (Some (cs ++ command ∷ [])) (closed ∙ sym closed_is) opened),
      )

      pub takes_added : (new : GroupLines) → is_some old.open ≡ true → is_full_group old.open ≡ false → new.closed.items ≡ old.closed.items → new.open ≡ option_map (λ (cs : List Command). cs ++ command ∷ []) old.open → Takes group_code HasGroups earlier row new (Ok tt)
      takes_added new within fits closed opened = by_open old.open refl
        where
          by_open : (o : Option (List Command)) → old.open ≡ o → Takes group_code HasGroups earlier row new (Ok tt)
          by_open None e = absurd (true≢false (sym within ∙ ap (λ (o : Option (List Command)). is_some o) e))
          by_open (Some cs) e = takes_inside new cs e fits closed (opened ∙ ap (λ (o : Option (List Command)). option_map (λ (cs : List Command). cs ++ command ∷ []) o) e)

    -- ---- a line that says nothing, and a faulty one
    pub takes_nothing : ReadsCommandLine row (Ok None) → Takes group_code HasGroups earlier row old (Ok tt)
    takes_nothing reads = (
      other_clean earlier old.open opened_is row no_begin no_end (reads.0 earlier) reads.1,
      has_more earlier row old (grouping_of earlier) (next_other earlier old.open opened_is row no_begin no_end reads.1) has,
    )

    pub takes_fault : (code : Code) (new : GroupLines) → ReadsCommandLine row (Err code) → Takes group_code HasGroups earlier row new (Err code)
    takes_fault code new reads = told group_code earlier row code (code_of_table commands earlier row code (reads earlier)) (other_fault earlier old.open opened_is row no_begin no_end code (reads earlier))

-- a comment says nothing, and neither begins nor ends a group
or_right : (a b : Bool) → b ≡ true → (a || b) ≡ true
or_right true b e = refl
or_right false b e = e

pub no_bound : (row : Row) → is_remark 35 row ≡ true → (begins row ≡ false) × (ends row ≡ false)
no_bound [] e = absurd (true≢false (sym e))
no_bound ([] ∷ others) e = absurd (let absurdity : ⊥ = cc in absurdity)
no_bound ((b ∷ bs) ∷ others) e =
    let some : ltb 0 (length (b ∷ bs)) ≡ true = lt-ltb _ _ (omega arith) in
    let mark : b ≡ 35 = eqb-true b 35 (rw some at e) in
    (rw mark refl, rw mark refl)

pub takes_remark : (earlier : List Row) (taken : GroupLines) → HasGroups earlier taken → (row : Row) → is_remark 35 row ≡ true → (group_code earlier row ≡ None) × HasGroups (earlier ++ row ∷ []) taken
takes_remark earlier taken has row e =
    let none = no_bound row e in
    takes_nothing earlier taken has row none.0 none.1 (ignored_row row (or_right (is_empty row) (is_remark 35 row) e))
