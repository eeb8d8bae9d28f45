-- What the lines of a group say, with one line more, and at its end.
use Rattle.std.proofs.Common.{◌≡◌, ◌∙◌, ℕ, ◌+◌, ◌<◌, ◌≤◌, Bool, true, false, eqb, List, [], ◌∷◌, ◌++◌, length, None, Some, refl, sym, ap, subst, arith}
use Rattle.std.specs.Prelude.{nat_le, if◌then◌else◌}
use Rattle.std.proofs.lemmas.Bool.{le-leb, lt-leb, ne_eqb}
use Rattle.std.proofs.lemmas.List.{length-append}
use Rattle.roadnet.specs.declared.commands.Command.{Command}
use Rattle.roadnet.specs.Groups.{most_of_group, IsGroup}
use Rattle.dimacs.specs.declared.fault.Code.{Code}
use Rattle.dimacs.specs.declared.fault.Code.TheVariants.{GroupSize}
use Rattle.session_lines.specs.Drafts.{Drafted, draft_fault_of, draft_with_command, with_fault}

-- the first fault stays
pub first_fault : (draft : Drafted) (first code : Code) → draft.fault ≡ Some first → (with_fault draft code).fault ≡ Some first
first_fault draft first code is = rw is refl

pub new_fault : (draft : Drafted) (code : Code) → draft.fault ≡ None → (with_fault draft code).fault ≡ Some code
new_fault draft code none = rw none refl

module _ (draft : Drafted) (command : Command) where
  pub no_room : most_of_group ≤ length draft.commands → draft_with_command draft command ≡ with_fault draft GroupSize
  no_room full = rw (le-leb most_of_group (length draft.commands) full) refl

  pub some_room : length draft.commands < most_of_group → draft_with_command draft command ≡ record draft { commands = draft.commands ++ command ∷ [] }
  some_room room = rw (lt-leb most_of_group (length draft.commands) room) refl

  -- a 254th command
  pub too_many : draft.fault ≡ None → most_of_group ≤ length draft.commands → (draft_with_command draft command).fault ≡ Some GroupSize
  too_many none full = ap (λ (d : Drafted). d.fault) (no_room full) ∙ new_fault draft GroupSize none

  -- one that has room
  pub one_more : (items more : List Command) → draft.fault ≡ None → draft.commands ≡ items → length items < most_of_group → more ≡ items ++ command ∷ []
      → ((draft_with_command draft command).fault ≡ None) × ((draft_with_command draft command).commands ≡ more) × (length (draft_with_command draft command).commands ≤ most_of_group)
  one_more items more none are room more_is =
      let fits : length draft.commands < most_of_group = rw are room in
      let is = some_room fits in
      let count : length (draft.commands ++ command ∷ []) ≤ most_of_group = omega (arith, fits, length-append draft.commands (command ∷ [])) in
      rw is (none, ap (λ (l : List Command). l ++ command ∷ []) are ∙ sym more_is, count)

  -- one for which no memory was given
  pub one_counted : (count : ℕ) → draft.fault ≡ None → length draft.commands ≡ count → count < most_of_group
      → ((draft_with_command draft command).fault ≡ None) × (length (draft_with_command draft command).commands ≡ count + 1) × (1 ≤ count + 1)
  one_counted count none is_count room =
      let fits : length draft.commands < most_of_group = rw is_count room in
      let is = some_room fits in
      rw is (none, omega (arith, is_count, length-append draft.commands (command ∷ [])), omega arith)

  pub still_faulty : (code : Code) → draft.fault ≡ Some code → (draft_with_command draft command).fault ≡ Some code
  still_faulty code is = go (nat_le most_of_group (length draft.commands))
    where
      go : (b : Bool) → (if b then with_fault draft GroupSize else record draft { commands = draft.commands ++ command ∷ [] }).fault ≡ Some code
      go true = first_fault draft code GroupSize is
      go false = is

-- ---- at its end
module _ (draft : Drafted) where
  pub whole_group : (items : List Command) → draft.fault ≡ None → draft.commands ≡ items → IsGroup items → draft_fault_of draft ≡ None
  whole_group items none are group =
      let some : eqb (length draft.commands) 0 ≡ false = rw are (ne_eqb (length items) 0 (λ e. let least = group.0 in absurd (omega (arith, e, least)))) in
      rw (none, some) refl

  pub no_group : (items : List Command) → draft.fault ≡ None → draft.commands ≡ items → length draft.commands ≤ most_of_group → (IsGroup items → ⊥) → draft_fault_of draft ≡ Some GroupSize
  no_group items none are few never = by_items items are
    where
      by_items : (l : List Command) → draft.commands ≡ l → draft_fault_of draft ≡ Some GroupSize
      by_items [] e = rw (none, e) refl
      by_items (c ∷ cs) e =
          let some : 1 ≤ length draft.commands = rw e (omega arith) in
          absurd (never (subst (λ (l : List Command). IsGroup l) are (some, few)))

  pub counted_group : (count : ℕ) → draft.fault ≡ None → length draft.commands ≡ count → 1 ≤ count → draft_fault_of draft ≡ None
  counted_group count none is some =
      let more : eqb (length draft.commands) 0 ≡ false = ne_eqb (length draft.commands) 0 (λ e. absurd (omega (arith, e, is, some))) in
      rw (none, more) refl

  pub faulty_group : (code : Code) → draft.fault ≡ Some code → draft_fault_of draft ≡ Some code
  faulty_group code is = rw is refl
