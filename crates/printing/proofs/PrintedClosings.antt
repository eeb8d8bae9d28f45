-- The text of closings closes the closed arcs.
use Rattle.std.proofs.Common.{◌≡◌, ◌∙◌, ℕ, ◌-◌, ◌^◌, ◌<◌, List, [], ◌∷◌, ◌++◌, map, Some, None, Ok, refl, ap, arith, append_assoc, append-nil}
use Rattle.std.specs.Prelude.{decimal}
use Rattle.std.specs.List.{AllByRecursion}
use Rattle.std.proofs.lemmas.Bool.{le-ltb}
use lib.Chars.{codes}
use Rattle.roadnet.specs.declared.commands.Command.{Command}
use Rattle.roadnet.specs.declared.commands.Command.TheVariants.{Close as close_arc}
use Rattle.dimacs.specs.declared.commands.words.OneNumber.TheVariants.{Close}
use Rattle.dimacs.specs.Commanded.{Grouping, group_code, group_text, grouping_of}
use Rattle.dimacs.specs.CommandReading.{number_read}
use Rattle.dimacs.specs.Faults.{Row, first_fault}
use Rattle.dimacs.specs.Reading.{one_numeral}
use Rattle.dimacs.specs.Texts.{content_by}
use Rattle.dimacs.proofs.CommandRows.{ignored_row, one_says}
use Rattle.dimacs.proofs.GroupCodes.{more, other_clean, next_other, command_outside, next_command, with_outside}
use Rattle.printing.specs.declared.exports.Origin.{Origin}
use Rattle.printing.specs.Exports.{heading, closing_row}
use Rattle.printing.proofs.PrintedNumerals.{number_back}
use Rattle.printing.proofs.PrintedNetwork.{number, kept_number}

abbrev alone : ℕ → List Command
alone k = close_arc k ∷ []

abbrev shut_after : List (List Command) → Grouping
shut_after groups = record { closed = groups; opened = None }

number_said : (k : ℕ) → k < 2 ^ 63 → Ok k ≡ number_read (one_numeral (decimal k ∷ []))
number_said k small =
    let read : one_numeral (decimal k ∷ []) ≡ Some (number k) = rw (number_back k (omega (arith, small))) (rw (kept_number k small) refl) in
    rw read (rw (le-ltb (2 ^ 63 - 1) k (omega (arith, small))) refl)

closing_stands : (earlier : List Row) (done : List (List Command)) (k : ℕ) → k < 2 ^ 63 → grouping_of earlier ≡ shut_after done
    → (group_code earlier (closing_row k) ≡ None) × (grouping_of (earlier ++ closing_row k ∷ []) ≡ shut_after (done ++ alone k ∷ []))
closing_stands earlier done k small so_far =
    let reads = one_says Close (closing_row k) (decimal k ∷ []) k refl (number_said k small) in
    let shut : (grouping_of earlier).opened ≡ None = ap (λ (g : Grouping). g.opened) so_far in (
      command_outside earlier None shut (closing_row k) refl refl (close_arc k) reads.1 (reads.0 earlier) refl,
      more earlier (closing_row k) ∙ next_command earlier None shut (closing_row k) refl refl (close_arc k) reads.1 ∙ with_outside earlier None shut (closing_row k) refl refl (close_arc k) reads.1 refl
          ∙ ap (λ (g : Grouping). shut_after (g.closed ++ alone k ∷ [])) so_far,
    )

closings_stand : (earlier : List Row) (done : List (List Command)) (rest : List ℕ) → AllByRecursion (λ k. k < 2 ^ 63) rest → grouping_of earlier ≡ shut_after done
    → (first_fault group_code earlier (map closing_row rest) ≡ None) × (grouping_of (earlier ++ map closing_row rest) ≡ shut_after (done ++ map alone rest))
closings_stand earlier done [] all so_far = (refl, rw (append-nil earlier, append-nil done) so_far)
closings_stand earlier done (k ∷ rest) all so_far =
    let step = closing_stands earlier done k all.0 so_far in
    let later = closings_stand (earlier ++ closing_row k ∷ []) (done ++ alone k ∷ []) rest all.1 step.1 in (
      rw step.0 later.0,
      rw (append_assoc earlier (closing_row k ∷ []) (map closing_row rest), append_assoc done (alone k ∷ []) (map alone rest)) at later.1,
    )

whole : (lines : List Row) (groups : List (List Command)) → first_fault group_code [] lines ≡ None → grouping_of lines ≡ shut_after groups → content_by group_text lines ≡ Ok groups
whole lines groups clean taken = rw (clean, taken) refl

pub closings_back : (room : ℕ) (origin : Origin) (numbers : List ℕ) → AllByRecursion (λ k. k < 2 ^ 63) numbers
    → content_by group_text (heading (codes "#") room origin ∷ map closing_row numbers) ≡ Ok (map alone numbers)
closings_back room origin numbers all =
    let first = heading (codes "#") room origin in
    let remark = ignored_row first refl in
    let headed : group_code [] first ≡ None = other_clean [] None refl first refl refl (remark.0 []) remark.1 in
    let begun : grouping_of (first ∷ []) ≡ shut_after [] = more [] first ∙ next_other [] None refl first refl refl remark.1 in
    let rest = closings_stand (first ∷ []) [] numbers all begun in
    whole (first ∷ map closing_row numbers) (map alone numbers) (rw headed rest.0) rest.1
