-- Commands that are carried out one after the other.
use Rattle.std.proofs.Common.{◌≡◌, ℕ, suc, ◌+◌, ◌<◌, ◌≤◌, List, [], ◌∷◌, length, get_or, take, drop, Option, None, Some, sym, ap, ◌∙◌, arith, length-append}
use Rattle.std.specs.Prelude.{map, is_none, option_and_then, if◌then◌else◌}
use Rattle.std.proofs.lemmas.List.{map_more, map-append}
use Rattle.roadnet.specs.declared.commands.Command.{Command}
use Rattle.roadnet.specs.declared.refusals.Refusal.{Refusal}
use Rattle.roadnet.specs.Net.{Net}
use Rattle.roadnet.specs.Step.{refusal_of, step, changed, step_group, after}
use Rattle.roadnet.proofs.InTurn.{groups_are_their_commands}
use Rattle.pages.specs.declared.content.Record.{Record}
use Rattle.pages.specs.Grouping.{records_in}
use Rattle.pages.proofs.Grouped.{commands_in, length-records_in}
use Rattle.roadnet.specs.Groups.{commands_of}
use Rattle.std.specs.List.{AllByRecursion}
use Rattle.roadnet.proofs.Stepped.{groups_join}
use Rattle.std.proofs.Math.Seq.{drop-cons}
use Rattle.std.proofs.lemmas.List.{take-append-drop}

pub refused_step : (net : Net) (command : Command) (refusal : Refusal) → refusal_of net command ≡ Some refusal → step net command ≡ None
refused_step net command refusal e = ap (λ (o : Option Refusal). if is_none o then Some (changed net command) else None) e

-- The records of a page are carried out as its groups are.
pub after_groups : (net : Net) (groups : List (List Command)) (next : Option Net) → step_group net (map (λ (r : Record). r.command) (records_in groups)) ≡ next → after net groups ≡ next
after_groups net groups next done = groups_are_their_commands net groups ∙ ap (step_group net) (sym (commands_in groups)) ∙ done

-- ---- the same of records

pub records_more : (first net next : Net) (records : List Record) (i : ℕ) (d : Record) → i < length records → step_group first (map (λ (r : Record). r.command) (take i records)) ≡ Some net → step net (get_or records i d).command ≡ Some next
    → step_group first (map (λ (r : Record). r.command) (take (i + 1) records)) ≡ Some next
records_more first net next records i d lt so_far here =
    ap (step_group first) (map_more (λ (r : Record). r.command) records i d lt)
    ∙ groups_join first (map (λ (r : Record). r.command) (take i records)) ((get_or records i d).command ∷ [])
    ∙ ap (option_and_then (λ n. step_group n ((get_or records i d).command ∷ []))) so_far
    ∙ ap (option_and_then (λ n. step_group n [])) here

pub records_none : (first net : Net) (records : List Record) (i : ℕ) (d : Record) → i < length records → step_group first (map (λ (r : Record). r.command) (take i records)) ≡ Some net → step net (get_or records i d).command ≡ None
    → step_group first (map (λ (r : Record). r.command) records) ≡ None
records_none first net records i d lt so_far refused =
    let e : drop i records ≡ get_or records i d ∷ drop (i + 1) records = drop-cons records i d lt ∙ ap (λ (j : ℕ). get_or records i d ∷ drop j records) (let s : suc i ≡ i + 1 = omega arith in s) in
    ap (λ (rs : List Record). step_group first (map (λ (r : Record). r.command) rs)) (sym (take-append-drop i records))
    ∙ ap (step_group first) (map-append (λ (r : Record). r.command) (take i records) (drop i records))
    ∙ groups_join first (map (λ (r : Record). r.command) (take i records)) (map (λ (r : Record). r.command) (drop i records))
    ∙ ap (option_and_then (λ n. step_group n (map (λ (r : Record). r.command) (drop i records)))) so_far
    ∙ ap (λ (rs : List Record). step_group net (map (λ (r : Record). r.command) rs)) e
    ∙ ap (option_and_then (λ n. step_group n (map (λ (r : Record). r.command) (drop (i + 1) records)))) refused

-- Groups are no more than their records, where none is empty.
pub groups_few : (groups : List (List Command)) → AllByRecursion (λ group. 1 ≤ length group) groups → length groups ≤ length (records_in groups)
groups_few groups some = omega (arith, length-records_in groups, few groups some)
  where
    few : (gs : List (List Command)) → AllByRecursion (λ group. 1 ≤ length group) gs → length gs ≤ length (commands_of gs)
    few [] e = omega arith
    few (g ∷ gs) e = omega (arith, e.0, few gs e.1, length-append g (commands_of gs))
