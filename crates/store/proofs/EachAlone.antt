-- Commands that are each a group of their own.
use Rattle.std.proofs.Common.{◌≡◌, ◌∙◌, ℕ, suc, ◌+◌, ◌<◌, ◌≤◌, List, [], ◌∷◌, ◌++◌, length, take, get_or, sym, ap, arith, refl}
use Rattle.std.specs.Prelude.{slice_set, slice_index_or}
use Rattle.std.proofs.Math.Seq.{take-suc, take-suc-set}
use Rattle.std.proofs.lemmas.List.{map-append, take_all}
use Rattle.roadnet.specs.declared.commands.Command.{Command}
use Rattle.roadnet.specs.Groups.{commands_of, count_of}
use Rattle.store.specs.Committing.{alone}

pub one_more : (groups : List (List Command)) (commands : List Command) (at : ℕ) (d : Command) → at < length commands → at < length groups → take at groups ≡ alone (take at commands)
    → take (at + 1) (slice_set groups at (slice_index_or commands at d ∷ [])) ≡ alone (take (at + 1) commands)
one_more groups commands at d here there front =
    let e : at + 1 ≡ suc at = omega arith in
    rw e (
    take-suc-set groups at (get_or commands at d ∷ []) there
    ∙ (ap (λ (l : List (List Command)). l ++ (get_or commands at d ∷ []) ∷ []) front
    ∙ (sym (map-append (λ (command : Command). command ∷ []) (take at commands) (get_or commands at d ∷ []))
    ∙ ap alone (sym (take-suc commands at d here)))))

pub all_of : (groups : List (List Command)) (commands : List Command) (at : ℕ) → length commands ≤ at → at ≤ length commands → take at groups ≡ alone (take at commands) → take (length commands) groups ≡ alone commands
all_of groups commands at end few front =
    let e : length commands ≡ at = omega (arith, end, few) in
    ap (λ (n : ℕ). take n groups) e ∙ (front ∙ ap alone (take_all at commands end))

commands_alone : (commands : List Command) → commands_of (alone commands) ≡ commands
commands_alone [] = refl
commands_alone (command ∷ commands) = ap (λ (l : List Command). command ∷ l) (commands_alone commands)

pub count_alone : (commands : List Command) → count_of (alone commands) ≡ length commands
count_alone commands = ap length (commands_alone commands)
