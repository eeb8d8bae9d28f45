-- For which of its commands a group is refused.
use Rattle.std.specs.Prelude.{◌≡◌, ◌⊎◌, ℕ, suc, ◌-◌, ◌<◌, Bool, true, false, List, [], ◌∷◌, ◌++◌, length, take, drop, is_none, Option, None, Some}
use Rattle.roadnet.specs.declared.commands.Command.{Command}
use Rattle.roadnet.specs.declared.refusals.Refusal.{Refusal}
use Rattle.roadnet.specs.Net.{Net}
use Rattle.roadnet.specs.Batches.{first_refusal_of_all}
use Rattle.machine.specs.Machine.{Machine, latest, network_at}

-- the groups that are accepted and not durable yet
abbrev pub waiting_of : Machine → List (List Command)
waiting_of m = drop (length m.accepted - (latest m - m.durable)) m.accepted

-- the refusal of the first command of these groups that is not admitted after those before it, or none
abbrev pub refusal_of_groups : Option Net → List (List Command) → Option Refusal
refusal_of_groups None groups = None
refusal_of_groups (Some net) groups = first_refusal_of_all net groups

-- whether the first commands of a group, so many, are admitted as a group after those that wait
abbrev pub is_admitted : Machine → List Command → ℕ → Bool
is_admitted m group count = is_none (refusal_of_groups (network_at m m.durable) (waiting_of m ++ take count group ∷ []))

-- the command at this place is refused: those before it are admitted, and together with it they are not
pub record IsFirstRefused (m : Machine) (group : List Command) (place : ℕ) : Type 0 where
  pub among : place < length group
  pub before : (place ≡ 0) ⊎ (is_admitted m group place ≡ true)
  pub refused : is_admitted m group (suc place) ≡ false
