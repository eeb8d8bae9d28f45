-- Commands carried out one after another, as a batch.
use Rattle.std.specs.Prelude.{◌≡◌, ◌⊎◌, ℕ, ◌≤◌, ◌<◌, ◌^◌, Bool, true, false, List, [], ◌∷◌, ◌++◌, Option, None, Some, All, fold, option_map, is_none, if◌then◌else◌}
use Rattle.roadnet.specs.declared.arcs.RoadArc.{RoadArc}
use Rattle.roadnet.specs.declared.commands.Command.{Command}
use Rattle.roadnet.specs.declared.commands.Command.TheVariants.{Set, Close, Reopen, Mark, Unmark, Lay}
use Rattle.roadnet.specs.declared.refusals.Refusal.{Refusal}
use Rattle.roadnet.specs.declared.refusals.Refusal.TheVariants.{OutOfMemory}
use Rattle.roadnet.specs.Groups.{commands_of}
use Rattle.roadnet.specs.Members.{with_member, without_member}
use Rattle.roadnet.specs.Net.{Net, IsNetwork, arc_at, update_nth}
use Rattle.roadnet.specs.Step.{TakesMemory, new_arc, changed, refusal_of, step_group, after, first_refusal}

-- the network with these commands carried out, the first one first
abbrev pub changed_by : Net → List Command → Net
changed_by net commands = fold changed net commands

-- whether arc k is open, if there is one
abbrev pub opened_at : Net → ℕ → Option Bool
opened_at net k = option_map (λ arc. arc.opened) (arc_at net k)

-- the arcs with the command carried out
abbrev pub changed_arcs : List RoadArc → Command → List RoadArc
changed_arcs arcs (Set k w) = update_nth (λ arc. record arc { length = w }) arcs k
changed_arcs arcs (Close k) = update_nth (λ arc. record arc { opened = false }) arcs k
changed_arcs arcs (Reopen k) = update_nth (λ arc. record arc { opened = true }) arcs k
changed_arcs arcs (Mark x) = arcs
changed_arcs arcs (Unmark x) = arcs
changed_arcs arcs (Lay t h w) = arcs ++ new_arc t h w ∷ []

-- the landmarks with the command carried out
abbrev pub changed_landmarks : List ℕ → Command → List ℕ
changed_landmarks landmarks (Set k w) = landmarks
changed_landmarks landmarks (Close k) = landmarks
changed_landmarks landmarks (Reopen k) = landmarks
changed_landmarks landmarks (Mark x) = with_member x landmarks
changed_landmarks landmarks (Unmark x) = without_member x landmarks
changed_landmarks landmarks (Lay t h w) = landmarks

-- the command's numbers fit a record: the arc or node takes 4 bytes, the length 31 bits
abbrev pub HasFitNumbers : Command → Type 0
HasFitNumbers (Set k w) = (k < 2 ^ 32) × (w < 2 ^ 31)
HasFitNumbers (Close k) = k < 2 ^ 32
HasFitNumbers (Reopen k) = k < 2 ^ 32
HasFitNumbers (Mark x) = x < 2 ^ 32
HasFitNumbers (Unmark x) = x < 2 ^ 32
HasFitNumbers (Lay t h w) = (t < 2 ^ 32) × (h < 2 ^ 32) × (w < 2 ^ 31)

-- with what `prepare` may refuse: the refusal of the first command that is not admitted in its turn; or want of memory, where each is
abbrev pub MayRefuseBatch : Net → List Command → Refusal → Type 0
MayRefuseBatch net commands refusal =
    (first_refusal net commands ≡ Some refusal) ⊎ ((refusal ≡ OutOfMemory) × (first_refusal net commands ≡ None))

-- carrying the commands out may take memory: for one command where that one alone takes some, for several always
abbrev pub TakeMemory : List Command → Type 0
TakeMemory (command ∷ []) = TakesMemory command
TakeMemory other = Unit {0}

-- Some command of these is refused: those before it lead to a network, and that one gives it this refusal.
pub record RefusesOneOf (net : Net) (commands : List Command) (refusal : Refusal) : Type 0 where
  pub front : List Command
  pub command : Command
  pub back : List Command
  pub mid : Net
  pub split : commands ≡ front ++ command ∷ back
  pub leads : step_group net front ≡ Some mid
  pub refuses : refusal_of mid command ≡ Some refusal

-- A batch is refused for its first command that is not admitted after those before it.
abbrev pub FirstRefusalIsOfTheFirst : Type 0
FirstRefusalIsOfTheFirst = (net : Net) (commands : List Command) (refusal : Refusal) → first_refusal net commands ≡ Some refusal → RefusesOneOf net commands refusal

-- A network that admits each command in its turn is changed to one that has carried out all of them.
abbrev pub AfterIsChanged : Type 0
AfterIsChanged = (net : Net) (commands : List Command) → first_refusal net commands ≡ None → step_group net commands ≡ Some (changed_by net commands)

-- An admitted command's numbers fit a record.
abbrev pub AdmittedFits : Type 0
AdmittedFits = (net : Net) (command : Command) → IsNetwork net → refusal_of net command ≡ None → HasFitNumbers command

-- So do those of commands that are admitted, each in its turn.
abbrev pub AllAdmittedFit : Type 0
AllAdmittedFit = (net : Net) (commands : List Command) → IsNetwork net → first_refusal net commands ≡ None → All HasFitNumbers commands

-- GROUPS ONE AFTER ANOTHER

-- the network with these groups carried out, the first one first
abbrev pub changed_by_all : Net → List (List Command) → Net
changed_by_all net groups = fold changed_by net groups

-- the refusal of the first command of these groups that is not admitted after those before it, or none
abbrev pub first_refusal_of_all : Net → List (List Command) → Option Refusal
first_refusal_of_all net [] = None
first_refusal_of_all net (group ∷ groups) =
    if is_none (first_refusal net group) then first_refusal_of_all (changed_by net group) groups else first_refusal net group

-- with what groups may be refused: the refusal of the first command that is not admitted in its turn; or want of memory, where each is
abbrev pub MayRefuseGroups : Net → List (List Command) → Refusal → Type 0
MayRefuseGroups net groups refusal =
    (first_refusal_of_all net groups ≡ Some refusal) ⊎ ((refusal ≡ OutOfMemory) × (first_refusal_of_all net groups ≡ None))

-- Groups one after another are their commands one after another.
abbrev pub GroupsAreTheirCommands : Type 0
GroupsAreTheirCommands = (net : Net) (groups : List (List Command)) → after net groups ≡ step_group net (commands_of groups)

-- and are refused for the same command
abbrev pub RefusedAsTheirCommands : Type 0
RefusedAsTheirCommands =
    (net : Net) (groups : List (List Command)) → first_refusal_of_all net groups ≡ first_refusal net (commands_of groups)

-- A network that admits each command of groups in its turn is changed to one that has carried out all of them.
abbrev pub AfterAllIsChanged : Type 0
AfterAllIsChanged = (net : Net) (groups : List (List Command)) → first_refusal_of_all net groups ≡ None → after net groups ≡ Some (changed_by_all net groups)
