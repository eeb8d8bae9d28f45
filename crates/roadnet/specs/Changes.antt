-- What a command changes, case by case, and what it leaves; laws of steps.
use Rattle.std.specs.Prelude.{◌≡◌, ◌≢◌, ℕ, ◌+◌, ◌≤◌, Bool, true, false, List, [], ◌∷◌, ◌++◌, None, Some, length, MatchOption, option_map, option_and_then}
use Rattle.roadnet.specs.declared.arcs.RoadArc.{RoadArc}
use Rattle.roadnet.specs.declared.commands.Command.{Command}
use Rattle.roadnet.specs.declared.commands.Command.TheVariants.{Set, Close, Reopen, Mark, Unmark, Lay}
use Rattle.roadnet.specs.Causes.{IsAnswerTo}
use Rattle.roadnet.specs.Made.{flaws, flaw_of}
use Rattle.roadnet.specs.Net.{Net, IsNetwork, arc_at}
use Rattle.roadnet.specs.Step.{new_arc, is_landmark, causes, refusal_of, step, step_group, after, first_refusal}

-- arc k is changed by f, and nothing else is
pub record ChangesArc (old new : Net) (k : ℕ) (f : RoadArc → RoadArc) : Type 0 where
  pub nodes : new.nodes ≡ old.nodes
  pub landmarks : new.landmarks ≡ old.landmarks
  pub room : new.room ≡ old.room
  pub count : length new.arcs ≡ length old.arcs
  pub changed : arc_at new k ≡ option_map f (arc_at old k)
  pub others : (j : ℕ) → j ≢ k → arc_at new j ≡ arc_at old j

-- whether x is a landmark is changed to this, and nothing else is
pub record ChangesLandmark (old new : Net) (x : ℕ) (marked : Bool) : Type 0 where
  pub nodes : new.nodes ≡ old.nodes
  pub arcs : new.arcs ≡ old.arcs
  pub room : new.room ≡ old.room
  pub changed : is_landmark new x ≡ marked
  pub others : (y : ℕ) → y ≢ x → is_landmark new y ≡ is_landmark old y

-- one arc more is there, and nothing else is changed
pub record AddsArc (old new : Net) (arc : RoadArc) : Type 0 where
  pub nodes : new.nodes ≡ old.nodes
  pub landmarks : new.landmarks ≡ old.landmarks
  pub room : new.room ≡ old.room
  pub count : length new.arcs ≡ length old.arcs + 1
  pub added : arc_at new (length old.arcs + 1) ≡ Some arc
  pub others : (j : ℕ) → j ≤ length old.arcs → arc_at new j ≡ arc_at old j

abbrev pub Changes : Net → Command → Net → Type 0
Changes old (Set k w) new = ChangesArc old new k (λ arc. record arc { length = w })
Changes old (Close k) new = ChangesArc old new k (λ arc. record arc { opened = false })
Changes old (Reopen k) new = ChangesArc old new k (λ arc. record arc { opened = true })
Changes old (Mark x) new = ChangesLandmark old new x true
Changes old (Unmark x) new = ChangesLandmark old new x false
Changes old (Lay t h w) new = AddsArc old new (new_arc t h w)

-- A step is made exactly where the command is admitted, and changes what the command names.
abbrev pub StepChanges : Type 0
StepChanges = (old new : Net) (command : Command) → step old command ≡ Some new → (refusal_of old command ≡ None) × Changes old command new

abbrev pub AdmittedSteps : Type 0
AdmittedSteps = (old : Net) (command : Command) → refusal_of old command ≡ None → (new : Net) × (step old command ≡ Some new)

-- A refusal is the one of lowest number whose condition holds; there is none only where no condition holds.
abbrev pub RefusalIsLowest : Type 0
RefusalIsLowest = (net : Net) (command : Command) → IsAnswerTo (causes net command) (refusal_of net command)

abbrev pub FlawIsLowest : Type 0
FlawIsLowest = (nodes : ℕ) (arcs : List RoadArc) (landmarks : List ℕ) → IsAnswerTo (flaws nodes arcs landmarks) (flaw_of nodes arcs landmarks)

-- Commands one after another, as a group.
abbrev pub GroupsJoin : Type 0
GroupsJoin = (net : Net) (xs ys : List Command) → step_group net (xs ++ ys) ≡ option_and_then (λ next. step_group next ys) (step_group net xs)

-- There is a network after a group exactly where each of its commands is admitted in its turn.
abbrev pub GroupAdmitted : Type 0
GroupAdmitted =
    (net : Net) (commands : List Command)
    → MatchOption (first_refusal net commands) ((new : Net) × (step_group net commands ≡ Some new)) (λ refusal. step_group net commands ≡ None)

-- What comes after a group is again a network.
abbrev pub GroupGivesNetwork : Type 0
GroupGivesNetwork = (old new : Net) (commands : List Command) → IsNetwork old → step_group old commands ≡ Some new → IsNetwork new

-- A group of one is its command.
abbrev pub GroupOfOne : Type 0
GroupOfOne = (net : Net) (command : Command) → step_group net (command ∷ []) ≡ step net command

-- Groups one after another.
abbrev pub AfterBoth : Type 0
AfterBoth = (net : Net) (xs ys : List (List Command)) → after net (xs ++ ys) ≡ option_and_then (λ next. after next ys) (after net xs)

-- What comes after groups is again a network.
abbrev pub AfterIsNetwork : Type 0
AfterIsNetwork = (old new : Net) (groups : List (List Command)) → IsNetwork old → after old groups ≡ Some new → IsNetwork new
