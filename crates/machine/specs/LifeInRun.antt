-- One life of a keeper, as a part of a run over several.
use Rattle.std.specs.Prelude.{◌≡◌, ℕ, ◌+◌, List, ◌++◌, Some, length}
use Rattle.roadnet.specs.declared.groups.Group.{Group}
use Rattle.roadnet.specs.Net.{Net}
use Rattle.roadnet.specs.Step.{after}
use Rattle.machine.specs.Machine.{Machine, IsState, start, groups_to}
use Rattle.machine.specs.Calls.{reopened, IsLeft}
use Rattle.machine.specs.Runs.{Happened, Step}

-- the machine of one life, in a run that began with this network and version and accepted these groups before
abbrev pub within : Net → ℕ → List Group → Machine → Machine
within base version before m = record m { base = base; base_version = version; accepted = before ++ m.accepted }

-- A step of one life is a step of the run.
abbrev pub LifeStepsAreRunSteps : Type 0
LifeStepsAreRunSteps =
    (base : Net) (version : ℕ) (before : List Group) (old new : Machine) (h : Happened)
    → after base before ≡ Some old.base → old.base_version ≡ version + length before → IsState old
    → Step old h new → Step (within base version before old) h (within base version before new)

-- Opened again, the run is where a new life of the opened network begins.
abbrev pub StopsBeginLives : Type 0
StopsBeginLives =
    (base : Net) (version : ℕ) (before : List Group) (m : Machine) (v unchecked : ℕ) (network : Net)
    → m.base_version ≡ version + length before → IsState m → IsLeft m v
    → reopened (within base version before m) v unchecked ≡ within base version (before ++ groups_to m v) (start m.sizes network v unchecked)
