-- What is shown, and why a reader sees it not.
use Rattle.std.specs.Prelude.{◌≡◌, ◌⊎◌}
use Rattle.roadnet.specs.declared.refusals.Refusal.{Refusal}
use Rattle.roadnet.specs.declared.refusals.Refusal.TheVariants.{OutOfMemory, Closed}
use Rattle.history.specs.Origins.{Beginning}
use Rattle.rows.specs.Views.{Viewed}

-- a view, with the groups after which it is shown
pub record Showing : Type 0 where
  pub shown : Beginning
  pub view : Viewed

-- why a reader can't look: no room for its share of the view, or a copy that can't be entered
abbrev pub IsUnseen : Refusal → Type 0
IsUnseen refusal = (refusal ≡ OutOfMemory) ⊎ (refusal ≡ Closed)
