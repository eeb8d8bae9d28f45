-- What a stop might have left at the moments of a call or of a run of calls.
use Rattle.std.specs.Prelude.{◌≡◌, ◌⊎◌, ◌≤◌, ℕ, List}
use Rattle.disk.specs.Contents.{AreAmong}

-- Time goes on by one call: a stop since t might have left what it might have left before, or what it may leave now.
pub record Elapses (before now : ℕ) (past since : ℕ → List ℕ → Type 0) (left : List ℕ → Type 0) : Type 0 where
  pub later : before ≤ now
  pub adds : (t : ℕ) (c : List ℕ) → t ≤ before → since t c → past t c ⊎ left c
  pub keeps : (t : ℕ) (c : List ℕ) → t ≤ before → past t c → since t c

-- A stop at any moment from old to new leaves what has P.
pub record LeavesOnly {D : Type 0} (moment : D → ℕ) (left_since : D → ℕ → List ℕ → Type 0) (old new : D) (P : List ℕ → Type 0) : Type 0 where
  pub later : moment old ≤ moment new
  pub each : (c : List ℕ) → left_since new (moment old) c → P c
  -- for a run that began earlier
  pub before : (t : ℕ) (c : List ℕ) → t ≤ moment old → left_since new t c → left_since old t c ⊎ P c

-- From old to new nothing is added to what a stop might have left.
pub record AddsNothing {D : Type 0} (moment : D → ℕ) (left_since : D → ℕ → List ℕ → Type 0) (old new : D) : Type 0 where
  pub later : moment old ≤ moment new
  pub each : (t : ℕ) (c : List ℕ) → t ≤ moment old → left_since new t c → left_since old t c

-- From old to new the content stays, and a stop may leave nothing that it might not have left before.
pub record StaysSame {D : Type 0} (content : D → List ℕ) (left : D → List ℕ → Type 0) (moment : D → ℕ) (left_since : D → ℕ → List ℕ → Type 0) (old new : D) : Type 0 where
  pub same_content : content new ≡ content old
  pub among : AreAmong (left new) (left old)
  pub adds_nothing : AddsNothing moment left_since old new
