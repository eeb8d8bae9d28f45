-- How a network's landmarks are shared out among row workers.
use Rattle.std.specs.Prelude.{◌≡◌, ◌<◌, ℕ, zero, suc, ◌-◌, List, [], ◌∷◌, map, All, length}
use Rattle.std.specs.List.{slice_index_or}
use Rattle.roadnet.specs.Net.{Net}
use Rattle.rows.specs.declared.landmark_rows.Row.{Row}
use Rattle.rows.specs.Views.{IsRowAt}

-- of so many workers, the one that has passed over so many members has that one next, and each workers-th behind it
abbrev pub share_of : ℕ → ℕ → List ℕ → List ℕ
share_of workers passed [] = []
share_of workers zero (x ∷ xs) = x ∷ share_of workers (workers - 1) xs
share_of workers (suc passed) (x ∷ xs) = share_of workers passed xs

-- one row for each of these landmarks, in their order, made for this version of the network
pub record AreRowsOfLandmarks (version : ℕ) (net : Net) (landmarks : List ℕ) (rows : List Row) : Type 0 where
  pub landmarks_are : map (λ row. row.landmark) rows ≡ landmarks
  pub each : All (IsRowAt version net) rows

-- the workers have the rows of their shares of these landmarks, in the order of the workers
pub record AreSharesDealt (version : ℕ) (net : Net) (workers : ℕ) (landmarks : List ℕ) (parts : List (List Row)) : Type 0 where
  pub length_is : length parts ≡ workers
  pub each : (worker : ℕ) → worker < workers → AreRowsOfLandmarks version net (share_of workers worker landmarks) (slice_index_or parts worker [])
