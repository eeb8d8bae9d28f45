-- A view: a network at a version, with the row of each of its landmarks.
use Rattle.std.specs.Prelude.{◌≡◌, ℕ, List, map, All}
use Rattle.std.specs.List.{AllZip}
use Rattle.roadnet.specs.Net.{Net}
use Rattle.roadnet.specs.Walks.{RowOf}
use Rattle.rows.specs.declared.landmark_rows.Row.{Row}
use Rattle.rows.specs.declared.queries.Query.TheVariants.{Dist}
use Rattle.rows.specs.declared.queries.Reply.{Reply}
use Rattle.rows.specs.Replies.{IsRight}

-- What a view is seen as: a network, its version, and the width of the buckets of searches.
pub record Viewed : Type 0 where
  pub version : ℕ
  pub network : Net
  pub delta : ℕ

-- the row was made for this version, and is that of its node
pub record IsRowAt (version : ℕ) (net : Net) (row : Row) : Type 0 where
  pub made_for : row.version ≡ version
  pub distances : RowOf net row.landmark row.distances

-- one row for each landmark, in their order, made for this version
pub record AreLandmarkRows (version : ℕ) (net : Net) (rows : List Row) : Type 0 where
  pub landmarks : map (λ row. row.landmark) rows ≡ net.landmarks
  pub each : All (IsRowAt version net) rows

-- to each pair of a source and a target a right reply, in their order
abbrev pub AreRight : Net → List (ℕ × ℕ) → List Reply → Type 0
AreRight net pairs replies = AllZip (λ pair reply. IsRight net (Dist pair.0 pair.1) reply) pairs replies
