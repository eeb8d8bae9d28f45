-- Replies to many pairs, and rows that are made for them.
use Rattle.std.specs.Prelude.{◌<◌, ◌≤◌, ℕ, List, Option, All, Contains}
use Rattle.std.specs.List.{AllZip}
use Rattle.roadnet.specs.Net.{Net}
use Rattle.roadnet.specs.Walks.{RowOf}
use Rattle.snapshot.specs.Groups.{Groups, IsSnapshotOf}
use Rattle.rows.specs.declared.queries.Query.TheVariants.{Dist}
use Rattle.rows.specs.declared.queries.Reply.{Reply}
use Rattle.rows.specs.Replies.{IsRight}

-- to each pair, whose source and target are told by two functions, a right reply, in their order
abbrev pub AreRightBy : {P : Type 0} → Net → (P → ℕ) → (P → ℕ) → List P → List Reply → Type 0
AreRightBy net source target pairs replies = AllZip (λ pair reply. IsRight net (Dist (source pair) (target pair)) reply) pairs replies

-- the places of a list of so many items, each of them once or more, and no other number
pub record ArePlaces (count : ℕ) (places : List ℕ) : Type 0 where
  pub each : (i : ℕ) → i < count → Contains places i
  pub within : All (λ place. place < count) places

-- a node, and the row of it in each network of which the groups are
abbrev pub IsRowOfOne : Groups → ℕ × List (Option ℕ) → Type 0
IsRowOfOne groups made = (net : Net) → IsSnapshotOf net groups → RowOf net made.0 made.1

-- nodes of a network with so many
abbrev pub AreNodes : ℕ → List ℕ → Type 0
AreNodes nodes list = All (λ node. (1 ≤ node) × (node ≤ nodes)) list
