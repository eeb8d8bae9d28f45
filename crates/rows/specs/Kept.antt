-- Widths of buckets, and groups by them.
use Rattle.std.specs.Prelude.{◌≡◌, ◌≤◌, ℕ, Option, unwrap_or}
use Rattle.roadnet.specs.Net.{Net}
use Rattle.snapshot.specs.Groups.{Groups, IsSnapshotOf, default_width}

-- a width of a search's buckets
abbrev pub IsWidth : ℕ → Type 0
IsWidth delta = (1 ≤ delta) × (delta ≤ 2147483647)

-- the groups of the network's open arcs, by the width that was given, or by the network's default where none was
pub record AreGroupsOf (net : Net) (given : Option ℕ) (groups : Groups) : Type 0 where
  pub arcs : IsSnapshotOf net groups
  pub width : groups.delta ≡ unwrap_or given (default_width net)
