-- What a row is made out of.
use Rattle.std.specs.Prelude.{◌≡◌, ℕ, Option}
use Rattle.std.specs.Option.{ForSome}
use Rattle.roadnet.specs.Ends.{KeepsEnds}
use Rattle.roadnet.specs.Net.{Net}
use Rattle.snapshot.specs.Blocks.{AreArcsByBlock, DiffersOnlyAt}
use Rattle.snapshot.specs.Groups.{Groups, IsSnapshotOf}
use Rattle.deltastep.specs.Repair.{AreChanged, AreTails}
use Rattle.rows.specs.Kept.{AreGroupsOf}
use Rattle.desk.specs.declared.threads.older.Grouped.{Grouped}
use Rattle.desk.specs.declared.threads.older.Older.{Older}
use Rattle.desk.specs.declared.threads.repairs.Before.{Before}

-- The older view is of a network that this one came from by commands. Each arc is the same in both, or its number is among those that changed.
pub record IsOlder (net : Net) (older : Older) : Type 0 where
  pub ends : KeepsEnds older.view.now.network net
  pub changed : DiffersOnlyAt older.changed.now older.view.now.network net

-- the groups of the network by the width that was given, or by its default where none was, and the index of its arcs, if there is one
pub record AreGroupedBy (net : Net) (given : Option ℕ) (grouped : Grouped) : Type 0 where
  pub groups : AreGroupsOf net given grouped.snapshot
  pub index : ForSome grouped.index (λ index. AreArcsByBlock net.nodes net.arcs index.value)

-- for each of the legs there is one back
pub record LeadBackTo (groups back : Groups) : Type 0 where
  pub nodes : back.nodes ≡ groups.nodes
  pub tails : AreTails back groups

-- An older view of a network with as many nodes as these groups have, with its own groups; each node of which a leg differs is among those that changed; and for
-- each of these groups' legs there is one back.
pub record IsBefore (groups : Groups) (before : Before) : Type 0 where
  pub snapshot : IsSnapshotOf before.view.now.network before.snapshot.now
  pub nodes : before.snapshot.now.nodes ≡ groups.nodes
  pub changed : AreChanged before.snapshot.now groups before.changed.items
  pub back : LeadBackTo groups before.back.now
