-- Items in tables of 256.
use Rattle.std.specs.Prelude.{List, map, flat_map}
use Rattle.std.specs.Global.{Global}
use Rattle.std.specs.declared.sync.Arc.{Arc}
use Rattle.chunked.specs.declared.table.Table.{Table}

-- the items of a table
abbrev pub table_items : {C : Type 0} → Table C → List C
table_items table = map (λ item. item.value) table.items

-- the items of such tables, those of the first one first
abbrev pub items_of : {C : Type 0} → List (Arc (Table C) Global) → List C
items_of tables = flat_map (λ table. table_items table.value) tables
