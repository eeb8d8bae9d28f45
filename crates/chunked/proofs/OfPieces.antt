-- Pieces in tables of 256: what a change of one of their items is in the list of all.
use Rattle.std.proofs.Common.{◌≡◌, ◌∙◌, ℕ, ◌*◌, ◌/◌, ◌%◌, ◌<◌, ◌≤◌, List, length, get_or, set, take, sym, ap, arith, Global}
use Rattle.std.specs.List.{flat_map}
use Rattle.std.proofs.lemmas.List.{length-set}
use Rattle.std.specs.declared.sync.Arc.{Arc}
use Rattle.chunked.specs.declared.table.Table.{Table}
use Rattle.chunked.specs.Tables.{table_items, items_of}
use Rattle.chunked.proofs.Items.{nested, set_items}
use Rattle.chunked.proofs.Joined.{length-joined, take-before}
use Rattle.chunked.proofs.OfTables.{full_table, keep_joined, list_long, of_table}

-- the items of a table's pieces
abbrev pub span_of : {T C : Type 0} → (C → List T) → Table C → List T
span_of part table = flat_map part (table_items table)

module _ {T C : Type 0} (part : C → List T) (size : (chunk : C) → length (part chunk) ≡ 1024) where
  -- the items of the pieces of a table
  abbrev pub all_of : Arc (Table C) Global → List T
  all_of table = span_of part table.value

  full_all : (table : Arc (Table C) Global) → length (all_of table) ≡ 262144
  full_all table = omega (arith, length-joined part 1024 size (of_table table), full_table table)

  module _ (tables : List (Arc (Table C) Global)) (len : ℕ) (fits : len ≤ length tables * 256) where
    joined : (more : List (Arc (Table C) Global)) → flat_map part (take len (items_of more)) ≡ take (len * 1024) (flat_map all_of more)
    joined more = take-before part 1024 size (items_of more) len ∙ ap (take (len * 1024)) (nested part of_table more)

    pub set_piece : (place : ℕ) (old new : Arc (Table C) Global) (v : T) → place < len * 1024 → old ≡ get_or tables (place / 262144) old → all_of new ≡ set (all_of old) (place % 262144) v → flat_map part (take len (items_of (set tables (place / 262144) new))) ≡ set (flat_map part (take len (items_of tables))) place v
    set_piece place old new v h is put =
        joined (set tables (place / 262144) new)
        ∙ (set_items all_of 262144 full_all tables (len * 1024) place (place / 262144) (place % 262144) old new v h (omega arith) (omega (arith, h, fits)) (omega arith) is put
        ∙ ap (λ xs. set xs place v) (sym (joined tables)))

    pub keep_pieces : (k : ℕ) (old new : Arc (Table C) Global) → old ≡ get_or tables k old → all_of new ≡ all_of old → flat_map part (take len (items_of (set tables k new))) ≡ flat_map part (take len (items_of tables))
    keep_pieces k old new is kept =
        joined (set tables k new)
        ∙ (ap (take (len * 1024)) (keep_joined all_of tables k old new (kept ∙ ap all_of is)) ∙ sym (joined tables))

    pub keep_count : (k : ℕ) (new : Arc (Table C) Global) → length (take len (items_of (set tables k new))) ≡ length (take len (items_of tables))
    keep_count k new = list_long (set tables k new) len (omega (arith, fits, length-set tables k new)) ∙ sym (list_long tables len fits)
