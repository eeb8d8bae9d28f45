-- Items in tables of 256: what a change of one of them is in the list of all.
use Rattle.std.proofs.Common.{◌≡◌, ◌∙◌, ◌⊎◌, ℕ, ◌+◌, ◌*◌, ◌/◌, ◌%◌, ◌<◌, ◌≤◌, List, [], ◌∷◌, ◌++◌, length, map, get_or, set, take, refl, sym, ap, ap₂, arith, ⊎_elim, Global, Result, Ok, Err, OnOk, OnErr}
use Rattle.std.specs.List.{flat_map, AllZip}
use Rattle.std.proofs.Math.ListN.{get_or-map}
use Rattle.std.proofs.Math.Seq.{map-set_same}
use Rattle.std.proofs.lemmas.List.{get_or_default, length-map, map-set}
use Rattle.std.proofs.lemmas.List.Folds.{flat_map-map}
use Rattle.std.specs.declared.sync.Arc.{Arc}
use Rattle.chunked.specs.declared.table.Table.{Table}
use Rattle.chunked.specs.Tables.{table_items, items_of}
use Rattle.chunked.proofs.Items.{length-items}
use Rattle.chunked.proofs.Joined.{get_or-joined, set-joined}

abbrev pub value_of : {C : Type 0} → Arc C Global → C
value_of item = item.value

abbrev pub of_table : {C : Type 0} → Arc (Table C) Global → List C
of_table table = table_items table.value

pub full_items : {C : Type 0} (table : Table C) → length (table_items table) ≡ 256
full_items table = length-map table.items (λ item. item.value) ∙ table.full

pub full_table : {C : Type 0} (table : Arc (Table C) Global) → length (of_table table) ≡ 256
full_table table = full_items table.value

-- ---- shares
pub same_items : {C : Type 0} (cs ds : List (Arc C Global)) → AllZip (λ c d. d.value ≡ c.value) cs ds → map (λ (c : Arc C Global). c.value) ds ≡ map (λ (c : Arc C Global). c.value) cs
same_items [] [] h = refl
same_items [] (d ∷ ds) h = absurd h
same_items (c ∷ cs) [] h = absurd h
same_items (c ∷ cs) (d ∷ ds) h = ap₂ (λ x xs. x ∷ xs) h.0 (same_items cs ds h.1)

pub same_joined : {X A : Type 0} (f : X → List A) (xs ys : List (Arc X Global)) → AllZip (λ x y. y.value ≡ x.value) xs ys → flat_map (λ (y : Arc X Global). f y.value) ys ≡ flat_map (λ (x : Arc X Global). f x.value) xs
same_joined f [] [] h = refl
same_joined f [] (y ∷ ys) h = absurd h
same_joined f (x ∷ xs) [] h = absurd h
same_joined f (x ∷ xs) (y ∷ ys) h = ap₂ (λ l m. l ++ m) (ap f h.0) (same_joined f xs ys h.1)

-- a value to write to is the one that it was, or a copy with the same items
pub own : {X A : Type 0} (f : X → A) (x y : X) → (x ≡ y) ⊎ (f x ≡ f y) → f x ≡ f y
own f x y h = ⊎_elim (λ (e : x ≡ y). ap f e) (λ (e : f x ≡ f y). e) h

-- ---- one list replaced by one with the same items
pub keep_joined : {X A : Type 0} (f : X → List A) (xs : List X) (k : ℕ) (d new : X) → f new ≡ f (get_or xs k d) → flat_map f (set xs k new) ≡ flat_map f xs
keep_joined f xs k d new kept =
    sym (flat_map-map (λ l. l) f (set xs k new))
    ∙ (ap (flat_map (λ l. l)) (map-set_same f xs k new d kept) ∙ flat_map-map (λ l. l) f xs)

-- ---- the k-th item
pub item_here : {C : Type 0} (tables : List (Arc (Table C) Global)) (k : ℕ) (table : Arc (Table C) Global) (inner : Table C) (item : Arc C Global) (value : C) → k < length tables * 256 → table ≡ get_or tables (k / 256) table → inner ≡ table.value → value ≡ (get_or inner.items (k % 256) item).value → (d : C) → get_or (items_of tables) k d ≡ value
item_here {C} tables k table inner item value h is is-inner is-value d =
    let at : k ≡ k / 256 * 256 + k % 256 = omega arith in
    ap (λ p. get_or (items_of tables) p d) at
    ∙ (get_or-joined of_table 256 full_table tables (k / 256) (k % 256) table d (omega (arith, h)) (omega arith)
    ∙ (ap (λ (t : Arc (Table C) Global). get_or (of_table t) (k % 256) d) (sym is)
    ∙ (ap (λ t. get_or (table_items t) (k % 256) d) (sym is-inner)
    ∙ (get_or_default (table_items inner) (k % 256) d item.value (omega (arith, full_items inner)) ∙ (get_or-map (λ (c : Arc C Global). c.value) inner.items (k % 256) item ∙ sym is-value)))))

-- ---- one item of a table replaced
pub set_item : {C : Type 0} (table old : Table C) (k : ℕ) (item : Arc C Global) → table_items table ≡ table_items old → map (λ (c : Arc C Global). c.value) (set table.items k item) ≡ set (table_items old) k item.value
set_item {C} table old k item same = map-set (λ (c : Arc C Global). c.value) table.items k item ∙ ap (λ cs. set cs k item.value) same

-- one item of a list that stands in a table
module _ {T C : Type 0} (part : C → List T) (table old : Table C) (k : ℕ) (d new : Arc C Global) (same : table_items table ≡ table_items old) where
  pub put_item : (n : ℕ) → ((c : C) → length (part c) ≡ n) → (place j : ℕ) (v : T) → place ≡ k * n + j → k < 256 → j < n → part new.value ≡ set (part (get_or table.items k d).value) j v → flat_map part (map (λ (c : Arc C Global). c.value) (set table.items k new)) ≡ set (flat_map part (table_items old)) place v
  put_item n size place j v at there within put =
      let put' : part new.value ≡ set (part (get_or (table_items table) k d.value)) j v = put ∙ ap (λ (c : C). set (part c) j v) (sym (get_or-map (λ (c : Arc C Global). c.value) table.items k d)) in
      ap (flat_map part) (map-set (λ (c : Arc C Global). c.value) table.items k new)
      ∙ (set-joined part n size (table_items table) k j d.value new.value v (omega (arith, there, full_items table)) within put'
      ∙ (ap (λ p. set (flat_map part (table_items table)) p v) (sym at) ∙ ap (λ cs. set (flat_map part cs) place v) same))

  pub keep_item : part new.value ≡ part (get_or table.items k d).value → flat_map part (map (λ (c : Arc C Global). c.value) (set table.items k new)) ≡ flat_map part (table_items old)
  keep_item kept =
      flat_map-map part (λ (c : Arc C Global). c.value) (set table.items k new)
      ∙ (keep_joined (λ (c : Arc C Global). part c.value) table.items k d new kept
      ∙ (sym (flat_map-map part (λ (c : Arc C Global). c.value) table.items) ∙ ap (flat_map part) same))

-- ---- lists
pub list_long : {C : Type 0} (tables : List (Arc (Table C) Global)) (len : ℕ) → len ≤ length tables * 256 → length (take len (items_of tables)) ≡ len
list_long tables len fits = length-items of_table 256 full_table tables len fits

-- ---- what an answer says
pub err : {T E P : Type 0} (r : Result T E) → P → OnErr r P
err (Ok x) h = tt
err (Err e) h = h

pub on_ok : {T E P Q : Type 0} (r : Result T E) → (P → Q) → OnOk r P → OnOk r Q
on_ok (Ok x) f h = f h
on_ok (Err e) f h = tt

pub on_err : {T E P Q : Type 0} (r : Result T E) → (P → Q) → OnErr r P → OnErr r Q
on_err (Ok x) f h = tt
on_err (Err e) f h = f h
