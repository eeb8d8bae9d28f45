-- Rows that a cache finds and keeps.
use Rattle.std.proofs.Common.{◌≡◌, ◌∙◌, ℕ, Bool, true, false, ◌&&◌, ◌⊎◌, inl, inr, List, [], ◌∷◌, Option, None, Some, Result, Ok, Err, refl, sym, ap, subst, arith, ⊎_elim, nat_eq, Contains}
use Rattle.std.proofs.lemmas.Bool.Decides.{nat_tests}
use Rattle.std.specs.Prelude.{OnOk, OnErr, option_map}
use Rattle.std.specs.Option.{option_map_or, ForSome}
use Rattle.std.specs.NonZero.{non_zero_usize_get}
use Rattle.std.specs.Map.{lookup, lookup_entry, remove_entry}
use Rattle.roadnet.specs.Net.{Net}
use Rattle.roadnet.specs.Walks.{RowOf}
use Rattle.lru.proofs.Pairs.{lookup-lookup_entry}
use Rattle.lru.specs.LruCache.{LruCache, lru_cache, promoted, put_entries}
use Rattle.lru.proofs.CallerLemmas.{Contains-lookup, Contains-promoted, Contains-put_entries, IsPut}
use Rattle.kept_rows.specs.declared.caches.RowCache.{RowCache}
use Rattle.kept_rows.specs.Cached.{KeptRow, key, key_eq, kept_row, row_kept, rows_of, rows_used, rows_put, capacity_of, HasRowsOf, HasNoNewRow, HasOneNewRow, HasUsed, KeepsOthers}

abbrev row_at : ℕ × ℕ → List (Option ℕ) → KeptRow
row_at k row = (k, row)

both : (a b : Bool) → (a && b) ≡ true → (a ≡ true) × (b ≡ true)
both true b e = (refl, e)
both false b e = cc

equal : (a b : ℕ) → nat_eq a b ≡ true → a ≡ b
equal a b e = grind (arith, nat_tests)

pair_is : (a b c d : ℕ) → a ≡ c → b ≡ d → key a b ≡ key c d
pair_is a b c d first second = subst (λ (x : ℕ). key a b ≡ key c x) second (ap (λ (x : ℕ). key x b) first)

row_is : (a b : ℕ × ℕ) (x y : List (Option ℕ)) → a ≡ b → x ≡ y → row_at a x ≡ row_at b y
row_is a b x y first second = subst (λ (z : List (Option ℕ)). row_at a x ≡ row_at b z) second (ap (λ (k : ℕ × ℕ). row_at k x) first)

pub same_key : (v s : ℕ) (k : ℕ × ℕ) → key_eq (key v s) k ≡ true → k ≡ key v s
same_key v s k e =
    let two = both (nat_eq v k.0) (nat_eq s k.1) e in
    pair_is k.0 k.1 v s (sym (equal v k.0 two.0)) (sym (equal s k.1 two.1))

-- a cache that keeps the same rows has rows of the same network
pub same_rows : (version : ℕ) (old new : RowCache) (net : Net) → rows_of new ≡ rows_of old → HasRowsOf version net old → HasRowsOf version net new
same_rows version old new net same has source row there = has source row (subst (λ (rows : List KeptRow). Contains rows (kept_row version source row)) same there)

module _ (version source : ℕ) where
  -- a row that is looked up is kept
  pub found_row : (rows : List KeptRow) (row : List (Option ℕ)) → lookup (key_eq (key version source)) rows ≡ Some row → Contains rows (kept_row version source row)
  found_row rows row is =
      let found = Contains-lookup (key_eq (key version source)) rows row is in
      subst (λ (k : ℕ × ℕ). Contains rows (row_at k row)) (same_key version source found.0 found.2) found.1

  put_is : (rows : LruCache (ℕ × ℕ) (List (Option ℕ))) (row : List (Option ℕ)) (kept : KeptRow) → IsPut key_eq rows (key version source) row kept → kept ≡ kept_row version source row
  put_is rows row kept is = row_is kept.0 (key version source) kept.1 row
      (⊎_elim (λ (same : kept.0 ≡ key version source). same)
      (λ (there : (w : List (Option ℕ)) × Contains rows.entries (row_at kept.0 w) × (key_eq (key version source) kept.0 ≡ true)). same_key version source kept.0 there.2) is.1) is.0

  -- a row that is put is the only new one
  pub put_row : (rows : LruCache (ℕ × ℕ) (List (Option ℕ))) (row : List (Option ℕ)) (kept : KeptRow) → Contains (put_entries key_eq rows (key version source) row) kept
      → Contains rows.entries kept ⊎ (kept ≡ kept_row version source row)
  put_row rows row kept there = ⊎_elim (λ (old : Contains rows.entries kept). inl old)
      (λ (new : IsPut key_eq rows (key version source) row kept). inr (put_is rows row kept new))
      (Contains-put_entries key_eq rows (key version source) row kept there)

  -- what a put leaves, whether memory was there for it or not
  pub after_put : {X E : Type 0} (rows left : LruCache (ℕ × ℕ) (List (Option ℕ))) (row : List (Option ℕ)) (result : Result X E)
      → OnOk result (left ≡ lru_cache (put_entries key_eq rows (key version source) row) rows.cap) → OnErr result (left ≡ rows)
      → (kept : KeptRow) → Contains left.entries kept → Contains rows.entries kept ⊎ (kept ≡ kept_row version source row)
  after_put rows left row (Ok x) ok err kept there = put_row rows row kept (subst (λ (l : LruCache (ℕ × ℕ) (List (Option ℕ))). Contains l.entries kept) ok there)
  after_put rows left row (Err e) ok err kept there = inl (subst (λ (l : LruCache (ℕ × ℕ) (List (Option ℕ))). Contains l.entries kept) err there)

  -- what a get leaves
  pub after_get : (rows left : LruCache (ℕ × ℕ) (List (Option ℕ))) → left ≡ lru_cache (promoted (key_eq (key version source)) rows.entries) rows.cap
      → (kept : KeptRow) → Contains left.entries kept → Contains rows.entries kept
  after_get rows left is kept there =
      Contains-promoted (key_eq (key version source)) rows.entries kept (subst (λ (l : LruCache (ℕ × ℕ) (List (Option ℕ))). Contains l.entries kept) is there)

  -- a get that finds nothing leaves all as it is
  stays : (rows : List KeptRow) (o : Option KeptRow) → option_map (λ e. e.1) o ≡ None → option_map_or (λ e. e ∷ remove_entry (key_eq (key version source)) rows) o rows ≡ rows
  stays rows None none = refl
  stays rows (Some e) none = cc

  pub after_miss : (rows left : LruCache (ℕ × ℕ) (List (Option ℕ))) → left ≡ lru_cache (promoted (key_eq (key version source)) rows.entries) rows.cap
      → lookup (key_eq (key version source)) rows.entries ≡ None → left.entries ≡ rows.entries
  after_miss rows left is none =
      ap (λ (l : LruCache (ℕ × ℕ) (List (Option ℕ))). l.entries) is
      ∙ stays rows.entries (lookup_entry (key_eq (key version source)) rows.entries) (lookup-lookup_entry (key_eq (key version source)) rows.entries ∙ none)

-- what a cache keeps is what its map has
pub in_cache : (cache : RowCache) (rows : LruCache (ℕ × ℕ) (List (Option ℕ))) (kept : KeptRow) → cache.rows ≡ Some rows → Contains rows.entries kept → Contains (rows_of cache) kept
in_cache cache rows kept is there = subst (λ (o : Option (LruCache (ℕ × ℕ) (List (Option ℕ)))). Contains (option_map_or (λ r. r.entries) o []) kept) (sym is) there

pub all_in_cache : (cache : RowCache) (rows : LruCache (ℕ × ℕ) (List (Option ℕ))) → cache.rows ≡ Some rows → rows_of cache ≡ rows.entries
all_in_cache cache rows is = ap (λ (o : Option (LruCache (ℕ × ℕ) (List (Option ℕ)))). option_map_or (λ r. r.entries) o []) is

module _ (version : ℕ) (old new : RowCache) where
  -- where no row is new, they are still the network's
  pub still_rows : (net : Net) → HasNoNewRow old new → HasRowsOf version net old → HasRowsOf version net new
  still_rows net none has source row there = has source row (none (kept_row version source row) there)

  pub still_others : HasNoNewRow old new → KeepsOthers version old new
  still_others none other source row ne there = none (kept_row other source row) there

module _ (version source : ℕ) (row : List (Option ℕ)) (old new : RowCache) where
  -- the one new row is the network's
  pub rows_with_one : (net : Net) → HasOneNewRow old new version source row → RowOf net source row → HasRowsOf version net old → HasRowsOf version net new
  rows_with_one net one of has s r there =
      ⊎_elim (λ (was : Contains (rows_of old) (kept_row version s r)). has s r was)
      (λ (same : kept_row version s r ≡ kept_row version source row).
      let of_s : source ≡ s = sym (ap (λ (k : KeptRow). k.0.1) same) in
      let of_r : row ≡ r = sym (ap (λ (k : KeptRow). k.1) same) in
      subst (λ (x : List (Option ℕ)). RowOf net s x) of_r (subst (λ (x : ℕ). RowOf net x row) of_s of))
      (one (kept_row version s r) there)

  pub others_with_one : HasOneNewRow old new version source row → KeepsOthers version old new
  others_with_one one other s r ne there =
      ⊎_elim (λ (was : Contains (rows_of old) (kept_row other s r)). was)
      (λ (same : kept_row other s r ≡ kept_row version source row). absurd (ne (ap (λ (k : KeptRow). k.0.0) same)))
      (one (kept_row other s r) there)

-- the map of a cache
abbrev Rows : Type 0
Rows = LruCache (ℕ × ℕ) (List (Option ℕ))

same_map : (rows : Rows) (entries : List KeptRow) (cap : ℕ) → rows.entries ≡ entries → rows.cap ≡ cap → rows ≡ lru_cache entries cap
same_map rows entries cap first second =
    subst (λ (es : List KeptRow). rows ≡ lru_cache es cap) first (subst (λ (n : ℕ). rows ≡ lru_cache rows.entries n) second refl)

sized_as : (cache : RowCache) (rows : Rows) → cache.rows ≡ Some rows → rows.cap ≡ capacity_of cache
sized_as cache rows is = (subst (λ (o : Option Rows). ForSome o (λ r. r.cap ≡ non_zero_usize_get cache.capacity)) is cache.sized) rows refl

module _ (version source : ℕ) where
  -- what a put leaves, in order
  pub put_by : {X E : Type 0} (old cache : RowCache) (rows left : Rows) (row : List (Option ℕ)) (result : Result X E)
      → rows_of cache ≡ rows_of old → capacity_of cache ≡ capacity_of old → cache.rows ≡ Some rows
      → OnOk result (left ≡ lru_cache (put_entries key_eq rows (key version source) row) rows.cap) → OnErr result (left ≡ rows)
      → (left.entries ≡ rows_of old) ⊎ (left.entries ≡ rows_put version source row old)
  put_by old cache rows left row (Ok x) same size is ok err =
      let map_is : rows ≡ lru_cache (rows_of old) (capacity_of old) =
      same_map rows (rows_of old) (capacity_of old) (sym (all_in_cache cache rows is) ∙ same) (sized_as cache rows is ∙ size) in
      inr (ap (λ (l : Rows). l.entries) ok ∙ ap (λ (r : Rows). put_entries key_eq r (key version source) row) map_is)
  put_by old cache rows left row (Err e) same size is ok err = inl (ap (λ (l : Rows). l.entries) err ∙ sym (all_in_cache cache rows is) ∙ same)

  -- a row that was not kept and was put, or found no room
  pub used_by_put : (old found new : RowCache) (row : List (Option ℕ)) → row_kept version source old ≡ None
      → rows_of found ≡ rows_of old → capacity_of found ≡ capacity_of old → rows_of found ≡ rows_used version source old
      → (rows_of new ≡ rows_of found) ⊎ (rows_of new ≡ rows_put version source row found) → HasUsed version source old new
  used_by_put old found new row none same size used put =
      ⊎_elim (λ (stays : rows_of new ≡ rows_of found). inl (stays ∙ used))
      (λ (first : rows_of new ≡ rows_put version source row found).
      inr (none, (row, first ∙ ap (λ (r : Rows). put_entries key_eq r (key version source) row) (same_map (lru_cache (rows_of found) (capacity_of found)) (rows_of old) (capacity_of old) same size))))
      put

-- a cache that keeps nothing keeps rows of any network
pub none_kept : (version : ℕ) (net : Net) (cache : RowCache) → rows_of cache ≡ [] → HasRowsOf version net cache
none_kept version net cache empty source row there =
    let none : Contains [] (kept_row version source row) = subst (λ (rows : List KeptRow). Contains rows (kept_row version source row)) empty there in
    absurd (omega (arith, none.1))
