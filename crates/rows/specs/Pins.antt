-- What a pinned view shows.
use Rattle.std.specs.Prelude.{◌≡◌, ℕ, None, IsSome}
use Rattle.roadnet.specs.Net.{Net}
use Rattle.rows.specs.Views.{Viewed}
use Rattle.kept_rows.specs.Cached.{HasRowsOf, HasUsed, rows_of}
use Rattle.rows.specs.Replies.{query_refusal_of}
use Rattle.rows.specs.declared.queries.Query.{Query}
use Rattle.rows.specs.declared.queries.Query.TheVariants.{Dist, From, Lower}
use Rattle.kept_rows.specs.declared.caches.RowCache.{RowCache}
use Rattle.rows.specs.declared.pinned.Pinned.{Pinned}

-- the view, and the cache as it is now
abbrev pub viewed : Pinned → Viewed
viewed p = p.view.now

abbrev pub cached : Pinned → RowCache
cached p = p.cache.now

-- What the cache keeps for the view's version are rows of its network.
abbrev pub HasOwnRows : Pinned → Type 0
HasOwnRows p = HasRowsOf (viewed p).version (viewed p).network (cached p)

-- the same view, and a loan of the same cache
pub record IsSamePin (old new : Pinned) : Type 0 where
  pub view : viewed new ≡ viewed old
  pub cache : new.cache.ghost_name ≡ old.cache.ghost_name

-- What the cache keeps after a query: `Dist`, where it is not refused, has used the row of its source; each other query leaves all as it was.
abbrev pub HasAnswered : ℕ → Net → Query → RowCache → RowCache → Type 0
HasAnswered version net (Dist s t) old new =
    (query_refusal_of net (Dist s t) ≡ None → HasUsed version s old new)
    × (IsSome (query_refusal_of net (Dist s t)) → rows_of new ≡ rows_of old)
HasAnswered version net (From l t) old new = rows_of new ≡ rows_of old
HasAnswered version net (Lower s t) old new = rows_of new ≡ rows_of old
