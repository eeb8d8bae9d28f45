-- Entries, a node with a value each, in a ring of lists: each stands in the list of a bucket that was given with it.
--     StandsAt last lists b e      the entry stands in the list of bucket b, one of as many in a row from `last` on as there are lists
--     IsPutInto old new b e        the entry stands in bucket b, and all others stand where they stood
--     TakesBucket old new b list   the list has all entries of bucket b, none stands in a bucket before it, and all others stand where they stood
use Rattle.std.specs.Prelude.{◌≡◌, ◌≢◌, ℕ, ◌≤◌, ◌%◌, ◌⊎◌, ◌↔◌, List, length, Contains}
use Rattle.buckets.specs.Rings.{IsBucketWithin}
use Rattle.frontier.specs.Entries.{EntryLists, entries_at}

pub record StandsAt (last : ℕ) (lists : EntryLists) (b : ℕ) (e : ℕ × ℕ) : Type 0 where
  pub window : IsBucketWithin last (length lists) b
  pub member : Contains (entries_at lists (b % length lists)) e

abbrev pub IsPutInto : (ℕ → ℕ × ℕ → Type 0) → (ℕ → ℕ × ℕ → Type 0) → ℕ → ℕ × ℕ → Type 0
IsPutInto old new b e = (c : ℕ) (f : ℕ × ℕ) → new c f ↔ (old c f ⊎ ((c ≡ b) × (e ≡ f)))

pub record TakesBucket (old new : ℕ → ℕ × ℕ → Type 0) (b : ℕ) (list : List (ℕ × ℕ)) : Type 0 where
  pub all : (e : ℕ × ℕ) → Contains list e ↔ old b e
  pub least : (c : ℕ) (e : ℕ × ℕ) → old c e → b ≤ c
  pub rest : (c : ℕ) (e : ℕ × ℕ) → new c e ↔ (old c e × (c ≢ b))
