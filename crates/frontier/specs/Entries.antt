-- Entries, a node with a value each, in a ring of lists: an entry stands in the list of the bucket of its value, and is never moved.
--     entries_at lists p                 the entries of the list p; none past the last
--     AreInPlace width last lists        each entry stands in the list of its bucket, which is one of as many in a row from `last` on as there are lists
--     AreMarked lists marks              just the places of the lists that have an entry are marked
--     IsAdded old new p e                the entry was added to the list p, and nothing else
--     TakesNext last old new b list      the list is that of bucket b, and is emptied; those of the buckets from `last` on to b are empty, and all others stay
--     TakesFirst width old new b list    the list has all entries of the least bucket that has any, and they are gone from there
--     IsFresh delta last lists width size     a search can begin with it that asks for `size` buckets in a row of this width: it has no entry, and bucket 0 is the first that fits
use Rattle.std.specs.Prelude.{◌≡◌, ◌≢◌, ℕ, ◌*◌, ◌/◌, ◌%◌, ◌^◌, ◌<◌, ◌≤◌, ◌↔◌, ◌++◌, List, [], ◌∷◌, length, sum_by, Contains}
use Rattle.std.specs.Option.{option_map_or}
use Rattle.std.specs.List.{slice_get}
use Rattle.std.specs.Global.{Vec}
use Rattle.buckets.specs.Places.{place_bit}
use Rattle.buckets.specs.Rings.{IsBucketWithin}

abbrev pub EntryLists : Type 0
EntryLists = List (Vec (ℕ × ℕ))

abbrev pub entries_at : EntryLists → ℕ → List (ℕ × ℕ)
entries_at lists p = option_map_or (λ (entries : Vec (ℕ × ℕ)). entries.items) (slice_get lists p) []

pub record IsInPlace (width last size p value : ℕ) : Type 0 where
  pub small : value < 2 ^ 64
  pub window : IsBucketWithin last size (value / width)
  pub place : (value / width) % size ≡ p

abbrev pub AreInPlace : ℕ → ℕ → EntryLists → Type 0
AreInPlace width last lists = (p : ℕ) (e : ℕ × ℕ) → Contains (entries_at lists p) e → IsInPlace width last (length lists) p e.1

pub record AreMarked (lists : EntryLists) (marks : List ℕ) : Type 0 where
  pub covers : length lists ≤ 64 * length marks
  pub marked : (p : ℕ) → (place_bit marks p ≡ 1) ↔ (0 < length (entries_at lists p))

pub record IsAdded (old new : EntryLists) (p : ℕ) (e : ℕ × ℕ) : Type 0 where
  pub here : entries_at new p ≡ entries_at old p ++ e ∷ []
  pub others : (q : ℕ) → q ≢ p → entries_at new q ≡ entries_at old q

-- how many entries there are
abbrev pub entry_count : EntryLists → ℕ
entry_count lists = sum_by (λ (entries : Vec (ℕ × ℕ)). length entries.items) lists

-- each bucket of a window whose list has an entry is a number of 64 bits
abbrev pub AreSmall : ℕ → EntryLists → Type 0
AreSmall last lists = (b : ℕ) → IsBucketWithin last (length lists) b → 0 < length (entries_at lists (b % length lists)) → b < 2 ^ 64

pub record TakesNext (last : ℕ) (old new : EntryLists) (b : ℕ) (list : List (ℕ × ℕ)) : Type 0 where
  pub some_entry : 0 < length list
  pub window : IsBucketWithin last (length old) b
  pub taken : list ≡ entries_at old (b % length old)
  pub emptied : entries_at new (b % length old) ≡ []
  pub others : (q : ℕ) → q ≢ b % length old → entries_at new q ≡ entries_at old q
  pub least : (c : ℕ) → last ≤ c → c < b → entries_at old (c % length old) ≡ []

pub record TakesFirst (width : ℕ) (old new : EntryLists) (b : ℕ) (list : List (ℕ × ℕ)) : Type 0 where
  pub some_entry : 0 < length list
  pub taken : list ≡ entries_at old (b % length old)
  pub emptied : entries_at new (b % length old) ≡ []
  pub others : (q : ℕ) → q ≢ b % length old → entries_at new q ≡ entries_at old q
  pub within : (e : ℕ × ℕ) → Contains list e → e.1 / width ≡ b
  pub least : (p : ℕ) (e : ℕ × ℕ) → Contains (entries_at old p) e → b ≤ e.1 / width

pub record IsFresh (delta last : ℕ) (lists : EntryLists) (width size : ℕ) : Type 0 where
  pub wide : delta ≡ width
  pub first : last ≡ 0
  pub enough : size ≤ length lists
  pub none : (p : ℕ) → entries_at lists p ≡ []
