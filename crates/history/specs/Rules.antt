-- The rule of a history's book, and what its steps tell.
use Rattle.std.specs.Prelude.{ℕ, ◌≡◌, ◌≢◌, ◌<◌, true, List, [], ◌∷◌, ◌++◌, length, All}
use Rattle.logbook.specs.Pages.{Cell, cell, Book, Named}
use Rattle.history.specs.declared.entries.Link.{Link}
use Rattle.history.specs.Chains.{pen_of}

-- the cell of this key is at home
abbrev pub IsHome : List Cell → ℕ → Type 0
IsHome cells key = (key < length cells) × ((cell cells key).1 ≡ true)

-- The word is there, and so is the pen of each entry: it was given up for it.
pub record IsLogKept (cells : List Cell) (log : List Link) : Type 0 where
  pub word : IsHome cells 0
  pub pens : All (λ link. IsHome cells (pen_of link)) log

abbrev pub book_head_of : Book → Named
book_head_of b = record { tracked = true; key = 0; book = b }

-- the link stands behind all of the old log, and behind links of other pens
pub record WritesBehind (old : List Link) (link : Link) (new : List Link) : Type 0 where
  pub others : List Link
  pub log_is : new ≡ old ++ (others ++ link ∷ [])
  pub apart : All (λ other. pen_of other ≢ pen_of link) others
