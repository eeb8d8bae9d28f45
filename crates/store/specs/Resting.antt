-- A store's disk between two calls.
use Rattle.std.specs.Prelude.{◌≡◌, ℕ, ◌*◌, List, length}
use Rattle.disk.specs.Contents.{Only}
use Rattle.pages.specs.declared.header.Header.{Header}
use Rattle.pages.specs.Layout.{page_count}
use Rattle.pages.specs.Limits.{page_size}

-- a stop leaves the content and nothing else, and it has the pages of this header
abbrev pub IsAtRest : List ℕ → (List ℕ → Type 0) → Header → Type 0
IsAtRest content left header = Only content left × (length content ≡ page_size * page_count header)
