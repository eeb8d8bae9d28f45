-- Short names of the proofs.
use Rattle.std.proofs.Common.{ℕ, ◌+◌, List}
use Rattle.pages.specs.declared.header.Header.{Header}
use Rattle.pages.specs.declared.content.Slot.{Slot}
use Rattle.pages.specs.Contents.{Head, Entry}
use Rattle.pages.specs.Spelling.{body, header_page, head_page, entry_page, records_page}
use Rattle.pages.specs.declared.content.Format.{Format}
use Rattle.pages.specs.declared.content.Record.{Record}
use Rattle.pages.specs.Layout.{head_page_at, word_pages}

abbrev pub header_body : Header → List ℕ
header_body h = body (header_page h)

abbrev pub head_body : Format → Head → List ℕ
head_body f s = body (head_page f s)

abbrev pub entry_body : Entry → List ℕ
entry_body e = body (entry_page e)

abbrev pub records_body : ℕ → ℕ → List Record → List ℕ
records_body q n rs = body (records_page q n rs)

abbrev pub arc_page_at : ℕ → ℕ
arc_page_at i = 1 + i

abbrev pub word_page_at : Header → Slot → ℕ → ℕ
word_page_at h slot i = head_page_at h slot + 1 + i

abbrev pub end_page_at : Header → Slot → ℕ → ℕ
end_page_at h slot i = head_page_at h slot + 1 + word_pages h + i
