-- What a call of opening does to its disk, in one word: for contracts of calls that read a store's file.
use Rattle.std.specs.Prelude.{◌≡◌, ◌↔◌, ℕ, ◌*◌, length, Result, IfErr}
use Rattle.disk.specs.declared.disk.Disk.{Ghosts}
use Rattle.disk.specs.Moments.{StaysSame}
use Rattle.roadnet.specs.declared.refusals.Refusal.{Refusal}
use Rattle.pages.specs.declared.header.Header.{Header}
use Rattle.pages.specs.Spelling.{IsHeader}
use Rattle.pages.specs.Layout.{page_count}
use Rattle.pages.specs.Limits.{page_size}
use Rattle.pagereader.specs.Outcomes.{failures_told, IsQuiet, MayEndOpening}

-- The disk has the file of a store with this header: over an honest disk it has as many pages as the header announces.
pub record HasFileOf {D : Type 0} (disk : Ghosts D) (h : Header) (d : D) : Type 0 where
  pub header : IsHeader h
  pub whole : disk.honest d → length (disk.content d) ≡ page_size * page_count h

-- The call reads alone, as `Reads` says, and may refuse as an opening may. The count of failures rises by one where 43 is told, and else not at all.
pub record ReadsToOpen {D T : Type 0} (disk : Ghosts D) (result : Result T Refusal) (old new : D) : Type 0 where
  pub causes : IfErr result MayEndOpening
  pub same : disk.honest old → StaysSame disk.content disk.left disk.moment disk.left_since old new
  pub counted : disk.failures new ≡ failures_told result (disk.failures old)
  pub honest : disk.honest new ↔ disk.honest old

-- The call judges what was read, and makes no call of the disk: it may refuse as an opening may, and tells no failure of the disk.
pub record JudgesToOpen {T : Type 0} (result : Result T Refusal) : Type 0 where
  pub causes : IfErr result MayEndOpening
  pub quiet : IsQuiet result
