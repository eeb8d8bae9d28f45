use Rattle.std.proofs.Common.{◌≡◌, ◌++◌, take}
use Rattle.std.specs.List.{flat_map}
use Rattle.pages.specs.Spelling.{record_bytes}
use Rattle.pages.proofs.journal_page.put_records.Given as goal

abbrev pub invariant-loop-record : goal.invariant-loop-record
invariant-loop-record l = l.page ≡ l.initial.page ++ flat_map record_bytes (take l.record-index l.records)
