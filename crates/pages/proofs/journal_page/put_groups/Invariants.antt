use Rattle.std.proofs.Common.{◌≡◌, ◌++◌, take}
use Rattle.std.specs.List.{flat_map}
use Rattle.pages.specs.Grouping.{records_in}
use Rattle.pages.specs.Spelling.{record_bytes}
use Rattle.pages.proofs.journal_page.put_groups.Given as goal

abbrev pub invariant-loop-group : goal.invariant-loop-group
invariant-loop-group l = l.page ≡ l.initial.page ++ flat_map record_bytes (records_in (take l.group-index l.groups))
