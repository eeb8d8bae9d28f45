use Rattle.std.proofs.Common.{◌≡◌, ◌++◌, take}
use Rattle.std.specs.List.{flat_map}
use Rattle.pages.specs.Grouping.{records_of}
use Rattle.pages.specs.Spelling.{record_bytes}
use Rattle.pages.proofs.journal_page.put_group.Given as goal

abbrev pub invariant-loop-i : goal.invariant-loop-i
invariant-loop-i l = l.page ≡ l.initial.page ++ flat_map record_bytes (take l.i (records_of l.commands))
