use Rattle.std.proofs.Common.{◌≡◌, ◌≤◌, take}
use Rattle.pages.specs.Grouping.{ends_in}
use Rattle.pages.proofs.journal_page.count_groups.Given as goal

abbrev pub invariant-loop-record : goal.invariant-loop-record
invariant-loop-record l = record { so_far : l.count ≡ ends_in (take l.record-index l.records); few : l.count ≤ l.record-index }
