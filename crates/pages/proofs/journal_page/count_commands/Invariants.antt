use Rattle.std.proofs.Common.{◌≡◌, take}
use Rattle.roadnet.specs.Groups.{count_of}
use Rattle.pages.proofs.journal_page.count_commands.Given as goal

abbrev pub invariant-loop-group : goal.invariant-loop-group
invariant-loop-group l = l.count ≡ count_of (take l.group-index l.groups)
