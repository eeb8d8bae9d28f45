use Rattle.std.proofs.Common.{◌≡◌, take, fold}
use Rattle.roadnet.specs.Batches.{changed_arcs}
use Rattle.roadnet.specs.Groups.{commands_of}
use Rattle.roadnet.specs.Undoing.{restored}
use Rattle.roadnet.proofs.undoing.change_all.Given as goal

abbrev pub invariant-loop-group : goal.invariant-loop-group
invariant-loop-group l =
    (l.arcs.items ≡ fold changed_arcs l.fn.arcs.items (commands_of (take l.group-index l.groups))) × (restored l.notes.items l.arcs.items ≡ restored l.fn.notes.items l.fn.arcs.items)
