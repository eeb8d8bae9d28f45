use Rattle.std.proofs.Common.{◌≡◌, take, fold}
use Rattle.roadnet.specs.Batches.{changed_arcs}
use Rattle.roadnet.specs.Undoing.{restored}
use Rattle.roadnet.proofs.undoing.change_arcs.Given as goal

abbrev pub invariant-loop-command : goal.invariant-loop-command
invariant-loop-command l =
    (l.arcs.items ≡ fold changed_arcs l.fn.arcs.items (take l.command-index l.commands)) × (restored l.notes.items l.arcs.items ≡ restored l.fn.notes.items l.fn.arcs.items)
