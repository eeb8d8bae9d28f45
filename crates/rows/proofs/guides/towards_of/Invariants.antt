use Rattle.std.proofs.Common.{take}
use Rattle.rows.specs.Guides.{AreRowsAlike, leading}
use Rattle.rows.proofs.guides.towards_of.Given as goal

-- those that lead of the rows so far
abbrev pub invariant-loop-row : goal.invariant-loop-row
invariant-loop-row l = AreRowsAlike l.towards.items (leading l.least l.target l.source (take l.row-index l.rows)) l.target
