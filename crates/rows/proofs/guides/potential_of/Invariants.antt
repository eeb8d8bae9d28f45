use Rattle.std.proofs.Common.{◌≡◌, take}
use Rattle.rows.specs.Guides.{potential_of}
use Rattle.rows.proofs.guides.potential_of.Given as goal

-- the potential by the rows so far
abbrev pub invariant-loop-row : goal.invariant-loop-row
invariant-loop-row l = l.potential ≡ potential_of (take l.row-index l.rows) l.target l.node
