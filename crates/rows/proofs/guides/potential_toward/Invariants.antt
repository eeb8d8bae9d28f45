use Rattle.std.proofs.Common.{◌≡◌, take}
use Rattle.rows.specs.Guides.{potential_toward}
use Rattle.rows.proofs.guides.potential_toward.Given as goal

-- the greatest so far
abbrev pub invariant-loop-toward : goal.invariant-loop-toward
invariant-loop-toward l = l.potential ≡ potential_toward (take l.toward-index l.towards) l.node
