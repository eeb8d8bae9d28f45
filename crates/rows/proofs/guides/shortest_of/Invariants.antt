use Rattle.std.proofs.Common.{◌≤◌, All, length, take}
use Rattle.rows.specs.declared.guides.Toward.{Toward}
use Rattle.rows.proofs.guides.shortest_of.Given as goal

-- the least length so far
abbrev pub invariant-loop-toward : goal.invariant-loop-toward
invariant-loop-toward l = All (λ (toward : Toward). l.shortest ≤ length toward.words) (take l.toward-index l.towards)
