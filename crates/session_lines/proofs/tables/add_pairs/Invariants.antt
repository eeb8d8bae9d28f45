use Rattle.std.proofs.Common.{◌≡◌, ◌++◌, map, take}
use Rattle.session_lines.proofs.tables.add_pairs.Given as goal

abbrev pub invariant-loop-target : goal.invariant-loop-target
invariant-loop-target l = l.pairs.items ≡ l.initial.pairs.items ++ map (λ target. (l.source, target)) (take l.target-index l.targets)
