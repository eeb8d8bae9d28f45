use Rattle.std.proofs.Common.{◌≡◌, ◌++◌, take}
use Rattle.words.proofs.pipes.joined.Given as goal

-- the names, and behind them the others so far
abbrev pub invariant-loop-name : goal.invariant-loop-name
invariant-loop-name l = l.joined.items ≡ l.names ++ take l.name-index l.others
