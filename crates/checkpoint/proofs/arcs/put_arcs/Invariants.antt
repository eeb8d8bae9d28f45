use Rattle.std.proofs.Common.{◌≡◌, ◌++◌, take}
use Rattle.std.specs.Prelude.{map}
use Rattle.pages.specs.Spelling.{ends_of}
use Rattle.checkpoint.proofs.arcs.put_arcs.Given as goal

abbrev pub invariant-loop-e : goal.invariant-loop-e
invariant-loop-e l = map ends_of l.arcs.items ≡ map ends_of l.initial.arcs.items ++ take l.e-index l.ends
