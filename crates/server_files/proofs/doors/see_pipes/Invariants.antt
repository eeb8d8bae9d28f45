use Rattle.words.specs.Pipes.{names_of, AreTold}
use Rattle.server_files.proofs.doors.see_pipes.Given as goal

-- each name so far was told to be one of a pipe
abbrev pub invariant-loop-number : goal.invariant-loop-number
invariant-loop-number g l = AreTold (g.P.TellsPipes.tells l.told) (names_of l.pipes) l.number
