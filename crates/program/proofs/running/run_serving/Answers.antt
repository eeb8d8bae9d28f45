-- The row workers of a job are those of its words, and so are its pipes.
use Rattle.std.proofs.Common.{List, ap, subst, sym, ◌∙◌}
use Rattle.words.specs.Words.{pipes_of, workers_of}
use Rattle.words.specs.Pipes.{ArePipesFit}
use Rattle.words.specs.declared.pipes.PipePair.{PipePair}
use Rattle.program.proofs.running.run_serving.Goals as goal

pub run_serve-requires-clause-pipes : goal.run_serve-requires-clause-pipes
run_serve-requires-clause-pipes g c κs outlives = subst (λ (l : List PipePair). ArePipesFit l) (ap pipes_of c.in-Serve.is ∙ sym c.as_slice.ensures.value) c.requires.pipes

pub run_serve-requires-clause-workers : goal.run_serve-requires-clause-workers
run_serve-requires-clause-workers g c κs outlives = c.requires.workers c.in-Serve.workers (ap workers_of c.in-Serve.is)
