-- What a run comes to whose life was halted, and resumed.
use Rattle.std.proofs.Common.{◌≡◌, ℕ, Option, Result, Ok, Err, ◌∙◌}
use Rattle.disk.specs.declared.disk.Disk.{Ghosts}
use Rattle.disk.specs.declared.stoppable.Stoppable.{Ghosts as StoppableGhosts}
use Rattle.lives.specs.declared.rehearsing.Rehearsal.{Rehearsal}
use Rattle.lives.specs.declared.rehearsing.Run.{Run}
use Rattle.lives.specs.Running.{GoesOrEnds}

-- the same width, and a disk that is sound where another is
pub goes_as : {D : Type 0} {s : StoppableGhosts D} {d : Ghosts D} (r : Result (Run D s d) (Rehearsal D)) (delta delta' : Option ℕ) (sound sound' : Type 0) → delta ≡ delta' → (sound' → sound) → GoesOrEnds delta sound r → GoesOrEnds delta' sound' r
goes_as (Ok run) delta delta' sound sound' same there h = record { room = h.room; delta_is = h.delta_is ∙ same; early = h.early; causes = h.causes; honest = λ is. tt }
goes_as (Err ended) delta delta' sound sound' same there h = record { room = h.room; delta_is = h.delta_is ∙ same; early = h.early; causes = h.causes; honest = λ is. h.honest (there is) }
