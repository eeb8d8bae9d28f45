-- What a call does to a writer that counts its failed calls, in one word each.
use Rattle.std.specs.Prelude.{◌≡◌, ℕ, List, Option, Result, OnOk, IfErr}
use Rattle.std.specs.Io.KnownBytes.{Appends}
use Rattle.roadnet.specs.declared.refusals.Refusal.TheVariants.{Write}
use Rattle.printing.specs.Counting.{failed_writes, writer_of, IsSameWriter, CountsFailure}
use Rattle.printing.specs.Failing.{CountsWrites}
use Rattle.printing.specs.declared.writer.CountedWriter.{CountedWriter}
use Rattle.printing.specs.declared.failed.Failed.{Failed}
use Rattle.printing.specs.declared.failed.Failed.TheVariants.{Code}

-- It stays the same writer, and its count rises where 12 is told, and only there.
pub record KeepsWriter {W X : Type 0} (result : Result X Failed) (old new : CountedWriter W) : Type 0 where
  pub writes : CountsWrites (failed_writes old) (failed_writes new) result
  pub same : IsSameWriter old new

-- It stays the same writer, and nothing but a failed write is told, 12, which is counted.
pub record OnlyWriterFails {W X : Type 0} (result : Result X Failed) (old new : CountedWriter W) : Type 0 where
  pub refused : IfErr result (λ failed. failed ≡ Code Write)
  pub counts : CountsFailure (failed_writes old) (failed_writes new) result
  pub same : IsSameWriter old new

-- The same, and where no write fails these bytes are written, and nothing else.
pub record Puts {W X : Type 0} (contents : W → Option (List ℕ)) (text : List ℕ) (result : Result X Failed) (old new : CountedWriter W) : Type 0 where
  pub written : OnOk result (Appends (contents (writer_of old)) (contents (writer_of new)) text)
  pub refused : IfErr result (λ failed. failed ≡ Code Write)
  pub counts : CountsFailure (failed_writes old) (failed_writes new) result
  pub same : IsSameWriter old new
