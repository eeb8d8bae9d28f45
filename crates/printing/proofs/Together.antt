-- What two calls write, one behind the other.
use Rattle.std.proofs.Common.{◌∙◌, ℕ, List, ◌++◌, Option, Ok, Err, Result, subst}
use Rattle.std.specs.Prelude.{OnOk}
use Rattle.std.specs.Io.KnownBytes.{Appends}
use Rattle.std.proofs.KnownBytes.{Appends-trans}
use Rattle.printing.specs.Counting.{failed_writes, writer_of, CountsFailure}
use Rattle.printing.specs.Writers.{Puts}
use Rattle.printing.specs.declared.failed.Failed.{Failed}
use Rattle.printing.specs.declared.writer.CountedWriter.{CountedWriter}

two_parts : {X E : Type 0} (r : Result X E) (old mid new : Option (List ℕ)) (first rest : List ℕ) → Appends old mid first → OnOk r (Appends mid new rest) → OnOk r (Appends old new (first ++ rest))
two_parts (Ok x) old mid new first rest a b = Appends-trans old mid new first rest a b
two_parts (Err e) old mid new first rest a b = tt

pub puts_both : {W X Y : Type 0} (contents : W → Option (List ℕ)) (x : X) (r : Result Y Failed) (old mid new : CountedWriter W) (first rest : List ℕ)
    → Puts contents first (Ok x) old mid → Puts contents rest r mid new → Puts contents (first ++ rest) r old new
puts_both contents x r old mid new first rest a b = record {
  written = two_parts r (contents (writer_of old)) (contents (writer_of mid)) (contents (writer_of new)) first rest a.written b.written;
  refused = b.refused;
  counts = subst (λ (n : ℕ). CountsFailure n (failed_writes new) r) a.counts b.counts;
  same = b.same ∙ a.same;
}
