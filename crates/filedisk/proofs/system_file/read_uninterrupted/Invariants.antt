use Rattle.std.proofs.Common.{◌-◌, ◌≡◌, ◌≤◌, ◌++◌, length, replicate}
use Rattle.std.specs.declared.io.ErrorKind.TheVariants.{Interrupted}
use Rattle.filedisk.specs.Noted.{Read, Failed}
use Rattle.filedisk.proofs.system_file.read_uninterrupted.Given as goal

abbrev pub invariant-loop-tries : goal.invariant-loop-tries
invariant-loop-tries l = record {
  within : l.tries ≤ 1000000;
  same_length : length l.into ≡ length l.initial.into;
  tried : l.file.notes.calls ≡ replicate l.tries (Read l.at (length l.initial.into), Failed Interrupted) ++ l.initial.file.notes.calls;
}

abbrev pub decreases-loop-tries : goal.decreases-loop-tries
decreases-loop-tries l = 1000000 - l.tries
