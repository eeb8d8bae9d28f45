use Rattle.std.proofs.Common.{◌-◌, ◌≡◌, ◌≤◌, ◌++◌, replicate}
use Rattle.std.specs.declared.io.ErrorKind.TheVariants.{Interrupted}
use Rattle.filedisk.specs.Noted.{Write, Failed}
use Rattle.filedisk.proofs.system_file.write_uninterrupted.Given as goal

abbrev pub invariant-loop-tries : goal.invariant-loop-tries
invariant-loop-tries l = record {
  within : l.tries ≤ 1000000;
  tried : l.file.notes.calls ≡ replicate l.tries (Write l.at l.bytes, Failed Interrupted) ++ l.initial.file.notes.calls;
}

abbrev pub decreases-loop-tries : goal.decreases-loop-tries
decreases-loop-tries l = 1000000 - l.tries
