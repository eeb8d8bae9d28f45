use Rattle.std.proofs.Common.{◌≡◌, ◌≤◌, ◌-◌, ◌+◌, ◌++◌, ℕ, length, take, drop}
use Rattle.std.specs.Prelude.{◌↔◌, slice_range}
use Rattle.filedisk.specs.Files.{Unchanged}
use Rattle.filedisk.specs.Whole.{ReadsPieces}
use Rattle.filedisk.proofs.whole.read_whole.Given as goal

abbrev pub invariant-loop-filled : goal.invariant-loop-filled
invariant-loop-filled g l = record {
  within : l.filled ≤ length l.into;
  made : (pieces : ℕ) × ReadsPieces l.at (length l.initial.into) (g.F.RawFile.calls l.initial.file) pieces (take l.filled l.into) (g.F.RawFile.calls l.file);
  same_length : length l.into ≡ length l.initial.into;
  bytes : g.F.RawFile.honest l.initial.file → l.into ≡ slice_range (g.F.RawFile.content l.initial.file) l.at (l.at + l.filled) ++ drop l.filled l.initial.into;
  same : g.F.RawFile.honest l.initial.file → Unchanged g.F.RawFile.content g.F.RawFile.left g.F.RawFile.moment g.F.RawFile.left_since l.initial.file l.file;
  honest : g.F.RawFile.honest l.file ↔ g.F.RawFile.honest l.initial.file;
}

abbrev pub decreases-loop-filled : goal.decreases-loop-filled
decreases-loop-filled g l = length l.into - l.filled
