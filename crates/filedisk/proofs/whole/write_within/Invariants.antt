use Rattle.std.proofs.Common.{◌≡◌, ◌≤◌, ◌-◌, ℕ, length, take}
use Rattle.std.specs.Prelude.{◌↔◌}
use Rattle.disk.specs.Contents.{overwritten, AreAmong}
use Rattle.filedisk.specs.Files.{Tears}
use Rattle.filedisk.specs.Whole.{WritesPieces}
use Rattle.filedisk.proofs.whole.write_within.Given as goal

abbrev pub invariant-loop-written : goal.invariant-loop-written
invariant-loop-written g l = record {
  within : l.written ≤ length l.bytes;
  made : (pieces : ℕ) × WritesPieces l.at l.bytes (g.F.RawFile.calls l.initial.file) pieces l.written (g.F.RawFile.calls l.file);
  content : g.F.RawFile.honest l.initial.file → g.F.RawFile.content l.file ≡ overwritten (g.F.RawFile.content l.initial.file) l.at (take l.written l.bytes);
  tears : g.F.RawFile.honest l.initial.file → Tears l.at (length l.bytes) g.F.RawFile.content g.F.RawFile.left g.F.RawFile.moment g.F.RawFile.left_since l.initial.file l.file;
  keeps : g.F.RawFile.honest l.initial.file → AreAmong (g.F.RawFile.left l.initial.file) (g.F.RawFile.left l.file);
  honest : g.F.RawFile.honest l.file ↔ g.F.RawFile.honest l.initial.file;
}

abbrev pub decreases-loop-written : goal.decreases-loop-written
decreases-loop-written g l = length l.bytes - l.written
