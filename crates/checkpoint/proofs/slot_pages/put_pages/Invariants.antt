use Rattle.std.proofs.Common.{◌≡◌, ℕ, ◌+◌, ◌<◌, length}
use Rattle.storefile.specs.StoreFile.{page}
use Rattle.checkpoint.specs.Writing.{slot_page}
use Rattle.checkpoint.proofs.slot_pages.put_pages.Given as goal

abbrev pub invariant-loop-i : goal.invariant-loop-i
invariant-loop-i l = record {
  put : (j : ℕ) → j < l.i → page l.buffer j ≡ slot_page l.header l.network (l.first + j);
  size : length l.buffer ≡ length l.fn.buffer;
}
