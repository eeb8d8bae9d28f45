use Rattle.std.proofs.Common.{◌∙◌, ap, arith}
use Rattle.byteorder.specs.Endian.{big_number}
use Rattle.std.proofs.lemmas.Slice.{between_to_end}
use Rattle.pages.proofs.slot_head.read_arcs.Goals as goal

pub returns-in-Two : goal.returns-in-Two
returns-in-Two c = rw c.in-Two.is (c.read_u32.ensures ∙ ap (big_number 4) (between_to_end c.args.page.now 28 4096 (omega arith)))
