use Rattle.std.proofs.Common.{◌∙◌, ap, arith}
use Rattle.std.proofs.lemmas.Slice.{between_to_end}
use Rattle.byteorder.specs.Endian.{big_number}
use Rattle.pages.proofs.header.format_of.Goals as goal

pub returns : goal.returns
returns c = c.read_u32.ensures ∙ ap (big_number 4) (between_to_end c.args.page.now 8 4096 (omega arith))
