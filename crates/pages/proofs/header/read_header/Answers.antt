use Rattle.std.proofs.Common.{◌∙◌, ap, arith}
use Rattle.byteorder.specs.Endian.{big_number}
use Rattle.std.proofs.lemmas.Slice.{between_to_end}
use Rattle.pages.specs.Formats.{format_numbered}
use Rattle.pages.specs.Reading.{read_header}
use Rattle.pages.proofs.Headers.{same, room_same}
use Rattle.pages.proofs.header.read_header.Goals as goal

pub returns : goal.returns
returns c =
    let page = c.args.page.now in
    let number = c.read_u32-number.ensures ∙ ap (big_number 4) (between_to_end page 8 4096 (omega arith)) in
    let arcs = c.read_u32-arcs.ensures ∙ ap (big_number 4) (between_to_end page 16 4096 (omega arith)) in
    let field = c.read_u32-field.ensures ∙ ap (big_number 4) (between_to_end page 24 4096 (omega arith)) in
    let format = c.numbered-format.ensures ∙ ap format_numbered number in
    same (read_header page) _ _ _ _ _ format
    (c.read_u32-nodes.ensures ∙ ap (big_number 4) (between_to_end page 12 4096 (omega arith)))
    arcs
    (c.room_read.ensures ∙ room_same _ _ _ _ _ _ format arcs field)
    (c.read_u32-journal_pages.ensures ∙ ap (big_number 4) (between_to_end page 20 4096 (omega arith)))
