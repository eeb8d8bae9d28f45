use Rattle.std.proofs.Common.{◌∙◌, ◌++◌, [], ap}
use Rattle.std.specs.Prelude.{codes}
use Rattle.byteorder.specs.Endian.{big_bytes}
use Rattle.pages.specs.Formats.{format_number_of, room_field}
use Rattle.pages.specs.Spelling.{page_of}
use Rattle.pages.proofs.Padding.{then_put, then_put_as}
use Rattle.pages.proofs.header.encode_header.Goals as goal

pub returns : goal.returns
returns c =
    let h = c.args.header.now in
    let magic = codes "ROADMRK1" in
    let format = big_bytes 4 (format_number_of h.format) in
    let e0 = then_put [] magic c.put_bytes.ensures c.new-page.ensures in
    let e1 = then_put_as magic (big_bytes 4 c.number.result) format c.put_u32.ensures e0 (ap (big_bytes 4) c.number.ensures) in
    let e2 = then_put (magic ++ format) (big_bytes 4 h.nodes) c.put_u32-2.ensures e1 in
    let e3 = then_put (magic ++ format ++ big_bytes 4 h.nodes) (big_bytes 4 h.arcs) c.put_u32-3.ensures e2 in
    let e4 = then_put (magic ++ format ++ big_bytes 4 h.nodes ++ big_bytes 4 h.arcs) (big_bytes 4 h.journal_pages) c.put_u32-4.ensures e3 in
    let e5 = then_put_as (magic ++ format ++ big_bytes 4 h.nodes ++ big_bytes 4 h.arcs ++ big_bytes 4 h.journal_pages) (big_bytes 4 c.room_field.result) (big_bytes 4 (room_field h.format h.room)) c.put_u32-5.ensures e4 (ap (big_bytes 4) c.room_field.ensures) in
    c.finish.ensures ∙ ap page_of e5
