use Rattle.std.proofs.Common.{◌≡◌, ◌∙◌, [], ap, length, arith}
use Rattle.std.specs.List.{flat_map}
use Rattle.pages.specs.Spelling.{front_bytes, record_bytes, page_of}
use Rattle.pages.proofs.Padding.{then_put}
use Rattle.pages.proofs.Entries.{length-front}
use Rattle.pages.proofs.journal_page.encode_records.Goals as goal

pub put_records-requires-clause-room : goal.put_records-requires-clause-room
put_records-requires-clause-room c =
    let size : length c.put_front.new.page ≡ 32 = ap length (then_put [] (front_bytes c.args.sequence c.args.first_number (length c.args.records.now)) c.put_front.ensures c.new-page.ensures) ∙ length-front c.args.sequence c.args.first_number (length c.args.records.now) in
    omega arith

pub returns : goal.returns
returns c =
    let front = front_bytes c.args.sequence c.args.first_number (length c.args.records.now) in
    c.finish.ensures ∙ ap page_of (then_put front (flat_map record_bytes c.args.records.now) c.put_records.ensures (then_put [] front c.put_front.ensures c.new-page.ensures))
