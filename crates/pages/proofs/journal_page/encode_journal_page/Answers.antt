use Rattle.std.proofs.Common.{◌≡◌, ◌∙◌, ℕ, [], ap, sym, length, arith}
use Rattle.std.specs.List.{flat_map}
use Rattle.pages.specs.Grouping.{records_in}
use Rattle.pages.specs.Spelling.{front_bytes, record_bytes, page_of}
use Rattle.pages.proofs.Padding.{then_put, then_put_as}
use Rattle.pages.proofs.Grouped.{length-records_in}
use Rattle.pages.proofs.Entries.{length-front}
use Rattle.pages.proofs.journal_page.encode_journal_page.Goals as goal

pub put_groups-requires-clause-room : goal.put_groups-requires-clause-room
put_groups-requires-clause-room c =
    let size : length c.put_front.new.page ≡ 32 = ap length (then_put [] (front_bytes c.args.sequence c.args.first_number c.count_commands.result) c.put_front.ensures c.new-page.ensures) ∙ length-front c.args.sequence c.args.first_number c.count_commands.result in
    omega arith

pub returns : goal.returns
returns c =
    let front = front_bytes c.args.sequence c.args.first_number (length (records_in c.args.groups.now)) in
    let count : c.count_commands.result ≡ length (records_in c.args.groups.now) = c.count_commands.ensures ∙ sym (length-records_in c.args.groups.now) in
    c.finish.ensures
    ∙ ap page_of (then_put front (flat_map record_bytes (records_in c.args.groups.now)) c.put_groups.ensures
    (then_put_as [] (front_bytes c.args.sequence c.args.first_number c.count_commands.result) front c.put_front.ensures c.new-page.ensures (ap (λ (n : ℕ). front_bytes c.args.sequence c.args.first_number n) count)))
