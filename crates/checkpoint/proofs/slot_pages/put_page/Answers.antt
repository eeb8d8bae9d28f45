use Rattle.std.proofs.Common.{◌≡◌, ◌+◌, ◌-◌, ◌*◌, length, ap, arith}
use Rattle.checkpoint.proofs.SlotPages.{page_put}
use Rattle.checkpoint.proofs.slot_pages.put_page.Goals as goal

pub returns-clause-put : goal.returns-clause-put
returns-clause-put c =
    let size : length c.args.bytes.now ≡ 4096 = omega (arith, ap length c.copy_from_slice.ensures.after) in
    (page_put c.args.i (4096 * c.args.i + 4096 - 4096 * c.args.i) c.args.buffer.now c.copy_from_slice.new.self c.args.bytes.now (omega arith) (omega arith) c.copy_from_slice.ensures.after size).here

pub returns-clause-others : goal.returns-clause-others
returns-clause-others c =
    let size : length c.args.bytes.now ≡ 4096 = omega (arith, ap length c.copy_from_slice.ensures.after) in
    (page_put c.args.i (4096 * c.args.i + 4096 - 4096 * c.args.i) c.args.buffer.now c.copy_from_slice.new.self c.args.bytes.now (omega arith) (omega arith) c.copy_from_slice.ensures.after size).others
