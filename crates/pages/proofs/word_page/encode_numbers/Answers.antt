use Rattle.pages.proofs.Places.{number_room}
use Rattle.pages.proofs.word_page.encode_numbers.Goals as goal

pub put_u32-requires : goal.put_u32-requires
put_u32-requires c = number_room c.loop-number.page c.args.numbers.now c.loop-number.number-index c.requires c.loop-number-test.true c.loop-number.invariant
