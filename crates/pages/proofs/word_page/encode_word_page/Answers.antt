use Rattle.pages.proofs.Places.{word_room}
use Rattle.pages.proofs.word_page.encode_word_page.Goals as goal

pub put_u32-requires : goal.put_u32-requires
put_u32-requires c = word_room c.loop-arc.page c.args.arcs.now c.loop-arc.arc-index c.requires.count c.loop-arc-test.true c.loop-arc.invariant
