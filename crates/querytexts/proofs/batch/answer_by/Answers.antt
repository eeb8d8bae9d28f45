use Rattle.std.proofs.Common.{◌≡◌, length, rules}
use Rattle.std.proofs.lemmas.Slice.Zip.{AllZip-long}
use Rattle.querytexts.proofs.batch.answer_by.Goals as goal

pub put_answers-requires : goal.put_answers-requires
put_answers-requires g c =
    let long : length c.in-Ok.replies.items ≡ length c.args.pairs.now = AllZip-long _ c.args.pairs.now c.in-Ok.replies.items c.in-Ok.ensures.right in
    search (rules, long)
