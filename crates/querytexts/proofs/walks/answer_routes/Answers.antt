use Rattle.std.proofs.Common.{◌≡◌, length, rules}
use Rattle.std.proofs.lemmas.Slice.Zip.{AllZip-long}
use Rattle.querytexts.proofs.walks.answer_routes.Goals as goal

pub put_all-requires : goal.put_all-requires
put_all-requires g c =
    let long : length c.in-Ok-find_all.replies.items ≡ length c.args.pairs.now = AllZip-long _ c.args.pairs.now c.in-Ok-find_all.replies.items c.in-Ok-find_all.ensures in
    search (rules, long)

pub returns-clause-answered : goal.returns-clause-answered
returns-clause-answered g c =
    let list : c.deref.result.now ≡ c.in-Ok-find_all.replies.items = search rules in
    let right = c.in-Ok-find_all.ensures in
    let written = c.in_ok-put_all.ensures.written in
    record { replies = c.in-Ok-find_all.replies.items; right = rw c.in-Ok.ensures at right; written = rw (c.in-Ok.ensures, list) at written }
