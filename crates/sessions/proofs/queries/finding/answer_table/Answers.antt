use Rattle.std.proofs.Common.{◌≡◌, length, rules}
use Rattle.std.proofs.lemmas.Slice.Zip.{AllZip-long}
use Rattle.sessions.proofs.Answered.{no_table_found, table_found}
use Rattle.sessions.proofs.Said.{puts_so}
use Rattle.sessions.proofs.queries.finding.answer_table.Goals as goal

pub tell_pairs-requires : goal.tell_pairs-requires
tell_pairs-requires g c =
    let right = rw c.in-Ok.is at c.table_at-version.ensures.right in
    let long : length c.in-Ok.replies.items ≡ length c.args.pairs.now = AllZip-long _ c.args.pairs.now c.in-Ok.replies.items right in
    search (rules, long)

pub returns-in-Ok : goal.returns-in-Ok
returns-in-Ok g c = puts_so g.W.Write.contents _ _ c.tell_pairs.result _ _ (table_found c.args.pairs.now c.args.glance.view _ _ (search rules) (search rules) (search rules)) c.tell_pairs.ensures

pub returns-in-Err : goal.returns-in-Err
returns-in-Err g c = puts_so g.W.Write.contents _ _ c.tell_untold.result _ _ (no_table_found c.args.pairs.now c.args.glance.view _ c.in-Err.refusal (search rules) (search rules)) c.tell_untold.ensures
