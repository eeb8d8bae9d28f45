use Rattle.std.proofs.Common.{◌≡◌, length, rules}
use Rattle.std.proofs.lemmas.Slice.Zip.{AllZip-long}
use Rattle.session_lines.specs.Listings.{sources_of, targets_of}
use Rattle.sessions.proofs.Said.{puts_so}
use Rattle.sessions.proofs.Supposed.{found_table, found_no_table}
use Rattle.sessions.proofs.queries.around.table_supposed.Goals as goal

pub tell_pairs-requires : goal.tell_pairs-requires
tell_pairs-requires g c =
    let long : length c.in-Ok.told.replies.items ≡ length c.in-Ok.told.pairs.items = AllZip-long _ c.in-Ok.told.pairs.items c.in-Ok.told.replies.items c.in-Ok.ensures.right in
    search (rules, long)

pub returns-in-Ok-clause-told : goal.returns-in-Ok-clause-told
returns-in-Ok-clause-told g c =
    puts_so g.W.Write.contents _ _ c.tell_pairs.result _ _
    (found_table _ (sources_of c.args.table.now) (targets_of c.args.table.now) c.version.result c.deref.result.now c.deref-in-Ok.result.now (search rules) (search rules) (search rules) (search rules))
    c.tell_pairs.ensures

pub returns-in-Err-clause-told : goal.returns-in-Err-clause-told
returns-in-Err-clause-told g c =
    puts_so g.W.Write.contents _ _ c.tell_untold.result _ _ (found_no_table _ (sources_of c.args.table.now) (targets_of c.args.table.now) c.version.result c.in-Err.refusal (search rules) (search rules)) c.tell_untold.ensures
