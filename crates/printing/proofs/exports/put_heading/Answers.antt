use Rattle.printing.proofs.Together.{puts_both}
use Rattle.printing.proofs.exports.put_heading.Goals as goal

pub returns-clause-puts : goal.returns-clause-puts
returns-clause-puts g c =
    let r = c.put_numbered.result in
    let room = rw c.from.ensures at c.in_ok-put_part-2.ensures in
    let pages = rw c.from-2.ensures at c.put_numbered.ensures in
    puts_both _ _ r _ _ _ _ _ c.in_ok-write_all.ensures (puts_both _ _ r _ _ _ _ _ c.in_ok-put_part.ensures (puts_both _ _ r _ _ _ _ _ room pages))
