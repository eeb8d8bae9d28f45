use Rattle.printing.proofs.Together.{puts_both}
use Rattle.printing.proofs.exports.put_network.Goals as goal

pub returns-clause-puts : goal.returns-clause-puts
returns-clause-puts g c =
    let r = c.put_arc_rows.result in
    let first = rw c.room.ensures.value at c.in_ok-put_heading.ensures.puts in
    let second = rw (c.nodes.ensures.value, c.arcs.ensures.value) at c.in_ok-put_counts.ensures in
    puts_both _ _ r _ _ _ _ _ first (puts_both _ _ r _ _ _ _ _ second (rw c.arcs-2.ensures.value at c.put_arc_rows.ensures))
