use Rattle.printing.proofs.Together.{puts_both}
use Rattle.printing.proofs.exports.put_closings.Goals as goal

pub returns-clause-puts : goal.returns-clause-puts
returns-clause-puts g c =
    puts_both _ _ c.put_closing_rows.result _ _ _ _ _ (rw c.room.ensures.value at c.in_ok-put_heading.ensures.puts) (rw c.arcs.ensures.value at c.put_closing_rows.ensures)
