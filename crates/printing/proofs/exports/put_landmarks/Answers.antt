use Rattle.printing.proofs.Together.{puts_both}
use Rattle.printing.proofs.exports.put_landmarks.Goals as goal

pub returns-clause-puts : goal.returns-clause-puts
returns-clause-puts g c =
    let r = c.put_landmark_rows.result in
    let first = rw c.room.ensures.value at c.in_ok-put_heading.ensures.puts in
    let second = rw c.landmarks.ensures.value at c.in_ok-put_count.ensures in
    puts_both _ _ r _ _ _ _ _ first (puts_both _ _ r _ _ _ _ _ second (rw c.landmarks-2.ensures.value at c.put_landmark_rows.ensures))
