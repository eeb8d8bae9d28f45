use Rattle.roadnet.proofs.TakenBack.{put_back}
use Rattle.roadnet.proofs.undoing.replace_arc.Goals as goal

pub returns-clause-back : goal.returns-clause-back
returns-clause-back c = rw c.in_ok-push.ensures.items (put_back c.args.notes.now.items c.args.arcs.now.items c.args.place c.args.arc c.index-was.result.now c.index-was.ensures)
