use Rattle.roadnet.proofs.TakenBack.{taken_away}
use Rattle.roadnet.proofs.undoing.add_arc.Goals as goal

pub returns-clause-back : goal.returns-clause-back
returns-clause-back c = rw (c.push_reserved.ensures.items, c.in_ok-push.ensures.items, c.reserve.ensures.items) (taken_away c.args.notes.now.items c.args.arcs.now.items c.args.arc)
