use Rattle.desk.proofs.handles.handle.Handle.kept_reply.Goals as goal

pub returns-in-Some : goal.returns-in-Some
returns-in-Some g c node = c.distance_in.ensures c.args.glance.now.view.network c.args.source node c.in-Some.ensures.row
