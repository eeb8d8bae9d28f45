use Rattle.desk.proofs.Shelved.{new_of_shelf}
use Rattle.desk.proofs.handles.shelves.Shelf.keep.Goals as goal

pub put-requires : goal.put-requires
put-requires g c =
    new_of_shelf g.N.Naming.origin c.turn_to.new.self.groups c.args.glance.now.known.groups c.args.glance.now.view (record { source = c.args.source; distances = c.args.distances }) (c.turn_to.ensures.after c.if-not-turn_to.false) c.turn_to.ensures.view c.requires
