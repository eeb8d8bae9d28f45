use Rattle.buckets.proofs.Standing.{AreFull-moved}
use Rattle.buckets.proofs.placed.PlacedLists.move_to.Goals as goal

pub invariant_of-self-2 : goal.invariant_of-self-2
invariant_of-self-2 c =
    let s = c.args.self.now in
    record {
      full = AreFull-moved s.lists.items c.relist.new.lists.items s.marks c.set.new.self c.insert.new.self c.args.from c.args.to c.args.node s.full c.relist.ensures.len c.set.ensures.limit c.insert.ensures.limit c.requires.apart c.in_ok-relist.ensures.added c.relist.ensures.others
          (λ is. c.has_nodes-left.ensures.0 (c.set.ensures.member.0 is), λ some. c.set.ensures.member.1 (c.has_nodes-left.ensures.1 some))
          c.set.ensures.others c.insert.ensures.member c.insert.ensures.others;
    }
