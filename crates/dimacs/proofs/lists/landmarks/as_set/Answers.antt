use Rattle.std.proofs.Common.{◌≡◌}
use Rattle.roadnet.specs.Members.{set_of}
use Rattle.dimacs.proofs.Sets.{set_from_sorted, set_is_ascending}
use Rattle.dimacs.proofs.lists.landmarks.as_set.Goals as goal

pub returns : goal.returns
returns c =
    let is : c.dedup.new.self.items ≡ set_of c.args.nodes.items = set_from_sorted _ _ _ c.sort_unstable.ensures.permutation c.sort_unstable.ensures.sorted c.dedup.ensures.filtered in
    record { set = is; ascending = set_is_ascending c.args.nodes.items _ is }
