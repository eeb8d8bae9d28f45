use Rattle.roadnet.proofs.EndsKept.{ends_stay}
use Rattle.network_tests.proofs.changing.changed_by.Goals as goal

pub brought-requires-clause-ends : goal.brought-requires-clause-ends
brought-requires-clause-ends c = ends_stay c.in_ok-older.older c.in_ok-newer.newer c.one.result.now c.in_ok-newer.ensures.ok
