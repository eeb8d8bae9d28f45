use Rattle.roadnet.proofs.EndsKept.{ends_stay}
use Rattle.view_tests.proofs.viewing.legs_back.Goals as goal

pub numbered_back_after-requires-clause-ends : goal.numbered_back_after-requires-clause-ends
numbered_back_after-requires-clause-ends c = ends_stay c.in_ok-older.older c.in_ok-newer.newer c.one.result.now c.in_ok-newer.ensures.ok
