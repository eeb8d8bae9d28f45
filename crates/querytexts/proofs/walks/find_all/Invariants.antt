use Rattle.std.proofs.Common.{take}
use Rattle.querytexts.specs.Route.{AreRightRoutes}
use Rattle.querytexts.proofs.walks.find_all.Given as goal

abbrev pub invariant-loop-pair : goal.invariant-loop-pair
invariant-loop-pair g l = AreRightRoutes l.network (take l.pair-index l.pairs) l.replies.items
