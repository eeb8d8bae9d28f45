use Rattle.std.proofs.Common.{sym, subst}
use Rattle.roadnet.specs.Outlines.{IsOutline}
use Rattle.keeper.proofs.ledger.offices.accept_into.Goals as goal

pub take_back-requires : goal.take_back-requires
take_back-requires c = subst IsOutline (sym c.in_ok-landmarks.ensures.back) c.requires.outline
