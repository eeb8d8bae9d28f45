use Rattle.std.proofs.Common.{inl, refl}
use Rattle.history.proofs.histories.History.acknowledge.Goals as goal

pub put-requires-clause-room : goal.put-requires-clause-room
put-requires-clause-room c = inl refl
