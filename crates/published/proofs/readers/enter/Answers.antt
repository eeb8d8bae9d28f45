use Rattle.std.proofs.Common.{refl}
use Rattle.history.proofs.Beginnings.{prefix_self}
use Rattle.published.proofs.Steps.{sees}
use Rattle.published.proofs.readers.enter.Goals as goal

pub enter_as-requires : goal.enter_as-requires
enter_as-requires c x = sees _ _ x x refl (prefix_self x.shown.groups)
