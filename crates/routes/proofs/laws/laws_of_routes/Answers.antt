use Rattle.routes.proofs.Backward.{IsKnownTo-row, route_is_as_long}
use Rattle.routes.proofs.laws.laws_of_routes.Goals as goal

pub returns : goal.returns
returns c = record { row = IsKnownTo-row; long = route_is_as_long }
