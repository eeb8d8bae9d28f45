use Rattle.routes.proofs.answers.led_route.Goals as goal

pub route_led-requires-clause-distance : goal.route_led-requires-clause-distance
route_led-requires-clause-distance c = rw c.network.ensures (rw c.in-Some.is at c.in_ok-values.ensures.distance)
