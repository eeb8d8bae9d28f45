use Rattle.std.proofs.Common.{◌≡◌, None, Some, refl, subst}
use Rattle.std.proofs.lemmas.Bool.{OnTrue_at}
use Rattle.relax.specs.Values.{value_at}
use Rattle.deltastep.specs.Reach.{IsLeastLength}
use Rattle.roadnet.specs.Walks.{Least}
use Rattle.routes.specs.Paths.{IsWay}
use Rattle.routes.proofs.Backward.{told_way}
use Rattle.routes.proofs.paths.route_led.Goals as goal

pub returns-in_default : goal.returns-in_default
returns-in_default g c =
    let none : value_at (g.V.Known.values c.args.values.now) c.args.target ≡ None = cc c.in_default.ensures in
    subst (IsLeastLength c.args.network.now c.args.source c.args.target) none c.requires.distance

pub way_back-requires-clause-there : goal.way_back-requires-clause-there
way_back-requires-clause-there g c = cc c.in-Some.ensures

pub returns : goal.returns
returns g c =
    let net = c.args.network.now in
    let values = g.V.Known.values c.args.values.now in
    let there : value_at values c.args.target ≡ Some c.in-Some.length = cc c.in-Some.ensures in
    let least : Least net c.args.source c.args.target c.in-Some.length = subst (IsLeastLength net c.args.source c.args.target) there c.requires.distance in
    let way : IsWay net values c.args.source c.args.target c.in-Some.length c.in_ok-arcs.arcs.items = rw (c.in_ok-arcs.ensures, c.deref.ensures.value) (rw c.in-Some-2.is at c.in_ok-steps.ensures.way) in
    told_way net values c.args.source c.args.target c.in-Some.length (record { length = c.in-Some.length; arcs = c.in_ok-arcs.arcs }) way (OnTrue_at c.if-not-is_at_zero.false c.is_at_zero.ensures) least refl
