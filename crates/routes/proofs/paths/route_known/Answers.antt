use Rattle.std.proofs.Common.{◌≡◌, None, Some, le_refl, refl}
use Rattle.relax.specs.Values.{value_at}
use Rattle.routes.specs.Paths.{IsWay}
use Rattle.routes.proofs.Backward.{no_walk_there, starts_at_zero, told_way, up_to_there}
use Rattle.routes.proofs.paths.route_known.Goals as goal

pub returns-in_default : goal.returns-in_default
returns-in_default g c =
    let none : value_at (g.V.Known.values c.args.values.now) c.args.target ≡ None = cc c.in_default.ensures in
    no_walk_there c.args.network.now c.args.source c.args.target (g.V.Known.values c.args.values.now) c.requires.known none

pub way_back-requires-clause-there : goal.way_back-requires-clause-there
way_back-requires-clause-there g c = cc c.in-Some.ensures

pub returns : goal.returns
returns g c =
    let net = c.args.network.now in
    let values = g.V.Known.values c.args.values.now in
    let there : value_at values c.args.target ≡ Some c.in-Some.length = cc c.in-Some.ensures in
    let of = up_to_there net c.args.source c.args.target c.in-Some.length values c.requires.known there in
    let way : IsWay net values c.args.source c.args.target c.in-Some.length c.in_ok-arcs.arcs.items = rw (c.in_ok-arcs.ensures, c.deref.ensures.value) (rw c.in-Some-2.is at c.in_ok-steps.ensures.way) in
    told_way net values c.args.source c.args.target c.in-Some.length (record { length = c.in-Some.length; arcs = c.in_ok-arcs.arcs }) way
    (starts_at_zero net values c.args.source c.args.target c.in-Some.length c.in_ok-arcs.arcs.items c.nodes-nodes.ensures.network of way) (of.right c.args.target c.in-Some.length there (le_refl c.in-Some.length)).1 refl
