use Rattle.std.proofs.Common.{sym, subst, arith}
use Rattle.deltastep.specs.Guided.{IsLowerBound}
use Rattle.rows.proofs.Potentials.{potential_is_below}
use Rattle.rows.proofs.guides.LandmarksGuide.bound.Goals as goal

pub returns-in-Some : goal.returns-in-Some
returns-in-Some c = record {
  below = λ groups knows grouped low high legs trip.
      let less = knows.0 _ c.in-Some.is c.args.node in
      let bound = potential_is_below c.args.self.now.rows.now c.args.self.now.target groups knows.1 grouped c.args.node legs trip in
      omega (arith, c.potential.ensures.below, less, bound);
}

pub returns : goal.returns
returns c = record {
  below = λ groups knows grouped low high. subst (λ n. IsLowerBound groups c.args.self.now.target c.args.node n) (sym c.potential_of.ensures) (potential_is_below c.args.self.now.rows.now c.args.self.now.target groups knows.1 grouped c.args.node);
}
