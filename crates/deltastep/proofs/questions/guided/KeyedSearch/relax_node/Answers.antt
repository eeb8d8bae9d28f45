use Rattle.std.proofs.Common.{◌≡◌, List, [], Contains, inr, subst}
use Rattle.frontier.proofs.Members.{Contains-nil}
use Rattle.snapshot.specs.Groups.{legs_of}
use Rattle.snapshot.specs.declared.legs.Leg.{Leg}
use Rattle.snapshot.specs.declared.legs.Part.TheVariants.{Light, Heavy}
use Rattle.deltastep.specs.Guided.{HasDone}
use Rattle.deltastep.proofs.Guiding.{GoesOnTo-then, HasDone-kept, fits_kept, under_way}
use Rattle.deltastep.proofs.Phases.{on_true}
use Rattle.deltastep.proofs.questions.guided.KeyedSearch.relax_node.Goals as goal

pub returns-then-is_joined-clause-done : goal.returns-then-is_joined-clause-done
returns-then-is_joined-clause-done g c part =
    let none : legs_of c.args.snapshot.now Heavy c.args.node ≡ [] = on_true c.is_joined.result _ c.if-is_joined.true c.is_joined.ensures c.args.node in
    elim part as (λ p. HasDone c.args.snapshot.now p c.relax_part.new.self c.args.node) [
      | Light ↦ c.in_ok-relax_part.ensures.done
      | Heavy ↦ inr (λ leg h. absurd (Contains-nil leg (subst (λ (l : List Leg). Contains l leg) none h)))
    ]

pub relax_part-requires-2-clause-state : goal.relax_part-requires-2-clause-state
relax_part-requires-2-clause-state g c = (c.requires.state.0, under_way c.args.snapshot.now (g.G.Guide.target c.args.guide.now) c.args.start c.args.self.now c.relax_part.new.self c.relax_part.ensures.keeps c.in_ok-relax_part.ensures.goes_on c.requires.state.0 c.requires.state.1)

pub relax_part-requires-2-clause-fits : goal.relax_part-requires-2-clause-fits
relax_part-requires-2-clause-fits g c = fits_kept c.args.self.now.ring c.relax_part.new.self.ring c.args.start c.args.end c.relax_part.ensures.keeps c.requires.fits

pub returns-clause-goes_on : goal.returns-clause-goes_on
returns-clause-goes_on g c = GoesOnTo-then c.args.snapshot.now (g.G.Guide.target c.args.guide.now) c.args.start c.args.self.now c.relax_part.new.self c.relax_part.ensures.keeps c.in_ok-relax_part.ensures.goes_on c.relax_part-2.new.self c.in_ok-relax_part-2.ensures.goes_on

pub returns-clause-done : goal.returns-clause-done
returns-clause-done g c part =
    elim part as (λ p. HasDone c.args.snapshot.now p c.relax_part-2.new.self c.args.node) [
      | Light ↦ HasDone-kept c.args.snapshot.now (g.G.Guide.target c.args.guide.now) c.args.start c.relax_part.new.self c.relax_part-2.new.self c.relax_part-2.ensures.keeps c.in_ok-relax_part-2.ensures.goes_on Light c.args.node c.in_ok-relax_part.ensures.done
      | Heavy ↦ c.in_ok-relax_part-2.ensures.done
    ]
