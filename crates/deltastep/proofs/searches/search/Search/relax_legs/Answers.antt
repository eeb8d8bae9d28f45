use Rattle.std.proofs.Common.{◌∷◌, [], refl}
use Rattle.deltastep.proofs.Phases.{map_false}
use Rattle.deltastep.proofs.Relaxing.{IsBucketEmpty-heavy}
use Rattle.deltastep.proofs.Taking.{IsDistinct-one, IsRelaxedBut-both}
use Rattle.deltastep.specs.Search.{IsBucketEmpty}
use Rattle.snapshot.specs.declared.legs.Part.TheVariants.{Heavy}
use Rattle.deltastep.proofs.searches.search.Search.relax_legs.Goals as goal

pub relax-requires-2-clause-nodes : goal.relax-requires-2-clause-nodes
relax-requires-2-clause-nodes g c = c.in_ok-came_back.ensures.stays (c.args.node ∷ []) c.requires.node

pub relax-requires-2-clause-once : goal.relax-requires-2-clause-once
relax-requires-2-clause-once g c _ = IsDistinct-one c.args.node

pub returns-clause-relaxed : goal.returns-clause-relaxed
returns-clause-relaxed g c =
    let E = g.F.Frontier.entries in
    IsRelaxedBut-both c.args.snapshot.now c.args.bucket c.args.node (g.F.Frontier.tentative c.args.self.now.frontier) (E c.args.self.now.frontier) (g.F.Frontier.tentative c.relax.new.self.frontier) (E c.relax.new.self.frontier) (g.F.Frontier.tentative c.relax-2.new.self.frontier) (E c.relax-2.new.self.frontier) c.in_ok-came_back.ensures.met c.in_ok-relax.ensures.met c.requires.node (c.in_ok-came_back.ensures.stays (c.args.node ∷ []) c.requires.node)

pub returns-clause-stays : goal.returns-clause-stays
returns-clause-stays g c others h = c.in_ok-relax.ensures.stays others (c.in_ok-came_back.ensures.stays others h)

pub returns-clause-none_came : goal.returns-clause-none_came
returns-clause-none_came g c =
    let E = g.F.Frontier.entries in
    let groups = c.args.snapshot.now in
    let empty = IsBucketEmpty groups.delta c.args.bucket in
    map_false c.in_ok-came_back.came_back (empty (E c.args.self.now.frontier) → empty (E c.relax.new.self.frontier)) (empty (E c.args.self.now.frontier) → empty (E c.relax-2.new.self.frontier))
    (λ stays before. IsBucketEmpty-heavy groups c.in_ok-relax.ensures.grouped (c.args.node ∷ []) Heavy (g.F.Frontier.tentative c.relax.new.self.frontier) (E c.relax.new.self.frontier) (g.F.Frontier.tentative c.relax-2.new.self.frontier) (E c.relax-2.new.self.frontier) c.args.bucket c.in_ok-relax.ensures.met (c.in_ok-came_back.ensures.stays (c.args.node ∷ []) c.requires.node) refl (stays before)) c.in_ok-came_back.ensures.none_came
