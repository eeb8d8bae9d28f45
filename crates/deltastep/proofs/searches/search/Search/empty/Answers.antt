use Rattle.std.proofs.Common.{ℕ, ◌<◌, List, ◌++◌, sym, subst, ◌∙◌, arith, All, le_trans}
use Rattle.deltastep.specs.Search.{AreInBucket, IsRelaxedBut}
use Rattle.snapshot.specs.declared.legs.Part.TheVariants.{Heavy}
use Rattle.deltastep.proofs.Relaxing.{nodes_in_range}
use Rattle.deltastep.proofs.searches.search.Search.empty.Goals as goal

pub remember-requires : goal.remember-requires
remember-requires g c =
    let range = nodes_in_range c.args.snapshot.now c.phases.nodes.items (g.F.Frontier.tentative c.phases.self.frontier) (g.F.Frontier.entries c.phases.self.frontier) c.args.bucket c.phases.invariant.search c.args.snapshot.now.delta c.phases.invariant.nodes in
    record {
      within = subst (λ (l : List ℕ). All (λ u. u < c.phases.remembered.limit) l) (sym c.deref.ensures.value) (λ k d lt. omega (arith, (range k d lt).1, c.phases.invariant.limit));
    }

pub phases-preserved : goal.phases-preserved
phases-preserved g c =
    let t = g.F.Frontier.tentative c.phases.self.frontier in
    let queue = g.F.Frontier.entries c.phases.self.frontier in
    let remembered = c.remember.new.remembered.nodes in
    let ends = c.in_ok-phase.ensures.phase in
    let owed : IsRelaxedBut c.args.snapshot.now Heavy t queue remembered = c.in_ok-remember.ensures.owed t queue (subst (λ (l : List ℕ). IsRelaxedBut c.args.snapshot.now Heavy t queue (c.phases.remembered.nodes ++ l)) (sym c.deref.ensures.value) c.phases.invariant.heavy) in
    let both : AreInBucket t c.args.snapshot.now.delta c.args.bucket remembered = c.in_ok-remember.ensures.nodes t c.args.snapshot.now.delta c.args.bucket c.phases.invariant.remembered (subst (λ (l : List ℕ). AreInBucket t c.args.snapshot.now.delta c.args.bucket l) (sym c.deref.ensures.value) c.phases.invariant.nodes) in
    record {
      search = ends.search;
      reached = λ source h. ends.reached source (c.phases.invariant.reached source h);
      light = ends.light;
      heavy = ends.heavy remembered owed;
      nodes = ends.nodes;
      remembered = ends.stays remembered both;
      emptied = c.in_ok-phase.ensures.emptied;
      limit = c.remember.ensures.limit ∙ c.phases.invariant.limit;
      live = λ begun. c.in_ok-phase.ensures.live (c.phases.invariant.live begun);
      window = c.in_ok-phase.ensures.window;
      suited = c.in_ok-phase.ensures.suited;
      weighs = le_trans c.in_ok-phase.ensures.weight c.phases.invariant.weighs;
    }
