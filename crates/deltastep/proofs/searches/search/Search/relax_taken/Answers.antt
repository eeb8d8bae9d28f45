use Rattle.std.proofs.Common.{◌<◌, length, drop, ◌+◌, sym, subst, le_trans, arith}
use Rattle.std.specs.Bool.{OnFalse}
use Rattle.deltastep.specs.Search.{IsBucketEmpty}
use Rattle.deltastep.proofs.Phases.{on_false, map_false}
use Rattle.deltastep.proofs.Taking.{AreInBucket-one, owed_first, owed_none}
use Rattle.deltastep.proofs.searches.search.Search.relax_taken.Goals as goal
use Rattle.deltastep.proofs.searches.search.Search.relax_taken.Goals.{then-branch, else-branch}

pub relax_legs-requires-clause-node : goal.relax_legs-requires-clause-node
relax_legs-requires-clause-node g c = AreInBucket-one (g.F.Frontier.tentative c.loop-node.self.frontier) c.args.snapshot.now.delta c.args.bucket c.args.nodes.now c.loop-node.node-index _ (omega arith) c.loop-node.invariant.nodes

pub loop-node-preserved : goal.loop-node-preserved
loop-node-preserved g c =
    let E = g.F.Frontier.entries in
    let groups = c.args.snapshot.now in
    let nodes = c.args.nodes.now in
    let i = c.loop-node.node-index in
    let before = c.loop-node.self in
    let after = c.relax_legs.new.self in
    let ensures = c.in_ok-relax_legs.ensures in
    let lt : i < length nodes = omega arith in
    record {
      search = ensures.search;
      reached = λ source h. ensures.reached source (c.loop-node.invariant.reached source h);
      owed = λ part. ensures.relaxed part (drop (i + 1) nodes) (owed_first groups part (g.F.Frontier.tentative before.frontier) (E before.frontier) nodes i 0 lt (c.loop-node.invariant.owed part));
      nodes = ensures.stays nodes c.loop-node.invariant.nodes;
      none_came =
          let Old = IsBucketEmpty groups.delta c.args.bucket (E c.args.self.now.frontier) in
          let Before = IsBucketEmpty groups.delta c.args.bucket (E before.frontier) in
          let After = IsBucketEmpty groups.delta c.args.bucket (E after.frontier) in
          elim c.if-branch.branch [
            | then-branch w ↦ subst (λ b. OnFalse b (Old → After)) (sym w.came_back-is) tt
            | else-branch w ↦ subst (λ b. OnFalse b (Old → After)) (sym w.came_back-is)
                (map_false c.loop-node.came_back (Old → Before) (Old → After) (λ f h. on_false c.in_ok-relax_legs.field-0 (Before → After) w.if-branch.false ensures.none_came (f h)) c.loop-node.invariant.none_came)
          ];
      weighs = le_trans ensures.weight c.loop-node.invariant.weighs;
      window = ensures.window;
      suited = ensures.suited;
    }

pub returns-clause-relaxed : goal.returns-clause-relaxed
returns-clause-relaxed g c part = owed_none c.args.snapshot.now part (g.F.Frontier.tentative c.loop-node.self.frontier) (g.F.Frontier.entries c.loop-node.self.frontier) c.args.nodes.now c.loop-node.node-index (omega arith) (c.loop-node.invariant.owed part)
