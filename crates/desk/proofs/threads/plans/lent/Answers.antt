use Rattle.std.proofs.Common.{◌≡◌, ◌∙◌, ap, subst, sym, Bor}
use Rattle.snapshot.specs.Groups.{Groups}
use Rattle.deltastep.specs.Repair.{AreTails}
use Rattle.roadnet.proofs.EndsKept.{KeepsEnds-same}
use Rattle.desk.proofs.threads.plans.lent.Goals as goal

pub returns-in-Some : goal.returns-in-Some
returns-in-Some c x is =
    let leads = c.requires.back c.in-Some.back c.in-Some.is in
    let same : c.deref.result ≡ x = cc in
    let now : x.now ≡ c.in-Some.back.value = ap (λ (r : Bor Groups). r.now) (sym same) ∙ c.deref.ensures in
    record {
      nodes = ap (λ (g : Groups). g.nodes) now ∙ leads.nodes ∙ sym c.requires.snapshot.nodes;
      tails = subst (λ (g : Groups). AreTails g c.args.snapshot.now) (sym now) (leads.tails c.args.network.now c.args.snapshot.now c.nodes-grouped.ensures.grouped c.requires.snapshot (KeepsEnds-same c.args.network.now));
    }
