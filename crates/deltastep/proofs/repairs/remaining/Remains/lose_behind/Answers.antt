use Rattle.std.proofs.Common.{◌∙◌, List, sym, ap, subst}
use Rattle.roadnet.specs.Walks.{distance_at}
use Rattle.snapshot.specs.declared.legs.Leg.{Leg}
use Rattle.snapshot.specs.declared.legs.Part.TheVariants.{Light, Heavy}
use Rattle.deltastep.specs.Repair.{LeadToLost}
use Rattle.deltastep.proofs.Thinning.{Thins-on, LeadToLost-on, IsSpread-parts, heads_are_nodes}
use Rattle.deltastep.proofs.repairs.remaining.Remains.lose_behind.Goals as goal

pub lose_heads-requires : goal.lose_heads-requires
lose_heads-requires c = record { heads = heads_are_nodes c.args.after.now c.args.self.now.tentative Light c.args.node c.legs.result.now c.legs.ensures.grouped c.requires.places c.legs.ensures.value }

pub lose_heads-requires-2 : goal.lose_heads-requires-2
lose_heads-requires-2 c = record { heads = heads_are_nodes c.args.after.now c.lose_heads.new.self.tentative Heavy c.args.node c.legs-2.result.now c.legs-2.ensures.grouped (c.in_ok-lose_heads.ensures.thins.thinner.places ∙ c.requires.places) c.legs-2.ensures.value }

pub returns-clause-thins : goal.returns-clause-thins
returns-clause-thins c = Thins-on c.args.source c.args.self.now.tentative c.lose_heads.new.self.tentative c.lose_heads-2.new.self.tentative c.args.self.now.lost.items c.lose_heads.new.self.lost.items c.lose_heads-2.new.self.lost.items c.in_ok-lose_heads.ensures.thins c.in_ok-lose_heads-2.ensures.thins

pub returns-clause-spread : goal.returns-clause-spread
returns-clause-spread c =
    let t = c.lose_heads-2.new.self.tentative in
    let value = c.in-Some.value in
    let light = LeadToLost-on c.args.source c.args.row.now c.lose_heads.new.self.tentative t value c.legs.result.now c.in_ok-lose_heads-2.ensures.thins.thinner c.in_ok-lose_heads.ensures.lead in
    IsSpread-parts c.args.after.now c.args.source c.args.row.now t c.args.node value (ap (distance_at c.args.row.now) (sym c.from.ensures) ∙ sym c.in-Some.ensures)
    (subst (λ (l : List Leg). LeadToLost c.args.source c.args.row.now t value l) c.legs.ensures.value light)
    (subst (λ (l : List Leg). LeadToLost c.args.source c.args.row.now t value l) c.legs-2.ensures.value c.in_ok-lose_heads-2.ensures.lead)
