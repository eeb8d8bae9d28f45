use Rattle.snapshot.specs.declared.legs.Part.TheVariants.{Light, Heavy}
use Rattle.deltastep.proofs.Thinning.{heads_are_nodes}
use Rattle.deltastep.proofs.repairs.near.owes.Goals as goal

pub leads_to_less-requires-clause-heads : goal.leads_to_less-requires-clause-heads
leads_to_less-requires-clause-heads c = heads_are_nodes c.args.snapshot.now c.args.tentative.now Light c.args.node c.legs.result.now c.legs.ensures.grouped c.requires.places c.legs.ensures.value

pub leads_to_less-requires-2-clause-heads : goal.leads_to_less-requires-2-clause-heads
leads_to_less-requires-2-clause-heads c = heads_are_nodes c.args.snapshot.now c.args.tentative.now Heavy c.args.node c.legs-2.result.now c.legs-2.ensures.grouped c.requires.places c.legs-2.ensures.value
