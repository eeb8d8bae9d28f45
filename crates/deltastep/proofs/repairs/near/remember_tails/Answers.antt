use Rattle.std.proofs.Common.{List, All, Contains, subst}
use Rattle.snapshot.specs.declared.legs.Leg.{Leg}
use Rattle.snapshot.specs.declared.legs.Part.TheVariants.{Light, Heavy}
use Rattle.deltastep.specs.Repair.{IsNodeLooked}
use Rattle.deltastep.proofs.Looking.{heads_to, All-looked_on, AreTailsLooked-parts}
use Rattle.deltastep.proofs.repairs.near.remember_tails.Goals as goal

pub remember_heads-requires-clause-heads : goal.remember_heads-requires-clause-heads
remember_heads-requires-clause-heads c = heads_to c.args.back.now c.args.snapshot.now.nodes Light c.args.node c.legs.result.now c.legs.ensures.grouped c.requires.nodes c.legs.ensures.value

pub remember_heads-requires-2-clause-heads : goal.remember_heads-requires-2-clause-heads
remember_heads-requires-2-clause-heads c = heads_to c.args.back.now c.args.snapshot.now.nodes Heavy c.args.node c.legs-2.result.now c.legs-2.ensures.grouped c.requires.nodes c.legs-2.ensures.value

pub returns-clause-looked : goal.returns-clause-looked
returns-clause-looked c =
    let groups = c.args.snapshot.now in
    let t = c.args.tentative.now in
    let owes = Contains c.remember_heads-2.new.owing.nodes in
    let light = All-looked_on groups t (Contains c.remember_heads.new.owing.nodes) owes c.legs.result.now c.in_ok-remember_heads-2.ensures.keeps c.in_ok-remember_heads.ensures.looked in
    AreTailsLooked-parts groups c.args.back.now t owes c.args.node
    (subst (λ (l : List Leg). All (λ (leg : Leg). IsNodeLooked groups t owes leg.head) l) c.legs.ensures.value light)
    (subst (λ (l : List Leg). All (λ (leg : Leg). IsNodeLooked groups t owes leg.head) l) c.legs-2.ensures.value c.in_ok-remember_heads-2.ensures.looked)
