use Rattle.std.proofs.Common.{◌<◌, eqb, length, arith}
use Rattle.std.proofs.lemmas.Map.Keys.{IsDistinct-from_apart}
use Rattle.deltastep.proofs.Phases.{on_true_of}
use Rattle.deltastep.proofs.searches.search.is_alone.Goals as goal

pub returns-in-len1-clause-once : goal.returns-in-len1-clause-once
returns-in-len1-clause-once c =
    let few : length c.args.nodes.now < 2 = omega (arith, c.in-len1.len_below) in
    on_true_of c.is_empty.result _ (λ _. IsDistinct-from_apart eqb c.args.nodes.now (λ i j d before within. absurd (omega (arith, few, before, within))))
