use Rattle.std.proofs.Common.{◌≡◌, length, arith}
use Rattle.std.proofs.lemmas.List.{ext_get_or}
use Rattle.snapshot.specs.declared.legs.Leg.{Leg}
use Rattle.deltastep.proofs.repairs.changed.are_same.Goals as goal

pub returns : goal.returns
returns c =
    let d : Leg = record { head = 0; length = 0 } in
    let same : length c.args.legs.now ≡ length c.args.others.now = omega arith in
    ext_get_or d c.args.legs.now c.args.others.now same (λ k lt. c.loop-place.invariant k d (omega arith))
