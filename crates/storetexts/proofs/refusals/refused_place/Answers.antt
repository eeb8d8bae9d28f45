use Rattle.std.proofs.Common.{◌≡◌, ◌<◌, ◌≤◌, ℕ, suc, false, length, subst, arith}
use Rattle.storetexts.specs.Refusals.{is_admitted}
use Rattle.storetexts.proofs.refusals.refused_place.Goals as goal

pub returns : goal.returns
returns g c none =
    let below : c.halves.admitted < c.halves.refused = c.halves.invariant.0 in
    let few : c.halves.refused ≤ length c.args.group.now = c.halves.invariant.1 in
    let next : c.halves.refused ≡ suc c.halves.admitted = omega arith in
    record {
      among = omega arith;
      before = c.halves.invariant.2;
      refused = subst (λ (count : ℕ). is_admitted c.args.ledger.now.machine c.args.group.now count ≡ false) next c.halves.invariant.3;
    }
