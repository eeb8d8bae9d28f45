use Rattle.std.specs.Prelude.{MatchResult, Option, None, Some}
use Rattle.std.proofs.Common.{◌≡◌, length, ap, arith, sym, subst}
use Rattle.roadnet.specs.declared.refusals.Refusal.{Refusal}
use Rattle.machine.specs.Machine.{Machine}
use Rattle.machine.specs.Calls.{refusal_of_submit}
use Rattle.keeper.specs.Keeping.{LedgerState, latest_network, machine_of}
use Rattle.keeper.proofs.RefusedByNetwork.{refused_by_network}
use Rattle.keeper.proofs.ledger.ledgers.Ledger.may_submit.Goals as goal

pub returns : goal.returns
returns g c =
    let k = c.self.inside in
    let m : Machine = machine_of k.store k.base.value k.opened k.history.items k.opened k.broken k.written.value None in
    let sized = ap length c.commands.ensures.value in
    let same = refused_by_network m c.args.group.now (latest_network m) c.if-self.false (omega (arith, c.if-self-count.false, sized, c.self.invariant.4)) (omega (arith, c.if-self-len-ge-MOST_VERSIONS.false, c.len.ensures)) (omega (arith, c.if-self-count-gt-MOST_PENDING.false, sized, c.self.invariant.5)) c.self.invariant.0.accepted_is in
    let answered : MatchResult c.admit_group.result (λ _. refusal_of_submit m c.args.group.now ≡ None) (λ refusal. refusal_of_submit m c.args.group.now ≡ Some refusal) = subst (λ (r : Option Refusal). MatchResult c.admit_group.result (λ _. r ≡ None) (λ refusal. r ≡ Some refusal)) (sym same) (c.admit_group.ensures (latest_network m) (sym c.self.invariant.3)) in
    subst (λ (v : LedgerState _). MatchResult c.admit_group.result (λ _. refusal_of_submit v.machine c.args.group.now ≡ None) (λ refusal. refusal_of_submit v.machine c.args.group.now ≡ Some refusal)) c.self.view_is answered
