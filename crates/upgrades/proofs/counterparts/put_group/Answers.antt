use Rattle.std.proofs.Common.{◌≡◌, ◌∙◌, ℕ, ◌<◌, length, get_or, set, subst, arith, inl, inr}
use Rattle.std.proofs.lemmas.Bool.{cases_lt}
use Rattle.std.proofs.lemmas.List.{get_or-set_same, length-set}
use Rattle.upgrades.specs.Counterparts.{SaysParts}
use Rattle.upgrades.proofs.Matching.{written_kept}
use Rattle.upgrades.proofs.counterparts.put_group.Goals as goal

pub loop-i-preserved : goal.loop-i-preserved
loop-i-preserved c =
    let group = c.args.group.now in
    let xs = c.loop-i.parts.items in
    let i = c.loop-i.i in
    let n = get_or group i 0 in
    let part_here = c.part_in.result in
    let bound = c.requires i 0 c.loop-i-test.true in
    let within : n < length xs = omega (arith, bound, c.loop-i.invariant.count) in
    let right : (part : ℕ → ℕ) → SaysParts group c.args.stored.now part → part_here ≡ part n = λ part says. c.part_in.ensures ∙ says i c.loop-i-test.true in
    record {
      kept = λ part says k was. written_kept part xs n part_here k within (right part says) (c.loop-i.invariant.kept part says k was);
      put = λ part says j less. elim (cases_lt j i) [
        | inl early ↦ written_kept part xs n part_here (get_or group j 0) within (right part says) (c.loop-i.invariant.put part says j early)
        | inr late ↦
            let same : i ≡ j = omega (arith, late, less) in
            subst (λ (m : ℕ). get_or (set xs n part_here) (get_or group m 0) 0 ≡ part (get_or group m 0)) same (get_or-set_same xs n part_here 0 within ∙ right part says)
      ];
      count = length-set xs n part_here ∙ c.loop-i.invariant.count;
    }

pub returns-clause-put : goal.returns-clause-put
returns-clause-put c = λ part says i lt. c.loop-i.invariant.put part says i (omega (arith, lt, c.loop-i-test.false))
