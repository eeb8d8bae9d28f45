use Rattle.std.proofs.Common.{◌≡◌, ◌∙◌, ℕ, ◌+◌, ◌/◌, Bool, true, List, [], ◌∷◌, take, length, get_or, ap, sym, subst, arith, rules, Contains, ⊎_elim}
use Rattle.std.proofs.lemmas.List.{take_all, take_more}
use Rattle.snapshot.proofs.Built.{written_back}
use Rattle.std.proofs.lemmas.List.Elements.{Contains-append_cases}
use Rattle.snapshot.proofs.Grouped.{Contains-one}
use Rattle.snapshot.proofs.regrouping.touched_blocks.Goals as goal

pub loop-number-preserved : goal.loop-number-preserved
loop-number-preserved c =
    let len : c.loop-number.touched.len ≡ length c.loop-number.touched.items = search rules in
    let same : length c.touch.new.touched ≡ length c.loop-number.touched.items = c.touch.ensures.count ∙ ap length c.deref_mut.ensures.value in
    rw (written_back c.loop-number.touched.len c.touch.new.touched c.loop-number.touched.items len same)
    (record {
      count = same ∙ c.loop-number.invariant.count;
      touched = λ place d h among.
          ⊎_elim
          (λ (before : Contains (take c.loop-number.number-index c.args.changed.now) (place + 1)). c.touch.ensures.kept ((get_or c.args.arcs.now place d).tail / 1024) (subst (λ (l : List Bool). get_or l ((get_or c.args.arcs.now place d).tail / 1024) true ≡ true) (sym c.deref_mut.ensures.value) (c.loop-number.invariant.touched place d h before)))
          (λ (now : Contains (get_or c.args.changed.now c.loop-number.number-index 0 ∷ []) (place + 1)). c.touch.ensures.own place d h (Contains-one (get_or c.args.changed.now c.loop-number.number-index 0) (place + 1) now))
          (Contains-append_cases (take c.loop-number.number-index c.args.changed.now) (get_or c.args.changed.now c.loop-number.number-index 0 ∷ []) (place + 1) (subst (λ (l : List ℕ). Contains l (place + 1)) (take_more c.args.changed.now c.loop-number.number-index 0 (omega (arith, c.loop-number-test.true))) among));
    })

pub returns-clause-touched : goal.returns-clause-touched
returns-clause-touched c place d h among =
    let all : take c.loop-number.number-index c.args.changed.now ≡ c.args.changed.now = take_all c.loop-number.number-index c.args.changed.now (omega (arith, c.loop-number-test.false)) in
    c.loop-number.invariant.touched place d h (subst (λ (l : List ℕ). Contains l (place + 1)) (sym all) among)
