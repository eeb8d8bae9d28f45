use Rattle.std.proofs.Common.{◌≡◌, ◌∙◌, ◌<◌, true, false, length, get_or, inl, refl, subst, arith}
use Rattle.std.proofs.lemmas.List.{get_or_default}
use Rattle.snapshot.proofs.Regrouped.{AreLess, AreMost, greatest_is_that, less_more, less_same, most_more, most_same, one_more}
use Rattle.snapshot.proofs.weighing.greatest_after.Goals as goal

pub loop-place-init : goal.loop-place-init
loop-place-init c = record {
  less = λ block d h within mark e. absurd (omega (arith, h));
  most = λ block d h within mark. absurd (omega (arith, h));
  one = inl refl;
}

pub loop-place-preserved-then-not-touched-place : goal.loop-place-preserved-then-not-touched-place
loop-place-preserved-then-not-touched-place c =
    let k = c.loop-place.place in
    let flag : get_or c.args.touched.now k true ≡ false = get_or_default c.args.touched.now k true false (omega (arith, c.loop-place-test.true)) ∙ c.if-not-touched-place.true in
    record {
      less = less_same c.args.touched.now c.args.old.now c.args.blocks.now c.args.was k flag c.loop-place.invariant.less;
      most = most_same c.args.touched.now c.args.old.now c.args.blocks.now c.args.was k c.loop-place.most flag c.loop-place.invariant.most;
      one = c.loop-place.invariant.one;
    }

pub loop-place-preserved : goal.loop-place-preserved
loop-place-preserved c =
    let k = c.loop-place.place in
    let within : k < length c.args.blocks.now = omega (arith, c.loop-place-test.true, c.requires.flags, c.requires.count) in
    rw c.max-most.ensures
    (record {
      less = less_more c.args.touched.now c.args.old.now c.args.blocks.now c.args.was k c.get.result.now c.get.ensures.item c.if-get-was.false c.loop-place.invariant.less;
      most = most_more c.args.touched.now c.args.old.now c.args.blocks.now c.args.was k c.loop-place.most c.get-in-loop-place.result.now c.get-in-loop-place.ensures.item c.loop-place.invariant.most;
      one = one_more c.args.touched.now c.args.old.now c.args.blocks.now c.args.was k c.loop-place.most c.get-in-loop-place.result.now within c.get-in-loop-place.ensures.item c.loop-place.invariant.one;
    })

pub returns : goal.returns
returns c =
    let e : c.loop-place.place ≡ length c.args.old.now = omega (arith, c.loop-place-test.false, c.loop-place.auto.place-end, c.requires.flags) in
    c.max.ensures
    ∙ greatest_is_that c.args.touched.now c.args.old.now c.args.blocks.now c.args.was c.requires.count c.requires.was c.requires.kept c.loop-place.most
    (subst (AreLess c.args.touched.now c.args.old.now c.args.blocks.now c.args.was) e c.loop-place.invariant.less)
    (subst (λ n. AreMost c.args.touched.now c.args.old.now c.args.blocks.now c.args.was n c.loop-place.most) e c.loop-place.invariant.most)
    c.loop-place.invariant.one
