use Rattle.std.proofs.Common.{◌∙◌, sym, rules}
use Rattle.dimacs.proofs.Fronts.{one_passed, overflows_here}
use Rattle.dimacs.proofs.Beyond.{few_before}
use Rattle.dimacs.proofs.lines.line.overflows.Goals as goal

pub returns-then-is_beyond : goal.returns-then-is_beyond
returns-then-is_beyond c = λ e. overflows_here c.args.front.now c.loop-field.rest.now c.in-Some.field.now c.in-Some.more.now c.loop-field.before c.loop-field.invariant.passed c.in-Some.ensures.goes_on (sym c.is_beyond.ensures ∙ c.if-is_beyond.true)

pub loop-field-preserved : goal.loop-field-preserved
loop-field-preserved c = record {
  passed = one_passed c.args.front.now c.loop-field.rest.now c.in-Some.field.now c.in-Some.more.now c.loop-field.before c.loop-field.invariant.passed c.in-Some.ensures.goes_on (search rules);
  few = few_before c.loop-field.before c.in-Some.field.now (sym c.is_beyond.ensures ∙ c.if-is_beyond.false);
}
