use Rattle.std.proofs.Common.{◌≡◌, ◌∙◌, ◌+◌, ℕ, List, not, eqb, take, drop, ap, subst, arith}
use Rattle.std.specs.List.{position_or_len}
use Rattle.dimacs.specs.NumeralEnds.{EndsInDigits}
use Rattle.dimacs.proofs.Alikes.{same_row}
use Rattle.dimacs.proofs.ShortEnds.{few_kept, moved_same, moved_short}
use Rattle.dimacs.proofs.lines.front.LineFront.shorten.Goals as goal

pub returns-in_default-clause-same : goal.returns-in_default-clause-same
returns-in_default-clause-same c more = same_row _

pub returns-then-count-le-MOST_DIGITS-clause-same : goal.returns-then-count-le-MOST_DIGITS-clause-same
returns-then-count-le-MOST_DIGITS-clause-same c more = same_row _

pub returns-then-count-le-MOST_DIGITS-clause-short : goal.returns-then-count-le-MOST_DIGITS-clause-short
returns-then-count-le-MOST_DIGITS-clause-short c =
    few_kept c.args.self.now.bytes.items c.in-Some.start (subst (λ (l : List ℕ). EndsInDigits l c.in-Some.start) c.seen.ensures c.in-Some.ensures.found) (omega (arith, c.len.ensures, c.if-count-le-MOST_DIGITS.true))

pub returns-clause-same : goal.returns-clause-same
returns-clause-same c =
    let digits : c.split_at.result.1.now ≡ drop c.in-Some.start c.args.self.now.bytes.items = c.split_at.ensures.back ∙ ap (λ (l : List ℕ). drop c.in-Some.start l) c.seen-2.ensures in
    let count : c.zeros_in_front.result ≡ position_or_len (λ b. not (eqb b 48)) (drop c.in-Some.start c.args.self.now.bytes.items) = c.zeros_in_front.ensures ∙ ap (λ (l : List ℕ). position_or_len (λ b. not (eqb b 48)) l) digits in
    moved_same c.args.self.now.bytes.items c.in-Some.start (subst (λ (l : List ℕ). EndsInDigits l c.in-Some.start) c.seen.ensures c.in-Some.ensures.found)
    c.truncate.new.self.items c.min-zeros.result (omega (arith, c.len.ensures, c.if-count-le-MOST_DIGITS.false)) (omega (arith, c.min-zeros.ensures, count, c.len.ensures))
    (c.truncate.ensures.items ∙ ap (λ (l : List ℕ). take (c.in-Some.start + 21) l) c.copy_within.ensures.items)

pub returns-clause-short : goal.returns-clause-short
returns-clause-short c =
    let digits : c.split_at.result.1.now ≡ drop c.in-Some.start c.args.self.now.bytes.items = c.split_at.ensures.back ∙ ap (λ (l : List ℕ). drop c.in-Some.start l) c.seen-2.ensures in
    let count : c.zeros_in_front.result ≡ position_or_len (λ b. not (eqb b 48)) (drop c.in-Some.start c.args.self.now.bytes.items) = c.zeros_in_front.ensures ∙ ap (λ (l : List ℕ). position_or_len (λ b. not (eqb b 48)) l) digits in
    moved_short c.args.self.now.bytes.items c.in-Some.start (subst (λ (l : List ℕ). EndsInDigits l c.in-Some.start) c.seen.ensures c.in-Some.ensures.found)
    c.truncate.new.self.items c.min-zeros.result (omega (arith, c.len.ensures, c.if-count-le-MOST_DIGITS.false)) (omega (arith, c.min-zeros.ensures, count, c.len.ensures))
    (c.truncate.ensures.items ∙ ap (λ (l : List ℕ). take (c.in-Some.start + 21) l) c.copy_within.ensures.items)
