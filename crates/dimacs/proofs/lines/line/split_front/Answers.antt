use Rattle.std.proofs.Common.{◌≡◌, not, sym, arith, refl, take, drop}
use Rattle.std.specs.List.{position_or_len}
use Rattle.std.proofs.lemmas.List.Sums.{prefix_len-le-length}
use Rattle.dimacs.specs.Lines.{is_blank}
use Rattle.dimacs.proofs.Pieces.{no_field, first_field, position_some}
use Rattle.dimacs.proofs.Fronts.{goes_on, shorter_behind}
use Rattle.dimacs.proofs.lines.line.split_front.Goals as goal

pub returns-in_err-start-clause-line : goal.returns-in_err-start-clause-line
returns-in_err-start-clause-line c = rw c.from_residual.ensures (no_field c.args.front.now (sym c.in_err-start.ensures))

pub split_at-requires : goal.split_at-requires
split_at-requires c = omega (arith, (position_some (λ b. not (is_blank b)) c.args.front.now c.in_ok-start.start (sym c.in_ok-start.ensures)).0)

pub split_at-requires-2 : goal.split_at-requires-2
split_at-requires-2 c = rw c.field_len.ensures (prefix_len-le-length (λ b. not (is_blank b)) c.split_at.result.1.now)

pub returns-clause-line : goal.returns-clause-line
returns-clause-line c =
    let first = first_field c.args.front.now c.in_ok-start.start (sym c.in_ok-start.ensures) in
    let rest = c.split_at.ensures.back in
    let front = c.split_at-2.ensures.front in
    let back = c.split_at-2.ensures.back in
    rw (front, back, c.field_len.ensures, rest) first

pub returns-clause-goes_on : goal.returns-clause-goes_on
returns-clause-goes_on c more =
    let rest = c.split_at.ensures.back in
    let first : c.split_at-2.result.0.now ≡ take (position_or_len is_blank (drop c.in_ok-start.start c.args.front.now)) (drop c.in_ok-start.start c.args.front.now) = rw (c.split_at-2.ensures.front, c.field_len.ensures, rest) refl in
    let behind : c.split_at-2.result.1.now ≡ drop (position_or_len is_blank (drop c.in_ok-start.start c.args.front.now)) (drop c.in_ok-start.start c.args.front.now) = rw (c.split_at-2.ensures.back, c.field_len.ensures, rest) refl in
    goes_on c.args.front.now c.in_ok-start.start c.split_at-2.result.0.now c.split_at-2.result.1.now more (sym c.in_ok-start.ensures) first behind

pub returns-clause-shorter : goal.returns-clause-shorter
returns-clause-shorter c =
    let rest = c.split_at.ensures.back in
    rw (c.split_at-2.ensures.back, c.field_len.ensures, rest) (shorter_behind c.args.front.now c.in_ok-start.start (sym c.in_ok-start.ensures))
