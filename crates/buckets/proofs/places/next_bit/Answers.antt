use Rattle.std.proofs.Common.{◌*◌, ◌%◌, ◌<◌, ◌^◌, arith}
use Rattle.std.proofs.lemmas.Nat.{and_le_l}
use Rattle.buckets.proofs.Bits.{rest_of, none_left, some_left, least_left}
use Rattle.buckets.proofs.places.next_bit.Goals as goal

pub returns-then-rest-eq0-clause-none : goal.returns-then-rest-eq0-clause-none
returns-then-rest-eq0-clause-none c = none_left c.args.word c.args.from c.requires c.ranges.word.fits c.if-rest-eq0.true

pub returns-clause-none : goal.returns-clause-none
returns-clause-none c =
    let fits : rest_of c.args.word c.args.from < 2 ^ 64 = omega (arith, and_le_l c.args.word (18446744073709551615 * 2 ^ c.args.from % 18446744073709551616), c.ranges.word.fits) in
    some_left c.args.word c.args.from c.requires fits c.if-rest-eq0.false

pub returns-clause-least : goal.returns-clause-least
returns-clause-least c =
    let fits : rest_of c.args.word c.args.from < 2 ^ 64 = omega (arith, and_le_l c.args.word (18446744073709551615 * 2 ^ c.args.from % 18446744073709551616), c.ranges.word.fits) in
    least_left c.args.word c.args.from c.requires fits c.if-rest-eq0.false
