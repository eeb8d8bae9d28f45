use Rattle.std.proofs.Common.{◌∙◌, Bool, cond, ap}
use Rattle.upgrades.proofs.Tables.{counted_all, counted_more}
use Rattle.upgrades.proofs.counterparts.count_alone.Goals as goal

pub loop-number-preserved : goal.loop-number-preserved
loop-number-preserved c =
    let found = c.first_from-from.ensures in
    counted_more c.args.network.now c.args.other.now c.requires.network c.requires.other c.args.numbers.now c.args.others.now c.requires.numbers c.requires.others
    c.loop-number.count c.loop-number.from c.loop-number.number-index c.pair_at-pair.result c.first_from-from.result c.loop-number.invariant c.loop-number-test.true c.pair_at-pair.ensures
    found.after found.within found.passed found.stopped c.one_unless-missing.result (c.one_unless-missing.ensures.value ∙ ap (λ (b : Bool). cond b 0 1) c.has_pair_at.ensures)

pub returns : goal.returns
returns c =
    counted_all c.args.network.now c.args.other.now c.requires.network c.requires.other c.args.numbers.now c.args.others.now c.requires.numbers c.requires.others
    c.loop-number.count c.loop-number.from c.loop-number.number-index c.loop-number-test.false c.loop-number.invariant
