use Rattle.std.proofs.Common.{arith, ap, sym, ◌∙◌}
use Rattle.pages.specs.Reading.{read_record}
use Rattle.pages.proofs.Records.{goes_on, ends, is_done}
use Rattle.pages.proofs.journal_page.read_records.Goals as goal

pub returns-in_default : goal.returns-in_default
returns-in_default c =
    ends c.loop.records.items c.args.count c.loop.counter c.loop.rest.now _ c.loop-test.true
    (ap read_record (sym c.split_at.ensures.front) ∙ sym c.read_record.ensures ∙ c.in_default.is) c.loop.invariant.so_far

pub loop-preserved : goal.loop-preserved
loop-preserved c = record {
  so_far =
      rw (c.in_ok-push.ensures.items, c.split_at.ensures.back)
      (goes_on c.loop.records.items c.args.count c.loop.counter c.loop.rest.now c.in-Some.record _ c.loop-test.true
      (ap read_record (sym c.split_at.ensures.front) ∙ sym c.read_record.ensures ∙ c.in-Some.is) c.loop.invariant.so_far);
  room = omega arith;
}

pub returns : goal.returns
returns c = is_done c.loop.records.items c.args.count c.loop.counter c.loop.rest.now _ c.loop-test.false c.loop.invariant.so_far
