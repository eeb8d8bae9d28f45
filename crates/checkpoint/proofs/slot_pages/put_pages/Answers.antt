use Rattle.std.proofs.Common.{◌∙◌, arith, below_more}
use Rattle.checkpoint.proofs.slot_pages.put_pages.Goals as goal

pub loop-i-preserved : goal.loop-i-preserved
loop-i-preserved c = record {
  put = below_more _ _
      (λ j lt. c.put_page.ensures.others j (λ e. omega (arith, e, lt)) ∙ c.loop-i.invariant.put j lt)
      (c.put_page.ensures.put ∙ c.page_behind-page.ensures);
  size = c.put_page.ensures.size ∙ c.loop-i.invariant.size;
}
