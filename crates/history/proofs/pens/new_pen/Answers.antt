use Rattle.std.proofs.Common.{sym, ◌∙◌, ap}
use Rattle.history.proofs.Adding.{makes_moves}
use Rattle.history.proofs.pens.new_pen.Goals as goal

pub compare_exchange-requires : goal.compare_exchange-requires
compare_exchange-requires c =
    let h = c.requires.head in
    let again = c.again-seen.ensures in
    let offer = c.plain-offer.ensures in
    let pen = c.no_pen-pen.ensures in (
      ap (λ w. w.tracked) h,
      ap (λ s. s.book) again ∙ sym (ap (λ w. w.book) h),
      pen.0 ∙ (ap (λ s. s.book) again ∙ sym (ap (λ w. w.book) h)),
      offer.0,
      rw (ap (λ w. w.key) h, pen.1, offer.3) (makes_moves c.again-seen.result.log),
    )
