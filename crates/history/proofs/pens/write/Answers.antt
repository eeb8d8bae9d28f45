use Rattle.std.proofs.Common.{sym, ◌∙◌, ap}
use Rattle.history.proofs.Adding.{writes_moves}
use Rattle.history.proofs.pens.write.Goals as goal

pub compare_exchange-requires : goal.compare_exchange-requires
compare_exchange-requires c =
    let h = c.requires.head in
    let offer = c.plain-offer.ensures in (
      ap (λ w. w.tracked) h,
      sym (ap (λ w. w.book) h),
      c.requires.book ∙ sym (ap (λ w. w.book) h),
      offer.0,
      rw (ap (λ w. w.key) h, offer.1, offer.3) (writes_moves c.args.seen.now.log c.args.link.now c.args.pen.now.nib c.requires.right (ap (λ p. p.nib.key) c.requires.own)),
    )
