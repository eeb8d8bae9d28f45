use Rattle.std.proofs.Common.{◌≡◌, ◌∙◌, ap, false, rules}
use Rattle.std.specs.Io.BufRead.{strip_last}
use Rattle.dimacs.specs.Lines.{fields}
use Rattle.dimacs.specs.Faults.{is_remark}
use Rattle.dimacs.specs.Overflow.{Overflowing}
use Rattle.dimacs.proofs.Remarks.{digits_not_kept, on_mark}
use Rattle.dimacs.proofs.ShortEnds.{on_short_mark}
use Rattle.dimacs.proofs.Told.{told_early, never_taken}
use Rattle.dimacs.proofs.lines.feed.Feed.look.Goals as goal

pub returns-then-is_remark-clause-kept : goal.returns-then-is_remark-clause-kept
returns-then-is_remark-clause-kept g c =
    on_mark c.keep_mark.result g.T.TakeLines.COMMENT c.args.self.now.kept.bytes.items _ g.met.T.TakeLines.return_is_no_comment (search rules) c.keep_mark.ensures.kept

pub returns-in-Ok-clause-refused : goal.returns-in-Ok-clause-refused
returns-in-Ok-clause-refused g c earlier front taken stands =
    let plain : is_remark g.T.TakeLines.COMMENT (fields c.args.self.now.kept.bytes.items) ≡ false = search rules in
    let line : c.without_carriage_return-front.result.now ≡ strip_last 13 c.args.self.now.kept.bytes.items = c.without_carriage_return-front.ensures ∙ ap (strip_last 13) (c.seen-2.ensures ∙ c.is_due.ensures.kept) in
    let over : Overflowing c.without_carriage_return-front.result.now = c.overflows.ensures (search rules) in
    let takes = c.in-Ok.ensures.takes earlier taken in
    never_taken g.T.TakeLines.judge g.T.TakeLines.has_taken g.T.TakeLines.COMMENT g.T.TakeLines.code_of_overflow c.overflow_decides.ensures g.met.T.TakeLines.blank_is_no_comment c.same_is_taken.ensures.judged
    _ earlier c.args.self.now.kept.bytes.items _ plain (rw line at over) (rw line at takes)

pub returns-in-Err-clause-refused : goal.returns-in-Err-clause-refused
returns-in-Err-clause-refused g c earlier front taken stands =
    let plain : is_remark g.T.TakeLines.COMMENT (fields c.args.self.now.kept.bytes.items) ≡ false = search rules in
    let line : c.without_carriage_return-front.result.now ≡ strip_last 13 c.args.self.now.kept.bytes.items = c.without_carriage_return-front.ensures ∙ ap (strip_last 13) (c.seen-2.ensures ∙ c.is_due.ensures.kept) in
    let over : Overflowing c.without_carriage_return-front.result.now = c.overflows.ensures (search rules) in
    let takes = c.in-Err.ensures.takes earlier taken in
    told_early g.T.TakeLines.judge g.T.TakeLines.has_taken g.T.TakeLines.COMMENT g.T.TakeLines.code_of_overflow c.overflow_decides.ensures g.met.T.TakeLines.blank_is_no_comment c.same_is_taken.ensures.judged
    earlier front c.args.self.now.kept.bytes.items _ stands plain (rw line at over) (rw line at takes)

pub returns-then-not-overflows-clause-kept : goal.returns-then-not-overflows-clause-kept
returns-then-not-overflows-clause-kept g c front stands =
    let plain : is_remark g.T.TakeLines.COMMENT (fields c.args.self.now.kept.bytes.items) ≡ false = search rules in
    digits_not_kept g.T.TakeLines.COMMENT front c.args.self.now.kept.bytes.items _ stands plain g.met.T.TakeLines.blank_is_no_comment
    (rw (← c.is_due.ensures.kept) (record { some = c.shorten.ensures.some.0; begun = c.shorten.ensures.some.1; goes_on = c.shorten.ensures.same }))

pub returns-then-is_remark-clause-short : goal.returns-then-is_remark-clause-short
returns-then-is_remark-clause-short g c = on_short_mark c.keep_mark.result g.T.TakeLines.COMMENT _ _ g.met.T.TakeLines.blank_is_no_comment c.keep_mark.ensures.kept
