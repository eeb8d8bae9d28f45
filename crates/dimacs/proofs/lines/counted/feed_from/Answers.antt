use Rattle.std.proofs.Common.{◌-◌, subst, rules}
use Rattle.std.specs.Io.BufRead.{FillKeeps}
use Rattle.dimacs.proofs.Calls.{far_on, far_at_end, far_fed, far_refused}
use Rattle.dimacs.proofs.lines.counted.feed_from.Goals as goal

pub returns-then-eq-clause-turns : goal.returns-then-eq-clause-turns
returns-then-eq-clause-turns g c known far =
    let rested = c.fill_buf.follows.lender-at-none in
    let kept = subst (FillKeeps _ (g.R.Read.remaining rested) (g.R.BufRead.consumable_len rested)) c.in-Err.is c.fill_buf.follows.holds-at-none in
    far_on g.T.TakeLines.judge g.T.TakeLines.has_taken g.T.TakeLines.COMMENT known _ _ c.args.feed.now (c.args.feed.now.left - 1) far kept.0

pub returns-then-is_empty-clause-turns : goal.returns-then-is_empty-clause-turns
returns-then-is_empty-clause-turns g c known far =
    let rested = c.fill_buf.follows.lender-at-none in
    let filled = subst (FillKeeps _ (g.R.Read.remaining rested) (g.R.BufRead.consumable_len rested)) c.in-Ok.is c.fill_buf.follows.holds-at-none in
    far_at_end g.T.TakeLines.judge g.T.TakeLines.has_taken g.T.TakeLines.COMMENT known _ _ c.in-Ok.bytes.now c.args.feed.now far filled.0 c.in-Ok.ensures.end (search rules)

pub returns-in-Ok-take-clause-turns : goal.returns-in-Ok-take-clause-turns
returns-in-Ok-take-clause-turns g c known far =
    let rested = c.fill_buf.follows.lender-at-none in
    let filled = subst (FillKeeps _ (g.R.Read.remaining rested) (g.R.BufRead.consumable_len rested)) c.in-Ok.is c.fill_buf.follows.holds-at-none in
    far_fed g.T.TakeLines.judge g.T.TakeLines.has_taken g.T.TakeLines.COMMENT known _ _ _ _ c.in-Ok.bytes.now c.args.feed.now c.take.new.self c.in-Ok-take.part (c.args.feed.now.left - 1 - c.in-Ok-take.part.count)
    far c.in-Ok.ensures.front filled.0 filled.1 c.consume.ensures.bytes c.in-Ok-take.ensures.taken c.in-Ok-take.ensures.feeds

pub returns-in-Err-take-clause-turns : goal.returns-in-Err-take-clause-turns
returns-in-Err-take-clause-turns g c known far =
    far_refused g.T.TakeLines.judge g.T.TakeLines.has_taken g.T.TakeLines.COMMENT known _ c.in-Ok.bytes.now c.args.feed.now c.take.new.self c.in-Err-take.code far c.in-Ok.ensures.front c.in-Err-take.ensures.feeds
