use Rattle.std.proofs.Common.{◌++◌, ◌∷◌, [], refl, true, false, rules, arith, length, length-append, ap}
use Rattle.std.proofs.lemmas.Result.{err_from_is_err_and}
use Rattle.dimacs.proofs.Far.{next_row, took_line, met_run, met_fault, kept_front, stopped_front, suffix_is, suffix_next, answered}
use Rattle.dimacs.proofs.lines.feed.Feed.take.Goals as goal

pub returns-in_err-take_whole-clause-feeds : goal.returns-in_err-take_whole-clause-feeds
returns-in_err-take_whole-clause-feeds g c text more within =
    let at = c.loop-piece.invariant.within text more within in
    let split = c.in-Some.ensures in
    let p = err_from_is_err_and c.from_residual.result c.from_residual.ensures.1 in
    let next = next_row at.front _ _ _ more at.in_line split.1 split.0 in
    rw (p.1, p.2) (met_fault _ _ _ text _ _ _ _ c.take_whole.new.self _ at next (c.in_err-take_whole.ensures.taken at.earlier at.front at.taken at.kept) c.take_whole.ensures.until c.take_whole.ensures.lines)

pub returns-then-branch-clause-feeds : goal.returns-then-branch-clause-feeds
returns-then-branch-clause-feeds g c text more within =
    let at = c.loop-piece.invariant.within text more within in
    let split = c.in-Some.ensures in
    let ran = answered g.T.TakeLines.judge g.T.TakeLines.has_taken _ _ _ _ _ true (search rules) (c.in_ok-take_whole.ensures.taken at.earlier at.front at.taken at.kept) in
    let left = suffix_is c.args.bytes.now _ c.in-Some.more.now _ (suffix_next _ _ _ _ _ c.loop-piece.invariant.split split.0) refl in
    let next = next_row at.front _ _ _ more at.in_line split.1 split.0 in
    rw left (met_run _ _ _ text _ _ _ _ c.take_whole.new.self at next ran.0 ran.1 ran.2 c.take_whole.ensures.until c.take_whole.ensures.lines)

pub loop-piece-preserved : goal.loop-piece-preserved
loop-piece-preserved g c =
    let split = c.in-Some.ensures in
    record {
      front = c.loop-piece.invariant.front ++ (c.in-Some.piece.now ++ 10 ∷ []);
      split = suffix_next _ _ _ _ _ c.loop-piece.invariant.split split.0;
      within = λ text more within.
          let at = c.loop-piece.invariant.within text more within in
          let went = answered g.T.TakeLines.judge g.T.TakeLines.has_taken _ _ _ _ _ false (search rules) (c.in_ok-take_whole.ensures.taken at.earlier at.front at.taken at.kept) in
          took_line _ _ _ text _ _ _ more _ _ at split.0 split.1 went.0 went.1 went.2 c.take_whole.ensures.until (search rules) c.in_ok-take_whole.ensures.empty;
      lines = omega (arith, ap length split.0, length-append c.in-Some.piece.now (10 ∷ c.in-Some.more.now), c.loop-piece.invariant.lines, c.take_whole.ensures.lines);
      until = search rules;
      left = search rules;
    }

pub returns-in_err-keep-clause-feeds : goal.returns-in_err-keep-clause-feeds
returns-in_err-keep-clause-feeds g c text more within =
    let at = c.loop-piece.invariant.within text more within in
    let p = err_from_is_err_and c.from_residual-in_err-keep.result c.from_residual-in_err-keep.ensures.1 in
    rw (p.1, p.2) (stopped_front _ _ _ text _ more _ c.keep.new.self _ at c.in_default.ensures c.in_err-keep.ensures.some (c.in_err-keep.ensures.refused at.earlier at.front at.taken at.kept) c.keep.ensures.until c.keep.ensures.lines)

pub returns-clause-feeds : goal.returns-clause-feeds
returns-clause-feeds g c text more within =
    let at = c.loop-piece.invariant.within text more within in
    (refl, kept_front _ _ _ text _ more _ c.keep.new.self at c.in_default.ensures c.in_ok-keep.ensures.kept c.in_ok-keep.ensures.taker c.keep.ensures.until c.keep.ensures.lines)
