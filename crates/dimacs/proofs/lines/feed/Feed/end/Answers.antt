use Rattle.std.proofs.Common.{[], true, false, Some, refl, rules}
use Rattle.dimacs.proofs.Remarks.{stands_some, stands_empty, no_bytes}
use Rattle.dimacs.proofs.Far.{answered, last_row, met_run, met_fault, last_reads, all_reads, run_reads, stop_told}
use Rattle.dimacs.proofs.lines.feed.Feed.end.Goals.{then-not-is_empty+in-Ok+then-not-is_run, then-not-is_empty+in-Ok+else-not-is_run, else-not-is_empty}
use Rattle.dimacs.proofs.lines.feed.Feed.end.Goals as goal

pub returns-in-Err-clause-ends : goal.returns-in-Err-clause-ends
returns-in-Err-clause-ends g c text at =
    let some = stands_some g.T.TakeLines.COMMENT at.front c.args.self.kept.bytes.items at.kept (search rules) in
    stop_told g.T.TakeLines.judge text (Some []) c.args.self.until_run c.take_whole.new.self _ c.in-Err.code
    (met_fault g.T.TakeLines.judge g.T.TakeLines.has_taken g.T.TakeLines.COMMENT text [] _ [] c.args.self c.take_whole.new.self c.in-Err.code at (last_row at.front at.in_line some) (c.in-Err.ensures.taken at.earlier at.front at.taken at.kept) c.take_whole.ensures.until c.take_whole.ensures.lines)
    c.take_whole.ensures.until refl

pub returns-clause-ends : goal.returns-clause-ends
returns-clause-ends g c text at =
    elim c.if-not-is_empty.branch [
      | then-not-is_empty+in-Ok+then-not-is_run w ↦
          let some = stands_some g.T.TakeLines.COMMENT at.front c.args.self.kept.bytes.items at.kept (search rules) in
          let went = answered g.T.TakeLines.judge g.T.TakeLines.has_taken _ _ _ _ _ false w.if-not-is_run.true (w.in-Ok.ensures.taken at.earlier at.front at.taken at.kept) in
          last_reads g.T.TakeLines.judge g.T.TakeLines.has_taken g.T.TakeLines.COMMENT text c.args.self w.take_whole.new.self c.ended.result at some went.0 went.1 went.2 (search rules) (search rules) (search rules)
      | then-not-is_empty+in-Ok+else-not-is_run w ↦
          let some = stands_some g.T.TakeLines.COMMENT at.front c.args.self.kept.bytes.items at.kept (search rules) in
          let ran = answered g.T.TakeLines.judge g.T.TakeLines.has_taken _ _ _ _ _ true w.if-not-is_run.false (w.in-Ok.ensures.taken at.earlier at.front at.taken at.kept) in
          run_reads g.T.TakeLines.judge g.T.TakeLines.has_taken c.args.self.until_run text [] w.take_whole.new.self c.ended.result
          (met_run g.T.TakeLines.judge g.T.TakeLines.has_taken g.T.TakeLines.COMMENT text [] [] _ c.args.self w.take_whole.new.self at (last_row at.front at.in_line some) ran.0 ran.1 ran.2 w.take_whole.ensures.until w.take_whole.ensures.lines)
          w.take_whole.ensures.until (search rules) (search rules) (search rules)
      | else-not-is_empty w ↦
          let none = stands_empty g.T.TakeLines.COMMENT at.front c.args.self.kept.bytes.items at.kept (no_bytes c.args.self.kept.bytes.items (search rules)) in
          all_reads g.T.TakeLines.judge g.T.TakeLines.has_taken g.T.TakeLines.COMMENT text c.args.self c.ended.result at none (search rules) (search rules) (search rules)
    ]
