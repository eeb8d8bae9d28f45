use Rattle.std.proofs.Common.{◌≡◌, ◌++◌, ◌∷◌, [], true, rules}
use Rattle.std.specs.Io.BufRead.{strip_last}
use Rattle.dimacs.specs.Lines.{fields}
use Rattle.dimacs.specs.Faults.{is_remark}
use Rattle.dimacs.proofs.Alikes.{answered_same}
use Rattle.dimacs.proofs.Remarks.{front_of_mark, remark_is_no_run, row_of_kept}
use Rattle.dimacs.proofs.lines.feed.Feed.take_whole.Goals as goal

pub returns-then-is_comment-clause-taken : goal.returns-then-is_comment-clause-taken
returns-then-is_comment-clause-taken g c earlier front taken stands =
    let mark = g.T.TakeLines.COMMENT in
    let is : c.args.self.now.kept.bytes.items ≡ mark ∷ [] = c.is_comment.ensures.yes (search rules) in
    let row : is_remark mark (fields (strip_last 13 (front ++ c.args.piece.now))) ≡ true = front_of_mark mark front c.args.self.now.kept.bytes.items g.met.T.TakeLines.return_is_no_comment g.met.T.TakeLines.blank_is_no_comment stands is c.args.piece.now in
    let passes = c.pass_comment.ensures earlier (fields (strip_last 13 (front ++ c.args.piece.now))) row taken in
    (passes.0, passes.1, λ until. remark_is_no_run mark (fields (strip_last 13 (front ++ c.args.piece.now))) g.met.T.TakeLines.run_is_no_comment row)

pub returns-clause-taken : goal.returns-clause-taken
returns-clause-taken g c earlier front taken stands =
    let mark = g.T.TakeLines.COMMENT in
    let other : c.args.self.now.kept.bytes.items ≡ mark ∷ [] → ⊥ = λ is. absurd (let yes = c.is_comment.ensures.no is in search rules) in
    answered_same g.T.TakeLines.judge g.T.TakeLines.has_taken c.same_is_taken.ensures.judged c.same_is_taken.ensures.taken c.args.self.now.until_run earlier _ _ _ c.take_whole.result
    (row_of_kept mark front c.args.self.now.kept.bytes.items c.args.piece.now stands other) (c.take_whole.ensures.taken earlier taken)
