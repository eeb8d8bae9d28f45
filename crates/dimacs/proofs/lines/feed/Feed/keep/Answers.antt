use Rattle.std.proofs.Common.{◌≡◌, ◌∷◌, [], ◌++◌, rules}
use Rattle.dimacs.proofs.Remarks.{no_bytes, nothing_more, mark_stays, on_piece, on_look}
use Rattle.dimacs.proofs.lines.feed.Feed.keep.Goals as goal

pub returns-then-is_empty-clause-kept : goal.returns-then-is_empty-clause-kept
returns-then-is_empty-clause-kept g c front stands = nothing_more g.T.TakeLines.COMMENT front c.args.self.now.kept.bytes.items c.args.piece.now (no_bytes c.args.piece.now (search rules)) stands

pub returns-then-is_comment-clause-kept : goal.returns-then-is_comment-clause-kept
returns-then-is_comment-clause-kept g c front stands =
    mark_stays g.T.TakeLines.COMMENT front c.args.self.now.kept.bytes.items c.args.piece.now g.met.T.TakeLines.return_is_no_comment g.met.T.TakeLines.blank_is_no_comment stands (c.is_comment.ensures.yes (search rules))

pub returns-then-is_remark-clause-kept : goal.returns-then-is_remark-clause-kept
returns-then-is_remark-clause-kept g c =
    on_piece c.keep_mark.result g.T.TakeLines.COMMENT c.args.self.now.kept.bytes.items c.args.piece.now _ g.met.T.TakeLines.return_is_no_comment (no_bytes c.args.self.now.kept.bytes.items (search rules)) (search rules) c.keep_mark.ensures.kept

pub returns-clause-kept : goal.returns-clause-kept
returns-clause-kept g c =
    let other : c.args.self.now.kept.bytes.items ≡ g.T.TakeLines.COMMENT ∷ [] → ⊥ = λ is. absurd (let yes = c.is_comment.ensures.no is in search rules) in
    on_look c.look.result g.T.TakeLines.COMMENT c.args.self.now.kept.bytes.items c.args.piece.now _ _ other c.in_ok-append_fields.ensures.kept c.look.ensures.kept

pub returns-clause-refused : goal.returns-clause-refused
returns-clause-refused g c earlier front taken stands =
    let other : c.args.self.now.kept.bytes.items ≡ g.T.TakeLines.COMMENT ∷ [] → ⊥ = λ is. absurd (let yes = c.is_comment.ensures.no is in search rules) in
    c.look.ensures.refused earlier (front ++ c.args.piece.now) (rw c.append_fields.ensures.taker taken) (c.in_ok-append_fields.ensures.kept front stands other)
