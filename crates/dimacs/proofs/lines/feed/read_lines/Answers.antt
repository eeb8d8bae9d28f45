use Rattle.std.proofs.Common.{◌∙◌, refl, rules}
use Rattle.dimacs.proofs.Calls.{begins, fails_at, refused_at, ran_at, ran_lines, ended_at, ended_lines, if_so}
use Rattle.dimacs.proofs.lines.feed.read_lines.Goals as goal

pub loop-feed-init : goal.loop-feed-init
loop-feed-init g c = record {
  far = begins g.T.TakeLines.judge g.T.TakeLines.has_taken g.T.TakeLines.COMMENT _ _ c.requires c.new.ensures refl;
  room = search rules;
  until = refl;
  failed = refl;
  same = refl;
}

pub returns-in-Failed-clause-read : goal.returns-in-Failed-clause-read
returns-in-Failed-clause-read g c =
    fails_at g.T.TakeLines.judge g.T.TakeLines.has_taken g.T.TakeLines.COMMENT _ _ c.args.until_run c.turn.new.feed _
    (c.in-Failed.ensures.turns _ c.loop-feed.invariant.far) (c.turn.ensures.until ∙ c.loop-feed.invariant.until) refl

pub returns-in-AtEnd-clause-read : goal.returns-in-AtEnd-clause-read
returns-in-AtEnd-clause-read g c =
    ended_at g.T.TakeLines.judge g.T.TakeLines.has_taken g.T.TakeLines.COMMENT _ _ c.args.until_run c.turn.new.feed c.end.result
    (c.in-AtEnd.ensures.turns _ c.loop-feed.invariant.far) (c.turn.ensures.until ∙ c.loop-feed.invariant.until) c.end.ensures.ends

pub returns-then-part-clause-read : goal.returns-then-part-clause-read
returns-then-part-clause-read g c =
    ran_at g.T.TakeLines.judge g.T.TakeLines.has_taken g.T.TakeLines.COMMENT _ _ c.args.until_run c.turn.new.feed c.ended.result
    (if_so _ _ c.in-Took.part.at_run (search rules) (c.in-Took.ensures.turns _ c.loop-feed.invariant.far)) (c.turn.ensures.until ∙ c.loop-feed.invariant.until) (search rules) (search rules) (search rules)

pub returns-in-Refused-clause-read : goal.returns-in-Refused-clause-read
returns-in-Refused-clause-read g c =
    refused_at g.T.TakeLines.judge g.T.TakeLines.has_taken g.T.TakeLines.COMMENT _ _ c.args.until_run c.turn.new.feed _ c.in-Refused.code
    (c.in-Refused.ensures.turns _ c.loop-feed.invariant.far) (c.turn.ensures.until ∙ c.loop-feed.invariant.until) refl

pub returns-in-AtEnd-clause-lines : goal.returns-in-AtEnd-clause-lines
returns-in-AtEnd-clause-lines g c =
    ended_lines g.T.TakeLines.judge g.T.TakeLines.has_taken g.T.TakeLines.COMMENT _ _ c.turn.new.feed c.end.result
    (c.in-AtEnd.ensures.turns _ c.loop-feed.invariant.far) c.end.ensures.ends

pub returns-then-part-clause-lines : goal.returns-then-part-clause-lines
returns-then-part-clause-lines g c =
    ran_lines g.T.TakeLines.judge g.T.TakeLines.has_taken g.T.TakeLines.COMMENT _ _ c.args.until_run c.turn.new.feed c.ended.result
    (if_so _ _ c.in-Took.part.at_run (search rules) (c.in-Took.ensures.turns _ c.loop-feed.invariant.far)) (c.turn.ensures.until ∙ c.loop-feed.invariant.until) (search rules) (search rules) (search rules)
