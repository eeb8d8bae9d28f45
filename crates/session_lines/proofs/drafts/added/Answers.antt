use Rattle.std.proofs.Common.{length, ap, arith}
use Rattle.session_lines.proofs.Drafting.{one_counted, one_more, too_many}
use Rattle.session_lines.proofs.drafts.added.Goals as goal

pub returns-then-count-ge-MOST_OF_GROUP : goal.returns-then-count-ge-MOST_OF_GROUP
returns-then-count-ge-MOST_OF_GROUP c draft is = too_many draft c.args.command is.0 (omega (arith, c.if-count-ge-MOST_OF_GROUP.true, c.len-count.ensures, ap length is.1))

pub returns-in-Ok : goal.returns-in-Ok
returns-in-Ok c draft is = one_more draft c.args.command c.args.commands.items c.push.new.self.items is.0 is.1 (omega (arith, c.if-count-ge-MOST_OF_GROUP.false, c.len-count.ensures)) c.in-Ok.ensures.items

pub returns-in-Err : goal.returns-in-Err
returns-in-Err c draft is = one_counted draft c.args.command c.len-count.result is.0 (omega (arith, c.len-count.ensures, ap length is.1)) (omega (arith, c.if-count-ge-MOST_OF_GROUP.false))
