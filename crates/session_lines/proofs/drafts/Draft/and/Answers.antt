use Rattle.std.proofs.Common.{arith}
use Rattle.session_lines.proofs.Drafting.{one_counted, still_faulty, too_many}
use Rattle.session_lines.proofs.drafts.Draft.and.Goals as goal

pub returns-in-Whole : goal.returns-in-Whole
returns-in-Whole c draft is = c.added.ensures draft (rw c.in-Whole.is at is)

pub returns-then-count-ge-MOST_OF_GROUP : goal.returns-then-count-ge-MOST_OF_GROUP
returns-then-count-ge-MOST_OF_GROUP c draft is =
    let i = rw c.in-Unkept.is at is in
    too_many draft c.args.command i.0 (omega (arith, c.if-count-ge-MOST_OF_GROUP.true, i.1))

pub returns-else-count-ge-MOST_OF_GROUP : goal.returns-else-count-ge-MOST_OF_GROUP
returns-else-count-ge-MOST_OF_GROUP c draft is =
    let i = rw c.in-Unkept.is at is in
    one_counted draft c.args.command c.in-Unkept.count i.0 i.1 (omega (arith, c.if-count-ge-MOST_OF_GROUP.false))

pub returns-in-Faulty : goal.returns-in-Faulty
returns-in-Faulty c draft is = still_faulty draft c.args.command c.in-Faulty.code (rw c.in-Faulty.is at is)
