use Rattle.std.proofs.Common.{◌∙◌, sym}
use Rattle.session_lines.proofs.Drafting.{counted_group, faulty_group, no_group, whole_group}
use Rattle.session_lines.proofs.drafts.Draft.end.Goals as goal

pub returns-in-Ok : goal.returns-in-Ok
returns-in-Ok c draft is =
    let i = rw c.in-Whole.is at is in
    (whole_group draft c.in-Whole.commands.items i.0 i.1 c.in-Ok.ensures.size, c.in-Ok.ensures.group ∙ sym i.1)

pub returns-in-Err : goal.returns-in-Err
returns-in-Err c draft is =
    let i = rw c.in-Whole.is at is in
    no_group draft c.in-Whole.commands.items i.0 i.1 i.2 c.in-Err.ensures.size.1

pub returns-in-Unkept : goal.returns-in-Unkept
returns-in-Unkept c draft is =
    let i = rw c.in-Unkept.is at is in
    counted_group draft _ i.0 i.1 i.2

pub returns-in-Faulty : goal.returns-in-Faulty
returns-in-Faulty c draft is = faulty_group draft c.in-Faulty.code (rw c.in-Faulty.is at is)
