use Rattle.std.proofs.Common.{◌≡◌, ◌+◌, ◌-◌, length, arith, ◌∙◌}
use Rattle.pagereader.proofs.Runs.{page_of_run}
use Rattle.pagereader.proofs.reader.PageReader.read.Goals as goal

pub returns-clause-bytes : goal.returns-clause-bytes
returns-clause-bytes g c h =
    let run = c.hold.new.self in
    let from = c.in_ok-hold.ensures.from in
    let place : c.args.k ≡ run.first + (c.args.k - run.first) = omega arith in
    c.copy.ensures ∙ page_of_run (g.D.Disk.content c.args.disk.now) run.bytes run.first c.args.k (length run.bytes) (c.args.k - run.first) (c.hold.ensures.run h) place c.in_ok-hold.ensures.to
