use Rattle.std.proofs.Common.{◌∙◌, sym}
use Rattle.roadnet.proofs.Outlined.{opened_in}
use Rattle.roadnet.proofs.outlines.Outline.admit.Goals as goal

pub returns-in-Set : goal.returns-in-Set
returns-in-Set c net of = rw c.in-Set.is (c.judge_set.ensures net c.in-Set.arc (opened_in net c.args.self.now c.in-Set.arc of ∙ sym c.is_open.ensures))

pub returns-in-Close : goal.returns-in-Close
returns-in-Close c net of = rw c.in-Close.is (c.judge_close.ensures net c.in-Close.arc (opened_in net c.args.self.now c.in-Close.arc of ∙ sym c.is_open-in-Close.ensures))

pub returns-in-Reopen : goal.returns-in-Reopen
returns-in-Reopen c net of = rw c.in-Reopen.is (c.judge_reopen.ensures net c.in-Reopen.arc (opened_in net c.args.self.now c.in-Reopen.arc of ∙ sym c.is_open-in-Reopen.ensures))
