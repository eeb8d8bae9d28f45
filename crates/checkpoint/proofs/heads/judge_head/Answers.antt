use Rattle.std.proofs.Common.{◌∙◌, inr, ap}
use Rattle.storefile.specs.Judging.{spelled_at}
use Rattle.storefile.proofs.Decoded.{decoded_head}
use Rattle.checkpoint.proofs.heads.judge_head.Goals as goal

pub returns-in_default-found-clause-refused : goal.returns-in_default-found-clause-refused
returns-in_default-found-clause-refused c =
    inr (ap (spelled_at c.args.number) (decoded_head c.args.header.now c.args.page.now c.in-Ok.found c.requires c.in-Ok.ensures ∙ c.in_default-found.is))

pub returns-clause-spelled : goal.returns-clause-spelled
returns-clause-spelled c =
    ap (spelled_at c.args.number) (decoded_head c.args.header.now c.args.page.now c.in-Ok.found c.requires c.in-Ok.ensures ∙ c.in-Some.is)
