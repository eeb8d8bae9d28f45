use Rattle.std.proofs.Common.{◌≡◌, ◌∙◌, Result, ap, subst}
use Rattle.std.specs.Prelude.{Ok, IfOk}
use Rattle.roadnet.specs.declared.refusals.Refusal.{Refusal}
use Rattle.pages.specs.Contents.{Head}
use Rattle.storefile.specs.StoreFile.{page}
use Rattle.storefile.specs.Judging.{spelled_at, head_in}
use Rattle.checkpoint.specs.Loading.{head_from}
use Rattle.pagereader.proofs.Outcomes.{if_err_may}
use Rattle.checkpoint.proofs.heads.read_head.Goals as goal

pub returns-clause-spelled : goal.returns-clause-spelled
returns-clause-spelled g c h =
    let file = g.D.Disk.content c.args.disk.now in
    let said : spelled_at c.head_page-number.result (head_in c.args.header.now c.read_page.new.into) ≡ head_from (page (g.D.Disk.content c.args.disk.now)) c.args.header.now c.args.slot =
    ap (λ bytes. spelled_at c.head_page-number.result (head_in c.args.header.now bytes)) (c.in-Ok.ensures.bytes h)
    ∙ ap (λ k. spelled_at k (head_in c.args.header.now (page (g.D.Disk.content c.args.disk.now) k))) c.head_page-number.ensures in
    subst (λ (s : Result Head Refusal). IfOk c.judge_head.result (λ head. s ≡ Ok head)) said c.judge_head.ensures.spelled

pub returns-clause-refused : goal.returns-clause-refused
returns-clause-refused g c h =
    let said : spelled_at c.head_page-number.result (head_in c.args.header.now c.read_page.new.into) ≡ head_from (page (g.D.Disk.content c.args.disk.now)) c.args.header.now c.args.slot =
    ap (λ bytes. spelled_at c.head_page-number.result (head_in c.args.header.now bytes)) (c.in-Ok.ensures.bytes h)
    ∙ ap (λ k. spelled_at k (head_in c.args.header.now (page (g.D.Disk.content c.args.disk.now) k))) c.head_page-number.ensures in
    if_err_may (head_from (page (g.D.Disk.content c.args.disk.now)) c.args.header.now c.args.slot) (spelled_at c.head_page-number.result (head_in c.args.header.now c.read_page.new.into)) c.judge_head.result said c.judge_head.ensures.refused
