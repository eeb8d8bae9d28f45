use Rattle.std.proofs.Common.{◌≡◌, ◌∙◌, ap, sym}
use Rattle.pages.specs.declared.content.Slot.TheVariants.{A, B}
use Rattle.pages.specs.Layout.{HeadOf, page_number}
use Rattle.storefile.specs.StoreFile.{page}
use Rattle.storefile.specs.Judging.{current_slot}
use Rattle.pages.specs.Gates.{open_number}
use Rattle.pagereader.proofs.Outcomes.{ok_said, err_said}
use Rattle.checkpoint.proofs.heads.choose.Goals as goal

pub returns-clause-slot : goal.returns-clause-slot
returns-clause-slot g c h =
    let content = g.D.Disk.content c.args.disk.now in
    let honest_then = c.in-Ok.ensures.reads.honest.1 h in
    let a : open_number (page (g.D.Disk.content c.args.disk.now) (page_number c.args.header.now (HeadOf A))) ≡ c.in-Ok.a =
    ap (λ k. open_number (page (g.D.Disk.content c.args.disk.now) k)) (sym c.head_page.ensures) ∙ sym (c.in-Ok.ensures.number h) in
    let b : open_number (page (g.D.Disk.content c.args.disk.now) (page_number c.args.header.now (HeadOf B))) ≡ c.in-Ok-read_open_number.b =
    ap (λ k. open_number (page (g.D.Disk.content c.args.disk.now) k)) (sym c.head_page-2.ensures)
    ∙ ap (λ file. open_number (page file c.head_page-2.result)) (sym (c.in-Ok.ensures.reads.same h).same_content) ∙ sym (c.in-Ok-read_open_number.ensures.number honest_then) in
    ok_said (current_slot (page (g.D.Disk.content c.args.disk.now)) c.args.header.now) c.greater.result (c.greater.ensures.slot (page (g.D.Disk.content c.args.disk.now)) a b)

pub returns-clause-refused : goal.returns-clause-refused
returns-clause-refused g c h =
    let honest_then = c.in-Ok.ensures.reads.honest.1 h in
    let a : open_number (page (g.D.Disk.content c.args.disk.now) (page_number c.args.header.now (HeadOf A))) ≡ c.in-Ok.a =
    ap (λ k. open_number (page (g.D.Disk.content c.args.disk.now) k)) (sym c.head_page.ensures) ∙ sym (c.in-Ok.ensures.number h) in
    let b : open_number (page (g.D.Disk.content c.args.disk.now) (page_number c.args.header.now (HeadOf B))) ≡ c.in-Ok-read_open_number.b =
    ap (λ k. open_number (page (g.D.Disk.content c.args.disk.now) k)) (sym c.head_page-2.ensures)
    ∙ ap (λ file. open_number (page file c.head_page-2.result)) (sym (c.in-Ok.ensures.reads.same h).same_content) ∙ sym (c.in-Ok-read_open_number.ensures.number honest_then) in
    err_said (current_slot (page (g.D.Disk.content c.args.disk.now)) c.args.header.now) c.greater.result (c.greater.ensures.slot (page (g.D.Disk.content c.args.disk.now)) a b)
