use Rattle.std.proofs.Common.{◌≡◌, ◌+◌, ◌-◌, ◌*◌, length, take, drop, ap, ◌∙◌, arith}
use Rattle.std.proofs.lemmas.Result.{on_ok_weaker}
use Rattle.pagereader.proofs.reader.read_page.Goals as goal

pub returns-clause-bytes : goal.returns-clause-bytes
returns-clause-bytes g c h =
    let content = g.D.Disk.content c.args.disk.now in
    let at : c.args.k * 4096 ≡ 4096 * c.args.k = omega arith in
    let size : (c.args.k * 4096 + length c.args.into.now) - c.args.k * 4096 ≡ 4096 = omega arith in
    on_ok_weaker c.read_at.result
    (λ read. read ∙ ap (λ n. take n (drop (c.args.k * 4096) content)) size ∙ ap (λ n. take 4096 (drop n content)) at)
    (c.read_at.ensures.bytes h)
