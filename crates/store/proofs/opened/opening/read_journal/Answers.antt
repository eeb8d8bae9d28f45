use Rattle.std.proofs.Common.{◌≡◌, ◌∙◌, ℕ, ◌+◌, length, ap, sym}
use Rattle.std.proofs.lemmas.Result.{err_from_is_err_and}
use Rattle.storefile.specs.StoreFile.{page, joined}
use Rattle.pagereader.proofs.Outcomes.{may_refuse_whole}
use Rattle.store.specs.Opening.{journal_of}
use Rattle.store.proofs.opened.opening.read_journal.Goals as goal

pub returns-in_err-version-clause-refused : goal.returns-in_err-version-clause-refused
returns-in_err-version-clause-refused g c h =
    let p = err_from_is_err_and c.from_residual.result c.from_residual.ensures.1 in
    let head = c.args.head.now in
    let pages = page (g.D.Disk.content c.args.disk.now) in
    let same : journal_of pages c.args.header.now c.next_sequence-from.result c.version.result c.args.network ≡ journal_of pages c.args.header.now head.next_sequence head.version c.args.network =
    ap (λ (q : ℕ). journal_of pages c.args.header.now q c.version.result c.args.network) c.next_sequence-from.ensures
    ∙ ap (λ (v : ℕ). journal_of pages c.args.header.now head.next_sequence v c.args.network) c.version.ensures in
    rw (p.1, p.2) (may_refuse_whole (journal_of pages c.args.header.now c.next_sequence-from.result c.version.result c.args.network) (journal_of pages c.args.header.now head.next_sequence head.version c.args.network) _
    (λ e. sym same ∙ e) (c.in_err-version.ensures.refused h))

pub returns-clause-carried_out : goal.returns-clause-carried_out
returns-clause-carried_out g c h =
    let head = c.args.head.now in
    let pages = page (g.D.Disk.content c.args.disk.now) in
    let out = c.in_ok-version.ensures.carried_out h in
    let same : journal_of pages c.args.header.now c.next_sequence-from.result c.version.result c.args.network ≡ journal_of pages c.args.header.now head.next_sequence head.version c.args.network =
    ap (λ (q : ℕ). journal_of pages c.args.header.now q c.version.result c.args.network) c.next_sequence-from.ensures
    ∙ ap (λ (v : ℕ). journal_of pages c.args.header.now head.next_sequence v c.args.network) c.version.ensures in
    record {
      groups = out.groups;
      said_is = sym same ∙ out.said_is;
      count_is = out.count_is;
      version_is = out.version_is ∙ ap (λ (v : ℕ). v + length (joined out.groups)) c.version.ensures;
    }
