use Rattle.std.proofs.Common.{◌≡◌, ◌∙◌, ℕ, ◌+◌, List, Result, Ok, Err, length, ap, sym, subst}
use Rattle.std.specs.Prelude.{OnOk}
use Rattle.std.proofs.lemmas.Result.{err_from_is_err_and, IfOk-weaker, IfErr-weaker}
use Rattle.pages.specs.declared.header.Header.{Header}
use Rattle.storefile.specs.StoreFile.{page, joined}
use Rattle.storefile.specs.Judging.{journal_from, opened_in}
use Rattle.storefile.specs.Standing.{standing_in}
use Rattle.pagereader.specs.Reading.{ReadsToOpen}
use Rattle.pagereader.proofs.Calls.{reads_then, reads_then_refuses}
use Rattle.pagereader.proofs.Outcomes.{may_refuse_whole}
use Rattle.store.specs.Opening.{HeaderFitsIn, header_from, current_from}
use Rattle.store.proofs.Steps.{no_header, no_current, no_journal, all_known, same_standing, of_found}
use Rattle.store.proofs.opened.opening.find.Goals as goal

always : {X Y : Type 0} (r : Result X Y) (P : Type 0) → P → OnOk r P
always (Ok x) P p = p
always (Err y) P p = tt

pub returns-in_err-header-clause-refused : goal.returns-in_err-header-clause-refused
returns-in_err-header-clause-refused g c h =
    let p = err_from_is_err_and c.from_residual.result c.from_residual.ensures.1 in
    let synced = g.D.Disk.content c.settle.new.disk in
    let first : g.D.Disk.content c.settle.new.disk ≡ g.D.Disk.content c.args.disk.now = (c.settle.ensures.reads.same h).same_content in
    rw (p.1, p.2) (may_refuse_whole (header_from c.args.format (length synced) (page synced 0)) (opened_in c.args.format (g.D.Disk.content c.args.disk.now)) _
    (λ e. ap (λ (file : List ℕ). opened_in c.args.format file) (sym first) ∙ no_header c.args.format (length synced) (page synced) _ e)
    (c.in_err-header.ensures.refused (c.settle.ensures.reads.honest.1 h)))

pub returns-in_err-header-clause-reads : goal.returns-in_err-header-clause-reads
returns-in_err-header-clause-reads g c =
    let p = err_from_is_err_and c.from_residual.result c.from_residual.ensures.1 in
    let synced : ReadsToOpen {T = Unit {0}} g.D.Disk (Ok tt) c.args.disk.now c.settle.new.disk = record { causes = tt; same = λ h. c.in-Ok.ensures.reads.same h; counted = c.in-Ok.ensures.reads.counted; honest = c.in-Ok.ensures.reads.honest } in
    rw (p.1, p.2) (reads_then_refuses g.D.Disk _ _ c.args.disk.now c.settle.new.disk c.read_header.new.disk synced c.in_err-header.ensures.reads)

pub returns-in_err-slot-clause-refused : goal.returns-in_err-slot-clause-refused
returns-in_err-slot-clause-refused g c h =
    let p = err_from_is_err_and c.from_residual-in_err-slot.result c.from_residual-in_err-slot.ensures.1 in
    let h1 = c.settle.ensures.reads.honest.1 h in
    let synced = g.D.Disk.content c.settle.new.disk in
    let first : g.D.Disk.content c.settle.new.disk ≡ g.D.Disk.content c.args.disk.now = (c.settle.ensures.reads.same h).same_content in
    let second : g.D.Disk.content c.read_header.new.disk ≡ synced = (c.in_ok-header.ensures.reads.same h1).same_content in
    rw (p.1, p.2) (may_refuse_whole (current_from (page (g.D.Disk.content c.read_header.new.disk)) c.in_ok-header.header) (opened_in c.args.format (g.D.Disk.content c.args.disk.now)) _
    (λ e. ap (λ (file : List ℕ). opened_in c.args.format file) (sym first)
    ∙ no_current c.args.format (length synced) (page synced) c.in_ok-header.header _ (c.in_ok-header.ensures.header h1) (ap (λ (file : List ℕ). current_from (page file) c.in_ok-header.header) (sym second) ∙ e))
    (c.in_err-slot.ensures.refused (c.in_ok-header.ensures.reads.honest.1 h1)))

pub returns-in_err-slot-clause-order : goal.returns-in_err-slot-clause-order
returns-in_err-slot-clause-order g c h =
    let p = err_from_is_err_and c.from_residual-in_err-slot.result c.from_residual-in_err-slot.ensures.1 in
    rw (p.1, p.2) (λ memory. subst (λ (file : List ℕ). HeaderFitsIn c.args.format file) (c.settle.ensures.reads.same h).same_content (c.in_ok-header.header, c.in_ok-header.ensures.header (c.settle.ensures.reads.honest.1 h)))

pub returns-in_err-slot-clause-reads : goal.returns-in_err-slot-clause-reads
returns-in_err-slot-clause-reads g c =
    let p = err_from_is_err_and c.from_residual-in_err-slot.result c.from_residual-in_err-slot.ensures.1 in
    let synced : ReadsToOpen {T = Unit {0}} g.D.Disk (Ok tt) c.args.disk.now c.settle.new.disk = record { causes = tt; same = λ h. c.in-Ok.ensures.reads.same h; counted = c.in-Ok.ensures.reads.counted; honest = c.in-Ok.ensures.reads.honest } in
    let two = reads_then g.D.Disk _ _ c.args.disk.now c.settle.new.disk c.read_header.new.disk synced c.in_ok-header.ensures.reads in
    rw (p.1, p.2) (reads_then_refuses g.D.Disk _ _ c.args.disk.now c.read_header.new.disk c.read_current.new.disk two c.in_err-slot.ensures.reads)

pub returns-clause-reads : goal.returns-clause-reads
returns-clause-reads g c =
    let synced : ReadsToOpen {T = Unit {0}} g.D.Disk (Ok tt) c.args.disk.now c.settle.new.disk = record { causes = tt; same = λ h. c.in-Ok.ensures.reads.same h; counted = c.in-Ok.ensures.reads.counted; honest = c.in-Ok.ensures.reads.honest } in
    let two = reads_then g.D.Disk _ _ c.args.disk.now c.settle.new.disk c.read_header.new.disk synced c.in_ok-header.ensures.reads in
    let three = reads_then g.D.Disk _ _ c.args.disk.now c.read_header.new.disk c.read_current.new.disk two c.in_ok-slot.ensures.reads in
    reads_then g.D.Disk _ _ c.args.disk.now c.read_current.new.disk c.read_journal.new.disk three c.read_journal.ensures.reads

pub returns-clause-at_rest : goal.returns-clause-at_rest
returns-clause-at_rest g c h =
    let two = reads_then g.D.Disk _ _ c.settle.new.disk c.read_header.new.disk c.read_current.new.disk c.in_ok-header.ensures.reads c.in_ok-slot.ensures.reads in
    let same = (reads_then g.D.Disk _ _ c.settle.new.disk c.read_current.new.disk c.read_journal.new.disk two c.read_journal.ensures.reads).same (c.settle.ensures.reads.honest.1 h) in
    always c.read_journal.result _ (λ d was. c.in-Ok.ensures.at_rest h d (same.among d was) ∙ sym same.same_content)

pub returns-clause-standing : goal.returns-clause-standing
returns-clause-standing g c h =
    let h1 = c.settle.ensures.reads.honest.1 h in
    let h2 = c.in_ok-header.ensures.reads.honest.1 h1 in
    let h3 = c.in_ok-slot.ensures.reads.honest.1 h2 in
    let synced = g.D.Disk.content c.settle.new.disk in
    let header = c.in_ok-header.header in
    let slot = c.in_ok-slot.slot in
    let head = c.in_ok-slot.head in
    let network = c.in_ok-slot.network in
    let first : g.D.Disk.content c.settle.new.disk ≡ g.D.Disk.content c.args.disk.now = (c.settle.ensures.reads.same h).same_content in
    let second : g.D.Disk.content c.read_header.new.disk ≡ synced = (c.in_ok-header.ensures.reads.same h1).same_content in
    let third : g.D.Disk.content c.read_current.new.disk ≡ synced = (c.in_ok-slot.ensures.reads.same h2).same_content ∙ second in
    of_found c.read_journal.result _ _ _ (c.read_journal.ensures.carried_out h3) c.read_journal.ensures.found
    (λ found out is.
    let told : opened_in c.args.format synced ≡ _ =
    all_known c.args.format (length synced) (page synced) header (record { slot = slot; head = head; network = network }) out.groups found.network
    (c.in_ok-header.ensures.header h1) (ap (λ (file : List ℕ). current_from (page file) header) (sym second) ∙ c.in_ok-slot.ensures.current h2)
    (ap (λ (file : List ℕ). journal_from (page file) header header.journal_pages head.next_sequence head.version network) (sym third) ∙ out.said_is) in
    ap (λ (file : List ℕ). standing_in (opened_in c.args.format file)) (sym first) ∙ ap standing_in told
    ∙ same_standing header found.header slot found.slot head.epoch found.epoch found.network
    (head.version + length (joined out.groups)) found.version (head.next_sequence + length out.groups) found.next_sequence (length out.groups) found.unchecked
    (sym is.header) (sym is.slot_is) (sym is.epoch) (sym out.version_is)
    (ap (λ (n : ℕ). head.next_sequence + n) out.count_is ∙ sym is.next) out.count_is)

pub returns-clause-format : goal.returns-clause-format
returns-clause-format g c = IfOk-weaker c.read_journal.result _ _ (λ found is. ap (λ (x : Header). x.format) is.header ∙ c.in_ok-header.ensures.format) c.read_journal.ensures.found

pub returns-clause-refused : goal.returns-clause-refused
returns-clause-refused g c h =
    let h1 = c.settle.ensures.reads.honest.1 h in
    let h2 = c.in_ok-header.ensures.reads.honest.1 h1 in
    let h3 = c.in_ok-slot.ensures.reads.honest.1 h2 in
    let synced = g.D.Disk.content c.settle.new.disk in
    let header = c.in_ok-header.header in
    let head = c.in_ok-slot.head in
    let network = c.in_ok-slot.network in
    let first : g.D.Disk.content c.settle.new.disk ≡ g.D.Disk.content c.args.disk.now = (c.settle.ensures.reads.same h).same_content in
    let second : g.D.Disk.content c.read_header.new.disk ≡ synced = (c.in_ok-header.ensures.reads.same h1).same_content in
    let third : g.D.Disk.content c.read_current.new.disk ≡ synced = (c.in_ok-slot.ensures.reads.same h2).same_content ∙ second in
    IfErr-weaker c.read_journal.result _ _
    (λ refusal may. may_refuse_whole (journal_from (page (g.D.Disk.content c.read_current.new.disk)) header header.journal_pages head.next_sequence head.version network)
    (opened_in c.args.format (g.D.Disk.content c.args.disk.now)) refusal
    (λ e. ap (λ (file : List ℕ). opened_in c.args.format file) (sym first)
    ∙ no_journal c.args.format (length synced) (page synced) header (record { slot = c.in_ok-slot.slot; head = head; network = network }) refusal
    (c.in_ok-header.ensures.header h1) (ap (λ (file : List ℕ). current_from (page file) header) (sym second) ∙ c.in_ok-slot.ensures.current h2)
    (ap (λ (file : List ℕ). journal_from (page file) header header.journal_pages head.next_sequence head.version network) (sym third) ∙ e))
    may) (c.read_journal.ensures.refused h3)

pub returns-clause-order : goal.returns-clause-order
returns-clause-order g c h =
    let h1 = c.settle.ensures.reads.honest.1 h in
    IfErr-weaker c.read_journal.result _ _
    (λ refusal may memory. subst (λ (file : List ℕ). HeaderFitsIn c.args.format file) (c.settle.ensures.reads.same h).same_content (c.in_ok-header.header, c.in_ok-header.ensures.header h1))
    (c.read_journal.ensures.refused (c.in_ok-slot.ensures.reads.honest.1 (c.in_ok-header.ensures.reads.honest.1 h1)))

pub returns-clause-fits : goal.returns-clause-fits
returns-clause-fits g c h =
    IfOk-weaker c.read_journal.result _ _
    (λ found is. subst (λ (file : List ℕ). HeaderFitsIn c.args.format file) (c.settle.ensures.reads.same h).same_content (c.in_ok-header.header, c.in_ok-header.ensures.header (c.settle.ensures.reads.honest.1 h)))
    c.read_journal.ensures.found
