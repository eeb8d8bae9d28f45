use Rattle.std.proofs.Common.{◌≡◌, ◌∙◌, ℕ, ◌+◌, ◌<◌, List, ap, sym, subst, arith}
use Rattle.std.proofs.lemmas.Result.{err_from_is_err_and}
use Rattle.storefile.specs.StoreFile.{page, journal_page_at}
use Rattle.storefile.specs.Judging.{journal_from}
use Rattle.pagereader.proofs.Outcomes.{may_lack_whole}
use Rattle.pagereader.proofs.Unchanged.{nothing_read, read_more}
use Rattle.store.specs.Opening.{entry_from, IsCarriedOut}
use Rattle.store.proofs.Replayed.{PagesSoFar, page_read, stands_as_read, pages_start, pages_more, pages_stop, pages_done}
use Rattle.store.proofs.opened.replay.replay.Goals as goal

pub loop-i-init : goal.loop-i-init
loop-i-init g c = record {
  said = λ h. pages_start (page (g.D.Disk.content c.args.disk.now)) c.args.header.now c.args.from c.args.version c.args.network.now;
  fits = c.requires.version;
  later = omega arith;
  grows = omega arith;
  read = nothing_read g.D.Disk c.args.disk.now;
}

pub returns-then-not-is_of-clause-carried_out : goal.returns-then-not-is_of-clause-carried_out
returns-then-not-is_of-clause-carried_out g c h =
    let file = g.D.Disk.content c.args.disk.now in
    let header = c.args.header.now in
    let few : c.loop-i.i < c.args.header.now.journal_pages = omega arith in
    let at = page_read file (g.D.Disk.content c.loop-i.disk) header c.args.from c.loop-i.i c.from.result c.journal_page-number.result c.read_page.new.into
    (c.loop-i.invariant.read.stays h).same_content c.from.ensures c.journal_page-number.ensures (c.in-Ok.ensures.bytes (c.loop-i.invariant.read.honest_then.1 h)) in
    let stands = stands_as_read (page file) header c.args.from c.loop-i.i c.from.result c.read_page.new.into c.is_of.result c.from.ensures at c.is_of.ensures in
    pages_done (journal_from (page file) header header.journal_pages c.args.from c.args.version c.args.network.now)
    (page file) header c.args.from c.args.version c.loop-i.i c.loop-i.reached c.loop-i.network (c.loop-i.invariant.said h) (omega arith) (λ lt. stands ∙ c.if-not-is_of.true)

pub returns-in_err-reached-clause-refused : goal.returns-in_err-reached-clause-refused
returns-in_err-reached-clause-refused g c h =
    let p = err_from_is_err_and c.from_residual.result c.from_residual.ensures.1 in
    let file = g.D.Disk.content c.args.disk.now in
    let header = c.args.header.now in
    let number = c.journal_page-number.result in
    let within : c.loop-i.i < c.args.header.now.journal_pages = omega arith in
    let at = page_read file (g.D.Disk.content c.loop-i.disk) header c.args.from c.loop-i.i c.from.result number c.read_page.new.into
    (c.loop-i.invariant.read.stays h).same_content c.from.ensures c.journal_page-number.ensures (c.in-Ok.ensures.bytes (c.loop-i.invariant.read.honest_then.1 h)) in
    let stands = stands_as_read (page file) header c.args.from c.loop-i.i c.from.result c.read_page.new.into c.is_of.result c.from.ensures at c.is_of.ensures in
    let place : number ≡ journal_page_at header (c.args.from + c.loop-i.i) = c.journal_page-number.ensures ∙ ap (λ (n : ℕ). journal_page_at header (c.args.from + n)) c.from.ensures in
    rw (p.1, p.2) (may_lack_whole (entry_from header.format number c.read_page.new.into c.loop-i.reached c.loop-i.network)
    (journal_from (page file) header header.journal_pages c.args.from c.args.version c.args.network.now) _
    (λ e. pages_stop (journal_from (page file) header header.journal_pages c.args.from c.args.version c.args.network.now)
    (page file) header c.args.from c.args.version c.loop-i.i c.loop-i.reached c.loop-i.network _ (c.loop-i.invariant.said h) within (stands ∙ c.if-not-is_of.false)
    (ap (λ (bytes : List ℕ). entry_from header.format (journal_page_at header (c.args.from + c.loop-i.i)) bytes c.loop-i.reached c.loop-i.network) (sym at)
    ∙ ap (λ (k : ℕ). entry_from header.format k c.read_page.new.into c.loop-i.reached c.loop-i.network) (sym place) ∙ e))
    c.in_err-reached.ensures.refused)

pub loop-i-preserved : goal.loop-i-preserved
loop-i-preserved g c = record {
  said = λ h.
      let file = g.D.Disk.content c.args.disk.now in
      let header = c.args.header.now in
      let number = c.journal_page-number.result in
      let within : c.loop-i.i < c.args.header.now.journal_pages = omega arith in
      let at = page_read file (g.D.Disk.content c.loop-i.disk) header c.args.from c.loop-i.i c.from.result number c.read_page.new.into
      (c.loop-i.invariant.read.stays h).same_content c.from.ensures c.journal_page-number.ensures (c.in-Ok.ensures.bytes (c.loop-i.invariant.read.honest_then.1 h)) in
      let stands = stands_as_read (page file) header c.args.from c.loop-i.i c.from.result c.read_page.new.into c.is_of.result c.from.ensures at c.is_of.ensures in
      let place : number ≡ journal_page_at header (c.args.from + c.loop-i.i) = c.journal_page-number.ensures ∙ ap (λ (n : ℕ). journal_page_at header (c.args.from + n)) c.from.ensures in
      pages_more (journal_from (page file) header header.journal_pages c.args.from c.args.version c.args.network.now)
      (page file) header c.args.from c.args.version c.loop-i.i c.loop-i.reached c.in_ok-reached.reached c.loop-i.network c.apply_page.new.network
      c.read_page.new.into (c.loop-i.invariant.said h) within (stands ∙ c.if-not-is_of.false) at
      (subst (λ (k : ℕ). IsCarriedOut (entry_from header.format k c.read_page.new.into c.loop-i.reached c.loop-i.network) c.loop-i.reached c.apply_page.new.network c.in_ok-reached.reached) place c.in_ok-reached.ensures.carried_out);
  fits = c.in_ok-reached.ensures.fits;
  later = omega (arith, c.in_ok-reached.ensures.later, c.loop-i.invariant.later);
  grows = omega (arith, c.in_ok-reached.ensures.grows, c.loop-i.invariant.grows);
  read = read_more g.D.Disk c.args.disk.now c.loop-i.disk c.read_page.new.disk c.loop-i.invariant.read
      (record { stays = c.in-Ok.ensures.reads.same; honest_then = c.in-Ok.ensures.reads.honest; counted = c.in-Ok.ensures.reads.counted });
}

pub returns-clause-carried_out : goal.returns-clause-carried_out
returns-clause-carried_out g c h =
    let file = g.D.Disk.content c.args.disk.now in
    let header = c.args.header.now in
    let all : c.loop-i.i ≡ c.args.header.now.journal_pages = omega arith in
    let so_far = subst (λ (n : ℕ). PagesSoFar (journal_from (page file) header header.journal_pages c.args.from c.args.version c.args.network.now)
    (page file) header c.args.from c.args.version n c.loop-i.reached c.loop-i.network) all (c.loop-i.invariant.said h) in
    pages_done (journal_from (page file) header header.journal_pages c.args.from c.args.version c.args.network.now)
    (page file) header c.args.from c.args.version header.journal_pages c.loop-i.reached c.loop-i.network so_far (omega arith) (λ lt. absurd (omega (arith, lt)))
