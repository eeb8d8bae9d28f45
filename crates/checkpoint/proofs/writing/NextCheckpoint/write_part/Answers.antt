use Rattle.std.proofs.Common.{◌≡◌, ℕ, ◌+◌, ◌-◌, ◌*◌, ◌<◌, ◌≤◌, List, length, take, sym, ◌∙◌, ap, subst, arith}
use Rattle.std.proofs.lemmas.List.{with_items_is}
use Rattle.disk.specs.Contents.{overwritten}
use Rattle.pages.specs.Layout.{slot_pages}
use Rattle.storefile.specs.StoreFile.{page}
use Rattle.checkpoint.specs.Writing.{Draft, slot_page_at, HoldsPages}
use Rattle.checkpoint.proofs.SlotPages.{more_words}
use Rattle.checkpoint.proofs.writing.NextCheckpoint.write_part.Goals.{then-count-left+in_ok-settle, else-count-left}
use Rattle.checkpoint.proofs.writing.NextCheckpoint.write_part.Goals as goal

pub returns-clause-pages : goal.returns-clause-pages
returns-clause-pages g c h =
    let old = g.D.Disk.content c.args.disk.now in
    let header = c.args.header.now in
    let net = c.args.network.now in
    let buffer = c.put_pages.new.buffer in
    let then_honest = c.write_pages.ensures.writes.honest.1 h in
    let stays : g.D.Disk.content c.if-count-left.disk ≡ g.D.Disk.content c.write_pages.new.disk = elim c.if-count-left.branch [
      | then-count-left+in_ok-settle w ↦ ap g.D.Disk.content w.disk-is ∙ (w.settle.ensures.reads.same then_honest).same_content
      | else-count-left w ↦ ap g.D.Disk.content w.disk-is
    ] in
    let whole_buffer : length c.put_pages.new.buffer ≡ 262144 = omega (arith, c.put_pages.ensures.size, ap length c.deref_mut.ensures.value, c.self.invariant) in
    let front : take (4096 * c.min-count.result) c.deref.result.now ≡ take (4096 * c.min-count.result) c.put_pages.new.buffer =
    ap (λ (xs : List ℕ). take (4096 * c.min-count.result) xs) (c.deref.ensures.value ∙ with_items_is c.self.inside.buffer c.put_pages.new.buffer (omega (arith, whole_buffer, c.self.invariant))) in
    let is : g.D.Disk.content c.if-count-left.disk ≡ overwritten old (4096 * slot_page_at header c.self.inside.slot c.self.inside.written) (take (4096 * c.min-count.result) c.put_pages.new.buffer) =
    stays ∙ c.in_ok-write_pages.ensures.written h ∙ ap (λ (xs : List ℕ). overwritten old (4096 * slot_page_at header c.self.inside.slot c.self.inside.written) xs) front in
    let held : HoldsPages (page old) header c.self.inside.slot net c.self.inside.written = subst (λ (x : Draft). HoldsPages (page old) header x.slot net x.written) (sym c.self.view_is) (c.requires.pages h) in
    let left_is : c.pages_left-left.result ≡ slot_pages header - c.args.self.now.written = c.pages_left-left.ensures in
    let written_is : c.self.inside.written ≡ c.args.self.now.written = ap (λ (x : Draft). x.written) c.self.view_is in
    let left : c.args.self.now.written < slot_pages header = c.requires.left in
    let few : c.self.inside.written + c.min-count.result ≤ slot_pages header = omega (arith, left_is, written_is, left) in
    let room : 4096 * c.min-count.result ≤ length c.put_pages.new.buffer = omega arith in
    subst (λ (x : Draft). HoldsPages (page (g.D.Disk.content c.if-count-left.disk)) header x.slot net (c.self.inside.written + c.min-count.result)) c.self.view_is
    (more_words header c.self.inside.slot net old (g.D.Disk.content c.if-count-left.disk) c.put_pages.new.buffer c.self.inside.written c.min-count.result (c.requires.file.whole h) few room held c.put_pages.ensures.pages is)
