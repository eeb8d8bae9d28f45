use Rattle.std.proofs.Common.{ℕ, ◌*◌, length, sym, subst}
use Rattle.checkpoint.proofs.SlotPages.{AreBesideGate, words_beside, has_written}
use Rattle.checkpoint.proofs.slot_pages.write_pages.Goals as goal

pub returns-clause-content : goal.returns-clause-content
returns-clause-content g c h =
    let place : AreBesideGate c.args.header.now c.args.slot (4096 * c.slot_page_at-number.result) (length c.args.pages.now) =
    subst (λ (k : ℕ). AreBesideGate c.args.header.now c.args.slot (4096 * k) (length c.args.pages.now)) (sym c.slot_page_at-number.ensures) (words_beside c.args.header.now c.args.slot c.args.first (length c.args.pages.now) c.requires.room) in
    (has_written c.args.header.now c.args.slot g.D.Disk.content g.D.Disk.left g.D.Disk.moment g.D.Disk.left_since c.args.disk.now c.write_at.new.self (4096 * c.slot_page_at-number.result) (length c.args.pages.now)
    (c.requires.file.whole h) place (c.requires.shut h) (c.write_at.ensures.stop h) (c.write_at.ensures.time h) (λ x since. g.met.D.Disk.only_now c.args.disk.now x h since)
    (g.met.D.Disk.leaves_content c.write_at.new.self (c.write_at.ensures.honest.1 h))).now_shut

pub returns-clause-shut : goal.returns-clause-shut
returns-clause-shut g c h =
    let place : AreBesideGate c.args.header.now c.args.slot (4096 * c.slot_page_at-number.result) (length c.args.pages.now) =
    subst (λ (k : ℕ). AreBesideGate c.args.header.now c.args.slot (4096 * k) (length c.args.pages.now)) (sym c.slot_page_at-number.ensures) (words_beside c.args.header.now c.args.slot c.args.first (length c.args.pages.now) c.requires.room) in
    (has_written c.args.header.now c.args.slot g.D.Disk.content g.D.Disk.left g.D.Disk.moment g.D.Disk.left_since c.args.disk.now c.write_at.new.self (4096 * c.slot_page_at-number.result) (length c.args.pages.now)
    (c.requires.file.whole h) place (c.requires.shut h) (c.write_at.ensures.stop h) (c.write_at.ensures.time h) (λ x since. g.met.D.Disk.only_now c.args.disk.now x h since)
    (g.met.D.Disk.leaves_content c.write_at.new.self (c.write_at.ensures.honest.1 h))).left_shut

pub returns-clause-writes : goal.returns-clause-writes
returns-clause-writes g c = record {
  any_moment = λ h.
      let place : AreBesideGate c.args.header.now c.args.slot (4096 * c.slot_page_at-number.result) (length c.args.pages.now) =
      subst (λ (k : ℕ). AreBesideGate c.args.header.now c.args.slot (4096 * k) (length c.args.pages.now)) (sym c.slot_page_at-number.ensures) (words_beside c.args.header.now c.args.slot c.args.first (length c.args.pages.now) c.requires.room) in
      (has_written c.args.header.now c.args.slot g.D.Disk.content g.D.Disk.left g.D.Disk.moment g.D.Disk.left_since c.args.disk.now c.write_at.new.self (4096 * c.slot_page_at-number.result) (length c.args.pages.now)
      (c.requires.file.whole h) place (c.requires.shut h) (c.write_at.ensures.stop h) (c.write_at.ensures.time h) (λ x since. g.met.D.Disk.only_now c.args.disk.now x h since)
      (g.met.D.Disk.leaves_content c.write_at.new.self (c.write_at.ensures.honest.1 h))).meanwhile;
  counted = c.write_at.ensures.counted;
  honest = c.write_at.ensures.honest;
}
