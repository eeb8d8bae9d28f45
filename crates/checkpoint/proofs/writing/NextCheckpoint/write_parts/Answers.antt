use Rattle.std.proofs.Common.{◌≡◌, ℕ, ◌+◌, min, refl, sym, ◌∙◌, ap, subst, arith}
use Rattle.std.proofs.lemmas.Result.{err_from_is_err_and}
use Rattle.disk.specs.Contents.{one_more}
use Rattle.disk.specs.Moments.{LeavesOnly}
use Rattle.pages.specs.declared.content.Slot.{Slot}
use Rattle.pages.specs.Layout.{slot_pages}
use Rattle.storefile.specs.StoreFile.{page}
use Rattle.pagereader.proofs.Calls.{failed_counted}
use Rattle.checkpoint.specs.Writing.{Draft, HoldsPages, IsSlotShut, LeavesSlotShut}
use Rattle.checkpoint.proofs.SlotPages.{going_starts, going_on, going_fails}
use Rattle.checkpoint.proofs.writing.NextCheckpoint.write_parts.Goals as goal

pub loop-self-init : goal.loop-self-init
loop-self-init g c = record {
  same = refl;
  within = c.requires.within;
  going = λ h. going_starts g.D.Disk.content g.D.Disk.left g.D.Disk.moment g.D.Disk.left_since c.args.header.now c.args.self.now.slot c.args.network.now c.args.disk.now c.args.self.now.written
      (c.requires.shut h) (c.requires.pages h) (λ x since. g.met.D.Disk.only_now c.args.disk.now x h since) (g.met.D.Disk.leaves_content c.args.disk.now h);
  counted = refl;
  to_new = λ h. h;
  to_old = λ h. h;
}

pub write_part-requires-clause-file : goal.write_part-requires-clause-file
write_part-requires-clause-file g c = record {
  header = c.requires.file.header;
  whole = λ h.
      let first_honest = c.loop-self.invariant.to_old h in
      (c.loop-self.invariant.going first_honest).now_shut.outside.same_length ∙ c.requires.file.whole first_honest;
}

pub write_part-requires-clause-shut : goal.write_part-requires-clause-shut
write_part-requires-clause-shut g c h =
    let slot_is : c.loop-self.self.slot ≡ c.args.self.now.slot = ap (λ (x : Draft). x.slot) c.loop-self.invariant.same in
    subst (λ (s : Slot). LeavesSlotShut c.args.header.now s (g.D.Disk.content c.loop-self.disk) (g.D.Disk.left c.loop-self.disk)) (sym slot_is) (c.loop-self.invariant.going (c.loop-self.invariant.to_old h)).left_shut

pub write_part-requires-clause-pages : goal.write_part-requires-clause-pages
write_part-requires-clause-pages g c h =
    let slot_is : c.loop-self.self.slot ≡ c.args.self.now.slot = ap (λ (x : Draft). x.slot) c.loop-self.invariant.same in
    subst (λ (s : Slot). HoldsPages (page (g.D.Disk.content c.loop-self.disk)) c.args.header.now s c.args.network.now c.loop-self.self.written) (sym slot_is) (c.loop-self.invariant.going (c.loop-self.invariant.to_old h)).words

pub loop-self-preserved : goal.loop-self-preserved
loop-self-preserved g c =
    let header = c.args.header.now in
    let net = c.args.network.now in
    let mid = g.D.Disk.content c.loop-self.disk in
    let slot_is : c.loop-self.self.slot ≡ c.args.self.now.slot = ap (λ (x : Draft). x.slot) c.loop-self.invariant.same in
    let written : c.write_part.new.self ≡ record c.loop-self.self { written = min (c.loop-self.self.written + c.args.max_pages) (slot_pages header) } = c.in_ok-write_part.ensures.written in
    let count : c.write_part.new.self.written ≡ min (c.loop-self.self.written + c.args.max_pages) (slot_pages header) = ap (λ (x : Draft). x.written) written in
    record {
      same = written ∙ ap (λ (x : Draft). record x { written = min (c.loop-self.self.written + c.args.max_pages) (slot_pages header) }) c.loop-self.invariant.same ∙ ap (λ (n : ℕ). record c.args.self.now { written = n }) (sym count);
      within = omega (arith, count);
      going = λ h.
          let mid_honest = c.loop-self.invariant.to_new h in
          going_on g.D.Disk.content g.D.Disk.left g.D.Disk.moment g.D.Disk.left_since header c.args.self.now.slot net c.args.disk.now c.loop-self.disk c.write_part.new.disk c.loop-self.self.written c.write_part.new.self.written
          (c.loop-self.invariant.going h)
          (subst (λ (s : Slot). LeavesOnly g.D.Disk.moment g.D.Disk.left_since c.loop-self.disk c.write_part.new.disk (IsSlotShut header s mid)) slot_is (c.write_part.ensures.writes.any_moment mid_honest))
          (subst (λ (s : Slot). IsSlotShut header s mid (g.D.Disk.content c.write_part.new.disk)) slot_is (c.in_ok-write_part.ensures.content mid_honest))
          (subst (λ (s : Slot). LeavesSlotShut header s (g.D.Disk.content c.write_part.new.disk) (g.D.Disk.left c.write_part.new.disk)) slot_is (c.in_ok-write_part.ensures.shut mid_honest))
          (subst (λ (s : Slot). HoldsPages (page (g.D.Disk.content c.write_part.new.disk)) header s net c.write_part.new.self.written) slot_is (c.in_ok-write_part.ensures.pages mid_honest));
      counted = c.in_ok-write_part.ensures.writes.counted ∙ c.loop-self.invariant.counted;
      to_new = λ h. c.write_part.ensures.writes.honest.1 (c.loop-self.invariant.to_new h);
      to_old = λ h. c.loop-self.invariant.to_old (c.write_part.ensures.writes.honest.0 h);
    }

pub returns-in_err-write_part-clause-writes : goal.returns-in_err-write_part-clause-writes
returns-in_err-write_part-clause-writes g c =
    let p = err_from_is_err_and c.from_residual.result c.from_residual.ensures.1 in
    let slot_is : c.loop-self.self.slot ≡ c.args.self.now.slot = ap (λ (x : Draft). x.slot) c.loop-self.invariant.same in
    record {
      any_moment = λ h.
          going_fails g.D.Disk.content g.D.Disk.left g.D.Disk.moment g.D.Disk.left_since c.args.header.now c.args.self.now.slot c.args.network.now c.args.disk.now c.loop-self.disk c.write_part.new.disk c.loop-self.self.written
          (c.loop-self.invariant.going h)
          (subst (λ (s : Slot). LeavesOnly g.D.Disk.moment g.D.Disk.left_since c.loop-self.disk c.write_part.new.disk (IsSlotShut c.args.header.now s (g.D.Disk.content c.loop-self.disk))) slot_is
          (c.write_part.ensures.writes.any_moment (c.loop-self.invariant.to_new h)));
      counted = failed_counted c.from_residual.result p.0 _ _ p.1 (c.in_err-write_part.ensures.writes.counted ∙ ap one_more c.loop-self.invariant.counted);
      honest = (λ h. c.loop-self.invariant.to_old (c.write_part.ensures.writes.honest.0 h), λ h. c.write_part.ensures.writes.honest.1 (c.loop-self.invariant.to_new h));
    }

pub returns-clause-pages : goal.returns-clause-pages
returns-clause-pages g c h =
    let all : c.loop-self.self.written ≡ slot_pages c.args.header.now = omega (arith, c.loop-self.invariant.within) in
    subst (λ (n : ℕ). HoldsPages (page (g.D.Disk.content c.loop-self.disk)) c.args.header.now c.args.self.now.slot c.args.network.now n) all (c.loop-self.invariant.going h).words

pub returns-clause-content : goal.returns-clause-content
returns-clause-content g c h = (c.loop-self.invariant.going h).now_shut

pub returns-clause-shut : goal.returns-clause-shut
returns-clause-shut g c h = (c.loop-self.invariant.going h).left_shut

pub returns-clause-writes : goal.returns-clause-writes
returns-clause-writes g c = record {
  any_moment = λ h. (c.loop-self.invariant.going h).meanwhile;
  counted = c.loop-self.invariant.counted;
  honest = (c.loop-self.invariant.to_old, c.loop-self.invariant.to_new);
}

pub returns-clause-written : goal.returns-clause-written
returns-clause-written g c =
    let all : c.loop-self.self.written ≡ slot_pages c.args.header.now = omega (arith, c.loop-self.invariant.within) in
    c.loop-self.invariant.same ∙ ap (λ (n : ℕ). record c.args.self.now { written = n }) all
