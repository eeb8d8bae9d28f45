use Rattle.std.proofs.Common.{ℕ, ◌+◌, List, length, ap, ◌∙◌}
use Rattle.std.proofs.lemmas.Result.{on_ok_weaker}
use Rattle.disk.specs.Contents.{Torn, failures_after}
use Rattle.disk.specs.Gated.{IsOldOrShut, IsShutOrOpened, IsWholeOrShut}
use Rattle.disk.proofs.Steps.{and_then, weaker}
use Rattle.disk.proofs.GatedPages.{while_closing, while_writing, while_opening, page_written}
use Rattle.disk.proofs.gated.write_gated.Goals as goal

pub returns-clause-written : goal.returns-clause-written
returns-clause-written g c h =
    let honest_then = c.close_gate.ensures.writes.honest.1 h in
    let honest_later = c.write_synced.ensures.writes.honest.1 honest_then in
    let old = g.D.Disk.content c.args.disk.now in
    on_ok_weaker c.open_gate.result
    (λ opened. opened ∙ page_written c.args.at c.args.body.now old (c.requires.within h) (g.D.Disk.content c.close_gate.new.disk) (g.D.Disk.content c.write_synced.new.disk)
    (c.in_ok-close_gate.ensures.shut h) (c.in_ok-write_synced.ensures.written honest_then))
    (c.open_gate.ensures.opened honest_later)

pub returns-clause-writes : goal.returns-clause-writes
returns-clause-writes g c = record {
  any_moment = λ h.
      let first_disk = c.args.disk.now in
      let second_disk = c.close_gate.new.disk in
      let third_disk = c.write_synced.new.disk in
      let last_disk = c.open_gate.new.disk in
      let at = c.args.at in
      let old = g.D.Disk.content first_disk in
      let body = c.args.body.now in
      let gate = at + length body in
      let P : List ℕ → Type 0 = IsWholeOrShut old at body in
      let honest_then = c.close_gate.ensures.writes.honest.1 h in
      let honest_later = c.write_synced.ensures.writes.honest.1 honest_then in
      let shut = c.in_ok-close_gate.ensures.shut h in
      let fits = c.requires.within h in
      let first = weaker g.D.Disk.moment g.D.Disk.left_since first_disk second_disk (IsOldOrShut old gate) P (c.close_gate.ensures.writes.any_moment h) (while_closing at body old fits) in
      let second = and_then g.D.Disk.moment g.D.Disk.left_since first_disk second_disk third_disk P (Torn at (length body) (g.D.Disk.content second_disk)) first (c.write_synced.ensures.writes.any_moment honest_then)
      (λ x torn. while_writing at body old fits (g.D.Disk.content second_disk) x shut torn) in
      and_then g.D.Disk.moment g.D.Disk.left_since first_disk third_disk last_disk P (IsShutOrOpened (g.D.Disk.content third_disk) gate) second (c.open_gate.ensures.writes.any_moment honest_later)
      (λ x way. while_opening at body old fits (g.D.Disk.content second_disk) (g.D.Disk.content third_disk) shut (c.in_ok-write_synced.ensures.written honest_then) x way);
  at_rest = λ h. c.open_gate.ensures.writes.at_rest (c.write_synced.ensures.writes.honest.1 (c.close_gate.ensures.writes.honest.1 h));
  counted = c.open_gate.ensures.writes.counted ∙ ap (failures_after c.open_gate.result) (c.in_ok-write_synced.ensures.writes.counted ∙ c.in_ok-close_gate.ensures.writes.counted);
  honest = (
    λ h. c.close_gate.ensures.writes.honest.0 (c.write_synced.ensures.writes.honest.0 (c.open_gate.ensures.writes.honest.0 h)),
    λ h. c.open_gate.ensures.writes.honest.1 (c.write_synced.ensures.writes.honest.1 (c.close_gate.ensures.writes.honest.1 h)),
  );
}
