use Rattle.std.proofs.Common.{inr, ℕ, List, ap, ◌∙◌, subst}
use Rattle.disk.specs.Contents.{Torn, failures_after}
use Rattle.disk.specs.Gated.{IsOldOrShut}
use Rattle.disk.proofs.Steps.{nothing_leaves, and_then}
use Rattle.disk.proofs.Gates.{close_torn}
use Rattle.disk.proofs.gated.close_gate.Goals as goal

pub returns-clause-writes : goal.returns-clause-writes
returns-clause-writes g c = record {
  any_moment = λ h.
      let first_disk = c.args.disk.now in
      let second_disk = c.is_open.new.disk in
      let gate = c.args.gate_at in
      let old = g.D.Disk.content first_disk in
      let P : List ℕ → Type 0 = IsOldOrShut old gate in
      let same = c.is_open.ensures.reads.same h in
      let was_open = (c.in_ok-is_open.ensures.answer h).0 c.if-not-branch.false in
      let first = nothing_leaves g.D.Disk.moment g.D.Disk.left_since first_disk second_disk P same.adds_nothing (λ x since. inr (c.requires.at_rest h x (g.met.D.Disk.only_now first_disk x h since))) in
      and_then g.D.Disk.moment g.D.Disk.left_since first_disk second_disk c.write_synced.new.disk P (Torn gate 1 (g.D.Disk.content second_disk)) first (c.write_synced.ensures.writes.any_moment (c.is_open.ensures.reads.honest.1 h))
      (λ x torn. close_torn gate old (c.requires.within h) x was_open (subst (λ (d : List ℕ). Torn gate 1 d x) same.same_content torn));
  at_rest = λ h. c.write_synced.ensures.writes.at_rest (c.is_open.ensures.reads.honest.1 h);
  counted = c.write_synced.ensures.writes.counted ∙ ap (failures_after c.write_synced.result) c.in_ok-is_open.ensures.reads.counted;
  honest = (λ h. c.is_open.ensures.reads.honest.0 (c.write_synced.ensures.writes.honest.0 h), λ h. c.write_synced.ensures.writes.honest.1 (c.is_open.ensures.reads.honest.1 h));
}
