use Rattle.std.proofs.Common.{ℕ, List, length, refl, sym, ap, ◌∙◌, subst, arith}
use Rattle.std.proofs.lemmas.Result.{on_ok_weaker}
use Rattle.disk.specs.Contents.{Torn, failures_after}
use Rattle.disk.proofs.Steps.{started, goes_on}
use Rattle.disk.proofs.gated.write_synced.Goals as goal

pub returns-clause-writes : goal.returns-clause-writes
returns-clause-writes g c = record {
  any_moment = λ h.
      let first_disk = c.args.disk.now in
      let second_disk = c.write_at.new.self in
      let third_disk = c.sync.new.self in
      let P : List ℕ → Type 0 = Torn c.args.at (length c.args.bytes.now) (g.D.Disk.content first_disk) in
      let same : P (g.D.Disk.content first_disk) = record { before = λ i lt. refl; after = λ i ge. refl; no_shorter = omega arith; no_longer = omega arith } in
      let at_start : (x : List ℕ) → g.D.Disk.left first_disk x → P x = λ x left. subst P (sym (c.requires.at_rest h x left)) same in
      let after_write : (x : List ℕ) → g.D.Disk.left second_disk x → P x = λ x left.
      let from = c.write_at.ensures.stop h x left in
      subst (λ (d : List ℕ). Torn c.args.at (length c.args.bytes.now) d x) (c.requires.at_rest h from.0 from.1) from.2 in
      let honest_then : g.D.Disk.honest second_disk = c.write_at.ensures.honest.1 h in
      let first = started g.D.Disk.moment g.D.Disk.left_since first_disk P (λ x since. at_start x (g.met.D.Disk.only_now first_disk x h since)) in
      let second = goes_on g.D.Disk.moment g.D.Disk.left_since first_disk first_disk second_disk P (g.D.Disk.left second_disk) first (c.write_at.ensures.time h) after_write in
      goes_on g.D.Disk.moment g.D.Disk.left_since first_disk second_disk third_disk P (g.D.Disk.left third_disk) second (c.sync.ensures.time honest_then) (λ x left. after_write x (c.sync.ensures.stop honest_then x left));
  at_rest = λ h.
      let honest_then = c.write_at.ensures.honest.1 h in
      on_ok_weaker c.sync.result (λ only x left. only x left ∙ sym (c.sync.ensures.content honest_then)) (c.sync.ensures.durable honest_then);
  counted = c.sync.ensures.counted ∙ ap (failures_after c.sync.result) c.in_ok-write_at.ensures.counted;
  honest = (λ h. c.write_at.ensures.honest.0 (c.sync.ensures.honest.0 h), λ h. c.sync.ensures.honest.1 (c.write_at.ensures.honest.1 h));
}
