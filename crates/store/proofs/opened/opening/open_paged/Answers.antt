use Rattle.std.proofs.Common.{◌∙◌, ap, length}
use Rattle.storefile.proofs.Rests.{stored_as}
use Rattle.store.proofs.Refused.{passes}
use Rattle.store.proofs.Resting.{size_told}
use Rattle.store.proofs.opened.opening.open_paged.Goals as goal

pub invariant_of-result : goal.invariant_of-result
invariant_of-result g c = record {
  numbers = c.in-Ok.ensures.sound.numbers;
  today = c.in-Ok.ensures.format;
  arcs_from = c.in-Ok.ensures.sound.arcs_from;
  rests = λ works now.
      let h = c.find.ensures.reads.honest.0 now in
      (c.in-Ok.ensures.at_rest h, ap length (c.find.ensures.reads.same h).same_content ∙ size_told (g.D.Disk.content c.args.disk) _ (c.in-Ok.ensures.standing h));
  fits = tt;
  goes_on = λ works honest. ∣ tt ∣₁;
}

pub returns-in-Err-clause-opens : goal.returns-in-Err-clause-opens
returns-in-Err-clause-opens g c h all =
    passes (g.D.Disk.content c.args.disk) c.in-Err.refusal (all (g.D.Disk.content c.args.disk) (g.met.D.Disk.leaves_content c.args.disk h)) (c.in-Err.ensures.refused h)

pub returns-clause-stands : goal.returns-clause-stands
returns-clause-stands g c h =
    let held = stored_as (g.D.Disk.content c.args.disk) (record { header = c.in-Ok.found.header; slot = c.in-Ok.found.slot; epoch = c.in-Ok.found.epoch; network = c.in-Ok.found.network; version = c.in-Ok.found.version; next = c.in-Ok.found.next_sequence; unchecked = c.in-Ok.found.unchecked }) (c.in-Ok.ensures.standing h) in
    (held.stored, held.stands, held.format_is)
