use Rattle.std.proofs.Common.{refl, ap}
use Rattle.store.specs.declared.paged.going.GoingCheckpoint.{GoingCheckpoint}
use Rattle.storefile.specs.Standing.{Standing}
use Rattle.checkpoint.specs.Writing.{Draft}
use Rattle.store.proofs.Checkpointed.{no_call}
use Rattle.store.proofs.GoingOn.{moments_of_beginning, begun_told, begun_tidily, frozen_begins}
use Rattle.store.proofs.paged.state.Paged.begin_checkpoint.Goals as goal

pub returns-in_default-clause-any_moment : goal.returns-in_default-clause-any_moment
returns-in_default-clause-any_moment g c h stands =
    let s = c.args.self.now in
    let x : Standing = record { header = s.found.header; slot = s.found.slot; epoch = s.found.epoch; network = s.found.network; version = s.found.version; next = s.found.next_sequence; unchecked = s.found.unchecked } in
    no_call g.D.Disk.content g.D.Disk.left g.D.Disk.moment g.D.Disk.left_since s.disk x (s.rests c.requires.works h).0 (λ d since. g.met.D.Disk.only_now s.disk d h since) stands

pub returns-in_default-new-clause-any_moment : goal.returns-in_default-new-clause-any_moment
returns-in_default-new-clause-any_moment g c h stands =
    let s = c.args.self.now in
    let x : Standing = record { header = s.found.header; slot = s.found.slot; epoch = s.found.epoch; network = s.found.network; version = s.found.version; next = s.found.next_sequence; unchecked = s.found.unchecked } in
    no_call g.D.Disk.content g.D.Disk.left g.D.Disk.moment g.D.Disk.left_since s.disk x (s.rests c.requires.works h).0 (λ d since. g.met.D.Disk.only_now s.disk d h since) stands

pub returns-in_default-begin-clause-any_moment : goal.returns-in_default-begin-clause-any_moment
returns-in_default-begin-clause-any_moment g c h stands =
    let s = c.args.self.now in
    let x : Standing = record { header = s.found.header; slot = s.found.slot; epoch = s.found.epoch; network = s.found.network; version = s.found.version; next = s.found.next_sequence; unchecked = s.found.unchecked } in
    moments_of_beginning g.D.Disk.content g.D.Disk.moment g.D.Disk.left_since s.disk c.begin.new.disk x c.in-Ok-new.next.slot (ap (λ (d : Draft). d.slot) c.in-Ok-new.ensures) stands (c.begin.ensures.writes.any_moment h)

pub returns-clause-any_moment : goal.returns-clause-any_moment
returns-clause-any_moment g c h stands =
    let s = c.args.self.now in
    let x : Standing = record { header = s.found.header; slot = s.found.slot; epoch = s.found.epoch; network = s.found.network; version = s.found.version; next = s.found.next_sequence; unchecked = s.found.unchecked } in
    moments_of_beginning g.D.Disk.content g.D.Disk.moment g.D.Disk.left_since s.disk c.begin.new.disk x c.in-Ok-new.next.slot (ap (λ (d : Draft). d.slot) c.in-Ok-new.ensures) stands (c.begin.ensures.writes.any_moment h)

pub returns-clause-stands : goal.returns-clause-stands
returns-clause-stands g c h stands =
    let s = c.args.self.now in
    let x : Standing = record { header = s.found.header; slot = s.found.slot; epoch = s.found.epoch; network = s.found.network; version = s.found.version; next = s.found.next_sequence; unchecked = s.found.unchecked } in
    begun_tidily (g.D.Disk.content s.disk) (g.D.Disk.content c.begin.new.disk) x c.in-Ok-new.next.slot (ap (λ (d : Draft). d.slot) c.in-Ok-new.ensures) stands (c.in-Ok-begin.ensures.shut h)

pub invariant_of-self-2-clause-today : goal.invariant_of-self-2-clause-today
invariant_of-self-2-clause-today g c = c.args.self.now.today

pub invariant_of-self-2-clause-goes_on : goal.invariant_of-self-2-clause-goes_on
invariant_of-self-2-clause-goes_on g c works now =
    let s = c.args.self.now in
    let h = c.begin.ensures.writes.honest.0 now in
    let g' : GoingCheckpoint = record { next = c.in-Ok-new.next; frozen = c.in-Ok.frozen; committed = 0 } in
    ∣ frozen_begins (g.D.Disk.content c.begin.new.disk) s.found.header g' s.found.network s.found.version s.found.next_sequence (ap (λ (d : Draft). d.written) c.in-Ok-new.ensures) (ap (λ (d : Draft). d.version) c.in-Ok-new.ensures)
    (ap (λ (d : Draft). d.next_sequence) c.in-Ok-new.ensures) refl c.in-Ok.ensures.same c.in-Ok.ensures.whole c.of.ensures.network s.arcs_from (c.in-Ok-begin.ensures.shut h).closed ∣₁

pub returns-clause-as_told : goal.returns-clause-as_told
returns-clause-as_told g c h told =
    let s = c.args.self.now in
    let x : Standing = record { header = s.found.header; slot = s.found.slot; epoch = s.found.epoch; network = s.found.network; version = s.found.version; next = s.found.next_sequence; unchecked = s.found.unchecked } in
    begun_told (g.D.Disk.content s.disk) (g.D.Disk.content c.begin.new.disk) x c.in-Ok-new.next.slot (ap (λ (d : Draft). d.slot) c.in-Ok-new.ensures) told (c.in-Ok-begin.ensures.shut h)
