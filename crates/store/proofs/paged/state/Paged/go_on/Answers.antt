use Rattle.std.proofs.Common.{◌≡◌, ◌+◌, ◌∙◌, ap, subst, arith}
use Rattle.std.proofs.Math.Logic.{∥∥₁_map}
use Rattle.std.proofs.lemmas.Bool.Decides.{nat_tests}
use Rattle.roadnet.specs.Net.{Net}
use Rattle.pages.specs.declared.content.Slot.{Slot}
use Rattle.storefile.specs.StoreFile.{page}
use Rattle.storefile.specs.Standing.{Standing}
use Rattle.checkpoint.specs.Frozen.{frozen_net}
use Rattle.checkpoint.specs.Writing.{Draft, HoldsPages, IsSlotShut}
use Rattle.store.specs.declared.paged.going.GoingCheckpoint.{GoingCheckpoint}
use Rattle.store.specs.Going.{FitsStore, FrozenGoesOn}
use Rattle.store.proofs.Checkpointed.{shut_told, shut_tidily}
use Rattle.store.proofs.GoingOn.{from_some, some_goes, draft_goes, words_held, fits_part, goes_part, told_as, stands_as, moments_of_part, told_by_parts, stands_by_parts}
use Rattle.store.proofs.paged.state.Paged.go_on.Goals as goal

pub go_on-requires-clause-pages : goal.go_on-requires-clause-pages
go_on-requires-clause-pages g c h =
    let s = c.args.self.now in
    let p = c.in-Some.going in
    let on = some_goes (λ (y : GoingCheckpoint). FrozenGoesOn (g.D.Disk.content s.disk) s.found.header y s.found.network s.found.version s.found.next_sequence) s.going p c.in-Some.ensures.value (s.goes_on c.requires.works h) in
    let frozen = c.new-network.result in
    let goes = draft_goes (g.D.Disk.content s.disk) s.found.header p frozen s.found.network s.found.version s.found.next_sequence c.new-network.ensures on in
    words_held (g.D.Disk.content s.disk) s.found.header p.next frozen p.committed s.found.network s.found.version s.found.next_sequence goes

pub returns-in_default-go_on-clause-any_moment : goal.returns-in_default-go_on-clause-any_moment
returns-in_default-go_on-clause-any_moment g c h stands =
    let s = c.args.self.now in
    let p = c.in-Some.going in
    let x : Standing = record { header = s.found.header; slot = s.found.slot; epoch = s.found.epoch; network = s.found.network; version = s.found.version; next = s.found.next_sequence; unchecked = s.found.unchecked } in
    let fits = from_some (λ (y : GoingCheckpoint). FitsStore s.found.header s.found.slot s.found.epoch s.found.version s.found.next_sequence s.found.unchecked y.next y.committed) s.going p c.in-Some.ensures.value s.fits in
    let on = some_goes (λ (y : GoingCheckpoint). FrozenGoesOn (g.D.Disk.content s.disk) s.found.header y s.found.network s.found.version s.found.next_sequence) s.going p c.in-Some.ensures.value (s.goes_on c.requires.works h) in
    let frozen = c.new-network.result in
    let goes = draft_goes (g.D.Disk.content s.disk) s.found.header p frozen s.found.network s.found.version s.found.next_sequence c.new-network.ensures on in
    moments_of_part g.D.Disk.content g.D.Disk.moment g.D.Disk.left_since s.disk c.go_on.new.disk x p.next frozen p.committed s.numbers fits stands goes (c.go_on.ensures.writes.any_moment h)

pub returns-then-not-whole-clause-any_moment : goal.returns-then-not-whole-clause-any_moment
returns-then-not-whole-clause-any_moment g c h stands =
    let s = c.args.self.now in
    let p = c.in-Some.going in
    let x : Standing = record { header = s.found.header; slot = s.found.slot; epoch = s.found.epoch; network = s.found.network; version = s.found.version; next = s.found.next_sequence; unchecked = s.found.unchecked } in
    let fits = from_some (λ (y : GoingCheckpoint). FitsStore s.found.header s.found.slot s.found.epoch s.found.version s.found.next_sequence s.found.unchecked y.next y.committed) s.going p c.in-Some.ensures.value s.fits in
    let on = some_goes (λ (y : GoingCheckpoint). FrozenGoesOn (g.D.Disk.content s.disk) s.found.header y s.found.network s.found.version s.found.next_sequence) s.going p c.in-Some.ensures.value (s.goes_on c.requires.works h) in
    let frozen = c.new-network.result in
    let goes = draft_goes (g.D.Disk.content s.disk) s.found.header p frozen s.found.network s.found.version s.found.next_sequence c.new-network.ensures on in
    moments_of_part g.D.Disk.content g.D.Disk.moment g.D.Disk.left_since s.disk c.go_on.new.disk x p.next frozen p.committed s.numbers fits stands goes (c.go_on.ensures.writes.any_moment h)

pub returns-clause-any_moment : goal.returns-clause-any_moment
returns-clause-any_moment g c h stands =
    let s = c.args.self.now in
    let p = c.in-Some.going in
    let x : Standing = record { header = s.found.header; slot = s.found.slot; epoch = s.found.epoch; network = s.found.network; version = s.found.version; next = s.found.next_sequence; unchecked = s.found.unchecked } in
    let fits = from_some (λ (y : GoingCheckpoint). FitsStore s.found.header s.found.slot s.found.epoch s.found.version s.found.next_sequence s.found.unchecked y.next y.committed) s.going p c.in-Some.ensures.value s.fits in
    let on = some_goes (λ (y : GoingCheckpoint). FrozenGoesOn (g.D.Disk.content s.disk) s.found.header y s.found.network s.found.version s.found.next_sequence) s.going p c.in-Some.ensures.value (s.goes_on c.requires.works h) in
    let frozen = c.new-network.result in
    let goes = draft_goes (g.D.Disk.content s.disk) s.found.header p frozen s.found.network s.found.version s.found.next_sequence c.new-network.ensures on in
    moments_of_part g.D.Disk.content g.D.Disk.moment g.D.Disk.left_since s.disk c.go_on.new.disk x p.next frozen p.committed s.numbers fits stands goes (c.go_on.ensures.writes.any_moment h)

pub invariant_of-self-then-not-whole : goal.invariant_of-self-then-not-whole
invariant_of-self-then-not-whole g c =
    let s = c.args.self.now in
    let p = c.in-Some.going in
    let fits = from_some (λ (y : GoingCheckpoint). FitsStore s.found.header s.found.slot s.found.epoch s.found.version s.found.next_sequence s.found.unchecked y.next y.committed) s.going p c.in-Some.ensures.value s.fits in
    let written : c.go_on.new.self ≡ record p.next { written = p.next.written + c.args.pages } = c.in-Ok.ensures.part c.if-not-whole.true in
    record {
      numbers = s.numbers;
      today = s.today;
      arcs_from = s.arcs_from;
      rests = λ works now.
          let h = c.go_on.ensures.writes.honest.0 now in
          (c.in-Ok.ensures.writes.at_rest h, (c.in-Ok.ensures.shut h c.if-not-whole.true).outside.same_length ∙ (s.rests c.requires.works h).1);
      fits = fits_part s.found.header s.found.slot s.found.epoch s.found.version s.found.next_sequence s.found.unchecked p.next c.go_on.new.self p.committed (p.next.written + c.args.pages) written
          (grind (arith, nat_tests, c.in-Ok.ensures.answers, c.if-not-whole.true)) fits;
      goes_on = λ works now.
          let h = c.go_on.ensures.writes.honest.0 now in
          let on = some_goes (λ (y : GoingCheckpoint). FrozenGoesOn (g.D.Disk.content s.disk) s.found.header y s.found.network s.found.version s.found.next_sequence) s.going p c.in-Some.ensures.value (s.goes_on c.requires.works h) in
          let words = subst (λ (f : Net). HoldsPages (page (g.D.Disk.content c.go_on.new.disk)) s.found.header p.next.slot f c.go_on.new.self.written) c.new-network.ensures (c.in-Ok.ensures.pages h c.if-not-whole.true) in
          ∥∥₁_map on (λ o. record {
            words_to = o.words_to;
            goes = goes_part (g.D.Disk.content s.disk) (g.D.Disk.content c.go_on.new.disk) s.found.header s.found.slot p.next c.go_on.new.self (p.next.written + c.args.pages) (frozen_net p.frozen s.found.network) p.committed s.found.network s.found.version s.found.next_sequence
                fits.slot_is written (c.in-Ok.ensures.shut h c.if-not-whole.true) words o.goes;
          });
    }

pub returns-then-not-whole-clause-stands : goal.returns-then-not-whole-clause-stands
returns-then-not-whole-clause-stands g c h stands =
    let s = c.args.self.now in
    let p = c.in-Some.going in
    let x : Standing = record { header = s.found.header; slot = s.found.slot; epoch = s.found.epoch; network = s.found.network; version = s.found.version; next = s.found.next_sequence; unchecked = s.found.unchecked } in
    let fits = from_some (λ (y : GoingCheckpoint). FitsStore s.found.header s.found.slot s.found.epoch s.found.version s.found.next_sequence s.found.unchecked y.next y.committed) s.going p c.in-Some.ensures.value s.fits in
    shut_tidily (g.D.Disk.content s.disk) (g.D.Disk.content c.go_on.new.disk) x stands
    (subst (λ (t : Slot). IsSlotShut s.found.header t (g.D.Disk.content s.disk) (g.D.Disk.content c.go_on.new.disk)) fits.slot_is (c.in-Ok.ensures.shut h c.if-not-whole.true))

pub returns-clause-stands : goal.returns-clause-stands
returns-clause-stands g c h stands =
    let s = c.args.self.now in
    let p = c.in-Some.going in
    let x : Standing = record { header = s.found.header; slot = s.found.slot; epoch = s.found.epoch; network = s.found.network; version = s.found.version; next = s.found.next_sequence; unchecked = s.found.unchecked } in
    let fits = from_some (λ (y : GoingCheckpoint). FitsStore s.found.header s.found.slot s.found.epoch s.found.version s.found.next_sequence s.found.unchecked y.next y.committed) s.going p c.in-Some.ensures.value s.fits in
    let on = some_goes (λ (y : GoingCheckpoint). FrozenGoesOn (g.D.Disk.content s.disk) s.found.header y s.found.network s.found.version s.found.next_sequence) s.going p c.in-Some.ensures.value (s.goes_on c.requires.works h) in
    let frozen = c.new-network.result in
    let goes = draft_goes (g.D.Disk.content s.disk) s.found.header p frozen s.found.network s.found.version s.found.next_sequence c.new-network.ensures on in
    stands_as (g.D.Disk.content c.go_on.new.disk) x p.next p.committed c.slot-self.result c.epoch-self.result
    (c.slot-self.ensures ∙ ap (λ (d : Draft). d.slot) c.go_on.ensures.own)
    (c.epoch-self.ensures ∙ ap (λ (d : Draft). d.epoch) c.go_on.ensures.own)
    (stands_by_parts (g.D.Disk.content s.disk) x p.next frozen p.committed s.numbers fits stands goes (g.D.Disk.content c.go_on.new.disk) (c.in-Ok.ensures.content h c.if-not-whole.false))

pub returns-clause-as_told : goal.returns-clause-as_told
returns-clause-as_told g c h told =
    let s = c.args.self.now in
    let p = c.in-Some.going in
    let x : Standing = record { header = s.found.header; slot = s.found.slot; epoch = s.found.epoch; network = s.found.network; version = s.found.version; next = s.found.next_sequence; unchecked = s.found.unchecked } in
    let fits = from_some (λ (y : GoingCheckpoint). FitsStore s.found.header s.found.slot s.found.epoch s.found.version s.found.next_sequence s.found.unchecked y.next y.committed) s.going p c.in-Some.ensures.value s.fits in
    let on = some_goes (λ (y : GoingCheckpoint). FrozenGoesOn (g.D.Disk.content s.disk) s.found.header y s.found.network s.found.version s.found.next_sequence) s.going p c.in-Some.ensures.value (s.goes_on c.requires.works h) in
    let frozen = c.new-network.result in
    let goes = draft_goes (g.D.Disk.content s.disk) s.found.header p frozen s.found.network s.found.version s.found.next_sequence c.new-network.ensures on in
    told_as (g.D.Disk.content c.go_on.new.disk) x p.next p.committed c.slot-self.result c.epoch-self.result
    (c.slot-self.ensures ∙ ap (λ (d : Draft). d.slot) c.go_on.ensures.own)
    (c.epoch-self.ensures ∙ ap (λ (d : Draft). d.epoch) c.go_on.ensures.own)
    (told_by_parts (g.D.Disk.content s.disk) x p.next frozen p.committed s.numbers fits told goes (g.D.Disk.content c.go_on.new.disk) (c.in-Ok.ensures.content h c.if-not-whole.false))

pub returns-then-not-whole-clause-as_told : goal.returns-then-not-whole-clause-as_told
returns-then-not-whole-clause-as_told g c h told =
    let s = c.args.self.now in
    let p = c.in-Some.going in
    let x : Standing = record { header = s.found.header; slot = s.found.slot; epoch = s.found.epoch; network = s.found.network; version = s.found.version; next = s.found.next_sequence; unchecked = s.found.unchecked } in
    let fits = from_some (λ (y : GoingCheckpoint). FitsStore s.found.header s.found.slot s.found.epoch s.found.version s.found.next_sequence s.found.unchecked y.next y.committed) s.going p c.in-Some.ensures.value s.fits in
    shut_told (g.D.Disk.content s.disk) (g.D.Disk.content c.go_on.new.disk) x told
    (subst (λ (t : Slot). IsSlotShut s.found.header t (g.D.Disk.content s.disk) (g.D.Disk.content c.go_on.new.disk)) fits.slot_is (c.in-Ok.ensures.shut h c.if-not-whole.true))
