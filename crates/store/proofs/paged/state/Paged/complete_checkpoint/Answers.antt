use Rattle.std.proofs.Common.{◌∙◌, ap}
use Rattle.storefile.specs.Standing.{Standing}
use Rattle.checkpoint.specs.Writing.{Draft}
use Rattle.store.specs.declared.paged.going.GoingCheckpoint.{GoingCheckpoint}
use Rattle.store.specs.Going.{FitsStore, FrozenGoesOn}
use Rattle.store.proofs.GoingOn.{from_some, some_goes, draft_goes, words_held, told_as, stands_as, moments_of_part, told_by_parts, stands_by_parts}
use Rattle.store.proofs.paged.state.Paged.complete_checkpoint.Goals as goal

pub complete-requires-clause-pages : goal.complete-requires-clause-pages
complete-requires-clause-pages g c h =
    let s = c.args.self.now in
    let p = c.in-Some.going in
    let on = some_goes (λ (y : GoingCheckpoint). FrozenGoesOn (g.D.Disk.content s.disk) s.found.header y s.found.network s.found.version s.found.next_sequence) s.going p c.in-Some.ensures.value (s.goes_on c.requires.works h) in
    let frozen = c.new-network.result in
    let goes = draft_goes (g.D.Disk.content s.disk) s.found.header p frozen s.found.network s.found.version s.found.next_sequence c.new-network.ensures on in
    words_held (g.D.Disk.content s.disk) s.found.header p.next frozen p.committed s.found.network s.found.version s.found.next_sequence goes

pub returns-in_default-complete-clause-any_moment : goal.returns-in_default-complete-clause-any_moment
returns-in_default-complete-clause-any_moment g c h stands =
    let s = c.args.self.now in
    let p = c.in-Some.going in
    let x : Standing = record { header = s.found.header; slot = s.found.slot; epoch = s.found.epoch; network = s.found.network; version = s.found.version; next = s.found.next_sequence; unchecked = s.found.unchecked } in
    let fits = from_some (λ (y : GoingCheckpoint). FitsStore s.found.header s.found.slot s.found.epoch s.found.version s.found.next_sequence s.found.unchecked y.next y.committed) s.going p c.in-Some.ensures.value s.fits in
    let on = some_goes (λ (y : GoingCheckpoint). FrozenGoesOn (g.D.Disk.content s.disk) s.found.header y s.found.network s.found.version s.found.next_sequence) s.going p c.in-Some.ensures.value (s.goes_on c.requires.works h) in
    let frozen = c.new-network.result in
    let goes = draft_goes (g.D.Disk.content s.disk) s.found.header p frozen s.found.network s.found.version s.found.next_sequence c.new-network.ensures on in
    moments_of_part g.D.Disk.content g.D.Disk.moment g.D.Disk.left_since s.disk c.complete.new.disk x p.next frozen p.committed s.numbers fits stands goes (c.complete.ensures.writes.any_moment h)

pub returns-clause-any_moment : goal.returns-clause-any_moment
returns-clause-any_moment g c h stands =
    let s = c.args.self.now in
    let p = c.in-Some.going in
    let x : Standing = record { header = s.found.header; slot = s.found.slot; epoch = s.found.epoch; network = s.found.network; version = s.found.version; next = s.found.next_sequence; unchecked = s.found.unchecked } in
    let fits = from_some (λ (y : GoingCheckpoint). FitsStore s.found.header s.found.slot s.found.epoch s.found.version s.found.next_sequence s.found.unchecked y.next y.committed) s.going p c.in-Some.ensures.value s.fits in
    let on = some_goes (λ (y : GoingCheckpoint). FrozenGoesOn (g.D.Disk.content s.disk) s.found.header y s.found.network s.found.version s.found.next_sequence) s.going p c.in-Some.ensures.value (s.goes_on c.requires.works h) in
    let frozen = c.new-network.result in
    let goes = draft_goes (g.D.Disk.content s.disk) s.found.header p frozen s.found.network s.found.version s.found.next_sequence c.new-network.ensures on in
    moments_of_part g.D.Disk.content g.D.Disk.moment g.D.Disk.left_since s.disk c.complete.new.disk x p.next frozen p.committed s.numbers fits stands goes (c.complete.ensures.writes.any_moment h)

pub returns-clause-stands : goal.returns-clause-stands
returns-clause-stands g c h stands =
    let s = c.args.self.now in
    let p = c.in-Some.going in
    let x : Standing = record { header = s.found.header; slot = s.found.slot; epoch = s.found.epoch; network = s.found.network; version = s.found.version; next = s.found.next_sequence; unchecked = s.found.unchecked } in
    let fits = from_some (λ (y : GoingCheckpoint). FitsStore s.found.header s.found.slot s.found.epoch s.found.version s.found.next_sequence s.found.unchecked y.next y.committed) s.going p c.in-Some.ensures.value s.fits in
    let on = some_goes (λ (y : GoingCheckpoint). FrozenGoesOn (g.D.Disk.content s.disk) s.found.header y s.found.network s.found.version s.found.next_sequence) s.going p c.in-Some.ensures.value (s.goes_on c.requires.works h) in
    let frozen = c.new-network.result in
    let goes = draft_goes (g.D.Disk.content s.disk) s.found.header p frozen s.found.network s.found.version s.found.next_sequence c.new-network.ensures on in
    stands_as (g.D.Disk.content c.complete.new.disk) x p.next p.committed c.slot-self.result c.epoch-self.result
    (c.slot-self.ensures ∙ ap (λ (d : Draft). d.slot) c.complete.ensures.same)
    (c.epoch-self.ensures ∙ ap (λ (d : Draft). d.epoch) c.complete.ensures.same)
    (stands_by_parts (g.D.Disk.content s.disk) x p.next frozen p.committed s.numbers fits stands goes (g.D.Disk.content c.complete.new.disk) (c.in-Ok.ensures.content h))

pub returns-clause-as_told : goal.returns-clause-as_told
returns-clause-as_told g c h told =
    let s = c.args.self.now in
    let p = c.in-Some.going in
    let x : Standing = record { header = s.found.header; slot = s.found.slot; epoch = s.found.epoch; network = s.found.network; version = s.found.version; next = s.found.next_sequence; unchecked = s.found.unchecked } in
    let fits = from_some (λ (y : GoingCheckpoint). FitsStore s.found.header s.found.slot s.found.epoch s.found.version s.found.next_sequence s.found.unchecked y.next y.committed) s.going p c.in-Some.ensures.value s.fits in
    let on = some_goes (λ (y : GoingCheckpoint). FrozenGoesOn (g.D.Disk.content s.disk) s.found.header y s.found.network s.found.version s.found.next_sequence) s.going p c.in-Some.ensures.value (s.goes_on c.requires.works h) in
    let frozen = c.new-network.result in
    let goes = draft_goes (g.D.Disk.content s.disk) s.found.header p frozen s.found.network s.found.version s.found.next_sequence c.new-network.ensures on in
    told_as (g.D.Disk.content c.complete.new.disk) x p.next p.committed c.slot-self.result c.epoch-self.result
    (c.slot-self.ensures ∙ ap (λ (d : Draft). d.slot) c.complete.ensures.same)
    (c.epoch-self.ensures ∙ ap (λ (d : Draft). d.epoch) c.complete.ensures.same)
    (told_by_parts (g.D.Disk.content s.disk) x p.next frozen p.committed s.numbers fits told goes (g.D.Disk.content c.complete.new.disk) (c.in-Ok.ensures.content h))
