use Rattle.std.proofs.Common.{◌*◌, arith}
use Rattle.std.proofs.lemmas.Result.{err_from_is_err_and}
use Rattle.store.proofs.ArcsKept.{arcs_grow}
use Rattle.pages.specs.Layout.{slot_pages}
use Rattle.disk.specs.Gated.{IsWholeOrShut}
use Rattle.disk.proofs.Steps.{weaker}
use Rattle.storefile.specs.StoreFile.{journal_page_at}
use Rattle.storefile.specs.Standing.{Standing, IsBeforeOrAfter}
use Rattle.store.proofs.Committed.{not_device, not_told, before, no_call, page_body, more, Follow, numbers_more, size_kept, meanwhile, stands_more_tidily, left_stands}
use Rattle.store.proofs.GoingOn.{fits_committed, going_committed}
use Rattle.store.proofs.SameButNetwork.{same_but_network}
use Rattle.store.proofs.paged.state.Paged.commit_groups.Goals as goal

pub returns-then-self-count-gt-MOST_VERSIONS-clause-any_moment : goal.returns-then-self-count-gt-MOST_VERSIONS-clause-any_moment
returns-then-self-count-gt-MOST_VERSIONS-clause-any_moment g c works h stands =
    let s = c.args.self.now in
    let x : Standing = record { header = s.found.header; slot = s.found.slot; epoch = s.found.epoch; network = s.found.network; version = s.found.version; next = s.found.next_sequence; unchecked = s.found.unchecked } in
    no_call g.D.Disk.content g.D.Disk.left g.D.Disk.moment g.D.Disk.left_since s.disk x c.args.groups.now (s.rests works h).0 (λ d since. g.met.D.Disk.only_now s.disk d h since) stands

pub returns-then-self-count-gt-MOST_VERSIONS-clause-in_flight : goal.returns-then-self-count-gt-MOST_VERSIONS-clause-in_flight
returns-then-self-count-gt-MOST_VERSIONS-clause-in_flight g c works h stands =
    let s = c.args.self.now in
    let x : Standing = record { header = s.found.header; slot = s.found.slot; epoch = s.found.epoch; network = s.found.network; version = s.found.version; next = s.found.next_sequence; unchecked = s.found.unchecked } in
    before (g.D.Disk.content s.disk) (g.D.Disk.left s.disk) x c.args.groups.now (s.rests works h).0 stands

pub returns-then-self-2-clause-any_moment : goal.returns-then-self-2-clause-any_moment
returns-then-self-2-clause-any_moment g c works h stands =
    let s = c.args.self.now in
    let x : Standing = record { header = s.found.header; slot = s.found.slot; epoch = s.found.epoch; network = s.found.network; version = s.found.version; next = s.found.next_sequence; unchecked = s.found.unchecked } in
    no_call g.D.Disk.content g.D.Disk.left g.D.Disk.moment g.D.Disk.left_since s.disk x c.args.groups.now (s.rests works h).0 (λ d since. g.met.D.Disk.only_now s.disk d h since) stands

pub returns-then-self-2-clause-in_flight : goal.returns-then-self-2-clause-in_flight
returns-then-self-2-clause-in_flight g c works h stands =
    let s = c.args.self.now in
    let x : Standing = record { header = s.found.header; slot = s.found.slot; epoch = s.found.epoch; network = s.found.network; version = s.found.version; next = s.found.next_sequence; unchecked = s.found.unchecked } in
    before (g.D.Disk.content s.disk) (g.D.Disk.left s.disk) x c.args.groups.now (s.rests works h).0 stands

pub returns-in_err-undo-clause-any_moment : goal.returns-in_err-undo-clause-any_moment
returns-in_err-undo-clause-any_moment g c works h stands =
    let s = c.args.self.now in
    let x : Standing = record { header = s.found.header; slot = s.found.slot; epoch = s.found.epoch; network = s.found.network; version = s.found.version; next = s.found.next_sequence; unchecked = s.found.unchecked } in
    no_call g.D.Disk.content g.D.Disk.left g.D.Disk.moment g.D.Disk.left_since s.disk x c.args.groups.now (s.rests works h).0 (λ d since. g.met.D.Disk.only_now s.disk d h since) stands

pub returns-in_err-undo-clause-in_flight : goal.returns-in_err-undo-clause-in_flight
returns-in_err-undo-clause-in_flight g c works h stands =
    let s = c.args.self.now in
    let x : Standing = record { header = s.found.header; slot = s.found.slot; epoch = s.found.epoch; network = s.found.network; version = s.found.version; next = s.found.next_sequence; unchecked = s.found.unchecked } in
    before (g.D.Disk.content s.disk) (g.D.Disk.left s.disk) x c.args.groups.now (s.rests works h).0 stands

pub returns-in_default-clause-any_moment : goal.returns-in_default-clause-any_moment
returns-in_default-clause-any_moment g c works h stands =
    let s = c.args.self.now in
    let x : Standing = record { header = s.found.header; slot = s.found.slot; epoch = s.found.epoch; network = s.found.network; version = s.found.version; next = s.found.next_sequence; unchecked = s.found.unchecked } in
    let follow : Follow x c.carry_out.new.self c.args.groups.now =
    record { today = s.today; numbers = s.numbers; room = c.if-self-2.false; versions = omega (arith, c.if-self-count-gt-MOST_VERSIONS.false); some = c.requires.some; each = c.none_is_empty.ensures; few = c.requires.few; fit = c.in_ok-undo.ensures.fits; goes = c.in_ok-undo.ensures.ok } in
    weaker g.D.Disk.moment g.D.Disk.left_since s.disk c.append_page.new.disk (IsWholeOrShut (g.D.Disk.content s.disk) (4096 * journal_page_at s.found.header s.found.next_sequence) (page_body x c.args.groups.now)) (IsBeforeOrAfter s.found.header.journal_pages (slot_pages s.found.header) s.found.network s.found.version c.args.groups.now)
    (c.append_page.ensures.writes.any_moment h)
    (λ d way. meanwhile (g.D.Disk.content s.disk) x c.carry_out.new.self c.args.groups.now follow stands d way)

pub returns-in_default-clause-in_flight : goal.returns-in_default-clause-in_flight
returns-in_default-clause-in_flight g c works h stands d was =
    let run = returns-in_default-clause-any_moment g c works h stands in
    run.each d (g.met.D.Disk.counts_now c.append_page.new.disk (g.D.Disk.moment c.args.self.now.disk) d (c.append_page.ensures.writes.honest.1 h) run.later was)

pub returns-clause-any_moment : goal.returns-clause-any_moment
returns-clause-any_moment g c works h stands =
    let s = c.args.self.now in
    let x : Standing = record { header = s.found.header; slot = s.found.slot; epoch = s.found.epoch; network = s.found.network; version = s.found.version; next = s.found.next_sequence; unchecked = s.found.unchecked } in
    let follow : Follow x c.carry_out.new.self c.args.groups.now =
    record { today = s.today; numbers = s.numbers; room = c.if-self-2.false; versions = omega (arith, c.if-self-count-gt-MOST_VERSIONS.false); some = c.requires.some; each = c.none_is_empty.ensures; few = c.requires.few; fit = c.in_ok-undo.ensures.fits; goes = c.in_ok-undo.ensures.ok } in
    weaker g.D.Disk.moment g.D.Disk.left_since s.disk c.append_page.new.disk (IsWholeOrShut (g.D.Disk.content s.disk) (4096 * journal_page_at s.found.header s.found.next_sequence) (page_body x c.args.groups.now)) (IsBeforeOrAfter s.found.header.journal_pages (slot_pages s.found.header) s.found.network s.found.version c.args.groups.now)
    (c.append_page.ensures.writes.any_moment h)
    (λ d way. meanwhile (g.D.Disk.content s.disk) x c.carry_out.new.self c.args.groups.now follow stands d way)

pub returns-clause-in_flight : goal.returns-clause-in_flight
returns-clause-in_flight g c works h stands d was =
    let run = returns-clause-any_moment g c works h stands in
    run.each d (g.met.D.Disk.counts_now c.append_page.new.disk (g.D.Disk.moment c.args.self.now.disk) d (c.append_page.ensures.writes.honest.1 h) run.later was)

pub invariant_of-self-2 : goal.invariant_of-self-2
invariant_of-self-2 g c =
    let s = c.args.self.now in
    let x : Standing = record { header = s.found.header; slot = s.found.slot; epoch = s.found.epoch; network = s.found.network; version = s.found.version; next = s.found.next_sequence; unchecked = s.found.unchecked } in
    let follow : Follow x c.carry_out.new.self c.args.groups.now =
    record { today = s.today; numbers = s.numbers; room = c.if-self-2.false; versions = omega (arith, c.if-self-count-gt-MOST_VERSIONS.false); some = c.requires.some; each = c.none_is_empty.ensures; few = c.requires.few; fit = c.in_ok-undo.ensures.fits; goes = c.in_ok-undo.ensures.ok } in
    record {
      today = s.today;
      arcs_from = omega (arith, s.arcs_from, arcs_grow s.found.network c.carry_out.new.self c.args.groups.now c.in_ok-undo.ensures.ok);
      numbers = numbers_more (g.D.Disk.content s.disk) x c.carry_out.new.self c.args.groups.now follow;
      rests = λ works now.
          let h = c.append_page.ensures.writes.honest.0 now in
          (c.in-Ok.ensures.writes.at_rest h, size_kept (g.D.Disk.content s.disk) x c.carry_out.new.self c.args.groups.now follow (g.D.Disk.content c.append_page.new.disk) (s.rests c.if-self.false h).1 (c.in-Ok.ensures.written h));
      fits = rw c.count_page.ensures (fits_committed (g.D.Disk.content s.disk) (g.D.Disk.content c.append_page.new.disk) x c.carry_out.new.self c.args.groups.now follow s.going s.fits);
      goes_on = λ works now.
          let h = c.append_page.ensures.writes.honest.0 now in
          rw c.count_page.ensures (going_committed (g.D.Disk.content s.disk) (g.D.Disk.content c.append_page.new.disk) x c.carry_out.new.self c.args.groups.now follow (s.rests c.if-self.false h).1 (c.in-Ok.ensures.written h) s.going s.fits (s.goes_on c.if-self.false h));
    }

pub returns-clause-stands : goal.returns-clause-stands
returns-clause-stands g c h stands =
    let s = c.args.self.now in
    let x : Standing = record { header = s.found.header; slot = s.found.slot; epoch = s.found.epoch; network = s.found.network; version = s.found.version; next = s.found.next_sequence; unchecked = s.found.unchecked } in
    let follow : Follow x c.carry_out.new.self c.args.groups.now =
    record { today = s.today; numbers = s.numbers; room = c.if-self-2.false; versions = omega (arith, c.if-self-count-gt-MOST_VERSIONS.false); some = c.requires.some; each = c.none_is_empty.ensures; few = c.requires.few; fit = c.in_ok-undo.ensures.fits; goes = c.in_ok-undo.ensures.ok } in
    stands_more_tidily (g.D.Disk.content s.disk) x c.carry_out.new.self c.args.groups.now follow stands (g.D.Disk.content c.append_page.new.disk) (c.in-Ok.ensures.written h)

pub returns-clause-durable : goal.returns-clause-durable
returns-clause-durable g c h stands =
    let s = c.args.self.now in
    let x : Standing = record { header = s.found.header; slot = s.found.slot; epoch = s.found.epoch; network = s.found.network; version = s.found.version; next = s.found.next_sequence; unchecked = s.found.unchecked } in
    let follow : Follow x c.carry_out.new.self c.args.groups.now =
    record { today = s.today; numbers = s.numbers; room = c.if-self-2.false; versions = omega (arith, c.if-self-count-gt-MOST_VERSIONS.false); some = c.requires.some; each = c.none_is_empty.ensures; few = c.requires.few; fit = c.in_ok-undo.ensures.fits; goes = c.in_ok-undo.ensures.ok } in
    left_stands (g.D.Disk.content c.append_page.new.disk) (g.D.Disk.left c.append_page.new.disk) (more x c.carry_out.new.self c.args.groups.now) (c.in-Ok.ensures.writes.at_rest h)
    (stands_more_tidily (g.D.Disk.content s.disk) x c.carry_out.new.self c.args.groups.now follow stands (g.D.Disk.content c.append_page.new.disk) (c.in-Ok.ensures.written h))

pub returns-in_err-undo-clause-tells : goal.returns-in_err-undo-clause-tells
returns-in_err-undo-clause-tells g c =
    let p = err_from_is_err_and c.from_residual.result c.from_residual.ensures.1 in
    rw (p.1, p.2) (record {
      counted = not_told _ (g.D.Disk.failures c.args.self.now.disk) (not_device c.args.self.now.found.network c.args.groups.now _ c.in_err-undo.ensures.refused);
      failed = λ is. absurd (not_device c.args.self.now.found.network c.args.groups.now _ c.in_err-undo.ensures.refused is);
      breaks = λ is. absurd (not_device c.args.self.now.found.network c.args.groups.now _ c.in_err-undo.ensures.refused is);
      honest = (λ h. h, λ h. h);
    })

pub returns-in_err-undo-clause-same : goal.returns-in_err-undo-clause-same
returns-in_err-undo-clause-same g c =
    let p = err_from_is_err_and c.from_residual.result c.from_residual.ensures.1 in
    rw (p.1, p.2) (λ other. same_but_network c.args.self.now c.carry_out.new.self c.in_err-undo.ensures.err _ _ _ _ _ _)
