use Rattle.std.proofs.Common.{◌∙◌, length, refl, ap}
use Rattle.std.proofs.lemmas.Result.{on_err_weaker}
use Rattle.pages.specs.declared.header.Header.{Header}
use Rattle.pages.specs.Layout.{slot_pages}
use Rattle.store.proofs.InFlight.{AreInFlight, worked_before, in_flight_still, in_flight_else, in_flight_at_device, none_at_ok, same_state, left_after_commit}
use Rattle.store.proofs.StateKept.{worked_at_commit, at_ok_with, rests_after, told_after_commit, kept_version, both_kept}
use Rattle.store.proofs.stores.store.Store.commit_groups.Goals as goal

pub invariant_of-self : goal.invariant_of-self
invariant_of-self g c =
    let p = c.self.inside.pages in
    let n = c.commit_groups-made.new.self in
    let e = c.commit_groups-made.ensures in
    let result = c.commit_groups-made.result in
    let failed = c.has_failed-failed.result in
    let commands = c.args.groups.now in
    let before = c.self.inside.in_flight.groups in
    let after = c.after-self-inside.result.groups in
    let worked = worked_at_commit result p.broken p.found.version p.found.unchecked p.found.header.journal_pages p.found.network commands e.refused in
    let are : AreInFlight result failed commands before after = (c.has_failed-failed.ensures, c.after-self-inside.ensures) in (
      λ works. in_flight_still result failed n commands before after are e.tells.breaks works ∙ c.self.invariant.0 (worked_before result p n e.same e.tells.breaks worked works),
      λ came.
          let held = c.self.invariant.1 came in (
            e.tells.honest.1 held.0,
            rests_after result p n e.same e.tells.breaks worked (e.only held.0) (e.stands held.0) held.1,
            left_after_commit result failed p n commands before after e.refused are e.same e.works e.header e.kept (λ works. e.in_flight works held.0 (held.1 works).1) held.2,
          ),
      told_after_commit result c.self.inside.given.value p n (length commands) c.requires.some e.tells.honest e.version (kept_version result p n e.kept) e.same e.tells.breaks c.self.invariant.2,
    )

pub returns : goal.returns
returns g c =
    let p = c.self.inside.pages in
    let n = c.commit_groups-made.new.self in
    let e = c.commit_groups-made.ensures in
    let result = c.commit_groups-made.result in
    let failed = c.has_failed-failed.result in
    let commands = c.args.groups.now in
    let before = c.self.inside.in_flight.groups in
    let after = c.after-self-inside.result.groups in
    let are : AreInFlight result failed commands before after = (c.has_failed-failed.ensures, c.after-self-inside.ensures) in
    rw (← c.self.view_is) (record {
      version = e.version;
      network = e.network;
      unchecked = e.unchecked;
      works = e.works;
      slot = (e.slot, e.epoch);
      going = e.going;
      given = refl;
      sizes = (ap (λ (h : Header). h.journal_pages) e.header, ap (λ (h : Header). slot_pages h) e.header);
      refused = e.refused;
      same = same_state result p n c.self.inside.given.value before after e.same (in_flight_else result failed commands before after are);
      failed = e.tells.failed;
      counted = e.tells.counted;
      breaks = e.tells.breaks;
      kept = on_err_weaker result (λ kept. (kept.0, kept.1)) e.kept;
      kept_pages = both_kept result p n e.kept e.same_going;
      adds_nothing = e.adds_nothing;
      any_moment = λ came works. let held = c.self.invariant.1 came in e.any_moment works held.0 (held.1 works).1;
      in_flight = λ came works. let held = c.self.invariant.1 came in e.in_flight works held.0 (held.1 works).1;
      failed_in_flight = in_flight_at_device result failed commands before after are;
      none_in_flight = none_at_ok result n.broken after e.works (invariant_of-self g c).0;
      only = e.only;
      durable = λ came.
          let held = c.self.invariant.1 came in
          at_ok_with _ result (worked_at_commit result p.broken p.found.version p.found.unchecked p.found.header.journal_pages p.found.network commands e.refused) (λ works. e.durable held.0 (held.1 works).1);
      honest = e.tells.honest;
    })
