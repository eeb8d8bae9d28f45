use Rattle.std.specs.Prelude.{option_map}
use Rattle.roadnet.specs.declared.groups.Group.{Group}
use Rattle.roadnet.specs.Groups.{count_of}
use Rattle.machine.specs.Machine.{fitting, most_of_page}
use Rattle.std.proofs.Common.{◌-◌, List, take, length, refl, sym, ◌∙◌, ap, subst, arith}
use Rattle.std.proofs.lemmas.Result.{on_err_weaker, on_ok_weaker}
use Rattle.machine.proofs.Keeping.{slice_is}
use Rattle.disk.proofs.Steps.{weaker}
use Rattle.roadnet.specs.Batches.{changed_by_all}
use Rattle.store.specs.State.{StoreState, CameTidy, IsDurableOrAfter}
use Rattle.keeper.specs.Keeping.{as_checkpoint, sizes_of}
use Rattle.keeper.proofs.Held.{held_too, no_call, works_at_ok, works_at_err, breaks_at_err, same_flag}
use Rattle.keeper.proofs.Fronts.{front_is, less_pending, pending_behind, rest_is, taken_is}
use Rattle.keeper.proofs.Flushed.{counted, slice_of, Flushing, Committed, Written, if_err_with, flushes, kept_by, holds_by, held, works, size, groups_some, groups_few}
use Rattle.keeper.proofs.ledger.ledgers.Ledger.flush.Goals as goal

pub invariant_of-self : goal.invariant_of-self
invariant_of-self g c =
    let groups = slice_of c.deref-2.result.now (c.version.result - c.self.inside.opened) c.front-count.result.0 in
    let f : Flushing _ (changed_by_all c.self.inside.base.value c.self.inside.history.items) c.self.inside.store.network c.self.inside.base.value _ groups c.of.result.value = record {
      kept = c.self.invariant.0;
      clear = rw (← c.self.view_is) at c.in_ok-may_flush.ensures;
      taken = slice_is c.deref-2.result.now c.self.inside.history.items c.version.result c.self.inside.opened c.front-count.result.0 _ _ c.deref-2.ensures.value c.version.ensures.version (front_is c.deref.result.now c.self.inside.history.items c.version.result c.self.inside.opened _ c.front-count.result.0 c.deref.ensures.value c.version.ensures.version (c.front-count.ensures.count ∙ ap (fitting most_of_page) (rest_is (c.version.result - c.self.inside.opened) c.deref.result.now)));
      count_is = c.of.ensures ∙ front_is c.deref.result.now c.self.inside.history.items c.version.result c.self.inside.opened _ c.front-count.result.0 c.deref.ensures.value c.version.ensures.version (c.front-count.ensures.count ∙ ap (fitting most_of_page) (rest_is (c.version.result - c.self.inside.opened) c.deref.result.now));
    } in
    let h : Committed _ _ _ _ _ groups c.of.result.value f c.commit_groups-written.new.self.network (sizes_of c.commit_groups-written.new.self) c.commit_groups-written.new.self.version c.commit_groups-written.new.self.unchecked c.has_failed-self-inside.result (option_map as_checkpoint c.commit_groups-written.new.self.going) c.commit_groups-written.result = record {
      sizes_are = (let a = c.commit_groups-written.ensures.sizes.0 in let b = c.commit_groups-written.ensures.sizes.1 in cc);
      version_is = c.commit_groups-written.ensures.version;
      network_is = c.commit_groups-written.ensures.network;
      unchecked_is = c.commit_groups-written.ensures.unchecked;
      works_on = works_at_ok c.commit_groups-written.result c.has_failed-self-inside.result c.has_failed-self-inside.ensures;
      refused = rw c.self.invariant.1 c.commit_groups-written.ensures.refused;
      still = works_at_err c.commit_groups-written.result c.has_failed-self-inside.result c.has_failed-self-inside.ensures;
      breaks = breaks_at_err c.commit_groups-written.result c.has_failed-self-inside.result c.has_failed-self-inside.ensures;
      network_kept = on_err_weaker c.commit_groups-written.result (λ kept. kept.0) c.commit_groups-written.ensures.kept;
      version_kept = on_err_weaker c.commit_groups-written.result (λ kept. kept.1) c.commit_groups-written.ensures.kept;
      unchecked_kept = on_err_weaker c.commit_groups-written.result (λ kept. kept.0) c.commit_groups-written.ensures.kept_pages;
      going_is = on_ok_weaker c.commit_groups-written.result (λ same. ap (option_map as_checkpoint) same ∙ counted c.self.inside.store.going) c.commit_groups-written.ensures.going;
      going_kept = on_err_weaker c.commit_groups-written.result (λ kept. ap (option_map as_checkpoint) kept.1) c.commit_groups-written.ensures.kept_pages;
    } in (
      kept_by _ (changed_by_all c.self.inside.base.value c.self.inside.history.items) c.self.inside.store.network c.self.inside.base.value _ groups c.of.result.value f c.commit_groups-written.new.self.network _ c.commit_groups-written.new.self.version c.commit_groups-written.new.self.unchecked c.has_failed-self-inside.result (option_map as_checkpoint c.commit_groups-written.new.self.going) c.commit_groups-written.result h,
      same_flag c.commit_groups-written.result c.has_failed-self-inside.result c.self.inside.store.broken c.commit_groups-written.new.self.broken c.has_failed-self-inside.ensures (sym c.self.invariant.1 ∙ works _ (changed_by_all c.self.inside.base.value c.self.inside.history.items) c.self.inside.store.network c.self.inside.base.value _ groups c.of.result.value f) c.commit_groups-written.ensures.works c.commit_groups-written.ensures.breaks (if_err_with _ _ c.commit_groups-written.result (λ refusal same not. let e = same not in cc) c.commit_groups-written.ensures.same),
      λ now.
          let came = subst (λ (d : g.row.D.Denot). CameTidy g.D.Disk.honest g.D.Disk.content d) c.commit_groups-written.ensures.given now in
          let held = c.self.invariant.2 came in
          let honest = held.0 in
          let old = held.1 in
          let calm = sym c.self.invariant.1 ∙ works _ (changed_by_all c.self.inside.base.value c.self.inside.history.items) c.self.inside.store.network c.self.inside.base.value _ groups c.of.result.value f in
          let w : Written _ (changed_by_all c.self.inside.base.value c.self.inside.history.items) c.self.inside.store.network c.self.inside.base.value _ groups c.of.result.value f c.commit_groups-written.new.self.network _ c.commit_groups-written.new.self.version c.commit_groups-written.new.self.unchecked c.has_failed-self-inside.result (option_map as_checkpoint c.commit_groups-written.new.self.going) (g.D.Disk.content c.self.inside.store.disk) (g.D.Disk.content c.commit_groups-written.new.self.disk) (g.D.Disk.left c.self.inside.store.disk) (g.D.Disk.left c.commit_groups-written.new.self.disk) c.commit_groups-written.result = record {
            same = if_err_with _ _ c.commit_groups-written.result (λ refusal same not.
                let e = same not in (
                  ap (λ (s : StoreState g.row.D.Denot). g.D.Disk.content s.disk) e,
                  λ d was. subst (λ (s : StoreState g.row.D.Denot). g.D.Disk.left s.disk d) e was,
                )) c.commit_groups-written.ensures.same;
            in_flight = c.commit_groups-written.ensures.in_flight came calm;
            durably = c.commit_groups-written.ensures.durable came;
            only = c.commit_groups-written.ensures.only honest;
          } in
          (c.commit_groups-written.ensures.honest.1 honest, holds_by _ (changed_by_all c.self.inside.base.value c.self.inside.history.items) c.self.inside.store.network c.self.inside.base.value _ groups c.of.result.value f c.commit_groups-written.new.self.network _ c.commit_groups-written.new.self.version c.commit_groups-written.new.self.unchecked c.has_failed-self-inside.result (option_map as_checkpoint c.commit_groups-written.new.self.going) (g.D.Disk.content c.self.inside.store.disk) (g.D.Disk.content c.commit_groups-written.new.self.disk) (g.D.Disk.left c.self.inside.store.disk) (g.D.Disk.left c.commit_groups-written.new.self.disk) c.commit_groups-written.result h w old),
      c.self.invariant.3,
      c.self.invariant.4,
      pending_behind c.commit_groups-written.result c.self.inside.history.items c.self.inside.store.version c.self.inside.opened c.commit_groups-written.new.self.version (length groups) c.self.inside.pending c.still_pending-self-inside.result c.front-count.result.1
          c.still_pending-self-inside.ensures c.commit_groups-written.ensures.version (on_err_weaker c.commit_groups-written.result (λ kept. kept.1) c.commit_groups-written.ensures.kept) (omega (arith, c.self.invariant.0.state.opened_shown, c.self.invariant.0.state.shown_durable)) c.self.invariant.5
          (taken_is c.deref.result.now c.self.inside.history.items c.version.result c.self.inside.opened c.self.inside.store.version c.front-count.result.0 (length groups) c.front-count.result.1 c.deref.ensures.value c.version.ensures.version (sym c.of.ensures ∙ (f.count_is ∙ sym (size _ (changed_by_all c.self.inside.base.value c.self.inside.history.items) c.self.inside.store.network c.self.inside.base.value _ groups c.of.result.value f))) (c.front-count.ensures.commands ∙ ap (λ (xs : List Group). count_of (take c.front-count.result.0 xs)) (rest_is (c.version.result - c.self.inside.opened) c.deref.result.now))),
    )

pub returns-clause-step : goal.returns-clause-step
returns-clause-step g c =
    rw (← c.self.view_is) (
    let groups = slice_of c.deref-2.result.now (c.version.result - c.self.inside.opened) c.front-count.result.0 in
    let f : Flushing _ (changed_by_all c.self.inside.base.value c.self.inside.history.items) c.self.inside.store.network c.self.inside.base.value _ groups c.of.result.value = record {
      kept = c.self.invariant.0;
      clear = rw (← c.self.view_is) at c.in_ok-may_flush.ensures;
      taken = slice_is c.deref-2.result.now c.self.inside.history.items c.version.result c.self.inside.opened c.front-count.result.0 _ _ c.deref-2.ensures.value c.version.ensures.version (front_is c.deref.result.now c.self.inside.history.items c.version.result c.self.inside.opened _ c.front-count.result.0 c.deref.ensures.value c.version.ensures.version (c.front-count.ensures.count ∙ ap (fitting most_of_page) (rest_is (c.version.result - c.self.inside.opened) c.deref.result.now)));
      count_is = c.of.ensures ∙ front_is c.deref.result.now c.self.inside.history.items c.version.result c.self.inside.opened _ c.front-count.result.0 c.deref.ensures.value c.version.ensures.version (c.front-count.ensures.count ∙ ap (fitting most_of_page) (rest_is (c.version.result - c.self.inside.opened) c.deref.result.now));
    } in
    let h : Committed _ _ _ _ _ groups c.of.result.value f c.commit_groups-written.new.self.network (sizes_of c.commit_groups-written.new.self) c.commit_groups-written.new.self.version c.commit_groups-written.new.self.unchecked c.has_failed-self-inside.result (option_map as_checkpoint c.commit_groups-written.new.self.going) c.commit_groups-written.result = record {
      sizes_are = (let a = c.commit_groups-written.ensures.sizes.0 in let b = c.commit_groups-written.ensures.sizes.1 in cc);
      version_is = c.commit_groups-written.ensures.version;
      network_is = c.commit_groups-written.ensures.network;
      unchecked_is = c.commit_groups-written.ensures.unchecked;
      works_on = works_at_ok c.commit_groups-written.result c.has_failed-self-inside.result c.has_failed-self-inside.ensures;
      refused = rw c.self.invariant.1 c.commit_groups-written.ensures.refused;
      still = works_at_err c.commit_groups-written.result c.has_failed-self-inside.result c.has_failed-self-inside.ensures;
      breaks = breaks_at_err c.commit_groups-written.result c.has_failed-self-inside.result c.has_failed-self-inside.ensures;
      network_kept = on_err_weaker c.commit_groups-written.result (λ kept. kept.0) c.commit_groups-written.ensures.kept;
      version_kept = on_err_weaker c.commit_groups-written.result (λ kept. kept.1) c.commit_groups-written.ensures.kept;
      unchecked_kept = on_err_weaker c.commit_groups-written.result (λ kept. kept.0) c.commit_groups-written.ensures.kept_pages;
      going_is = on_ok_weaker c.commit_groups-written.result (λ same. ap (option_map as_checkpoint) same ∙ counted c.self.inside.store.going) c.commit_groups-written.ensures.going;
      going_kept = on_err_weaker c.commit_groups-written.result (λ kept. ap (option_map as_checkpoint) kept.1) c.commit_groups-written.ensures.kept_pages;
    } in
    flushes _ (changed_by_all c.self.inside.base.value c.self.inside.history.items) c.self.inside.store.network c.self.inside.base.value _ groups c.of.result.value f c.commit_groups-written.new.self.network _ c.commit_groups-written.new.self.version c.commit_groups-written.new.self.unchecked c.has_failed-self-inside.result (option_map as_checkpoint c.commit_groups-written.new.self.going) c.commit_groups-written.result h)

pub returns-clause-any_moment : goal.returns-clause-any_moment
returns-clause-any_moment g c =
    rw (← c.self.view_is) (λ came calm.
    let groups = slice_of c.deref-2.result.now (c.version.result - c.self.inside.opened) c.front-count.result.0 in
    let f : Flushing _ (changed_by_all c.self.inside.base.value c.self.inside.history.items) c.self.inside.store.network c.self.inside.base.value _ groups c.of.result.value = record {
      kept = c.self.invariant.0;
      clear = rw (← c.self.view_is) at c.in_ok-may_flush.ensures;
      taken = slice_is c.deref-2.result.now c.self.inside.history.items c.version.result c.self.inside.opened c.front-count.result.0 _ _ c.deref-2.ensures.value c.version.ensures.version (front_is c.deref.result.now c.self.inside.history.items c.version.result c.self.inside.opened _ c.front-count.result.0 c.deref.ensures.value c.version.ensures.version (c.front-count.ensures.count ∙ ap (fitting most_of_page) (rest_is (c.version.result - c.self.inside.opened) c.deref.result.now)));
      count_is = c.of.ensures ∙ front_is c.deref.result.now c.self.inside.history.items c.version.result c.self.inside.opened _ c.front-count.result.0 c.deref.ensures.value c.version.ensures.version (c.front-count.ensures.count ∙ ap (fitting most_of_page) (rest_is (c.version.result - c.self.inside.opened) c.deref.result.now));
    } in
    weaker g.D.Disk.moment g.D.Disk.left_since c.self.inside.store.disk c.commit_groups-written.new.self.disk (IsDurableOrAfter c.self.inside.store groups) _
    (c.commit_groups-written.ensures.any_moment came (sym c.self.invariant.1 ∙ calm))
    (λ d way. held _ (changed_by_all c.self.inside.base.value c.self.inside.history.items) c.self.inside.store.network c.self.inside.base.value _ groups c.of.result.value f d way))

pub returns-in_err-may_flush-clause-any_moment : goal.returns-in_err-may_flush-clause-any_moment
returns-in_err-may_flush-clause-any_moment g c =
    rw (← c.self.view_is) (λ came calm.
    let held = c.self.invariant.2 came in
    no_call g.D.Disk.left g.D.Disk.moment g.D.Disk.left_since c.self.inside.store.disk _ (λ d since. g.met.D.Disk.only_now c.self.inside.store.disk d held.0 since)
    (λ d was. held_too _ _ d c.self.invariant.0.state calm (held.1.each_left d was)))

pub commit_groups-written-requires-clause-some : goal.commit_groups-written-requires-clause-some
commit_groups-written-requires-clause-some g c =
    let groups = slice_of c.deref-2.result.now (c.version.result - c.self.inside.opened) c.front-count.result.0 in
    let f : Flushing _ (changed_by_all c.self.inside.base.value c.self.inside.history.items) c.self.inside.store.network c.self.inside.base.value _ groups c.of.result.value = record {
      kept = c.self.invariant.0;
      clear = rw (← c.self.view_is) at c.in_ok-may_flush.ensures;
      taken = slice_is c.deref-2.result.now c.self.inside.history.items c.version.result c.self.inside.opened c.front-count.result.0 _ _ c.deref-2.ensures.value c.version.ensures.version (front_is c.deref.result.now c.self.inside.history.items c.version.result c.self.inside.opened _ c.front-count.result.0 c.deref.ensures.value c.version.ensures.version (c.front-count.ensures.count ∙ ap (fitting most_of_page) (rest_is (c.version.result - c.self.inside.opened) c.deref.result.now)));
      count_is = c.of.ensures ∙ front_is c.deref.result.now c.self.inside.history.items c.version.result c.self.inside.opened _ c.front-count.result.0 c.deref.ensures.value c.version.ensures.version (c.front-count.ensures.count ∙ ap (fitting most_of_page) (rest_is (c.version.result - c.self.inside.opened) c.deref.result.now));
    } in
    groups_some _ (changed_by_all c.self.inside.base.value c.self.inside.history.items) c.self.inside.store.network c.self.inside.base.value _ groups c.of.result.value f

pub commit_groups-written-requires-clause-few : goal.commit_groups-written-requires-clause-few
commit_groups-written-requires-clause-few g c =
    let groups = slice_of c.deref-2.result.now (c.version.result - c.self.inside.opened) c.front-count.result.0 in
    let f : Flushing _ (changed_by_all c.self.inside.base.value c.self.inside.history.items) c.self.inside.store.network c.self.inside.base.value _ groups c.of.result.value = record {
      kept = c.self.invariant.0;
      clear = rw (← c.self.view_is) at c.in_ok-may_flush.ensures;
      taken = slice_is c.deref-2.result.now c.self.inside.history.items c.version.result c.self.inside.opened c.front-count.result.0 _ _ c.deref-2.ensures.value c.version.ensures.version (front_is c.deref.result.now c.self.inside.history.items c.version.result c.self.inside.opened _ c.front-count.result.0 c.deref.ensures.value c.version.ensures.version (c.front-count.ensures.count ∙ ap (fitting most_of_page) (rest_is (c.version.result - c.self.inside.opened) c.deref.result.now)));
      count_is = c.of.ensures ∙ front_is c.deref.result.now c.self.inside.history.items c.version.result c.self.inside.opened _ c.front-count.result.0 c.deref.ensures.value c.version.ensures.version (c.front-count.ensures.count ∙ ap (fitting most_of_page) (rest_is (c.version.result - c.self.inside.opened) c.deref.result.now));
    } in
    groups_few _ (changed_by_all c.self.inside.base.value c.self.inside.history.items) c.self.inside.store.network c.self.inside.base.value _ groups c.of.result.value f

pub still_pending-self-inside-requires : goal.still_pending-self-inside-requires
still_pending-self-inside-requires g c =
    let less = less_pending c.self.inside.history.items (c.self.inside.store.version - c.self.inside.opened) c.front-count.result.0 c.front-count.result.1
    (taken_is c.deref.result.now c.self.inside.history.items c.version.result c.self.inside.opened c.self.inside.store.version c.front-count.result.0 c.front-count.result.0 c.front-count.result.1 c.deref.ensures.value c.version.ensures.version refl (c.front-count.ensures.commands ∙ ap (λ (xs : List Group). count_of (take c.front-count.result.0 xs)) (rest_is (c.version.result - c.self.inside.opened) c.deref.result.now))) in
    omega (arith, less.0, c.self.invariant.5)
