use Rattle.std.proofs.Common.{◌+◌, ◌<◌, [], ◌∷◌, ◌++◌, length, take, refl, ap, subst, arith}
use Rattle.std.proofs.KnownBytes.{Appends-nil}
use Rattle.std.proofs.lemmas.Result.{err_from_is_err_and}
use Rattle.roadnet.specs.declared.groups.Group.{Group}
use Rattle.storetexts.specs.Applying.{GroupsTaken}
use Rattle.storetexts.proofs.Advancing.{advances_none, advances_both}
use Rattle.storetexts.proofs.Meanwhile.{goes_none}
use Rattle.storetexts.proofs.Remaining.{come_next, come_end}
use Rattle.storetexts.proofs.applying.Applying.take_all.Goals as goal

pub returns-in_err-advance-clause-some : goal.returns-in_err-advance-clause-some
returns-in_err-advance-clause-some g c net version have =
    let i = c.loop-index.index in
    let lt : i < length c.args.groups.now = c.loop-index-test.true in
    let new = c.advance.new.self in
    record {
      taken = i + 1;
      come = come_next net version c.args.groups.now i c.index-groups-index.result new.outcomes.items new.told new.ledger.machine lt
          (subst (λ (x : Group). GroupsTaken net version (take i c.args.groups.now ++ x ∷ []) new.outcomes.items new.told new.ledger.machine) c.index-groups-index.is
          (c.advance.ensures.come net version (take i c.args.groups.now) (c.loop-index.invariant.come net version have)));
    }

pub loop-index-init : goal.loop-index-init
loop-index-init g c =
    let none = c.requires.new.idle.none in
    record {
      advances = advances_none g.D.Disk c.args.self.now c.args.self.now c.args.out.now (goes_none g.D.Disk c.args.self.now c.requires.new.idle.ready.steady) c.requires.new.idle.ready.calm (omega (arith, none)) (omega (arith, c.requires.new.untold)) refl;
      few = omega (arith, none);
      noted = ap length c.requires.new.none_come;
      come = λ net version have. rw (c.requires.new.none_come, c.requires.new.untold) have;
      lines = rw (c.requires.new.none_come, c.requires.new.untold) (Appends-nil _);
    }

pub loop-index-preserved : goal.loop-index-preserved
loop-index-preserved g c =
    let i = c.loop-index.index in
    let lt : i < length c.args.groups.now = c.loop-index-test.true in
    let before = c.loop-index.invariant in
    let new = c.advance.new.self in
    record {
      advances = advances_both g.D.Disk c.args.self.now c.loop-index.self new _ _ _ _ before.advances c.in_ok-advance.ensures.advances;
      few = c.in_ok-advance.ensures.few;
      noted = omega (arith, c.in_ok-advance.ensures.noted, before.noted);
      come = λ net version have.
          come_next net version c.args.groups.now i c.index-groups-index.result new.outcomes.items new.told new.ledger.machine lt
          (subst (λ (x : Group). GroupsTaken net version (take i c.args.groups.now ++ x ∷ []) new.outcomes.items new.told new.ledger.machine) c.index-groups-index.is
          (c.in_ok-advance.ensures.come net version (take i c.args.groups.now) (before.come net version have)));
      lines = c.in_ok-advance.ensures.lines _ before.lines;
    }

pub returns-clause-some : goal.returns-clause-some
returns-clause-some g c net version have = record { taken = c.loop-index.index; come = c.loop-index.invariant.come net version have }

pub returns-clause-come : goal.returns-clause-come
returns-clause-come g c net version have = come_end net version c.args.groups.now c.loop-index.index _ _ _ c.loop-index-test.false (c.loop-index.invariant.come net version have)

pub returns-in_err-advance-clause-advances : goal.returns-in_err-advance-clause-advances
returns-in_err-advance-clause-advances g c =
    let p = err_from_is_err_and c.from_residual.result c.from_residual.ensures.1 in
    rw (p.1, p.2) (advances_both g.D.Disk c.args.self.now c.loop-index.self c.advance.new.self _ _ _ _ c.loop-index.invariant.advances c.in_err-advance.ensures.advances)
