use Rattle.std.proofs.Common.{◌≡◌, ◌∙◌, ◌-◌, length, drop, refl, arith, length-take, length-drop}
use borrow.Rule.Slice.PartMut.{put_mid, same_len_mid}
use Rattle.filedisk.proofs.Pieces.{read_step}
use Rattle.filedisk.proofs.Steps.{reads_piece}
use Rattle.filedisk.proofs.Tearing.{unchanged_twice}
use Rattle.filedisk.proofs.whole.read_whole.Goals as goal

pub loop-filled-preserved : goal.loop-filled-preserved
loop-filled-preserved g c =
    let invariant = c.loop-filled.invariant in
    let size = length c.loop-filled.into - c.loop-filled.filled in
    let long : length (put_mid c.loop-filled.filled size c.loop-filled.into c.read_some.new.into) ≡ length c.loop-filled.into =
    same_len_mid c.loop-filled.filled size c.loop-filled.into c.read_some.new.into c.read_some.auto.into in
    let part = length-take size (drop c.loop-filled.filled c.loop-filled.into) in
    let rest = length-drop c.loop-filled.filled c.loop-filled.into in
    record {
      within = omega (arith, c.in-Ok.ensures.bound, long, part, rest, invariant.within);
      made = reads_piece c.args.at (length c.args.into.now) c.loop-filled.into c.read_some.new.into (g.F.RawFile.calls c.args.file.now) (g.F.RawFile.calls c.loop-filled.file) (g.F.RawFile.calls c.read_some.new.self)
          c.loop-filled.filled c.in-Ok.count c.in-Some.place size (omega (arith, c.if-count-eq0.false)) c.in-Some.ensures.1 invariant.within refl invariant.same_length c.read_some.auto.into c.in-Ok.ensures.bound
          invariant.made c.in-Ok.ensures.made;
      same_length = long ∙ invariant.same_length;
      bytes = λ h. read_step (g.F.RawFile.content c.args.file.now) (g.F.RawFile.content c.loop-filled.file) c.args.into.now c.loop-filled.into c.read_some.new.into c.args.at c.loop-filled.filled c.in-Ok.count c.in-Some.place size
          (c.requires h) invariant.within c.in-Ok.ensures.bound c.in-Some.ensures.1 refl invariant.same_length (invariant.same h).same (invariant.bytes h) (c.in-Ok.ensures.bytes (invariant.honest.1 h));
      same = λ h. unchanged_twice g.F.RawFile.content g.F.RawFile.left g.F.RawFile.moment g.F.RawFile.left_since c.args.file.now c.loop-filled.file c.read_some.new.self
          (λ t content le now. g.met.F.RawFile.counts_now c.args.file.now t content h le now) (invariant.same h) (c.in-Ok.ensures.same (invariant.honest.1 h));
      honest = (λ h. invariant.honest.0 (c.in-Ok.ensures.honest.0 h), λ h. c.in-Ok.ensures.honest.1 (invariant.honest.1 h));
    }

pub returns-then-count-eq0-clause-same : goal.returns-then-count-eq0-clause-same
returns-then-count-eq0-clause-same g c h =
    let invariant = c.loop-filled.invariant in
    unchanged_twice g.F.RawFile.content g.F.RawFile.left g.F.RawFile.moment g.F.RawFile.left_since c.args.file.now c.loop-filled.file c.read_some.new.self
    (λ t content le now. g.met.F.RawFile.counts_now c.args.file.now t content h le now) (invariant.same h) (c.in-Ok.ensures.same (invariant.honest.1 h))
