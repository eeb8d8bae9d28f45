use Rattle.std.proofs.Common.{◌-◌, length, refl, arith}
use Rattle.filedisk.proofs.Steps.{writes_piece}
use Rattle.filedisk.proofs.Pieces.{written_more, written_within}
use Rattle.filedisk.proofs.Tearing.{tears_more, among_twice}
use Rattle.filedisk.proofs.whole.write_within.Goals as goal

pub returns-in-Err-clause-tears : goal.returns-in-Err-clause-tears
returns-in-Err-clause-tears g c h =
    let invariant = c.loop-written.invariant in
    tears_more g.F.RawFile.content g.F.RawFile.left g.F.RawFile.moment g.F.RawFile.left_since c.args.bytes.now c.args.at c.loop-written.written c.in-Some.place
    c.args.file.now c.loop-written.file c.write_some.new.self c.in-Some.ensures.1 invariant.within (invariant.tears h)
    (c.in-Err.ensures.tears (invariant.honest.1 h)) (c.in-Err.ensures.keeps (invariant.honest.1 h))

pub returns-then-count-eq0-clause-tears : goal.returns-then-count-eq0-clause-tears
returns-then-count-eq0-clause-tears g c h =
    let invariant = c.loop-written.invariant in
    tears_more g.F.RawFile.content g.F.RawFile.left g.F.RawFile.moment g.F.RawFile.left_since c.args.bytes.now c.args.at c.loop-written.written c.in-Some.place
    c.args.file.now c.loop-written.file c.write_some.new.self c.in-Some.ensures.1 invariant.within (invariant.tears h)
    (c.in-Ok.ensures.tears (invariant.honest.1 h)) (c.in-Ok.ensures.keeps (invariant.honest.1 h))

pub loop-written-preserved : goal.loop-written-preserved
loop-written-preserved g c =
    let invariant = c.loop-written.invariant in
    record {
      within = written_within c.args.bytes.now c.loop-written.written c.in-Ok.count invariant.within c.in-Ok.ensures.bound;
      made = writes_piece c.args.at c.args.bytes.now (g.F.RawFile.calls c.args.file.now) (g.F.RawFile.calls c.loop-written.file) (g.F.RawFile.calls c.write_some.new.self) c.loop-written.written c.in-Ok.count c.in-Some.place
          (length c.args.bytes.now - c.loop-written.written) (omega (arith, c.if-count-eq0.false)) c.in-Some.ensures.1 refl invariant.made c.in-Ok.ensures.made;
      content = λ h. written_more (g.F.RawFile.content c.args.file.now) (g.F.RawFile.content c.loop-written.file) (g.F.RawFile.content c.write_some.new.self) c.args.bytes.now c.args.at c.loop-written.written c.in-Ok.count c.in-Some.place
          (c.requires h) invariant.within c.in-Ok.ensures.bound c.in-Some.ensures.1 (invariant.content h) (c.in-Ok.ensures.written (invariant.honest.1 h));
      tears = λ h. tears_more g.F.RawFile.content g.F.RawFile.left g.F.RawFile.moment g.F.RawFile.left_since c.args.bytes.now c.args.at c.loop-written.written c.in-Some.place
          c.args.file.now c.loop-written.file c.write_some.new.self c.in-Some.ensures.1 invariant.within (invariant.tears h)
          (c.in-Ok.ensures.tears (invariant.honest.1 h)) (c.in-Ok.ensures.keeps (invariant.honest.1 h));
      keeps = λ h. among_twice g.F.RawFile.content g.F.RawFile.left g.F.RawFile.moment g.F.RawFile.left_since c.args.file.now c.loop-written.file c.write_some.new.self (invariant.keeps h) (c.in-Ok.ensures.keeps (invariant.honest.1 h));
      honest = (λ h. invariant.honest.0 (c.in-Ok.ensures.honest.0 h), λ h. c.in-Ok.ensures.honest.1 (invariant.honest.1 h));
    }
