use Rattle.std.proofs.Common.{◌≡◌, length, ap, arith}
use Rattle.filedisk.proofs.Tearing.{unchanged_tears, tears_within, tears_twice}
use Rattle.filedisk.proofs.whole.make_room.Goals as goal

pub returns-in-Ok-lengthen-clause-tears : goal.returns-in-Ok-lengthen-clause-tears
returns-in-Ok-lengthen-clause-tears g c h =
    let mid = c.in-Ok.ensures.honest.1 h in
    let long : length (g.F.RawFile.content c.size.new.self) ≡ length (g.F.RawFile.content c.args.file.now) = ap length (c.in-Ok.ensures.same h).same in
    tears_twice g.F.RawFile.content g.F.RawFile.left g.F.RawFile.moment g.F.RawFile.left_since c.args.at c.args.count c.args.file.now c.size.new.self c.lengthen.new.self
    (unchanged_tears g.F.RawFile.content g.F.RawFile.left g.F.RawFile.moment g.F.RawFile.left_since c.args.at c.args.count c.args.file.now c.size.new.self (c.in-Ok.ensures.same h))
    (tears_within g.F.RawFile.content g.F.RawFile.left g.F.RawFile.moment g.F.RawFile.left_since c.args.at c.args.count _ _ c.size.new.self c.lengthen.new.self
    (omega (arith, c.requires h, long))
    (omega (arith, long, c.in-Ok.ensures.length h, c.in-Some.ensures.1, c.if-end-size.false))
    (c.in-Ok-lengthen.ensures.tears mid))
    (c.in-Ok-lengthen.ensures.keeps mid)

pub returns-in-Err-clause-tears : goal.returns-in-Err-clause-tears
returns-in-Err-clause-tears g c h =
    let mid = c.in-Ok.ensures.honest.1 h in
    let long : length (g.F.RawFile.content c.size.new.self) ≡ length (g.F.RawFile.content c.args.file.now) = ap length (c.in-Ok.ensures.same h).same in
    tears_twice g.F.RawFile.content g.F.RawFile.left g.F.RawFile.moment g.F.RawFile.left_since c.args.at c.args.count c.args.file.now c.size.new.self c.lengthen.new.self
    (unchanged_tears g.F.RawFile.content g.F.RawFile.left g.F.RawFile.moment g.F.RawFile.left_since c.args.at c.args.count c.args.file.now c.size.new.self (c.in-Ok.ensures.same h))
    (tears_within g.F.RawFile.content g.F.RawFile.left g.F.RawFile.moment g.F.RawFile.left_since c.args.at c.args.count _ _ c.size.new.self c.lengthen.new.self
    (omega (arith, c.requires h, long))
    (omega (arith, long, c.in-Ok.ensures.length h, c.in-Some.ensures.1, c.if-end-size.false))
    (c.in-Err.ensures.tears mid))
    (c.in-Err.ensures.keeps mid)
