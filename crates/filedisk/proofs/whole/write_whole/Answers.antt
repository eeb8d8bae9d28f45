use Rattle.std.proofs.Common.{◌≡◌, ◌∙◌, length, List, ℕ, Result, Ok, Err, OnOk, OnErr, ap, subst}
use Rattle.disk.specs.Contents.{overwritten}
use Rattle.filedisk.proofs.Pieces.{lengthened_written, partly_written}
use Rattle.filedisk.proofs.Tearing.{tears_twice}
use Rattle.filedisk.proofs.whole.write_whole.Goals as goal

on_err : {T E : Type 0} {P : Type 0} (result : Result T E) → P → OnErr result P
on_err (Ok x) p = tt
on_err (Err e) p = p

pub returns-clause-written : goal.returns-clause-written
returns-clause-written g c h =
    let same : overwritten (g.F.RawFile.content c.make_room.new.file) c.args.at c.args.bytes.now ≡ overwritten (g.F.RawFile.content c.args.file.now) c.args.at c.args.bytes.now =
    ap (λ (l : List ℕ). overwritten l c.args.at c.args.bytes.now) (c.in_ok-make_room.ensures.room h) ∙ lengthened_written (g.F.RawFile.content c.args.file.now) c.args.bytes.now c.args.at (c.requires h) in
    subst (λ (l : List ℕ). OnOk c.write_within.result (g.F.RawFile.content c.write_within.new.file ≡ l)) same (c.write_within.ensures.written (c.in_ok-make_room.ensures.honest.1 h))

pub returns-clause-tears : goal.returns-clause-tears
returns-clause-tears g c h =
    let mid = c.in_ok-make_room.ensures.honest.1 h in
    tears_twice g.F.RawFile.content g.F.RawFile.left g.F.RawFile.moment g.F.RawFile.left_since c.args.at (length c.args.bytes.now) c.args.file.now c.make_room.new.file c.write_within.new.file
    (c.in_ok-make_room.ensures.tears h) (c.write_within.ensures.tears mid) (c.write_within.ensures.keeps mid)

pub returns-clause-failed : goal.returns-clause-failed
returns-clause-failed g c h =
    on_err c.write_within.result
    (partly_written c.args.at (length c.args.bytes.now) (g.F.RawFile.content c.args.file.now) (g.F.RawFile.content c.make_room.new.file) (g.F.RawFile.content c.write_within.new.file) (c.requires h) (c.in_ok-make_room.ensures.room h)
    (c.write_within.ensures.tears (c.in_ok-make_room.ensures.honest.1 h)).torn (returns-clause-tears g c h).torn)
