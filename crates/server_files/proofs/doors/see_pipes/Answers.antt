use Rattle.std.proofs.Common.{◌≡◌, ◌*◌, length, arith}
use Rattle.words.specs.Pipes.{names_of}
use Rattle.words.proofs.PipeNames.{length-names_of}
use Rattle.server_files.proofs.doors.see_pipes.Goals as goal

pub returns-clause-told : goal.returns-clause-told
returns-clause-told g c place name within at =
    let count : length (names_of c.args.pipes.now) ≡ 2 * length c.args.pipes.now = length-names_of c.args.pipes.now in
    let done = c.loop-number-test.false in
    c.loop-number.invariant place name (omega arith) at
