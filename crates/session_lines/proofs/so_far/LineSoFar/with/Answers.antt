use Rattle.std.proofs.Common.{rules}
use Rattle.session_lines.proofs.Staged.{with_return, with_other}
use Rattle.session_lines.proofs.so_far.LineSoFar.with.Goals as goal

pub returns-then-byte-eq13 : goal.returns-then-byte-eq13
returns-then-byte-eq13 c front is = with_return front c.args.byte _ (search rules) (c.settled-stage.ensures front is)

pub returns : goal.returns
returns c front is = with_other front c.args.byte _ (search rules) (c.with.ensures front (c.settled-stage.ensures front is))
