use Rattle.std.proofs.Common.{rules}
use Rattle.session_lines.proofs.Staged.{settled_return, settled_plain}
use Rattle.session_lines.proofs.so_far.LineSoFar.settled.Goals as goal

pub returns-then-self : goal.returns-then-self
returns-then-self c front is = settled_return front c.args.self _ is (search rules) c.with.ensures

pub returns : goal.returns
returns c front is = settled_plain front c.args.self is (search rules)
