use Rattle.std.proofs.Common.{sym, refl, false, arith}
use Rattle.roadnet.proofs.InTurn.{update_at}
use Rattle.roadnet.proofs.Flagged.{update_beyond}
use Rattle.roadnet.proofs.flags.set_flag.Goals as goal

pub returns-then-k-eq0 : goal.returns-then-k-eq0
returns-then-k-eq0 c = rw c.if-k-eq0.true refl

pub returns-then-k-flags : goal.returns-then-k-flags
returns-then-k-flags c = sym (update_beyond (λ _. c.args.opened) c.args.flags.now c.args.k (omega (arith, c.if-k-flags.true)))

pub returns : goal.returns
returns c = update_at (λ _. c.args.opened) c.args.flags.now c.args.k false (omega (arith, c.if-k-eq0.false)) (omega (arith, c.if-k-flags.false))
