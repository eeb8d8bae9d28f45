use Rattle.std.proofs.Common.{sym}
use Rattle.dimacs.proofs.Pieces.{no_feed, at_feed}
use Rattle.dimacs.proofs.lines.line.split_at_feed.Goals as goal

pub returns : goal.returns
returns c =
    let at = at_feed c.args.bytes.now c.in_ok-end.end (sym c.in_ok-end.ensures) in
    rw (c.split_at.ensures.front, c.split_at-2.ensures.back) (at.whole, at.before)

pub returns-in_err-end : goal.returns-in_err-end
returns-in_err-end c = rw c.from_residual.ensures (no_feed c.args.bytes.now (sym c.in_err-end.ensures))
