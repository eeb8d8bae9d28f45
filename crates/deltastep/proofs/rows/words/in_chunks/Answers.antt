use Rattle.std.proofs.Common.{◌≡◌, ◌+◌, ◌-◌, ◌*◌, ◌++◌, min, length, arith, rules}
use Rattle.deltastep.proofs.Entries.{same_more}
use Rattle.deltastep.proofs.rows.words.in_chunks.Goals as goal

pub loop-k-preserved : goal.loop-k-preserved
loop-k-preserved c =
    let words = c.args.words.now in
    let short = c.shorten.new.short.items in
    let many : c.loop-k.k * 1024 + c.min-in-loop-k.result - c.loop-k.k * 1024 ≡ min 1024 (length words - c.loop-k.k * 1024) = omega (arith, c.min-in-loop-k.ensures) in
    let added : c.append.new.self ≡ c.loop-k.chunks ++ short = search rules in
    rw added (same_more words c.loop-k.chunks short c.loop-k.k (c.loop-k.k * 1024 + c.min-in-loop-k.result - c.loop-k.k * 1024) many c.loop-k.invariant c.in_ok-shorten.ensures)
