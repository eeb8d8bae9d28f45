use Rattle.std.proofs.Common.{◌<◌, ℕ, List, length, take, sym, subst, arith}
use Rattle.std.proofs.lemmas.List.{take_more}
use Rattle.frontier.specs.Live.{IsLeastOf}
use Rattle.frontier.proofs.lazy.least_live.Goals as goal

pub loop-entry-preserved : goal.loop-entry-preserved
loop-entry-preserved g c =
    let entries = c.args.entries.now in
    let i = c.loop-entry.entry-index in
    let lt : i < length entries = omega arith in
    subst (λ (l : List (ℕ × ℕ)). IsLeastOf (g.V.SearchValues.values c.args.tentative.now) l c.lesser-least.result) (sym (take_more entries i (0, 0) lt)) (c.lesser-least.ensures (take i entries) c.loop-entry.invariant)
