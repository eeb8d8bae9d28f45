use Rattle.std.proofs.Common.{◌≡◌, ◌∙◌, ◌+◌, ◌-◌, ◌/◌, ◌%◌, length, ap, arith}
use Rattle.buckets.proofs.Ringed.{place_on, place_round}
use Rattle.frontier.proofs.entries.EntryRing.place.Goals as goal

pub returns-then-place-size : goal.returns-then-place-size
returns-then-place-size c =
    let s = c.args.self.now in
    let n = length s.lists.items in
    let b = c.args.key / s.delta in
    let at : s.first + c.ahead-ahead.result ≡ s.last % n + (b - s.last) = ap (λ k. k + c.ahead-ahead.result) s.begins ∙ ap (λ k. s.last % n + k) c.ahead-ahead.ensures in
    at ∙ place_on s.last b n c.requires (omega (arith, at, c.if-place-size.true, c.size-size.ensures.value))

pub returns-else-place-size : goal.returns-else-place-size
returns-else-place-size c =
    let s = c.args.self.now in
    let n = length s.lists.items in
    let b = c.args.key / s.delta in
    let at : s.first + c.ahead-ahead.result ≡ s.last % n + (b - s.last) = ap (λ k. k + c.ahead-ahead.result) s.begins ∙ ap (λ k. s.last % n + k) c.ahead-ahead.ensures in
    ap (λ k. k - c.size-size.result) at ∙ (ap (λ k. s.last % n + (b - s.last) - k) c.size-size.ensures.value ∙ place_round s.last b n s.some c.requires (omega (arith, at, c.if-place-size.false, c.size-size.ensures.value)))
