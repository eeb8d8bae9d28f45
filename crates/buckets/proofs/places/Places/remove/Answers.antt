use Rattle.std.proofs.Common.{◌≡◌, ◌≢◌, ◌/◌, ◌<◌, ◌∙◌, get_or, length, refl, sym, ap, arith}
use Rattle.std.proofs.lemmas.List.{get_or_read}
use Rattle.buckets.proofs.Bits.{IsSummary-written}
use Rattle.buckets.proofs.places.Places.remove.Goals as goal

pub invariant_of-self : goal.invariant_of-self
invariant_of-self c =
    let lt : c.args.place / 64 < length c.clear_bit.new.words.items = omega (arith, c.clear_bit.ensures.len, ap length c.self.view_is) in
    let read : c.index.result.now ≡ get_or c.clear_bit.new.words.items (c.args.place / 64) 0 = get_or_read c.clear_bit.new.words.items (c.args.place / 64) c.index.result.now lt c.index.ensures 0 in
    IsSummary-written c.self.inside.words.items c.clear_bit.new.words.items c.self.inside.summary.items c.clear_bit-then-index-eq0.new.words.items _ c.self.invariant c.clear_bit.ensures.len c.clear_bit-then-index-eq0.ensures.len c.clear_bit.ensures.words c.clear_bit-then-index-eq0.ensures.others (λ some. absurd (some (sym read ∙ c.if-index-eq0.true))) (λ _. c.clear_bit-then-index-eq0.ensures.member)

pub invariant_of-self-else-index-eq0 : goal.invariant_of-self-else-index-eq0
invariant_of-self-else-index-eq0 c =
    let lt : c.args.place / 64 < length c.clear_bit.new.words.items = omega (arith, c.clear_bit.ensures.len, ap length c.self.view_is) in
    let read : c.index.result.now ≡ get_or c.clear_bit.new.words.items (c.args.place / 64) 0 = get_or_read c.clear_bit.new.words.items (c.args.place / 64) c.index.result.now lt c.index.ensures 0 in
    let some : get_or c.clear_bit.new.words.items (c.args.place / 64) 0 ≢ 0 = λ none. c.if-index-eq0.false (read ∙ none) in
    let had : get_or c.self.inside.words.items (c.args.place / 64) 0 ≢ 0 = λ none. some (omega (arith, c.clear_bit.ensures.less)) in
    IsSummary-written c.self.inside.words.items c.clear_bit.new.words.items c.self.inside.summary.items c.self.inside.summary.items _ c.self.invariant c.clear_bit.ensures.len refl c.clear_bit.ensures.words (λ w _. refl) (λ _. c.self.invariant.marked (c.args.place / 64) had) (λ none. absurd (some none))
