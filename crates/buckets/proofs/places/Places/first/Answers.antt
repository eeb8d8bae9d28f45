use Rattle.std.proofs.Common.{◌≡◌, ◌≢◌, ◌+◌, ◌*◌, ◌<◌, ◌∙◌, get_or, length, sym, ap, subst, arith}
use Rattle.std.specs.Int.{bit_at}
use Rattle.std.proofs.lemmas.List.{get_or_read}
use Rattle.buckets.specs.Places.{IsLeastFrom}
use Rattle.buckets.proofs.Bits.{found, none_before_mark, no_bits, marked_word, within_words, IsNoneBefore}
use Rattle.buckets.proofs.places.Places.first.Goals as goal

pub returns-in_err-bit : goal.returns-in_err-bit
returns-in_err-bit c =
    let words = c.self.inside.words.items in
    let next : IsLeastFrom c.self.inside.summary.items 0 c.in_ok-place.place = rw (← c.deref.ensures.value) c.in_ok-place.ensures in
    let some : get_or words c.in_ok-place.place 0 ≢ 0 = marked_word words c.self.inside.summary.items c.in_ok-place.place c.self.invariant next.member in
    let lt : c.in_ok-place.place < length words = within_words words c.in_ok-place.place some in
    let read : c.index.result.now ≡ get_or words c.in_ok-place.place 0 = get_or_read words c.in_ok-place.place c.index.result.now lt c.index.ensures 0 in
    absurd (some (sym read ∙ no_bits c.index.result.now c.in_err-bit.ensures.none))

pub returns : goal.returns
returns c =
    let words = c.self.inside.words.items in
    let next : IsLeastFrom c.self.inside.summary.items 0 c.in_ok-place.place = rw (← c.deref.ensures.value) c.in_ok-place.ensures in
    let some : get_or words c.in_ok-place.place 0 ≢ 0 = marked_word words c.self.inside.summary.items c.in_ok-place.place c.self.invariant next.member in
    let lt : c.in_ok-place.place < length words = within_words words c.in_ok-place.place some in
    let read : c.index.result.now ≡ get_or words c.in_ok-place.place 0 = get_or_read words c.in_ok-place.place c.index.result.now lt c.index.ensures 0 in
    let before : IsNoneBefore words 0 c.in_ok-place.place = none_before_mark words c.self.inside.summary.items c.in_ok-place.place c.self.invariant next in
    let here : IsLeastFrom words 0 (c.in_ok-place.place * 64 + c.in_ok-bit.bit) = found words 0 c.in_ok-place.place 0 c.in_ok-bit.bit c.in_ok-bit.ensures.none.0 (omega arith) (ap (λ w. bit_at w c.in_ok-bit.bit) (sym read) ∙ c.in_ok-bit.ensures.none.2) (λ i low below. ap (λ w. bit_at w i) (sym read) ∙ c.in_ok-bit.ensures.least i low below) before (λ k _ _. omega arith) in
    subst (λ ws. IsLeastFrom ws 0 (c.in_ok-place.place * 64 + c.in_ok-bit.bit)) c.self.view_is here
