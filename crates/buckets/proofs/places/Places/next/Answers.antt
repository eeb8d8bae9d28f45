use Rattle.std.proofs.Common.{◌≡◌, ◌≢◌, ◌/◌, ◌%◌, ◌+◌, ◌*◌, ◌<◌, ◌≤◌, ◌∙◌, ℕ, get_or, length, sym, ap, subst, arith}
use Rattle.std.specs.Int.{bit_at}
use Rattle.std.proofs.lemmas.List.{get_or_read}
use Rattle.buckets.specs.Places.{IsLeastFrom}
use Rattle.buckets.proofs.Bits.{found, none_between, no_bits, marked_word, within_words, IsNoneBefore}
use Rattle.buckets.proofs.places.Places.next.Goals as goal

pub next_in-requires : goal.next_in-requires
next_in-requires c = rw c.deref.ensures.value c.self.invariant.small

pub returns-in_err-bit : goal.returns-in_err-bit
returns-in_err-bit c =
    let words = c.self.inside.words.items in
    let next : IsLeastFrom c.self.inside.summary.items (c.args.from / 64 + 1) c.in_ok-place.place = rw (← c.deref.ensures.value) c.in_ok-place.ensures in
    let some : get_or words c.in_ok-place.place 0 ≢ 0 = marked_word words c.self.inside.summary.items c.in_ok-place.place c.self.invariant next.member in
    let lt : c.in_ok-place.place < length words = within_words words c.in_ok-place.place some in
    let read : c.index-2.result.now ≡ get_or words c.in_ok-place.place 0 = get_or_read words c.in_ok-place.place c.index-2.result.now lt c.index-2.ensures 0 in
    absurd (some (sym read ∙ no_bits c.index-2.result.now c.in_err-bit.ensures.none))

pub returns : goal.returns
returns c =
    let words = c.self.inside.words.items in
    let next : IsLeastFrom c.self.inside.summary.items (c.args.from / 64 + 1) c.in_ok-place.place = rw (← c.deref.ensures.value) c.in_ok-place.ensures in
    let some : get_or words c.in_ok-place.place 0 ≢ 0 = marked_word words c.self.inside.summary.items c.in_ok-place.place c.self.invariant next.member in
    let lt : c.in_ok-place.place < length words = within_words words c.in_ok-place.place some in
    let read : c.index-2.result.now ≡ get_or words c.in_ok-place.place 0 = get_or_read words c.in_ok-place.place c.index-2.result.now lt c.index-2.ensures 0 in
    let first_lt : c.args.from / 64 < length words = omega arith in
    let first : c.index.result.now ≡ get_or words (c.args.from / 64) 0 = get_or_read words (c.args.from / 64) c.index.result.now first_lt c.index.ensures 0 in
    let none_first : (i : ℕ) → c.args.from % 64 ≤ i → bit_at (get_or words (c.args.from / 64) 0) i ≡ 0 = λ i far. ap (λ w. bit_at w i) (sym first) ∙ c.in_default.ensures.none i far in
    let before : IsNoneBefore words c.args.from c.in_ok-place.place = none_between words c.self.inside.summary.items c.args.from c.in_ok-place.place c.self.invariant none_first (λ w far below. next.least w far below) in
    let far : c.args.from ≤ c.in_ok-place.place * 64 + c.in_ok-bit.bit = omega (arith, next.far) in
    let here : IsLeastFrom words c.args.from (c.in_ok-place.place * 64 + c.in_ok-bit.bit) = found words c.args.from c.in_ok-place.place 0 c.in_ok-bit.bit c.in_ok-bit.ensures.none.0 far (ap (λ w. bit_at w c.in_ok-bit.bit) (sym read) ∙ c.in_ok-bit.ensures.none.2) (λ i low below. ap (λ w. bit_at w i) (sym read) ∙ c.in_ok-bit.ensures.least i low below) before (λ k _ _. omega arith) in
    subst (λ ws. IsLeastFrom ws c.args.from (c.in_ok-place.place * 64 + c.in_ok-bit.bit)) c.self.view_is here
