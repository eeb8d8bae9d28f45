use Rattle.std.proofs.Common.{◌≡◌, ◌∙◌, ◌/◌, ap, get_or, arith}
use Rattle.std.specs.Int.{w64, bit_at}
use Rattle.std.proofs.lemmas.List.{get_or_read}
use Rattle.std.proofs.lemmas.Nat.Bits.{bit_at_set_same, bit_at_set_other}
use Rattle.buckets.proofs.Bits.{place_bit-written, place_bit-other}
use Rattle.buckets.proofs.places.set_bit.Goals as goal

pub returns-clause-member : goal.returns-clause-member
returns-clause-member c = place_bit-written c.args.words.now.items c.args.place _ 1 c.requires (bit_at_set_same w64 _ _ (omega arith))

pub returns-clause-others : goal.returns-clause-others
returns-clause-others c = λ k ne.
    let read : c.index_mut.result.now ≡ get_or c.args.words.now.items (c.args.place / 64) 0 = get_or_read c.args.words.now.items (c.args.place / 64) c.index_mut.result.now c.requires c.index_mut.ensures.value 0 in
    place_bit-other c.args.words.now.items c.args.place _ k c.requires (λ i small apart. bit_at_set_other w64 _ _ (omega arith) i apart ∙ ap (λ w. bit_at w i) read) ne
