use Rattle.buckets.proofs.Bits.{IsSummary-written, bit_in_word}
use Rattle.buckets.proofs.places.Places.insert.Goals as goal

pub invariant_of-self : goal.invariant_of-self
invariant_of-self c = IsSummary-written c.self.inside.words.items c.set_bit.new.words.items c.self.inside.summary.items c.set_bit-2.new.words.items _ c.self.invariant c.set_bit.ensures.len c.set_bit-2.ensures.len c.set_bit.ensures.words c.set_bit-2.ensures.others (λ _. c.set_bit-2.ensures.member) (λ none. absurd (bit_in_word c.set_bit.new.words.items c.args.place c.set_bit.ensures.member none))
