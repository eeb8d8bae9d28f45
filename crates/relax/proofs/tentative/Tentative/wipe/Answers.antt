use Rattle.std.proofs.Common.{rules, ◌≡◌, ◌∙◌, ◌+◌, None, replicate, length, ap, arith}
use Rattle.std.proofs.lemmas.List.{length-map}
use Rattle.std.specs.Vec.{vec_len}
use Rattle.relax.specs.Values.{value_of_word}
use Rattle.relax.proofs.Words.{none_of_words, length_of_words}
use Rattle.relax.proofs.tentative.Tentative.wipe.Goals as goal

pub returns-in-None : goal.returns-in-None
returns-in-None c =
    let words = c.self.inside.words.items in
    let count : vec_len c.self.inside.words ≡ length words = search rules in
    let many : vec_len c.self.inside.words + 1 ≡ length c.args.self.now = omega (arith, count, length_of_words words c.args.self.now c.self.view_is, length-map words value_of_word) in
    record { blank = none_of_words (vec_len c.self.inside.words) c.fill.new.self.items (c.fill.ensures.items (λ y e. cc)) ∙ ap (λ n. replicate n None) many }
