use Rattle.std.proofs.Common.{◌≡◌, ◌∙◌, ◌∷◌, ◌+◌, None, map, length, sym, arith}
use Rattle.std.proofs.lemmas.List.{length-map}
use Rattle.relax.specs.Values.{value_of_word}
use Rattle.relax.specs.Noted.{AreNoted}
use Rattle.relax.proofs.Noting.{blank_of_none}
use Rattle.relax.proofs.tentative.Tentative.is_blank.Goals as goal

pub returns : goal.returns
returns c =
    let words = c.self.inside.words.items in
    let noted : AreNoted (None ∷ map value_of_word words) c.in-Some.noted.items = rw c.in-Some.is at c.self.invariant in
    let empty : length c.in-Some.noted.items ≡ 0 = omega arith in
    let many : length words ≡ c.args.nodes = omega arith in
    sym c.self.view_is ∙ blank_of_none (None ∷ map value_of_word words) c.in-Some.noted.items (c.args.nodes + 1) (omega (arith, many, length-map words value_of_word)) empty noted
