use Rattle.std.proofs.Common.{◌≡◌, ◌∙◌, ◌+◌, [], ◌∷◌, ◌++◌, map, take, max, sym, ap, arith}
use Rattle.std.specs.List.{fold}
use Rattle.std.proofs.lemmas.List.{map-append, take_more}
use Rattle.std.proofs.lemmas.List.Sums.{fold-append}
use Rattle.snapshot.proofs.Shared.{greatest_of}
use Rattle.snapshot.proofs.weighing.greatest_of.Goals as goal

pub loop-place-preserved : goal.loop-place-preserved
loop-place-preserved c =
    let blocks = c.args.blocks.now in
    let place = c.loop-place.place in
    let block = c.get.result.now in
    let more : take (place + 1) blocks ≡ take place blocks ++ block ∷ [] = take_more blocks place block (omega (arith, c.loop-place-test.true, c.len-place-end.ensures)) ∙ ap (λ b. take place blocks ++ b ∷ []) (c.get.ensures.item block) in
    c.max-greatest.ensures
    ∙ (ap (λ n. max n block.greatest) c.loop-place.invariant
    ∙ sym (ap (λ l. fold max 0 (map greatest_of l)) more ∙ (ap (fold max 0) (map-append greatest_of (take place blocks) (block ∷ [])) ∙ fold-append max 0 (map greatest_of (take place blocks)) (block.greatest ∷ []))))
