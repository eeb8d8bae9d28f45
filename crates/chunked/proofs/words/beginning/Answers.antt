use Rattle.std.proofs.Common.{◌≡◌, ◌∙◌, ◌<◌, ◌++◌, [], ◌∷◌, length, get_or, take, ap, sym, arith}
use Rattle.std.proofs.lemmas.List.{length-set, take_all, take_more, take_more_set}
use Rattle.chunked.proofs.words.beginning.Goals as goal

pub loop-place-preserved : goal.loop-place-preserved
loop-place-preserved c =
    let place = c.loop-place.place in
    let words = c.args.words.now in
    let word = get_or words place 0 in
    let here : place < length words = omega (arith, c.loop-place-test.true) in
    record {
      full = length-set c.loop-place.all place word ∙ c.loop-place.invariant.full;
      copied = take_more_set c.loop-place.all place word (omega (arith, here, c.requires, c.loop-place.invariant.full)) ∙ (ap (λ xs. xs ++ word ∷ []) c.loop-place.invariant.copied ∙ sym (take_more words place 0 here));
    }

pub returns : goal.returns
returns c =
    let end : c.loop-place.place ≡ length c.args.words.now = omega (arith, c.loop-place-test.false, c.loop-place.auto.place-end) in
    ap (λ n. take n c.loop-place.all) (sym end) ∙ (c.loop-place.invariant.copied ∙ take_all c.loop-place.place c.args.words.now (omega (arith, end)))
