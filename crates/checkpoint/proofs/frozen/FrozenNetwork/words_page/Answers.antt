use Rattle.std.proofs.Common.{◌≡◌, ℕ, ◌^◌, ◌<◌, length, take, sym, ◌∙◌, ap, arith}
use Rattle.std.specs.Prelude.{min}
use Rattle.std.proofs.lemmas.List.{length-take, take_min}
use Rattle.std.proofs.lemmas.List.Elements.{recursion_from_All}
use Rattle.roadnet.specs.Net.{Net}
use Rattle.pages.specs.Spelling.{page_of_numbers}
use Rattle.storefile.specs.StoreFile.{part}
use Rattle.checkpoint.specs.Writing.{words_page}
use Rattle.checkpoint.proofs.FrozenArcs.{length-with_numbers, words_of_numbers}
use Rattle.checkpoint.proofs.SlotPages.{length-part}
use Rattle.checkpoint.proofs.frozen.FrozenNetwork.words_page.Goals as goal

pub slice_bounds-part_of-end : goal.slice_bounds-part_of-end
slice_bounds-part_of-end c =
    let arcs = c.self.inside.network.now.arcs in
    let numbers = c.self.inside.frozen.now.numbers.items in
    let count : c.arc_count-count.result ≡ min (length arcs) (length numbers) = c.arc_count-count.ensures ∙ (ap (λ (n : Net). length n.arcs) (sym c.self.view_is) ∙ length-with_numbers arcs numbers) in
    omega (arith, count, length-take c.arc_count-count.result c.deref.result.now, ap length c.deref.ensures.value)

pub encode_numbers-requires : goal.encode_numbers-requires
encode_numbers-requires c = omega (arith, ap length c.part_of.ensures, length-part 1023 c.args.i (take c.arc_count-count.result c.deref.result.now))

pub returns : goal.returns
returns c =
    let arcs = c.self.inside.network.now.arcs in
    let numbers = c.self.inside.frozen.now.numbers.items in
    let count : c.arc_count-count.result ≡ min (length arcs) (length numbers) = c.arc_count-count.ensures ∙ (ap (λ (n : Net). length n.arcs) (sym c.self.view_is) ∙ length-with_numbers arcs numbers) in
    let cut : take c.arc_count-count.result c.deref.result.now ≡ take (length arcs) numbers = ap (take c.arc_count-count.result) c.deref.ensures.value ∙ (ap (λ (k : ℕ). take k numbers) count ∙ take_min (length arcs) numbers) in
    c.encode_numbers.ensures
    ∙ (ap page_of_numbers (c.part_of.ensures ∙ ap (part 1023 c.args.i) cut)
    ∙ (words_of_numbers arcs numbers c.args.i (recursion_from_All (λ (n : ℕ). n < 2 ^ 32) numbers c.self.inside.frozen.now.fit)
    ∙ ap (λ (n : Net). words_page n c.args.i) c.self.view_is))
