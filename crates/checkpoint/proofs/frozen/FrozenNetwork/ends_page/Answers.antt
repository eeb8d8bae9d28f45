use Rattle.std.proofs.Common.{◌≡◌, ℕ, List, length, take, drop, map, sym, ◌∙◌, ap, arith}
use Rattle.std.specs.Prelude.{min}
use Rattle.std.proofs.lemmas.List.{length-take, take_min}
use Rattle.roadnet.specs.declared.arcs.RoadArc.{RoadArc}
use Rattle.roadnet.specs.Net.{Net}
use Rattle.pages.specs.Spelling.{arc_page, ends_of}
use Rattle.storefile.specs.StoreFile.{part}
use Rattle.checkpoint.specs.Writing.{ends_page}
use Rattle.checkpoint.proofs.FrozenArcs.{length-with_numbers, ends_behind}
use Rattle.checkpoint.proofs.SlotPages.{length-part}
use Rattle.checkpoint.proofs.frozen.FrozenNetwork.ends_page.Goals as goal

pub slice_bounds-behind-end : goal.slice_bounds-behind-end
slice_bounds-behind-end c =
    let arcs = c.self.inside.network.now.arcs in
    let numbers = c.self.inside.frozen.now.numbers.items in
    let count : c.arc_count-count.result ≡ min (length arcs) (length numbers) = c.arc_count-count.ensures ∙ (ap (λ (n : Net). length n.arcs) (sym c.self.view_is) ∙ length-with_numbers arcs numbers) in
    omega (arith, count, length-take c.arc_count-count.result c.arcs.result.now, ap length c.arcs.ensures.value)

pub encode_arc_page-requires : goal.encode_arc_page-requires
encode_arc_page-requires c = omega (arith, ap length c.part_of.ensures, length-part 511 c.args.i c.behind-laid.result.now)

pub returns : goal.returns
returns c =
    let arcs = c.self.inside.network.now.arcs in
    let numbers = c.self.inside.frozen.now.numbers.items in
    let count : c.arc_count-count.result ≡ min (length arcs) (length numbers) = c.arc_count-count.ensures ∙ (ap (λ (n : Net). length n.arcs) (sym c.self.view_is) ∙ length-with_numbers arcs numbers) in
    let other : min (length arcs) (length numbers) ≡ min (length numbers) (length arcs) = omega arith in
    let cut : take c.arc_count-count.result c.arcs.result.now ≡ take (length numbers) arcs = ap (take c.arc_count-count.result) c.arcs.ensures.value ∙ (ap (λ (k : ℕ). take k arcs) (count ∙ other) ∙ take_min (length numbers) arcs) in
    c.encode_arc_page.ensures
    ∙ (ap (λ (xs : List RoadArc). arc_page (map ends_of xs)) (c.part_of.ensures ∙ ap (part 511 c.args.i) (c.behind-laid.ensures ∙ ap (drop c.args.header.now.arcs) cut))
    ∙ (ap arc_page (ends_behind arcs numbers c.args.header.now.arcs c.args.i)
    ∙ ap (λ (n : Net). ends_page c.args.header.now n c.args.i) c.self.view_is))
