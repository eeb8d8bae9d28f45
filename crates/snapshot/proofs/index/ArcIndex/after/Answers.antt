use Rattle.std.proofs.Common.{◌∙◌, length, ap, sym, arith}
use Rattle.std.proofs.lemmas.List.{length-map}
use Rattle.snapshot.proofs.Differing.{index_stays}
use Rattle.snapshot.proofs.Unchanged.{no_fewer}
use Rattle.snapshot.proofs.index.ArcIndex.after.Goals as goal

pub add_places-requires-clause-from : goal.add_places-requires-clause-from
add_places-requires-clause-from c = omega (arith, c.len.ensures, ap length c.arcs.ensures.value, no_fewer c.args.older.now c.args.newer.now c.requires.ends)

pub add_places-requires-clause-before : goal.add_places-requires-clause-before
add_places-requires-clause-before c =
    let was = index_stays c.args.older.now c.args.newer.now c.args.self.now c.requires.ends c.requires.index in
    let same = c.in_ok-blocks.ensures ∙ c.self.view_is in
    let long = sym (length-map c.in_ok-blocks.blocks.items (λ list. list.value.items)) ∙ ap length same in
    rw (c.deref_mut.ensures.value, c.len.ensures, c.arcs.ensures.value, same)
    (λ block h. was.each block (omega (arith, h, long, was.blocks)))
