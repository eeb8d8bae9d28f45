use Rattle.std.proofs.Common.{◌∙◌, ◌/◌, ◌<◌, false, length, ap, sym, arith}
use Rattle.std.proofs.lemmas.List.{length-set}
use Rattle.roadnet.specs.declared.arcs.RoadArc.{RoadArc}
use Rattle.snapshot.proofs.Indexed.{file_more}
use Rattle.snapshot.proofs.index.add_places.Goals as goal

abbrev no_arc : RoadArc
no_arc = record { tail = 0; head = 0; length = 0; opened = false }

pub loop-place-preserved : goal.loop-place-preserved
loop-place-preserved g c =
    let arcs = (g.R.Roads.network c.args.roads.now).arcs in
    let within : c.loop-place.place < length arcs = omega (arith, c.loop-place-test.true, c.arc_count-place-end.ensures) in
    let is = c.arc_at_place.ensures no_arc in
    let tail = c.requires.tails c.loop-place.place no_arc within in
    let tails = ap (λ (arc : RoadArc). arc.tail) is in
    let long = length-set c.loop-place.lists (c.arc_at_place.result.tail / 1024) c.add_place.new.list in
    record {
      blocks = long ∙ c.loop-place.invariant.blocks;
      added = λ block h. file_more (λ list. list.value.items) c.loop-place.lists c.add_place.new.list arcs c.loop-place.place (c.arc_at_place.result.tail / 1024) no_arc within (ap (λ (arc : RoadArc). arc.tail / 1024) (sym is)) (omega (arith, tail, tails, c.loop-place.invariant.blocks)) c.index-lists-block.result c.in_ok-add_place.ensures block (c.loop-place.invariant.added block (omega (arith, h, long)));
    }
