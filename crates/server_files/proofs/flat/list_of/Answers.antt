use Rattle.std.proofs.Common.{◌≡◌, ◌∙◌, ◌+◌, ◌*◌, ◌++◌, ℕ, List, take, ap, ap₂, sym, arith}
use Rattle.std.proofs.Math.Seq.{take-add}
use Rattle.std.proofs.lemmas.List.{take_all}
use Rattle.roadnet.specs.declared.arcs.RoadArc.{RoadArc}
use Rattle.server_files.proofs.flat.list_of.Goals as goal

pub loop-k-preserved : goal.loop-k-preserved
loop-k-preserved c =
    let at : (c.loop-k.k + 1) * 1024 ≡ c.loop-k.k * 1024 + 1024 = omega arith in
    c.in_ok-extend_from_slice.ensures.items
    ∙ (ap₂ (λ (xs ys : List RoadArc). xs ++ ys) c.loop-k.invariant c.chunk.ensures ∙ (sym (take-add (c.loop-k.k * 1024) 1024 c.args.arcs.now) ∙ ap (λ (n : ℕ). take n c.args.arcs.now) (sym at)))

pub returns : goal.returns
returns c = c.loop-k.invariant ∙ take_all (c.loop-k.k * 1024) c.args.arcs.now (omega (arith, c.loop-k-test.false, c.chunk_count-k-end.ensures))
