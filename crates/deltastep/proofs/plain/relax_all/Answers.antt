use Rattle.std.proofs.Common.{◌<◌, ◌≤◌, length, ap, arith}
use Rattle.deltastep.proofs.Rounds.{among, nearer_more, settled_more, cases_at_end}
use Rattle.deltastep.proofs.plain.relax_all.Goals as goal
use Rattle.deltastep.proofs.plain.relax_all.Goals.{then-relax, else-relax}

pub relax-requires-clause-arc : goal.relax-requires-clause-arc
relax-requires-clause-arc c =
    let within : c.loop-place.place < length c.arcs-arcs.result.now = omega (arith, c.loop-place-test.true, c.len-place-end.ensures) in
    rw c.loop-place.invariant.bounded.size
    (among c.args.network.now c.arcs-arcs.ensures.network c.args.words.now c.loop-place.words c.loop-place.words c.arcs-arcs.result.now c.loop-place.place c.get.result.now c.arcs-arcs.ensures.value within (c.get.ensures.item c.get.result.now))

pub loop-place-preserved : goal.loop-place-preserved
loop-place-preserved c =
    let within : c.loop-place.place < length c.arcs-arcs.result.now = omega (arith, c.loop-place-test.true, c.len-place-end.ensures) in
    elim c.if-relax.branch [
      | then-relax w ↦ rw w.nearer-is (nearer_more c.args.network.now c.arcs-arcs.ensures.network c.args.words.now c.loop-place.words c.relax.new.words c.arcs-arcs.result.now c.loop-place.place c.get.result.now
          c.arcs-arcs.ensures.value within (c.get.ensures.item c.get.result.now) c.loop-place.nearer c.loop-place.invariant w.if-relax.ensures)
      | else-relax w ↦ rw w.nearer-is (settled_more c.args.network.now c.arcs-arcs.ensures.network c.args.words.now c.loop-place.words c.relax.new.words c.arcs-arcs.result.now c.loop-place.place c.get.result.now
          c.arcs-arcs.ensures.value within (c.get.ensures.item c.get.result.now) c.loop-place.nearer c.loop-place.invariant w.if-relax.ensures)
    ]

pub returns-clause-cases : goal.returns-clause-cases
returns-clause-cases c =
    let all : length c.args.network.now.arcs ≤ c.loop-place.place = omega (arith, c.loop-place-test.false, c.len-place-end.ensures, ap length c.arcs-arcs.ensures.value) in
    cases_at_end c.args.network.now c.args.words.now c.loop-place.words c.loop-place.nearer c.loop-place.place all c.loop-place.invariant.cases
