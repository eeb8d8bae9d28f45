use Rattle.std.proofs.Common.{◌≡◌, ◌∙◌, ◌*◌, ◌<◌, ◌≤◌, true, List, [], ◌∷◌, length, get_or, take, refl, ap, sym, subst, arith, rules, append-nil}
use Rattle.std.specs.List.{All, flat_map}
use Rattle.std.proofs.lemmas.List.{take_all, take_more}
use Rattle.roadnet.specs.declared.arcs.RoadArc.{RoadArc}
use Rattle.snapshot.specs.Appended.{HasMore}
use Rattle.snapshot.specs.Groups.{part_place}
use Rattle.snapshot.specs.declared.legs.Leg.{Leg}
use Rattle.snapshot.proofs.Appended.{All-more, AreLight-more, HasMore-onward}
use Rattle.snapshot.proofs.Joined.{length-joined}
use Rattle.snapshot.proofs.Shared.{parts_in, each_of}
use Rattle.snapshot.proofs.appending.with_legs.Goals as goal

pub loop-arc-init : goal.loop-arc-init
loop-arc-init c =
    rw c.in_ok-more.ensures
    (record {
      count = refl;
      short = λ k d h. absurd (omega (arith, h));
      legs = λ light part u h. sym (append-nil (get_or (flat_map parts_in c.args.blocks.now) (part_place part u) []));
    })

pub loop-arc-preserved : goal.loop-arc-preserved
loop-arc-preserved c =
    let i = c.loop-arc.arc-index in
    let blocks = c.args.blocks.now in
    let arcs = c.args.arcs.now in
    let within : i < length arcs = omega (arith, c.loop-arc-test.true) in
    let done : c.in_ok-add_leg.field-0 ≡ true = search rules in
    let long : length c.loop-arc.more ≡ length blocks = c.loop-arc.invariant.count in
    let short = rw done at c.in_ok-add_leg.ensures.short in
    let legs = rw (done, long) at c.in_ok-add_leg.ensures.legs in
    record {
      count = c.add_leg.ensures.count ∙ long;
      short = All-more (λ (arc : RoadArc). arc.length ≤ c.args.delta) arcs i _ within c.loop-arc.invariant.short short;
      legs = λ light.
          let before = c.loop-arc.invariant.legs light in
          let size : length (flat_map parts_in c.loop-arc.more) ≡ length blocks * 1024 * 2 = omega (arith, length-joined parts_in 2048 each_of c.loop-arc.more, long) in
          let mid = AreLight-more (length blocks * 1024) c.args.delta (take i arcs) (flat_map parts_in blocks) (flat_map parts_in c.loop-arc.more) size c.loop-arc.invariant.short light before in
          subst (λ (l : List RoadArc). HasMore (length blocks * 1024) l c.args.delta (flat_map parts_in blocks) (flat_map parts_in c.add_leg.new.blocks)) (sym (take_more arcs i _ within))
          (HasMore-onward (length blocks * 1024) c.args.delta (take i arcs) (_ ∷ []) (flat_map parts_in blocks) (flat_map parts_in c.loop-arc.more) (flat_map parts_in c.add_leg.new.blocks) before (legs mid));
    }

pub returns-clause-short : goal.returns-clause-short
returns-clause-short c =
    let all : take c.loop-arc.arc-index c.args.arcs.now ≡ c.args.arcs.now = take_all c.loop-arc.arc-index c.args.arcs.now (omega (arith, c.loop-arc-test.false)) in
    subst (All (λ (arc : RoadArc). arc.length ≤ c.args.delta)) all c.loop-arc.invariant.short
