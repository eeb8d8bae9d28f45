use Rattle.std.proofs.Common.{◌≡◌, ◌∙◌, ◌*◌, ◌<◌, ◌≤◌, ◌++◌, Bool, length, max, ap, sym, subst, arith}
use Rattle.std.specs.List.{All, flat_map}
use Rattle.roadnet.specs.Net.{IsArcAmong}
use Rattle.snapshot.specs.Groups.{Groups, IsGrouped, legs_in, legs_of, parts_of}
use Rattle.snapshot.proofs.Appended.{AreLight-groups, IsGrouped-more, legs_more}
use Rattle.snapshot.proofs.Joined.{length-joined}
use Rattle.snapshot.proofs.Narrowing.{with_parts}
use Rattle.snapshot.proofs.Shared.{parts_in, each_of}
use Rattle.snapshot.proofs.groups.Snapshot.with_arcs.Goals as goal

pub invariant_of-result : goal.invariant_of-result
invariant_of-result c =
    let s = c.self.inside in
    let blocks = s.blocks.value in
    let more = c.in-Some.blocks in
    let grouped = subst (λ (b : Bool). IsGrouped (with_parts s.nodes s.delta s.greatest (parts_of b (flat_map parts_in blocks)))) c.if-self.false c.self.invariant.1 in
    let low : s.greatest ≤ s.delta = omega (arith, c.if-self-2.false) in
    let count : length more ≡ length blocks = rw (c.in-Some.is, c.deref-blocks.ensures) at c.in_ok-blocks.ensures.count in
    let short = rw c.in-Some.is at c.in_ok-blocks.ensures.short in
    let legs = (rw (c.in-Some.is, c.deref-blocks.ensures) at c.in_ok-blocks.ensures.legs) (AreLight-groups s.nodes s.delta s.greatest (flat_map parts_in blocks) grouped low) in
    let among = subst (λ (v : Groups). All (IsArcAmong v.nodes) c.args.arcs.now) (sym c.self.view_is) c.requires.arcs in
    let fits : s.nodes < length blocks * 1024 = omega (arith, c.self.invariant.0) in
    let size : length (flat_map parts_in more) ≡ length blocks * 1024 * 2 = omega (arith, length-joined parts_in 2048 each_of more, count) in
    rw c.in-Ok.ensures.ok
    (count ∙ c.self.invariant.0, IsGrouped-more s.nodes s.delta s.greatest (flat_map parts_in blocks) grouped low (length blocks * 1024) fits (flat_map parts_in more) size c.args.arcs.now among short legs c.max.result (c.max.ensures ∙ ap (max s.greatest) c.greatest_length.ensures), c.self.invariant.2)

pub returns-clause-legs : goal.returns-clause-legs
unfolding legs_of
returns-clause-legs c part u =
    let s = c.self.inside in
    let blocks = s.blocks.value in
    let more = c.in-Some.blocks in
    let grouped = subst (λ (b : Bool). IsGrouped (with_parts s.nodes s.delta s.greatest (parts_of b (flat_map parts_in blocks)))) c.if-self.false c.self.invariant.1 in
    let low : s.greatest ≤ s.delta = omega (arith, c.if-self-2.false) in
    let count : length more ≡ length blocks = rw (c.in-Some.is, c.deref-blocks.ensures) at c.in_ok-blocks.ensures.count in
    let short = rw c.in-Some.is at c.in_ok-blocks.ensures.short in
    let legs = (rw (c.in-Some.is, c.deref-blocks.ensures) at c.in_ok-blocks.ensures.legs) (AreLight-groups s.nodes s.delta s.greatest (flat_map parts_in blocks) grouped low) in
    let among = subst (λ (v : Groups). All (IsArcAmong v.nodes) c.args.arcs.now) (sym c.self.view_is) c.requires.arcs in
    let fits : s.nodes < length blocks * 1024 = omega (arith, c.self.invariant.0) in
    let size : length (flat_map parts_in more) ≡ length blocks * 1024 * 2 = omega (arith, length-joined parts_in 2048 each_of more, count) in
    let seen : with_parts s.nodes s.delta s.greatest (flat_map parts_in blocks) ≡ c.args.self.now = ap (λ (b : Bool). with_parts s.nodes s.delta s.greatest (parts_of b (flat_map parts_in blocks))) (sym c.if-self.false) ∙ c.self.view_is in
    rw c.in-Ok.ensures.ok
    (subst (λ (v : Groups). legs_of (with_parts s.nodes s.delta s.greatest (flat_map parts_in more)) part u ≡ legs_of v part u ++ legs_in c.args.arcs.now v.delta part u) seen
    (legs_more s.nodes s.delta s.greatest (flat_map parts_in blocks) grouped low (length blocks * 1024) fits (flat_map parts_in more) size c.args.arcs.now among short legs part u))
