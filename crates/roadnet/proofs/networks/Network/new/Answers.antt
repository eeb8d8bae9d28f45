use Rattle.std.proofs.Common.{◌≡◌, ◌≤◌, ◌||◌, true, false, length, rules, arith}
use Rattle.std.specs.Vec.{vec_len}
use Rattle.std.proofs.lemmas.Result.{err_from_is_err_and}
use Rattle.roadnet.specs.Made.{is_node_count, has_long_arc, has_stray_end, has_stray_landmark}
use Rattle.roadnet.proofs.Flaws.{flaw-none, flaw-collected, IsNetwork-made, neither}
use Rattle.roadnet.proofs.networks.Network.new.Goals as goal

pub returns-in_err-landmarks-clause-refused : goal.returns-in_err-landmarks-clause-refused
returns-in_err-landmarks-clause-refused c =
    let count : is_node_count c.args.nodes ≡ true = cc in
    let few : length c.args.arcs.items ≤ 67108864 = search rules in
    let long : has_long_arc c.args.arcs.items ≡ false = search rules in
    let stray : (has_stray_end c.args.nodes c.args.arcs.items || has_stray_landmark c.args.nodes c.args.landmarks.now) ≡ false = neither (has_stray_end c.args.nodes c.args.arcs.items) (has_stray_landmark c.args.nodes c.args.landmarks.now) (search rules) (search rules) in
    let p = err_from_is_err_and c.from_residual.result c.from_residual.ensures.1 in
    rw (p.1, p.2) (flaw-collected c.args.nodes c.args.arcs.items c.args.landmarks.now count few long stray _ c.in_err-landmarks.ensures.err)

pub invariant_of-result : goal.invariant_of-result
invariant_of-result c =
    let count : is_node_count c.args.nodes ≡ true = cc in
    let few : length c.args.arcs.items ≤ 67108864 = search rules in
    let long : has_long_arc c.args.arcs.items ≡ false = search rules in
    let stray : (has_stray_end c.args.nodes c.args.arcs.items || has_stray_landmark c.args.nodes c.args.landmarks.now) ≡ false = neither (has_stray_end c.args.nodes c.args.arcs.items) (has_stray_landmark c.args.nodes c.args.landmarks.now) (search rules) (search rules) in
    let fit : length c.in_ok-landmarks.landmarks.items ≤ 1000 = c.in_ok-landmarks.ensures.few in
    let count_is : vec_len c.args.arcs ≡ length c.args.arcs.items = omega arith in
    rw (c.in_ok-landmarks.ensures.set, c.len-room.ensures, count_is) (IsNetwork-made c.args.nodes c.args.arcs.items c.args.landmarks.now count few long stray (rw (← c.in_ok-landmarks.ensures.set) fit))

pub returns-clause-ok : goal.returns-clause-ok
returns-clause-ok c =
    let count : is_node_count c.args.nodes ≡ true = cc in
    let few : length c.args.arcs.items ≤ 67108864 = search rules in
    let long : has_long_arc c.args.arcs.items ≡ false = search rules in
    let stray : (has_stray_end c.args.nodes c.args.arcs.items || has_stray_landmark c.args.nodes c.args.landmarks.now) ≡ false = neither (has_stray_end c.args.nodes c.args.arcs.items) (has_stray_landmark c.args.nodes c.args.landmarks.now) (search rules) (search rules) in
    let fit : length c.in_ok-landmarks.landmarks.items ≤ 1000 = c.in_ok-landmarks.ensures.few in
    flaw-none c.args.nodes c.args.arcs.items c.args.landmarks.now count few long stray (rw (← c.in_ok-landmarks.ensures.set) fit)
