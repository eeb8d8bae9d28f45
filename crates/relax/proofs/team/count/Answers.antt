use Rattle.std.proofs.Common.{◌≡◌, ◌+◌, ◌<◌, ◌++◌, List, [], take, map, length, get_or, sym, ap, ap₂, ◌∙◌, arith}
use Rattle.snapshot.specs.declared.legs.Leg.{Leg}
use Rattle.snapshot.specs.Groups.{legs_of}
use Rattle.std.proofs.lemmas.List.{take_more, take_all, flat_map_more, nil_from_length}
use Rattle.relax.specs.Requests.{requests_of, requests_from}
use Rattle.relax.specs.Values.{value_or}
use Rattle.relax.proofs.team.count.Goals as goal

pub loop-node-preserved : goal.loop-node-preserved
loop-node-preserved c = λ zero tentative.
    let groups = c.args.snapshot.now in
    let part = c.args.part in
    let nodes = c.args.nodes.now in
    let i = c.loop-node.node-index in
    let node = get_or nodes i 0 in
    let lt : i < length nodes = omega arith in
    let from = requests_from groups tentative part in
    let none : length c.legs.result.now ≡ 0 = omega arith in
    let legs : legs_of groups part node ≡ [] = sym c.legs.ensures.value ∙ nil_from_length c.legs.result.now none in
    let before : requests_of groups (take i nodes) tentative part ≡ [] = c.loop-node.invariant (omega arith) tentative in
    ap (λ ns. requests_of groups ns tentative part) (take_more nodes i 0 lt)
    ∙ (sym (flat_map_more from [] (take i nodes) node)
    ∙ ap₂ (λ xs (ls : List Leg). xs ++ map (λ leg. (leg.head, value_or 0 tentative node + leg.length)) ls) before legs)

pub returns : goal.returns
returns c = record {
  none = λ zero tentative.
      let nodes = c.args.nodes.now in
      let all : take c.loop-node.node-index nodes ≡ nodes = take_all c.loop-node.node-index nodes (omega arith) in
      ap (λ ns. requests_of c.args.snapshot.now ns tentative c.args.part) (sym all) ∙ c.loop-node.invariant zero tentative;
}
