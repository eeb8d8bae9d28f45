use Rattle.std.proofs.Common.{rules, ◌≡◌, ℕ, ◌+◌, ◌<◌, [], ◌++◌, take, map, length, get_or, Option, sym, ap, ap₂, ◌∙◌, arith, unwrap_or}
use Rattle.snapshot.specs.declared.legs.Leg.{Leg}
use Rattle.relax.specs.Requests.{requests_of, requests_from}
use Rattle.relax.specs.Values.{value_or}
use Rattle.std.proofs.lemmas.List.{take_more, flat_map_more}
use Rattle.relax.proofs.team.requests_by.Goals as goal

pub loop-node-preserved : goal.loop-node-preserved
loop-node-preserved g c =
    let nodes = c.args.nodes.now in
    let i = c.loop-node.node-index in
    let lt : i < length nodes = omega arith in
    let from = requests_from c.args.snapshot.now (g.V.Known.values c.args.values.now) c.args.part in
    let value : c.unwrap_or-value.result ≡ value_or 0 (g.V.Known.values c.args.values.now) (get_or nodes i 0) = c.unwrap_or-value.ensures ∙ ap (λ (o : Option ℕ). unwrap_or o 0) c.value.ensures in
    let added : map (λ (leg : Leg). (leg.head, c.unwrap_or-value.result + leg.length)) c.legs.result.now ≡ from (get_or nodes i 0) =
    ap₂ (λ value legs. map (λ (leg : Leg). (leg.head, value + leg.length)) legs) value c.legs.ensures.value in
    c.in_ok-push_requests.ensures.added
    ∙ (ap₂ (λ xs ys. xs ++ ys) c.loop-node.invariant added
    ∙ (flat_map_more from [] (take i nodes) (get_or nodes i 0)
    ∙ ap (λ ns. requests_of c.args.snapshot.now ns (g.V.Known.values c.args.values.now) c.args.part) (sym (take_more nodes i 0 lt))))

pub returns-then-count-eq0 : goal.returns-then-count-eq0
returns-then-count-eq0 g c =
    let none : requests_of c.args.snapshot.now c.args.nodes.now (g.V.Known.values c.args.values.now) c.args.part ≡ [] = c.count-count.ensures.none (omega arith) (g.V.Known.values c.args.values.now) in
    let empty : c.new.result.items ≡ [] = search rules in
    record { requests = empty ∙ sym none }
