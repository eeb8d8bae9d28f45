use Rattle.std.proofs.Common.{◌≡◌, ◌∙◌, ◌+◌, ◌<◌, ◌≤◌, false, List, length, get_or, map, ap, sym, subst, arith, Result, Ok, Err, IfOk}
use Rattle.std.specs.List.{All}
use Rattle.std.proofs.lemmas.List.{length-map}
use Rattle.std.proofs.lemmas.List.Elements.{All-map}
use Rattle.roadnet.specs.declared.arcs.RoadArc.{RoadArc}
use Rattle.snapshot.specs.Blocks.{AreBlockParts, arcs_of_block, block_parts, within_block}
use Rattle.snapshot.proofs.Indexed.{places-below, length-places, arcs_at_places}
use Rattle.snapshot.proofs.regrouping.regrouped.Goals as goal

if_ok : {T E : Type 0} {P Q : T → Type 0} (r : Result T E) → ((x : T) → P x → Q x) → IfOk r P → IfOk r Q
if_ok (Ok x) f h = f x h
if_ok (Err e) f h = tt

abbrev no_arc : RoadArc
no_arc = record { tail = 0; head = 0; length = 0; opened = false }

pub find_arcs-requires : goal.find_arcs-requires
find_arcs-requires g c = let (block, is) = c.requires.places in subst (All (λ k. k < length (g.R.Roads.network c.args.roads.now).arcs)) (sym is) (places-below block 0 (length (g.R.Roads.network c.args.roads.now).arcs) (g.R.Roads.network c.args.roads.now).arcs (omega arith))

pub group-requires-clause-few : goal.group-requires-clause-few
group-requires-clause-few g c =
    let (block, is) = c.requires.places in
    let long : length c.find_arcs.new.found.items ≡ length c.args.places.now = ap length (c.in_ok-find_arcs.ensures no_arc) ∙ length-map c.args.places.now (λ place. within_block (get_or (g.R.Roads.network c.args.roads.now).arcs place no_arc)) in
    omega (arith, long, ap length is, length-places block 0 (g.R.Roads.network c.args.roads.now).arcs, ap length c.deref.ensures.value, c.requires.few)

pub group-requires-clause-tails : goal.group-requires-clause-tails
group-requires-clause-tails g c =
    rw (c.deref.ensures.value, c.in_ok-find_arcs.ensures no_arc)
    (All-map (λ (a : RoadArc). a.tail ≤ 1023) (λ place. within_block (get_or (g.R.Roads.network c.args.roads.now).arcs place no_arc)) c.args.places.now (λ k d h. omega arith))

pub returns : goal.returns
returns g c =
    if_ok c.group.result (λ block parts at is.
    let found : c.deref.result.now ≡ arcs_of_block at (g.R.Roads.network c.args.roads.now).arcs = c.deref.ensures.value ∙ (c.in_ok-find_arcs.ensures no_arc ∙ (ap (map (λ place. within_block (get_or (g.R.Roads.network c.args.roads.now).arcs place no_arc))) is ∙ arcs_at_places (g.R.Roads.network c.args.roads.now).arcs at 0 (g.R.Roads.network c.args.roads.now).arcs no_arc (λ k h.
    let e : 0 + k ≡ k = omega arith in
    ap (λ n. get_or (g.R.Roads.network c.args.roads.now).arcs n no_arc) e))) in
    subst (λ (arcs : List RoadArc). AreBlockParts arcs c.args.delta (block_parts block.starts block.legs.items)) found parts) c.group.ensures
