use Rattle.std.proofs.Common.{◌∙◌, ap, sym, subst, arith}
use Rattle.std.proofs.lemmas.Result.{err_from_is_err_and}
use Rattle.roadnet.specs.Net.{Net, IsRoomFor}
use Rattle.checkpoint.proofs.Flawless.{for_memory, as_parts}
use Rattle.checkpoint.proofs.slots.network_of.Goals as goal

pub with_room-requires : goal.with_room-requires
with_room-requires c =
    subst (λ (net : Net). IsRoomFor net c.args.header.now.room)
    (sym (as_parts c.args.header.now c.args.arcs.items c.args.head.now c.in_ok-network.network c.landmarks.result.now c.requires.head c.landmarks.ensures c.in_ok-network.ensures.network))
    (omega (arith, c.requires.count, c.requires.head.arcs.1), c.requires.header.room_to)

pub returns-clause-network : goal.returns-clause-network
returns-clause-network c =
    c.with_room.ensures ∙ ap (λ (net : Net). record net { room = c.args.header.now.room })
    (as_parts c.args.header.now c.args.arcs.items c.args.head.now c.in_ok-network.network c.landmarks.result.now c.requires.head c.landmarks.ensures c.in_ok-network.ensures.network)

pub returns-in_err-network-clause-refused : goal.returns-in_err-network-clause-refused
returns-in_err-network-clause-refused c =
    let p = err_from_is_err_and c.from_residual.result c.from_residual.ensures.1 in
    rw (p.1, p.2) (for_memory c.args.header.now c.args.arcs.items c.args.head.now c.landmarks.result.now _ c.requires.header c.requires.head c.requires.count c.requires.ends c.requires.words c.landmarks.ensures c.in_err-network.ensures.refused)
