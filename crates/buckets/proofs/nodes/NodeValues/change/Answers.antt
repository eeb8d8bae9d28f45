use Rattle.std.proofs.Common.{◌≡◌, ◌<◌, true, false, get_or, length, ap, ◌∙◌, arith}
use Rattle.std.specs.FinMap.{insert}
use Rattle.buckets.proofs.Tables.{IsTable-again, entries_of-again, queued_flag, queued_within}
use Rattle.buckets.proofs.nodes.NodeValues.change.Goals as goal

pub index_mut-requires : goal.index_mut-requires
index_mut-requires c =
    let flag : get_or c.self.inside.queued.items c.args.node false ≡ true = queued_flag c.self.inside.values.items c.self.inside.queued.items c.args.self.now c.args.node c.self.invariant.sized c.self.view_is c.requires in
    let lt : c.args.node < length c.self.inside.queued.items = queued_within c.self.inside.queued.items c.args.node flag in
    omega (arith, c.self.invariant.sized)

pub invariant_of-self : goal.invariant_of-self
invariant_of-self c =
    let flag : get_or c.self.inside.queued.items c.args.node false ≡ true = queued_flag c.self.inside.values.items c.self.inside.queued.items c.args.self.now c.args.node c.self.invariant.sized c.self.view_is c.requires in
    IsTable-again _ _ _ _ _ c.self.invariant (queued_within c.self.inside.queued.items c.args.node flag) flag

pub returns : goal.returns
returns c =
    let flag : get_or c.self.inside.queued.items c.args.node false ≡ true = queued_flag c.self.inside.values.items c.self.inside.queued.items c.args.self.now c.args.node c.self.invariant.sized c.self.view_is c.requires in
    entries_of-again c.self.inside.values.items c.self.inside.queued.items c.args.node c.args.value c.self.invariant.sized (queued_within c.self.inside.queued.items c.args.node flag) flag ∙ ap (λ m. insert m c.args.node c.args.value) c.self.view_is
