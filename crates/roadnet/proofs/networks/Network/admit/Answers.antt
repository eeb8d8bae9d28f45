use Rattle.std.proofs.Common.{◌≡◌, ◌∙◌, length, ap, sym, arith}
use Rattle.std.specs.Vec.{vec_len}
use Rattle.roadnet.specs.Net.{Net}
use Rattle.roadnet.proofs.networks.Network.admit.Goals as goal

pub returns-in-Set : goal.returns-in-Set
returns-in-Set c = rw c.in-Set.is (c.judge_set.ensures c.args.self.now c.in-Set.arc (sym c.is_open.ensures))

pub returns-in-Close : goal.returns-in-Close
returns-in-Close c = rw c.in-Close.is (c.judge_close.ensures c.args.self.now c.in-Close.arc (sym c.is_open-in-Close.ensures))

pub returns-in-Reopen : goal.returns-in-Reopen
returns-in-Reopen c = rw c.in-Reopen.is (c.judge_reopen.ensures c.args.self.now c.in-Reopen.arc (sym c.is_open-in-Reopen.ensures))

pub returns-in-Lay : goal.returns-in-Lay
returns-in-Lay c =
    let items : length c.args.self.now.arcs ≡ length c.self.inside.arcs.items = ap (λ (net : Net). length net.arcs) (sym c.self.view_is) in
    let count_is : length c.args.self.now.arcs ≡ vec_len c.self.inside.arcs = omega (arith, items) in
    let room_is : c.args.self.now.room ≡ c.self.inside.room = ap (λ (net : Net). net.room) (sym c.self.view_is) in
    rw c.in-Lay.is (c.judge_lay.ensures c.args.self.now c.in-Lay.tail c.in-Lay.head (sym c.has_nodes-there.ensures) (count_is ∙ sym c.len-count-in-Lay.ensures) (room_is ∙ sym c.from.ensures))
