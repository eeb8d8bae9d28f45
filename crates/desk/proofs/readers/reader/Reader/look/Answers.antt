use Rattle.history.proofs.Beginnings.{prefix_trans}
use Rattle.desk.proofs.Looks.{same_network}
use Rattle.desk.proofs.readers.reader.Reader.look.Goals as goal

pub look_at-requires : goal.look_at-requires
look_at-requires g c same =
    let was = c.self.inside.reader in
    let has = c.self.invariant.1 in
    let now = c.look.new.self.groups in
    same_network was.origin has.seen now c.self.inside.sight c.in_ok-view.view.value has.after_seen (record { network = c.in_ok-view.ensures.network; version = c.in_ok-view.ensures.version })
    (prefix_trans has.seen was.groups now has.begins c.look.ensures.begins) same
