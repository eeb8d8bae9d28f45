use Rattle.keeper.proofs.Lifted.{lift_accepted, lift_refused, lift_room}
use Rattle.keeper.proofs.Viewed.{viewed_accepted, on_err_machine}
use Rattle.keeper.proofs.keeper.keepers.Keeper.submit_into.Goals as goal

pub returns-clause-accepted : goal.returns-clause-accepted
returns-clause-accepted g c = rw (← c.self.view_is) (lift_accepted c.self.inside.shown.version _ c.self.inside.ledger.machine c.submit_into.new.self.machine c.args.group c.submit_into.result c.submit_into.ensures.accepted)

pub returns-clause-refused : goal.returns-clause-refused
returns-clause-refused g c = rw (← c.self.view_is) (lift_refused c.self.inside.shown.version _ c.self.inside.ledger.machine c.submit_into.new.self.machine c.args.group _ c.submit_into.result c.submit_into.ensures.refused)

pub returns-clause-room : goal.returns-clause-room
returns-clause-room g c room = rw (← c.self.view_is) (lift_room c.self.inside.shown.version _ c.self.inside.ledger.machine c.submit_into.new.self.machine c.args.group c.submit_into.result (c.submit_into.ensures.room room))

pub invariant_of-self : goal.invariant_of-self
invariant_of-self g c =
    viewed_accepted c.self.inside.shown.version _ c.self.inside.ledger.machine c.submit_into.new.self.machine c.self.inside.shown.network _ c.self.invariant c.args.group c.submit_into.result c.submit_into.ensures.accepted
    (on_err_machine c.submit_into.result _ _ c.submit_into.ensures.same)
