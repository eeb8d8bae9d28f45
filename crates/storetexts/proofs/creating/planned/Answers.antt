use Rattle.std.proofs.Common.{inl, inr}
use Rattle.storetexts.proofs.Made.{marked_room, room_fits, no_room}
use Rattle.storetexts.proofs.creating.planned.Goals as goal

pub returns-in-Err-clause-refused : goal.returns-in-Err-clause-refused
returns-in-Err-clause-refused c = inl c.in-Err.ensures.refused

pub returns-in-Ok-with_given_room-clause-made : goal.returns-in-Ok-with_given_room-clause-made
returns-in-Ok-with_given_room-clause-made c = marked_room c.args.network c.in-Ok.marked c.args.landmarks.now c.args.room c.in-Ok.ensures.marked c.in-Ok-with_given_room.made c.in-Ok-with_given_room.ensures.ok

pub returns-in-Ok-with_given_room-clause-fits : goal.returns-in-Ok-with_given_room-clause-fits
returns-in-Ok-with_given_room-clause-fits c = room_fits c.args.network c.in-Ok.marked c.args.landmarks.now c.args.room c.in-Ok.ensures.marked c.in-Ok-with_given_room.ensures.fits

pub returns-in-Err-with_given_room-clause-refused : goal.returns-in-Err-with_given_room-clause-refused
returns-in-Err-with_given_room-clause-refused c =
    inr (c.in-Err-with_given_room.ensures.refused.0, c.in-Ok.ensures.few, no_room c.args.network c.in-Ok.marked c.args.landmarks.now c.args.room c.in-Ok.ensures.marked c.in-Err-with_given_room.ensures.refused.2)
