use denote.Param.Send.{sendable}
use Rattle.std.proofs.Crossing.{crosses}
use Rattle.desk.proofs.Sends.{shared_send, shared_sync}
use Rattle.desk.proofs.desks.start_both.Goals as goal

pub start_thread-requires-send-T : goal.start_thread-requires-send-T
start_thread-requires-send-T g c κs within = search (shared_send, shared_sync, sendable, crosses) depth 20

pub start_thread-requires-2-send-T : goal.start_thread-requires-2-send-T
start_thread-requires-2-send-T g c κs within = search (shared_send, shared_sync, sendable, crosses) depth 20
