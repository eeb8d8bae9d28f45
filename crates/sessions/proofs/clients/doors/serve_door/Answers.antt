use denote.Param.Send.{sendable}
use Rattle.desk.proofs.Sends.{handle_send}
use Rattle.sessions.proofs.clients.doors.serve_door.Goals as goal

pub let_go-requires-send-T : goal.let_go-requires-send-T
let_go-requires-send-T g c κs within = search (handle_send, sendable)
