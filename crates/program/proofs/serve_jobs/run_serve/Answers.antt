use denote.Param.Send.{sendable}
use Rattle.program.proofs.Sends.{file_disk_send}
use Rattle.program.proofs.serve_jobs.run_serve.Goals as goal

pub serve_opened-requires-send-D : goal.serve_opened-requires-send-D
serve_opened-requires-send-D g c κs within = search (file_disk_send, sendable)
