use Rattle.store.specs.State.{CameTidy}
use Rattle.program.proofs.serve_jobs.serve_disk.Given as goal

-- The desk of the store that was just opened. That the store came tidy is said of the disk that it was given.
abbrev pub ghosts-serve_store : goal.ghosts-serve_store
ghosts-serve_store g a = record { origin = a.history.origin; came_tidy = CameTidy g.D.Disk.honest g.D.Disk.content a.store.given }
