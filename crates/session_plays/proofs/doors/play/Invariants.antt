use Rattle.session_plays.proofs.doors.play.Given as goal

-- the desk of the store that was just opened; nothing is claimed of its disk
abbrev pub ghosts-serve_doors : goal.ghosts-serve_doors
ghosts-serve_doors g a = record { origin = a.history.origin; came_tidy = ⊥ }
