use Rattle.plays.proofs.desks.play_once.Given as goal

-- the desk of the store that was just opened; nothing is claimed of its disk
abbrev pub ghosts-call_desk : goal.ghosts-call_desk
ghosts-call_desk g a = record { origin = a.history.origin; came_tidy = ⊥ }
