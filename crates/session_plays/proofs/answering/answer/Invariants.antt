use Rattle.session_plays.proofs.answering.answer.Given as goal

-- the desk of the store that was just opened; nothing is claimed of its disk
abbrev pub ghosts-session_over : goal.ghosts-session_over
ghosts-session_over g a = record { origin = a.history.origin; came_tidy = ⊥ }
