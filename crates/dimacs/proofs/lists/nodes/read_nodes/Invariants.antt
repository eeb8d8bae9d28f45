use Rattle.dimacs.proofs.lists.nodes.read_nodes.Given as goal

abbrev pub ghosts-read_items : goal.ghosts-read_items
ghosts-read_items g a = record { nodes = a.nodes }
