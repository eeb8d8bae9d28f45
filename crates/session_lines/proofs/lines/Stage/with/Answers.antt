use Rattle.session_lines.proofs.lines.Stage.with.Goals as goal

pub returns-in-Naming : goal.returns-in-Naming
returns-in-Naming c front is = c.with_name.ensures front (rw c.in-Naming.is at is)
