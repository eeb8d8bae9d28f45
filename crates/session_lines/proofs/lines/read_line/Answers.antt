use Rattle.session_lines.proofs.lines.read_line.Goals as goal

pub returns-in-WithNone : goal.returns-in-WithNone
returns-in-WithNone c row are = rw c.in-WithNone.is (c.read_bare.ensures row are)

pub returns-in-WithOne : goal.returns-in-WithOne
returns-in-WithOne c row are = rw c.in-WithOne.is (c.read_one.ensures row are)

pub returns-in-WithTwo : goal.returns-in-WithTwo
returns-in-WithTwo c row are = rw c.in-WithTwo.is (c.read_two.ensures row are)

pub returns-in-Lay : goal.returns-in-Lay
returns-in-Lay c row are = rw c.in-Lay.is (c.read_lay.ensures row are)
