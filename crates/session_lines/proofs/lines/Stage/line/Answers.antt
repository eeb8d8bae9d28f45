use Rattle.dimacs.specs.Lines.{fields}
use Rattle.session_lines.proofs.Staged.{blank_line, remark_line, unknown_line, word_alone, unknown_alone, whole_line}
use Rattle.session_lines.proofs.Naming.{unnamed_line, naming_line, named_line}
use Rattle.session_lines.proofs.lines.Stage.line.Goals as goal

pub returns-in-Blank : goal.returns-in-Blank
returns-in-Blank c front is = blank_line front (rw c.in-Blank.is at is)

pub returns-in-Remark : goal.returns-in-Remark
returns-in-Remark c front is = remark_line front (rw c.in-Remark.is at is)

pub returns-in-Unknown : goal.returns-in-Unknown
returns-in-Unknown c front is = c.bad_line.ensures (fields front) (unknown_line front (rw c.in-Unknown.is at is))

pub returns-in-Some : goal.returns-in-Some
returns-in-Some c front is = word_alone front c.in-Beginning.letters c.in-Some.word _ c.in-Some.ensures c.read_line.ensures (rw c.in-Beginning.is at is)

pub returns-in-None : goal.returns-in-None
returns-in-None c front is = c.bad_line-in-None.ensures (fields front) (unknown_alone front c.in-Beginning.letters c.in-None.ensures (rw c.in-Beginning.is at is))

pub returns-in-Behind : goal.returns-in-Behind
returns-in-Behind c front is =
    whole_line front c.in-Behind.word c.in-Behind.numbers _ c.in-Behind.field _ c.ended.ensures c.read_line-in-Behind.ensures (rw c.in-Behind.is at is)

pub returns-in-Unnamed : goal.returns-in-Unnamed
returns-in-Unnamed c front is = c.bad_line-in-Unnamed.ensures (fields front) (unnamed_line front (rw c.in-Unnamed.is at is))

pub returns-in-Naming : goal.returns-in-Naming
returns-in-Naming c front is = naming_line front c.in-Naming.name (rw c.in-Naming.is at is)

pub returns-in-Named : goal.returns-in-Named
returns-in-Named c front is = named_line front c.in-Named.name (rw c.in-Named.is at is)

pub returns-in-Listing : goal.returns-in-Listing
returns-in-Listing c front is = c.listed_line.ensures front (rw c.in-Listing.is at is)
