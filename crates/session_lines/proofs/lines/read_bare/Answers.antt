use Rattle.std.proofs.Common.{◌∷◌, arith}
use Rattle.session_lines.specs.declared.words.SessionWord.TheVariants.{WithNone}
use Rattle.session_lines.specs.Spelled.{session_spelling}
use Rattle.session_lines.proofs.Worded.{bare_reads, bare_fault}
use Rattle.session_lines.proofs.lines.read_bare.Goals as goal

pub returns-in-Nothing : goal.returns-in-Nothing
returns-in-Nothing c row are = rw c.bare_line.ensures (bare_reads c.args.word row (rw c.in-Nothing.is at are))

pub returns-in-One : goal.returns-in-One
returns-in-One c row are = c.bad_line.ensures (session_spelling (WithNone c.args.word) ∷ row) (bare_fault c.args.word row c.args.numbers are (rw c.in-One.is (omega arith)))

pub returns-in-Two : goal.returns-in-Two
returns-in-Two c row are = c.bad_line-in-Two.ensures (session_spelling (WithNone c.args.word) ∷ row) (bare_fault c.args.word row c.args.numbers are (rw c.in-Two.is (omega arith)))

pub returns-in-Three : goal.returns-in-Three
returns-in-Three c row are = c.bad_line-in-Three.ensures (session_spelling (WithNone c.args.word) ∷ row) (bare_fault c.args.word row c.args.numbers are (rw c.in-Three.is (omega arith)))

pub returns-in-TooMany : goal.returns-in-TooMany
returns-in-TooMany c row are = c.bad_line-in-TooMany.ensures (session_spelling (WithNone c.args.word) ∷ row) (bare_fault c.args.word row c.args.numbers are (rw c.in-TooMany.is (omega arith)))
