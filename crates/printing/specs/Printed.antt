-- The bytes of answer lines.
use Rattle.std.specs.Prelude.{ℕ, List, ◌++◌, decimal}
use lib.Chars.{codes}
use Rattle.roadnet.specs.Numbers.{number_of}
use Rattle.rows.specs.declared.queries.Query.{Query}
use Rattle.rows.specs.declared.queries.Reply.{Reply}
use Rattle.rows.specs.declared.queries.Reply.TheVariants.{Length, NoWalk, AtLeast, Refused}
use Rattle.rows.specs.Replies.{source_of, target_of}

-- `v V`
abbrev pub version_line : ℕ → List ℕ
version_line version = codes "v " ++ decimal version ++ codes "\n"

-- a letter and the two nodes of a query
abbrev pub with_nodes : List ℕ → Query → List ℕ
with_nodes letter query = letter ++ decimal (source_of query) ++ codes " " ++ decimal (target_of query)

-- `no CODE`
abbrev pub refusal_line : ℕ → List ℕ
refusal_line code = codes "no " ++ decimal code ++ codes "\n"

-- `d S T L`, `x S T`, `b S T L` or `no CODE`
abbrev pub answer_line : Query → Reply → List ℕ
answer_line query (Length d) = with_nodes (codes "d ") query ++ codes " " ++ decimal d ++ codes "\n"
answer_line query NoWalk = with_nodes (codes "x ") query ++ codes "\n"
answer_line query (AtLeast d) = with_nodes (codes "b ") query ++ codes " " ++ decimal d ++ codes "\n"
answer_line query (Refused refusal) = refusal_line (number_of refusal)

-- the lines of a query at a version
abbrev pub lines_of : ℕ → Query → Reply → List ℕ
lines_of version query reply = version_line version ++ answer_line query reply
