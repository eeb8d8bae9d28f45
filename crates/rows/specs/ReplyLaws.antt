-- Laws of right replies.
use Rattle.std.specs.Prelude.{◌≡◌, ℕ, ◌≤◌}
use Rattle.roadnet.specs.Net.{Net}
use Rattle.rows.specs.declared.queries.Query.{Query}
use Rattle.rows.specs.declared.queries.Query.TheVariants.{Dist, Lower}
use Rattle.rows.specs.declared.queries.Reply.{Reply}
use Rattle.rows.specs.declared.queries.Reply.TheVariants.{Length, NoWalk, AtLeast}
use Rattle.rows.specs.Replies.{IsRight}

-- A query has one right reply. So whatever a cache keeps changes none.
abbrev pub RightIsOne : Type 0
RightIsOne = (net : Net) (query : Query) (first second : Reply) → IsRight net query first → IsRight net query second → first ≡ second

-- A bound is at most the distance.
abbrev pub BoundUnderDistance : Type 0
BoundUnderDistance =
    (net : Net) (s t bound distance : ℕ) → IsRight net (Lower s t) (AtLeast bound) → IsRight net (Dist s t) (Length distance) → bound ≤ distance

-- Where landmarks show that there is no walk there is none.
abbrev pub ShownHasNoWalk : Type 0
ShownHasNoWalk = (net : Net) (s t : ℕ) → IsRight net (Lower s t) NoWalk → IsRight net (Dist s t) NoWalk
