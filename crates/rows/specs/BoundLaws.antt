-- Laws of bounds.
use Rattle.std.specs.Prelude.{◌≡◌, ℕ, ◌≤◌, List, Contains}
use Rattle.roadnet.specs.Net.{Net, IsNode}
use Rattle.roadnet.specs.Walks.{Walk, Least, NoWalk, length_of}
use Rattle.rows.specs.Bounds.{IsShown, IsBound}

-- A bound is at most the length of each walk.
abbrev pub BoundIsBelow : Type 0
BoundIsBelow = (net : Net) (s t bound : ℕ) (walk : List ℕ) → IsBound net s t bound → Walk net s t walk → bound ≤ length_of net walk

-- Where a landmark shows that there is no walk there is none.
abbrev pub ShownIsTrue : Type 0
ShownIsTrue = (net : Net) (s t : ℕ) → IsShown net s t → NoWalk net s t

-- There is one bound, and none where a landmark shows that there is no walk.
abbrev pub BoundIsOne : Type 0
BoundIsOne = (net : Net) (s t bound other : ℕ) → IsBound net s t bound → IsBound net s t other → bound ≡ other

abbrev pub BoundOrShown : Type 0
BoundOrShown = (net : Net) (s t bound : ℕ) → IsBound net s t bound → ¬ IsShown net s t

-- From a landmark the bound is the least distance, and where no walk leads from it that is shown.
abbrev pub BoundFromLandmark : Type 0
BoundFromLandmark =
    (net : Net) (s t bound distance : ℕ) → IsNode net s → Contains net.landmarks s → Least net s t distance → IsBound net s t bound
    → bound ≡ distance

abbrev pub ShownFromLandmark : Type 0
ShownFromLandmark = (net : Net) (s t : ℕ) → IsNode net s → Contains net.landmarks s → NoWalk net s t → IsShown net s t
