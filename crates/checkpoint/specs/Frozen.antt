-- A network as it was at an earlier moment, told by little: the ends of an arc never change, so the words and the landmarks of that moment
-- tell the rest.
use Rattle.std.specs.Prelude.{ℕ, ◌%◌, ◌^◌, nat_lt, List, map, zip}
use Rattle.roadnet.specs.declared.arcs.RoadArc.{RoadArc}
use Rattle.roadnet.specs.Net.{Net}
use Rattle.pages.specs.Spelling.{number_of, word_of}
use Rattle.checkpoint.specs.declared.frozen.Frozen.{Frozen}

-- the arcs' words as numbers
abbrev pub numbers_of : List RoadArc → List ℕ
numbers_of arcs = map (λ arc. number_of (word_of arc)) arcs

-- an arc with the length and the flag of this number
abbrev pub with_number : RoadArc → ℕ → RoadArc
with_number arc number = record arc { length = number % 2 ^ 31; opened = nat_lt number (2 ^ 31) }

-- the first arcs, as many as there are numbers, each with its own
abbrev pub with_numbers : List RoadArc → List ℕ → List RoadArc
with_numbers arcs numbers = map (λ p. with_number p.0 p.1) (zip arcs numbers)

-- what is frozen of a network, over the network as it is now
abbrev pub frozen_net : Frozen → Net → Net
frozen_net frozen net = record net { arcs = with_numbers net.arcs frozen.numbers.items; landmarks = frozen.landmarks.items }
