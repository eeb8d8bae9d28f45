-- The definitions at small networks, whose values were worked out by hand.
use Rattle.std.proofs.Common.{◌≡◌, ℕ, true, false, [], ◌∷◌, Some, None, refl}
use Rattle.roadnet.specs.declared.arcs.RoadArc.{RoadArc}
use Rattle.roadnet.specs.Net.{Net}
use Rattle.upgrades.specs.Upgrading.{parallels, counterpart, upgraded_arc, arcs_kept, arcs_alone, doubtful}

abbrev open_arc : ℕ → ℕ → ℕ → RoadArc
open_arc tail head length = record { tail = tail; head = head; length = length; opened = true }

abbrev closed_arc : ℕ → ℕ → ℕ → RoadArc
closed_arc tail head length = record { tail = tail; head = head; length = length; opened = false }

-- the map of which the store was made
abbrev old : Net
old = record { nodes = 6; arcs = open_arc 1 2 17 ∷ open_arc 1 2 9 ∷ open_arc 2 3 5 ∷ open_arc 3 4 7 ∷ open_arc 4 5 3 ∷ []; landmarks = []; room = 5 }

-- arc 3 was closed, arc 4 got another length, and three arcs were laid
abbrev stored : Net
stored = record {
  nodes = 6;
  arcs = open_arc 1 2 17 ∷ open_arc 1 2 9 ∷ closed_arc 2 3 5 ∷ open_arc 3 4 8 ∷ open_arc 4 5 3 ∷ open_arc 5 6 4 ∷ open_arc 6 1 2 ∷ open_arc 5 2 11 ∷ [];
  landmarks = 2 ∷ 6 ∷ [];
  room = 10;
}

-- node 6 is gone, a second arc leads from 4 to 5, and one from 5 to 1; the laid arc from 5 to 2 is there, 12 long
abbrev new : Net
new = record {
  nodes = 5;
  arcs = open_arc 2 3 6 ∷ open_arc 1 2 18 ∷ open_arc 3 4 10 ∷ open_arc 1 2 10 ∷ open_arc 4 5 3 ∷ open_arc 4 5 4 ∷ open_arc 5 1 1 ∷ open_arc 5 2 12 ∷ [];
  landmarks = [];
  room = 8;
}

two_parallels : parallels new.arcs 1 2 ≡ 2 ∷ 4 ∷ []
two_parallels = refl

first_of_two : counterpart stored.arcs new.arcs 2 ≡ Some 1
first_of_two = refl

second_of_two : counterpart stored.arcs new.arcs 4 ≡ Some 2
second_of_two = refl

in_doubt : counterpart stored.arcs new.arcs 6 ≡ None
in_doubt = refl

not_stored : counterpart stored.arcs new.arcs 7 ≡ None
not_stored = refl

-- the map's length, and closed as it was
closed_stays : upgraded_arc stored old new 1 (open_arc 2 3 6) ≡ closed_arc 2 3 6
closed_stays = refl

parallel_by_place : upgraded_arc stored old new 4 (open_arc 1 2 10) ≡ open_arc 1 2 10
parallel_by_place = refl

changed_length_stays : upgraded_arc stored old new 3 (open_arc 3 4 10) ≡ open_arc 3 4 8
changed_length_stays = refl

laid_length_stays : upgraded_arc stored old new 8 (open_arc 5 2 12) ≡ open_arc 5 2 11
laid_length_stays = refl

doubtful_as_in_map : upgraded_arc stored old new 6 (open_arc 4 5 4) ≡ open_arc 4 5 4
doubtful_as_in_map = refl

five_kept : arcs_kept stored.arcs new.arcs ≡ 5
five_kept = refl

one_added : arcs_alone new.arcs stored.arcs ≡ 1
one_added = refl

two_gone : arcs_alone stored.arcs new.arcs ≡ 2
two_gone = refl

two_doubtful : doubtful stored.arcs new.arcs ≡ 2
two_doubtful = refl
