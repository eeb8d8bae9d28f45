-- What a file stores is a network.
use Rattle.std.proofs.Common.{◌≡◌, ℕ, zero, suc, ◌+◌, ◌-◌, ◌*◌, ◌/◌, ◌<◌, ◌≤◌, List, [], ◌∷◌, ◌++◌, length, take, drop, sym, ap, subst, ◌∙◌, arith, map}
use Rattle.std.specs.List.{All, AllByRecursion}
use Rattle.std.proofs.lemmas.List.{drop-drop, drop_all, take-append-drop, length-take, length-drop}
use Rattle.std.proofs.lemmas.List.Elements.{All-from_recursion}
use Rattle.roadnet.specs.declared.arcs.RoadArc.{RoadArc}
use Rattle.roadnet.specs.Net.{IsArcAmong}
use Rattle.roadnet.proofs.Kept.{after_is_network}
use Rattle.pages.specs.Spelling.{IsEnds, IsWord, ends_of, word_of}
use Rattle.storefile.specs.StoreFile.{page, part, groups_of}
use Rattle.storefile.specs.Laws.{StoresNetworks, GivesNetworks}

all_append : {X : Type 0} (P : X → Type 0) (xs ys : List X) → AllByRecursion P xs → AllByRecursion P ys → AllByRecursion P (xs ++ ys)
all_append P [] ys hx hy = hy
all_append P (x ∷ xs) ys hx hy = (hx.0, all_append P xs ys hx.1 hy)

-- what holds of each item of each page holds of each item
all_parts : {X : Type 0} (P : X → Type 0) (places : ℕ) (xs : List X) (n i : ℕ)
    → ((j : ℕ) → i ≤ j → j < i + n → AllByRecursion P (part places j xs)) → length xs ≤ places * (i + n) → AllByRecursion P (drop (places * i) xs)
all_parts P places xs zero i each covers =
    let past : length xs ≤ places * i = let e : i + 0 ≡ i = omega arith in subst (λ (k : ℕ). length xs ≤ places * k) e covers in
    subst (AllByRecursion P) (sym (drop_all (places * i) xs past)) tt
all_parts P places xs (suc n) i each covers =
    let further = all_parts P places xs n (suc i) (λ j le lt. each j (omega arith) (omega arith)) (let e : i + suc n ≡ suc i + n = omega arith in subst (λ (k : ℕ). length xs ≤ places * k) e covers) in
    let next : drop (places * suc i) xs ≡ drop places (drop (places * i) xs) = ap (λ (k : ℕ). drop k xs) (let e : places * suc i ≡ places * i + places = omega arith in e) ∙ sym (drop-drop places (places * i) xs) in
    let whole : take places (drop (places * i) xs) ++ drop (places * suc i) xs ≡ drop (places * i) xs = ap (λ ys. take places (drop (places * i) xs) ++ ys) next ∙ take-append-drop places (drop (places * i) xs) in
    subst (AllByRecursion P) whole (all_append P (take places (drop (places * i) xs)) (drop (places * suc i) xs) (each i (omega arith) (omega arith)) further)

from_map : {X Y : Type 0} (f : X → Y) (P : Y → Type 0) (xs : List X) → AllByRecursion P (map f xs) → AllByRecursion (λ x. P (f x)) xs
from_map f P [] h = tt
from_map f P (x ∷ xs) h = (h.0, from_map f P xs h.1)

are_arcs : (nodes : ℕ) (arcs : List RoadArc) → AllByRecursion (λ arc. IsEnds nodes (ends_of arc)) arcs → AllByRecursion (λ arc. IsWord (word_of arc)) arcs → AllByRecursion (IsArcAmong nodes) arcs
are_arcs nodes [] he hw = tt
are_arcs nodes (arc ∷ arcs) he hw =
    (record { tail_from = he.0.tail_from; tail_to = he.0.tail_to; head_from = he.0.head_from; head_to = he.0.head_to; length_to = omega (arith, hw.0) }, are_arcs nodes arcs he.1 hw.1)

pub stores_networks : StoresNetworks
stores_networks size pages s is =
    let room : length s.network.arcs ≤ s.header.room = is.held.head_is.fits.arcs.1 in
    let first : AllByRecursion (λ arc. IsEnds s.header.nodes (ends_of arc)) (take s.header.arcs s.network.arcs) =
    all_parts (λ arc. IsEnds s.header.nodes (ends_of arc)) 511 (take s.header.arcs s.network.arcs) ((s.header.arcs + 510) / 511) 0
    (λ j le lt. from_map ends_of (IsEnds s.header.nodes) (part 511 j (take s.header.arcs s.network.arcs)) (is.arcs.each j (omega (arith, lt))).fits) (omega (arith, length-take s.header.arcs s.network.arcs)) in
    let laid : AllByRecursion (λ arc. IsEnds s.header.nodes (ends_of arc)) (drop s.header.arcs s.network.arcs) =
    all_parts (λ arc. IsEnds s.header.nodes (ends_of arc)) 511 (drop s.header.arcs s.network.arcs) ((s.header.room - s.header.arcs + 510) / 511) 0
    (λ j le lt. from_map ends_of (IsEnds s.header.nodes) (part 511 j (drop s.header.arcs s.network.arcs)) (is.held.ends j (omega (arith, lt))).fits) (omega (arith, room, length-drop s.header.arcs s.network.arcs)) in
    let ends : AllByRecursion (λ arc. IsEnds s.header.nodes (ends_of arc)) s.network.arcs =
    subst (AllByRecursion (λ arc. IsEnds s.header.nodes (ends_of arc))) (take-append-drop s.header.arcs s.network.arcs) (all_append (λ arc. IsEnds s.header.nodes (ends_of arc)) (take s.header.arcs s.network.arcs) (drop s.header.arcs s.network.arcs) first laid) in
    let words : AllByRecursion (λ arc. IsWord (word_of arc)) s.network.arcs =
    all_parts (λ arc. IsWord (word_of arc)) 1023 s.network.arcs ((s.header.room + 1022) / 1023) 0
    (λ j le lt. from_map word_of IsWord (part 1023 j s.network.arcs) (is.held.words j (omega (arith, lt))).fits) (omega (arith, room)) in
    record {
      some_node = omega (arith, is.arcs.nodes_are, is.header.fits.some_node);
      nodes_to = omega (arith, is.arcs.nodes_are, is.header.fits.nodes_to);
      arcs_to = omega (arith, is.arcs.room_is, room);
      room_to = omega (arith, is.arcs.room_is, is.header.fits.room_to);
      each_arc = subst (λ (n : ℕ). All (IsArcAmong n) s.network.arcs) (sym is.arcs.nodes_are) (All-from_recursion (IsArcAmong s.header.nodes) s.network.arcs (are_arcs s.header.nodes s.network.arcs ends words));
      each_landmark = subst (λ (n : ℕ). All (λ (x : ℕ). (1 ≤ x) × (x ≤ n)) s.network.landmarks) (sym is.arcs.nodes_are) (All-from_recursion (λ (x : ℕ). (1 ≤ x) × (x ≤ s.header.nodes)) s.network.landmarks is.held.head_is.fits.each);
      ascending = is.held.head_is.fits.ascending;
      landmarks_to = is.held.head_is.fits.numbers.count_to;
    }

pub stands_for_networks : GivesNetworks
stands_for_networks format file net v q a = (after_is_network a.0.network net (groups_of a.0) (stores_networks (length file) (page file) a.0 a.1.is) a.1.gives.network, omega (arith, a.1.gives.version_is, a.1.is.versions_to))
