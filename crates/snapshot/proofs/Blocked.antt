-- The blocks of a network's arcs together.
use Rattle.std.proofs.Common.{◌≡◌, ◌∙◌, ℕ, ◌+◌, ◌*◌, ◌/◌, ◌%◌, ◌<◌, ◌≤◌, List, [], ◌∷◌, ◌++◌, length, get_or, map, max, refl, inr, ap, ap₂, sym, arith, ⊎_elim}
use Rattle.std.specs.List.{fold, flat_map}
use Rattle.std.proofs.lemmas.Bool.{cases_lt}
use Rattle.std.proofs.lemmas.List.{get_or_past, length-map, map-append}
use Rattle.std.proofs.lemmas.List.Concat.{flat_map-append}
use Rattle.std.proofs.lemmas.List.Sums.{fold-append}
use Rattle.roadnet.specs.Net.{Net, IsNetwork}
use Rattle.snapshot.specs.declared.legs.Leg.{Leg}
use Rattle.snapshot.specs.declared.legs.Part.{Part}
use Rattle.snapshot.specs.declared.legs.Part.TheVariants.{Light, Heavy}
use Rattle.snapshot.specs.Blocks.{block_count, greatest_leg, AreBlocksOf}
use Rattle.snapshot.specs.Groups.{Groups, legs_of, part_place, legs_in, greatest_length, IsSnapshotOf}
use Rattle.snapshot.proofs.Built.{legs_in-none}
use Rattle.snapshot.proofs.Grouped.{legs-block, greatest-groups}
use Rattle.snapshot.proofs.Joined.{length-joined, get_or-joined}

local_place : (part : Part) (u : ℕ) → part_place part u ≡ u / 1024 * 2048 + part_place part (u % 1024)
local_place Light u = omega arith
local_place Heavy u = omega arith

place_within : (part : Part) (u n : ℕ) → u < n → part_place part u < 2 * n
place_within Light u n h = omega arith
place_within Heavy u n h = omega arith

place_from : (part : Part) (u : ℕ) → 2 * u ≤ part_place part u
place_from Light u = omega arith
place_from Heavy u = omega arith

max_from : (g : ℕ) (xs : List ℕ) → fold max g xs ≡ max g (fold max 0 xs)
max_from g [] = omega arith
max_from g (x ∷ xs) = omega (arith, max_from (max g x) xs, max_from (max 0 x) xs)

module _ {X : Type 0} (parts : X → List (List Leg)) (each : (x : X) → length (parts x) ≡ 2048) where
  -- the part of a node, in its block
  pub part-joined : (blocks : List X) (part : Part) (u : ℕ) → u / 1024 < length blocks → get_or (flat_map parts blocks) (part_place part u) [] ≡ get_or (get_or (map parts blocks) (u / 1024) []) (part_place part (u % 1024)) []
  part-joined blocks part u h =
      let at : part_place part u ≡ u / 1024 * 2048 + part_place part (u % 1024) = local_place part u in
      rw at (get_or-joined parts 2048 each blocks (u / 1024) (part_place part (u % 1024)) [] h (place_within part (u % 1024) 1024 (omega arith)))

  part-past : (blocks : List X) (part : Part) (u : ℕ) → length blocks ≤ u / 1024 → get_or (flat_map parts blocks) (part_place part u) [] ≡ []
  part-past blocks part u h = get_or_past (flat_map parts blocks) (part_place part u) [] (omega (arith, length-joined parts 2048 each blocks, place_from part u))

  -- the greatest length of the legs of all blocks
  module _ (greatest : X → ℕ) (most : (x : X) → greatest x ≡ greatest_leg (parts x)) where
    pub greatest-joined : (blocks : List X) → fold max 0 (map greatest blocks) ≡ greatest_leg (flat_map parts blocks)
    greatest-joined [] = refl
    greatest-joined (x ∷ blocks) =
        let lengths : List (List Leg) → List ℕ = λ ps. map (λ (l : Leg). l.length) (flat_map (λ (p : List Leg). p) ps) in
        let both : map (λ (l : Leg). l.length) (flat_map (λ (p : List Leg). p) (parts x ++ flat_map parts blocks)) ≡ map (λ (l : Leg). l.length) (flat_map (λ (p : List Leg). p) (parts x)) ++ map (λ (l : Leg). l.length) (flat_map (λ (p : List Leg). p) (flat_map parts blocks)) = ap (map (λ (l : Leg). l.length)) (flat_map-append (λ (p : List Leg). p) (parts x) (flat_map parts blocks)) ∙ map-append (λ (l : Leg). l.length) (flat_map (λ (p : List Leg). p) (parts x)) (flat_map (λ (p : List Leg). p) (flat_map parts blocks)) in
        let split : greatest_leg (parts x ++ flat_map parts blocks) ≡ fold max (greatest_leg (parts x)) (map (λ (l : Leg). l.length) (flat_map (λ (p : List Leg). p) (flat_map parts blocks))) = ap (fold max 0) both ∙ fold-append max 0 (map (λ (l : Leg). l.length) (flat_map (λ (p : List Leg). p) (parts x))) (map (λ (l : Leg). l.length) (flat_map (λ (p : List Leg). p) (flat_map parts blocks))) in
        let cut : fold max (greatest_leg (parts x)) (map (λ (l : Leg). l.length) (flat_map (λ (p : List Leg). p) (flat_map parts blocks))) ≡ max (greatest_leg (parts x)) (greatest_leg (flat_map parts blocks)) = max_from (greatest_leg (parts x)) (map (λ (l : Leg). l.length) (flat_map (λ (p : List Leg). p) (flat_map parts blocks))) in
        let first : max 0 (greatest x) ≡ greatest_leg (parts x) = (let e = most x in omega (arith, e)) in
        max_from (max 0 (greatest x)) (map greatest blocks) ∙ (ap₂ max first (greatest-joined blocks) ∙ (sym cut ∙ sym split))

    module _ (net : Net) (ok : IsNetwork net) (delta : ℕ) (blocks : List X) (count : length blocks ≡ block_count net.nodes) (of : AreBlocksOf net.arcs delta (map parts blocks)) where
      part_of_node : (part : Part) (u : ℕ) → get_or (flat_map parts blocks) (part_place part u) [] ≡ legs_in net.arcs delta part u
      part_of_node part u =
          ⊎_elim
          (λ (lt : u / 1024 < length blocks).
          let at : u / 1024 * 1024 + u % 1024 ≡ u = omega arith in
          part-joined blocks part u lt ∙ (of (u / 1024) (omega (arith, length-map blocks parts)) part (u % 1024) (omega arith) ∙ (legs-block net.arcs delta part (u / 1024) (u % 1024) (omega arith) ∙ ap (legs_in net.arcs delta part) at)))
          (λ (ge : length blocks ≤ u / 1024). part-past blocks part u ge ∙ sym (legs_in-none net delta u part ok (inr (omega (arith, count)))))
          (cases_lt (u / 1024) (length blocks))

      greatest_of_all : fold max 0 (map greatest blocks) ≡ greatest_length net.arcs
      greatest_of_all =
          greatest-joined blocks
          ∙ greatest-groups net.arcs delta (length blocks * 1024) (flat_map parts blocks) (omega (arith, length-joined parts 2048 each blocks)) (λ k d h. let among = ok.each_arc k d h in omega (arith, among.tail_to, count)) (λ part u h. part_of_node part u)

      -- the snapshot of these blocks
      abbrev snapshot_of : ℕ → Groups
      snapshot_of nodes = record { nodes = nodes; delta = delta; greatest = fold max 0 (map greatest blocks); parts = flat_map parts blocks }

      pub IsSnapshotOf-blocks : (nodes : ℕ) → nodes ≡ net.nodes → IsSnapshotOf net (snapshot_of nodes)
      unfolding legs_of
      IsSnapshotOf-blocks nodes same = record {
        nodes = same;
        legs = part_of_node;
        greatest = greatest_of_all;
      }
