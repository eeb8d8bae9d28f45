-- The parts of blocks that snapshots share.
use Rattle.std.proofs.Common.{◌≡◌, ◌∙◌, ℕ, suc, ◌+◌, ◌-◌, ◌*◌, ◌/◌, ◌%◌, ◌<◌, ◌≤◌, Bool, true, false, List, [], ◌∷◌, ◌++◌, length, get_or, map, ap, sym, subst, arith, Contains, ⊎_elim, max}
use Rattle.std.specs.List.{flat_map, fold}
use Rattle.std.proofs.lemmas.Bool.{cases_lt, false≢true}
use Rattle.std.proofs.lemmas.List.{length_push, get_or-map, get_or_append_left, get_or-append_right, length-map, map_push}
use Rattle.roadnet.specs.declared.arcs.RoadArc.{RoadArc}
use Rattle.roadnet.specs.Ends.{KeepsEnds}
use Rattle.roadnet.specs.Net.{Net, IsNetwork}
use Rattle.snapshot.specs.declared.blocks.Block.{Block}
use Rattle.snapshot.specs.declared.legs.Leg.{Leg}
use Rattle.snapshot.specs.declared.legs.Part.{Part}
use Rattle.snapshot.specs.Blocks.{block_parts, starts_of, block_count, greatest_leg, arcs_of_block, AreBlockParts, AreBlocksOf, DiffersOnlyAt}
use Rattle.snapshot.specs.Groups.{Groups, part_place, parts_of, legs_in, greatest_length, IsSnapshotOf, IsGrouped}
use Rattle.snapshot.proofs.Blocked.{part-joined, greatest-joined, IsSnapshotOf-blocks}
use Rattle.snapshot.proofs.Built.{IsGrouped-snapshot}
use Rattle.snapshot.proofs.Grouped.{length-cut, legs-block, greatest-groups}
use Rattle.snapshot.proofs.Joined.{length-joined}
use Rattle.snapshot.proofs.Narrowing.{parts_agree}
use Rattle.snapshot.proofs.Unchanged.{tail_stays, legs-unchanged}

abbrev pub parts_in : Block → List (List Leg)
parts_in block = block_parts block.starts block.legs.items

abbrev pub greatest_of : Block → ℕ
greatest_of block = block.greatest

pub each_of : (block : Block) → length (parts_in block) ≡ 2048
each_of block = length-cut (starts_of block.starts) block.legs.items block.begin

pub most_of : (block : Block) → greatest_of block ≡ greatest_leg (parts_in block)
most_of block = block.most

-- the legs of a part of a node, found in its block
in_block : (blocks : List Block) (block : Block) (u : ℕ) → u / 1024 < length blocks → block ≡ get_or blocks (u / 1024) block → (part : Part) → get_or (parts_in block) (part_place part (u % 1024)) [] ≡ get_or (flat_map parts_in blocks) (part_place part u) []
in_block blocks block u h is part =
    let there : get_or (map parts_in blocks) (u / 1024) [] ≡ parts_in block = get_or-map parts_in blocks (u / 1024) block [] h ∙ ap parts_in (sym is) in
    sym (part-joined parts_in each_of blocks part u h ∙ ap (λ (parts : List (List Leg)). get_or parts (part_place part (u % 1024)) []) there)

pub part_in_block : (b : Bool) (blocks : List Block) (block : Block) (part : Part) (u : ℕ) → u / 1024 < length blocks → block ≡ get_or blocks (u / 1024) block → get_or (parts_of b (parts_in block)) (part_place part (u % 1024)) [] ≡ get_or (parts_of b (flat_map parts_in blocks)) (part_place part u) []
part_in_block b blocks block part u h is = parts_agree b (parts_in block) (flat_map parts_in blocks) (u % 1024) u (in_block blocks block u h is) part

last_block : (blocks : List Block) (next : Block) (block n : ℕ) → length blocks ≡ n → block < length (map parts_in (blocks ++ next ∷ [])) → length (map parts_in blocks) ≡ n → length (map parts_in blocks) ≤ block → block ≡ n
last_block blocks next block n size h long ge = omega (arith, length-map (blocks ++ next ∷ []) parts_in, length_push blocks next)

-- one block more
pub blocks_more : (arcs : List RoadArc) (delta : ℕ) (blocks : List Block) (next : Block) (n : ℕ) → length blocks ≡ n → AreBlocksOf arcs delta (map parts_in blocks) → AreBlockParts (arcs_of_block n arcs) delta (parts_in next) → AreBlocksOf arcs delta (map parts_in (blocks ++ next ∷ []))
blocks_more arcs delta blocks next n size each here block h part u within =
    let pushed : map parts_in (blocks ++ next ∷ []) ≡ map parts_in blocks ++ parts_in next ∷ [] = map_push parts_in blocks next in
    let long : length (map parts_in blocks) ≡ n = length-map blocks parts_in ∙ size in
    ⊎_elim
    (λ (lt : block < length (map parts_in blocks)).
    let at : get_or (map parts_in (blocks ++ next ∷ [])) block [] ≡ get_or (map parts_in blocks) block [] = ap (λ (l : List (List (List Leg))). get_or l block []) pushed ∙ get_or_append_left (map parts_in blocks) (parts_in next ∷ []) [] block lt in
    ap (λ (l : List (List Leg)). get_or l (part_place part u) []) at ∙ each block lt part u within)
    (λ (ge : length (map parts_in blocks) ≤ block).
    let same : block ≡ n = last_block blocks next block n size h long ge in
    let at : get_or (map parts_in (blocks ++ next ∷ [])) block [] ≡ parts_in next = ap (λ (l : List (List (List Leg))). get_or l block []) pushed ∙ (get_or-append_right (map parts_in blocks) (parts_in next ∷ []) n block [] long (omega arith) ∙ (let zero' : block - n ≡ 0 = omega arith in ap (λ k. get_or (parts_in next ∷ []) k []) zero')) in
    ap (λ (l : List (List Leg)). get_or l (part_place part u) []) at ∙ (here part u within ∙ ap (λ k. legs_in (arcs_of_block k arcs) delta part u) (sym same)))
    (cases_lt block (length (map parts_in blocks)))

-- an older block that no changed arc touches is that of the newer network
module _ (old new : Net) (numbers : List ℕ) (keeps : KeepsEnds old new) (only : DiffersOnlyAt numbers old new) (delta : ℕ) (blocks : List Block) (was : (part : Part) (u : ℕ) → get_or (flat_map parts_in blocks) (part_place part u) [] ≡ legs_in old.arcs delta part u) (touched : List Bool) (marks : (place : ℕ) (d : RoadArc) → place < length new.arcs → Contains numbers (place + 1) → get_or touched ((get_or new.arcs place d).tail / 1024) true ≡ true) where
  pub still_groups : (block : ℕ) → block < length blocks → get_or touched block true ≡ false → AreBlockParts (arcs_of_block block new.arcs) delta (get_or (map parts_in blocks) block [])
  still_groups block h untouched part u within =
      let at : (block * 1024 + u) / 1024 ≡ block = omega arith in
      let rest : (block * 1024 + u) % 1024 ≡ u = omega arith in
      let read : get_or (flat_map parts_in blocks) (part_place part (block * 1024 + u)) [] ≡ get_or (get_or (map parts_in blocks) block []) (part_place part u) [] = rw (at, rest) at (part-joined parts_in each_of blocks part (block * 1024 + u) (omega arith)) in
      let stays : legs_in old.arcs delta part (block * 1024 + u) ≡ legs_in new.arcs delta part (block * 1024 + u) = legs-unchanged old new numbers keeps only delta part (block * 1024 + u) (λ place d lt among own.
      let same : (get_or new.arcs place d).tail / 1024 ≡ block = ap (λ n. n / 1024) own ∙ at in
      let e : suc place ≡ place + 1 = omega arith in
      let marked : get_or touched block true ≡ true = rw same at (marks place d lt (subst (Contains numbers) e among)) in
      false≢true (sym untouched ∙ marked)) in
      sym read ∙ (was part (block * 1024 + u) ∙ (stays ∙ sym (legs-block new.arcs delta part block u within)))

-- the greatest length in an older network is that of the blocks of its arcs
module _ (old new : Net) (ok : IsNetwork new) (keeps : KeepsEnds old new) (delta : ℕ) (blocks : List Block) (count : length blocks ≡ block_count new.nodes) (was : (part : Part) (u : ℕ) → get_or (flat_map parts_in blocks) (part_place part u) [] ≡ legs_in old.arcs delta part u) where
  tails_within : (k : ℕ) (d : RoadArc) → k < length old.arcs → (get_or old.arcs k d).tail < length blocks * 1024
  tails_within k d h =
      let (within, same) = tail_stays old new keeps k d h in
      let among = ok.each_arc k d within in
      omega (arith, same, among.tail_to, count)

  pub greatest_of_older : fold max 0 (map greatest_of blocks) ≡ greatest_length old.arcs
  greatest_of_older =
      greatest-joined parts_in each_of greatest_of most_of blocks
      ∙ greatest-groups old.arcs delta (length blocks * 1024) (flat_map parts_in blocks) (omega (arith, length-joined parts_in 2048 each_of blocks)) tails_within (λ part u within. was part u)

-- the blocks of all of a network's arcs are its snapshot
module _ (net : Net) (ok : IsNetwork net) (delta : ℕ) (blocks : List Block) (nodes greatest : ℕ) (same : nodes ≡ net.nodes) (count : length blocks ≡ block_count net.nodes) (of : AreBlocksOf net.arcs delta (map parts_in blocks)) (is : greatest ≡ fold max 0 (map greatest_of blocks)) where
  abbrev made : Groups
  made = record { nodes = nodes; delta = delta; greatest = greatest; parts = flat_map parts_in blocks }

  pub IsSnapshotOf-made : IsSnapshotOf net made
  IsSnapshotOf-made = rw is (IsSnapshotOf-blocks parts_in each_of greatest_of most_of net ok delta blocks count of nodes same)

  pub IsGrouped-made : 1 ≤ delta → IsGrouped made
  IsGrouped-made some = IsGrouped-snapshot net ok made some IsSnapshotOf-made
