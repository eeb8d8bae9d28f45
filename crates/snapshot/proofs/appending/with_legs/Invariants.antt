use Rattle.std.proofs.Common.{◌≡◌, ◌≤◌, ◌*◌, length, take}
use Rattle.std.specs.List.{All, flat_map}
use Rattle.snapshot.specs.Appended.{AreLight, HasMore}
use Rattle.snapshot.proofs.Shared.{parts_in}
use Rattle.snapshot.proofs.appending.with_legs.Given as goal

abbrev pub invariant-loop-arc : goal.invariant-loop-arc
invariant-loop-arc l = record {
  count : length l.more ≡ length l.blocks;
  short : All (λ arc. arc.length ≤ l.delta) (take l.arc-index l.arcs);
  legs : AreLight l.delta (flat_map parts_in l.blocks) → HasMore (length l.blocks * 1024) (take l.arc-index l.arcs) l.delta (flat_map parts_in l.blocks) (flat_map parts_in l.more);
}
