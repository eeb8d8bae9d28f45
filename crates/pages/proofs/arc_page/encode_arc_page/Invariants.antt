use Rattle.std.proofs.Common.{◌≡◌, take, map}
use Rattle.std.specs.List.{flat_map}
use Rattle.pages.specs.Spelling.{ends_of, ends_bytes}
use Rattle.pages.proofs.arc_page.encode_arc_page.Given as goal

abbrev pub invariant-loop-arc : goal.invariant-loop-arc
invariant-loop-arc l = l.page ≡ flat_map ends_bytes (map ends_of (take l.arc-index l.arcs))
