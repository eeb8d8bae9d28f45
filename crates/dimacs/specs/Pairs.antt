-- What a `.p2p` text says.
use Rattle.std.specs.Prelude.{ℕ, List}
use Rattle.dimacs.specs.declared.lists.pairs.Pair.{Pair}
use Rattle.dimacs.specs.Format.{p2p}
use Rattle.dimacs.specs.Content.{size_at}
use Rattle.dimacs.specs.Faults.{Row}
use Rattle.dimacs.specs.Listed.{text_of_items}
use Rattle.dimacs.specs.Texts.{TextKind}

-- the pair that the numbers of an item line name
abbrev pub pair_from : Row → Pair
pair_from numbers = record { source = size_at numbers 0; target = size_at numbers 1 }

-- the pairs in the order of their lines
abbrev pub p2p_text : ℕ → TextKind (List Pair)
p2p_text n = text_of_items (p2p n) pair_from
