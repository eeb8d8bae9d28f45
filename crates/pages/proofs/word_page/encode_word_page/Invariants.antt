use Rattle.std.proofs.Common.{◌≡◌, take, map}
use Rattle.std.specs.List.{flat_map}
use Rattle.pages.specs.Spelling.{word_of, bytes_of_word}
use Rattle.pages.proofs.word_page.encode_word_page.Given as goal

abbrev pub invariant-loop-arc : goal.invariant-loop-arc
invariant-loop-arc l = l.page ≡ flat_map bytes_of_word (map word_of (take l.arc-index l.arcs))
