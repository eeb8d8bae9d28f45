-- Words by their spelling.
use Rattle.std.specs.Prelude.{ℕ, List, [], ◌∷◌, Option}
use Rattle.std.specs.List.{find}
use Rattle.std.specs.Str.{bytes_eq}
use lib.Chars.{codes}
use Rattle.roadnet.specs.declared.commands.Command.{Command}
use Rattle.roadnet.specs.declared.commands.Command.TheVariants.{Close as close_arc, Reopen as reopen_arc, Mark as mark_node, Unmark as unmark_node}
use Rattle.dimacs.specs.declared.commands.words.OneNumber.{OneNumber}
use Rattle.dimacs.specs.declared.commands.words.OneNumber.TheVariants.{Close, Reopen, Mark, Unmark}
use Rattle.dimacs.specs.declared.commands.words.TwoNumbers.{TwoNumbers}
use Rattle.dimacs.specs.declared.commands.words.TwoNumbers.TheVariants.{Set, Dist, From, Lower}

-- the one of these words that a field spells
abbrev pub spelled_word : {W : Type 0} → (W → List ℕ) → List W → List ℕ → Option W
spelled_word spelling words field = find (λ word. bytes_eq field (spelling word)) words

-- words with one number behind them
abbrev pub one_spelling : OneNumber → List ℕ
one_spelling Close = codes "close"
one_spelling Reopen = codes "reopen"
one_spelling Mark = codes "mark"
one_spelling Unmark = codes "unmark"

abbrev pub one_words : List OneNumber
one_words = Close ∷ Reopen ∷ Mark ∷ Unmark ∷ []

-- the command of such a word and its number
abbrev pub one_command : OneNumber → ℕ → Command
one_command Close n = close_arc n
one_command Reopen n = reopen_arc n
one_command Mark n = mark_node n
one_command Unmark n = unmark_node n

-- words with two
abbrev pub two_spelling : TwoNumbers → List ℕ
two_spelling Set = codes "set"
two_spelling Dist = codes "dist"
two_spelling From = codes "from"
two_spelling Lower = codes "lower"

abbrev pub two_words : List TwoNumbers
two_words = Set ∷ Dist ∷ From ∷ Lower ∷ []
