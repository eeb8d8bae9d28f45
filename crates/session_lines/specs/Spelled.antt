-- The words of a session.
use Rattle.std.specs.Prelude.{ℕ, List, [], ◌∷◌, ◌++◌, map, Option}
use lib.Chars.{codes}
use Rattle.dimacs.specs.Spelling.{spelled_word, one_spelling as common_one, one_words as common_ones, two_spelling as common_two, two_words as common_twos}
use Rattle.session_lines.specs.declared.words.Bare.{Bare}
use Rattle.session_lines.specs.declared.words.Bare.TheVariants.{Wait, Quit, Begin, End, Landmarks, Closed, State, Suppose, Forget}
use Rattle.session_lines.specs.declared.words.One.{One}
use Rattle.session_lines.specs.declared.words.One.TheVariants.{Common as one_common, Arc, Until}
use Rattle.session_lines.specs.declared.words.Two.{Two}
use Rattle.session_lines.specs.declared.words.Two.TheVariants.{Common as two_common, Arcs, Reach, Reached, Nearest, Route}
use Rattle.session_lines.specs.declared.words.SessionWord.{SessionWord}
use Rattle.session_lines.specs.declared.words.SessionWord.TheVariants.{WithNone, WithOne, WithTwo, Lay}

-- words alone
abbrev pub bare_spelling : Bare → List ℕ
bare_spelling Wait = codes "wait"
bare_spelling Quit = codes "quit"
bare_spelling Begin = codes "begin"
bare_spelling End = codes "end"
bare_spelling Landmarks = codes "landmarks"
bare_spelling Closed = codes "closed"
bare_spelling State = codes "state"
bare_spelling Suppose = codes "suppose"
bare_spelling Forget = codes "forget"

abbrev pub bare_words : List Bare
bare_words = Wait ∷ Quit ∷ Begin ∷ End ∷ Landmarks ∷ Closed ∷ State ∷ Suppose ∷ Forget ∷ []

-- words with one number behind them: those of commands, and two more
abbrev pub one_session_spelling : One → List ℕ
one_session_spelling (one_common word) = common_one word
one_session_spelling Arc = codes "arc"
one_session_spelling Until = codes "until"

abbrev pub one_session_words : List One
one_session_words = map one_common common_ones ++ Arc ∷ Until ∷ []

-- words with two: those of commands and queries, and five more
abbrev pub two_session_spelling : Two → List ℕ
two_session_spelling (two_common word) = common_two word
two_session_spelling Arcs = codes "arcs"
two_session_spelling Reach = codes "reach"
two_session_spelling Reached = codes "reached"
two_session_spelling Nearest = codes "nearest"
two_session_spelling Route = codes "route"

abbrev pub two_session_words : List Two
two_session_words = map two_common common_twos ++ Arcs ∷ Reach ∷ Reached ∷ Nearest ∷ Route ∷ []

abbrev pub session_spelling : SessionWord → List ℕ
session_spelling (WithNone word) = bare_spelling word
session_spelling (WithOne word) = one_session_spelling word
session_spelling (WithTwo word) = two_session_spelling word
session_spelling Lay = codes "lay"

abbrev pub session_words : List SessionWord
session_words = map WithOne one_session_words ++ map WithTwo two_session_words ++ map WithNone bare_words ++ Lay ∷ []

-- the word that a field spells
abbrev pub session_word_from : List ℕ → Option SessionWord
session_word_from field = spelled_word session_spelling session_words field
