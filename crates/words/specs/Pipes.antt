-- Names of pipes, two for each client that may come.
use Rattle.std.specs.Prelude.{◌≡◌, ◌⊎◌, ◌-◌, ◌*◌, ◌%◌, ◌<◌, ◌≤◌, ℕ, Bool, true, List, [], ◌∷◌, ◌++◌, Some, map, slice_get, length, unwrap_or, nat_le, nat_lt, if◌then◌else◌}
use Rattle.std.specs.Borrow.{Bor}
use Rattle.words.specs.declared.pipes.PipePair.{PipePair}
use Rattle.words.specs.declared.pipes.Misfit.{Misfit}
use Rattle.words.specs.declared.pipes.Misfit.TheVariants.{LonePipe, TooManyPipes, SamePipe, OutOfMemory}

-- the words of a list of them
abbrev pub texts : List (Bor (List ℕ)) → List (List ℕ)
texts words = map (λ word. word.now) words

-- the names in their order: of each pair the one that is read, and then the one that is written
abbrev pub names_of : List PipePair → List (List ℕ)
names_of [] = []
names_of (pair ∷ pairs) = pair.input.now ∷ pair.output.now ∷ names_of pairs

-- the name at this place stands at an earlier one too
abbrev pub StandsBefore : List (List ℕ) → ℕ → Type 0
StandsBefore names later = (earlier : ℕ) × (earlier < later) × (slice_get names earlier ≡ slice_get names later)

-- this name stands at two places
abbrev pub StandsTwice : List (List ℕ) → List ℕ → Type 0
StandsTwice names name = (later : ℕ) × (slice_get names later ≡ Some name) × StandsBefore names later

-- no name does
abbrev pub AreDifferent : List (List ℕ) → Type 0
AreDifferent names = (later : ℕ) → later < length names → ¬ StandsBefore names later

-- pairs that may be served: sixty at most, and no pipe stands in them twice
abbrev pub ArePipesFit : List PipePair → Type 0
ArePipesFit pairs = (length pairs ≤ 60) × AreDifferent (names_of pairs)

-- sessions ask alone at the pairs behind so many names, and at no other
abbrev pub AskBehind : ℕ → List PipePair → Type 0
AskBehind changing pairs = (place : ℕ) (pair : PipePair) → slice_get pairs place ≡ Some pair → pair.asks_alone ≡ nat_le changing (2 * place)

-- the pairs have these names, first those of the pairs at which the network may be changed, and then those of the pairs at which sessions ask alone
abbrev pub ArePairs : List (List ℕ) → List (List ℕ) → List PipePair → Type 0
ArePairs changing asking pairs = (names_of pairs ≡ changing ++ asking) × AskBehind (length changing) pairs

-- names in twos are for this reason none of pairs that may be served; each of the reasons but want of memory is one of the names alone
abbrev pub AreUnfit : List (List ℕ) → Misfit → Type 0
AreUnfit names TooManyPipes = 120 < length names
AreUnfit names (SamePipe name) = StandsTwice names name.now
AreUnfit names OutOfMemory = 0 < length names
AreUnfit names other = ⊥

-- the names of pairs at which the network may be changed, and of those at which sessions ask alone, are for this reason none
abbrev pub AreMisfit : List (List ℕ) → List (List ℕ) → Misfit → Type 0
AreMisfit changing asking LonePipe = (length changing % 2 ≡ 1) ⊎ (length asking % 2 ≡ 1)
AreMisfit changing asking why = AreUnfit (changing ++ asking) why

-- the name of the pipe of this number, counted from 0 through the pairs, or that of the store
abbrev pub pipe_named : List ℕ → List PipePair → ℕ → List ℕ
pipe_named store pairs which = if nat_lt which 3 then store else unwrap_or (slice_get (names_of pairs) (which - 3)) store

-- each of the first so many names was told to be one of a pipe
abbrev pub AreTold : (List ℕ → Bool → Type 0) → List (List ℕ) → ℕ → Type 0
AreTold Tells names count = (place : ℕ) (name : List ℕ) → place < count → slice_get names place ≡ Some name → Tells name true
