-- Tentative distances: one word for each node, which a search lowers step by step.
use Rattle.std.specs.Prelude.{◌≡◌, ◌≢◌, ℕ, ◌+◌, ◌-◌, ◌*◌, ◌<◌, ◌≤◌, true, List, ◌==◌, if◌then◌else◌, length, slice_index, slice_set, sum_by}
use Rattle.roadnet.specs.declared.arcs.RoadArc.{RoadArc}
use Rattle.roadnet.specs.Net.{Net, IsNode, longest_arc}
use Rattle.roadnet.specs.Walks.{Walk, length_of}
use Rattle.deltastep.specs.Words.{no_walk}

-- what stands for node t; the first is node 1
abbrev pub word_at : List ℕ → ℕ → ℕ
word_at words t = slice_index words (t - 1)

-- how many nodes have been reached
abbrev pub reached_count : List ℕ → ℕ
reached_count words = sum_by (λ word. if word == no_walk then 0 else 1) words

-- no reached node is farther than as many longest arcs as there are other reached nodes
pub record IsBounded (nodes : ℕ) (words : List ℕ) : Type 0 where
  pub size : length words ≡ nodes
  pub near : (k : ℕ) → k < length words → slice_index words k ≢ no_walk → slice_index words k + longest_arc ≤ longest_arc * reached_count words

-- the word of the source is 0, and that of each reached node is the length of a walk
pub record IsWalked (net : Net) (s : ℕ) (words : List ℕ) : Type 0 where
  pub source : word_at words s ≡ 0
  pub walked : (t : ℕ) → IsNode net t → word_at words t ≢ no_walk → (walk : List ℕ) × Walk net s t walk × (length_of net walk ≡ word_at words t)

-- by way of this arc its head is no nearer
abbrev pub IsArcSettled : List ℕ → RoadArc → Type 0
IsArcSettled words arc = arc.opened ≡ true → word_at words arc.tail ≢ no_walk → word_at words arc.head ≤ word_at words arc.tail + arc.length

-- the head's word is lowered to the way by this arc
pub record IsLowered (arc : RoadArc) (old new : List ℕ) : Type 0 where
  pub opened : arc.opened ≡ true
  pub reached : word_at old arc.tail ≢ no_walk
  pub nearer : word_at old arc.tail + arc.length < word_at old arc.head
  pub after : new ≡ slice_set old (arc.head - 1) (word_at old arc.tail + arc.length)
