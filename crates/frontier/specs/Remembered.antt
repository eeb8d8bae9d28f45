-- Nodes that are remembered, each once, in the order in which they were first added.
use Rattle.std.specs.Prelude.{◌≡◌, ℕ, ◌==◌, List, ◌∷◌, [], ◌++◌, if◌then◌else◌, fold}
use Rattle.std.specs.List.{IsDistinct}
use Rattle.roadnet.specs.Members.{is_member}
use Rattle.frontier.specs.Flags.{flag_at}

-- numbers below the limit can be remembered
pub record Memory : Type 0 where
  pub limit : ℕ
  pub nodes : List ℕ

-- the nodes with one more, if it is not among them
abbrev pub remember : List ℕ → ℕ → List ℕ
remember nodes node = if is_member node nodes then nodes else nodes ++ node ∷ []

abbrev pub remember_all : List ℕ → List ℕ → List ℕ
remember_all nodes more = fold remember nodes more

-- each flag says whether the number is among the nodes, and each node is there once
pub record AreFlags (pages : List (List ℕ)) (nodes : List ℕ) : Type 0 where
  pub flag : (u : ℕ) → flag_at pages u ≡ is_member u nodes
  pub once : IsDistinct (λ a b. a == b) nodes
