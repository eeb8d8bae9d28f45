-- What a slot's head and a journal page say, without where it lies in memory.
use Rattle.std.specs.Prelude.{ℕ, List}
use Rattle.roadnet.specs.declared.commands.Command.{Command}

-- the head of a slot: the checkpoint's epoch, the network's version, the sequence of the journal page that follows, how many arcs the
-- network has, and its landmarks
pub record Head : Type 0 where
  pub epoch : ℕ
  pub version : ℕ
  pub next_sequence : ℕ
  pub arcs : ℕ
  pub landmarks : List ℕ

-- a journal page: its sequence, the number of its first group, the groups
pub record Entry : Type 0 where
  pub sequence : ℕ
  pub first_number : ℕ
  pub groups : List (List Command)
