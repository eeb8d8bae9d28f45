-- What ties the networks that a keeper has at hand to its machine.
use Rattle.std.specs.Prelude.{◌≡◌, ℕ, ◌-◌, List, take, drop, Option, Some, IfSome, option_map}
use Rattle.roadnet.specs.declared.groups.Group.{Group}
use Rattle.roadnet.specs.Net.{Net}
use Rattle.machine.specs.Machine.{Machine, IsState, batch, accepted_network, network_at}

-- the groups that the next flush takes
abbrev pub next_batch : Machine → List Group
next_batch m = take (batch m) (drop (m.durable - m.base_version) m.accepted)

-- The networks at hand, of the accepted groups, of the store, of the view and of the task, are those of the machine's versions.
pub record IsKept (m : Machine) (accepted durable shown : Net) (task : Option (ℕ × Net)) : Type 0 where
  pub state : IsState m
  pub accepted_is : accepted_network m ≡ Some accepted
  pub durable_is : network_at m m.durable ≡ Some durable
  pub shown_is : network_at m m.shown ≡ Some shown
  pub task_is : m.task ≡ option_map (λ t. t.0) task
  pub task_network : IfSome task (λ t. network_at m t.0 ≡ Some t.1)
