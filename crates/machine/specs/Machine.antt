-- The state of the machine that a keeper of a store is: the accepted groups of commands, and counts. Nothing of it is a byte of the disk.
use Rattle.std.specs.Prelude.{◌≡◌, ℕ, suc, ◌+◌, ◌-◌, ◌≤◌, Bool, false, List, [], ◌∷◌, length, take, drop, Option, None, All, IfSome, IsSome, nat_le, if◌then◌else◌}
pub use Rattle.roadnet.specs.Versions.{most_versions}
use Rattle.roadnet.specs.declared.groups.Group.{Group}
use Rattle.roadnet.specs.Groups.{IsGroup, count_of}
use Rattle.roadnet.specs.Net.{Net, nth}
use Rattle.roadnet.specs.Step.{after}

-- the sizes of a store that the machine goes by
pub record Sizes : Type 0 where
  -- how many pages the journal has
  pub journal_pages : ℕ
  -- how many pages a checkpoint has to write before it can end
  pub checkpoint_pages : ℕ

-- a checkpoint that was begun and isn't done
pub record Checkpoint : Type 0 where
  -- the version that it holds
  pub version : ℕ
  -- how many of its pages are still to be written
  pub left : ℕ
  -- how many journal pages were flushed since it began
  pub flushed : ℕ

pub record Machine : Type 0 where
  pub sizes : Sizes
  -- the network that the run began with, and its version
  pub base : Net
  pub base_version : ℕ
  -- the groups accepted since, in order
  pub accepted : List Group
  -- the versions up to this one are durable
  pub durable : ℕ
  -- the version that answers are given from
  pub shown : ℕ
  -- the version that this life was opened at
  pub opened : ℕ
  -- the journal pages that no checkpoint has made needless
  pub unchecked : ℕ
  -- how many groups the flush had that failed
  pub in_flight : ℕ
  -- a write failed: nothing is written before the store is opened again
  pub broken : Bool
  -- the version of the task that is out
  pub task : Option ℕ
  -- the checkpoint that is going
  pub checkpoint : Option Checkpoint

-- how many commands may be pending, how many a life may accept, and how many a journal page may have; each of these is a count of
-- commands, not of groups
abbrev pub most_pending : ℕ
most_pending = 4096

abbrev pub most_of_life : ℕ
most_of_life = 16777216

abbrev pub most_of_page : ℕ
most_of_page = 253

-- how many of these groups stand in front and have no more commands than this together
abbrev pub fitting : ℕ → List Group → ℕ
fitting room [] = 0
fitting room (group ∷ groups) = if nat_le (length group) room then suc (fitting (room - length group) groups) else 0

-- the version after all accepted groups
abbrev pub latest : Machine → ℕ
latest m = m.base_version + length m.accepted

-- the accepted groups behind version v
abbrev pub groups_behind : Machine → ℕ → List Group
groups_behind m v = drop (v - m.base_version) m.accepted

-- how many commands are pending: those of the groups that are not durable
abbrev pub pending : Machine → ℕ
pending m = count_of (groups_behind m m.durable)

-- how many commands this life accepted
abbrev pub of_life : Machine → ℕ
of_life m = count_of (groups_behind m m.opened)

-- how many groups the next flush takes: the longest front of the pending ones that fits a page
abbrev pub batch : Machine → ℕ
batch m = fitting most_of_page (groups_behind m m.durable)

-- the accepted groups up to version v
abbrev pub groups_to : Machine → ℕ → List Group
groups_to m v = take (v - m.base_version) m.accepted

-- the network at version v
abbrev pub network_at : Machine → ℕ → Option Net
network_at m v = after m.base (groups_to m v)

-- the network after all accepted groups
abbrev pub accepted_network : Machine → Option Net
accepted_network m = after m.base m.accepted

-- the group of number k, which leads from version k - 1 to version k
abbrev pub group_at : Machine → ℕ → Option Group
group_at m k = nth m.accepted (k - m.base_version)

-- a store of this network and version, just opened
abbrev pub start : Sizes → Net → ℕ → ℕ → Machine
start sizes base version unchecked =
    record {
      sizes = sizes;
      base = base;
      base_version = version;
      accepted = [];
      durable = version;
      shown = version;
      opened = version;
      unchecked = unchecked;
      in_flight = 0;
      broken = false;
      task = None;
      checkpoint = None;
    }

-- what holds of each state that the machine comes to
pub record IsState (m : Machine) : Type 0 where
  pub base_opened : m.base_version ≤ m.opened
  pub opened_shown : m.opened ≤ m.shown
  pub shown_durable : m.shown ≤ m.durable
  pub durable_accepted : m.durable + m.in_flight ≤ latest m
  pub calm : m.broken ≡ false → m.in_flight ≡ 0
  pub admitted : IsSome (accepted_network m)
  pub groups : All IsGroup m.accepted
  pub unchecked_to : m.unchecked ≤ m.sizes.journal_pages
  pub task_between : IfSome m.task (λ v. (m.shown ≤ v) × (v ≤ m.durable))
  pub checkpoint_durable : IfSome m.checkpoint (λ c. (c.version ≤ m.durable) × (c.flushed ≤ m.unchecked) × (c.left ≤ m.sizes.checkpoint_pages))
  pub versions_to : latest m ≤ most_versions
  pub pending_to : pending m ≤ most_pending
  pub life_to : of_life m ≤ most_of_life
