-- How a desk stands at one moment.
use Rattle.std.specs.Prelude.{◌≡◌, ◌-◌, Bool, length, if◌then◌else◌, Some}
use Rattle.roadnet.specs.Net.{Net}
use Rattle.history.specs.Origins.{Origin}
use Rattle.machine.specs.Machine.{Machine, latest, most_of_life, network_at, of_life, pending}
use Rattle.office.specs.Offices.{RunsFrom}
use Rattle.desk.specs.declared.handles.states.DeskState.{DeskState}
use Rattle.desk.specs.declared.handles.states.Working.{Working}
use Rattle.desk.specs.declared.handles.states.Working.TheVariants.{On, Ended, Broken}

-- whether a thread goes on or has ended
abbrev pub working_of : Bool → Working
working_of ended = if ended then Ended else On

-- of the flusher also whether a write has failed
abbrev pub flusher_of : Machine → Bool → Working
flusher_of m ended = if m.broken then Broken else working_of ended

-- all numbers are those of this state of the machine, whose shown version has this network
pub record IsStateOf (m : Machine) (network : Net) (flusher_ended builder_ended : Bool) (state : DeskState) : Type 0 where
  pub shown : state.shown ≡ m.shown
  pub durable : state.durable ≡ m.durable
  pub accepted : state.accepted ≡ latest m
  pub pending_is : state.pending ≡ pending m
  pub unchecked : state.unchecked ≡ m.unchecked
  pub pages : state.pages ≡ m.sizes.journal_pages
  pub landmarks : state.landmarks ≡ length network.landmarks
  pub left : state.left ≡ most_of_life - of_life m
  pub flusher : state.flusher ≡ flusher_of m flusher_ended
  pub builder : state.builder ≡ working_of builder_ended
  pub arcs : state.arcs ≡ length network.arcs
  pub room : state.room ≡ network.room

-- all numbers are those of this state of the machine
abbrev pub StateStandsIn : Machine → Bool → Bool → DeskState → Type 0
StateStandsIn m flusher_ended builder_ended state = (network : Net) × (network_at m m.shown ≡ Some network) × IsStateOf m network flusher_ended builder_ended state

-- the desk stood so in some state of its machine
pub record StoodSo (origin : Origin) (state : DeskState) : Type 0 where
  pub m : Machine
  pub network : Net
  pub flusher_ended : Bool
  pub builder_ended : Bool
  pub runs : RunsFrom origin m
  pub network_is : network_at m m.shown ≡ Some network
  pub is_state : IsStateOf m network flusher_ended builder_ended state
