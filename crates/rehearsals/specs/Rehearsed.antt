-- A run of events on a new store, and what is written of it.
use Rattle.std.specs.Prelude.{◌≡◌, ◌⊎◌, ℕ, List, length, Option, Some, ⊤}
use Rattle.std.specs.Io.KnownBytes.{Appends}
use Rattle.roadnet.specs.Net.{Net}
use Rattle.roadnet.specs.declared.groups.Group.{Group}
use Rattle.roadnet.specs.declared.refusals.Refusal.{Refusal}
use Rattle.roadnet.specs.declared.refusals.Refusal.TheVariants.{OutOfMemory, Device, Write}
use Rattle.disk.specs.declared.stoppable.Pick.{Pick}
use Rattle.machine.specs.declared.events.Event.{Event}
use Rattle.machine.specs.declared.events.Replied.{Replied}
use Rattle.machine.specs.Machine.{Sizes, Machine, start}
use Rattle.machine.specs.Lives.{Lives}
use Rattle.store.specs.State.{checkpoint_pages_of}
use Rattle.printing.specs.Replied.{printed_replies}
use Rattle.printing.specs.declared.failed.Failed.{Failed}
use Rattle.printing.specs.declared.failed.Failed.TheVariants.{Code}

-- the sizes of a new store of this network: a checkpoint writes the pages of its room
abbrev pub new_store_sizes : Net → ℕ → Sizes
new_store_sizes net journal_pages = record { journal_pages = journal_pages; checkpoint_pages = checkpoint_pages_of (length net.arcs) net }

-- The events may be replied to so over lives with stops, of which the first begins with a new store of this network. Where the run ends
-- early, it ends for this refusal.
pub record RepliesTo (net : Net) (journal_pages : ℕ) (events : List (Event Pick)) (replies : List Replied) (ended : Option Refusal) : Type 0 where
  pub history : List Group
  pub last : Machine
  pub lives : Lives (start (new_store_sizes net journal_pages) net 0 0) events replies ended history last

-- what is written are the lines of the replies to such a run, and nothing else
pub record Rehearses (net : Net) (journal_pages : ℕ) (events : List (Event Pick)) (ended : Option Refusal) (old new : Option (List ℕ)) : Type 0 where
  pub replies : List Replied
  pub run : RepliesTo net journal_pages events replies ended
  pub written : Appends old new (printed_replies replies)

-- The writer failed; or memory ran out, in making the store or in the run, of which the replies so far are written; or the disk failed, in
-- making the store, and then nothing is written, or in opening what a stop left, and then the replies so far are.
abbrev pub IsBrokenOff : Net → ℕ → List (Event Pick) → Option (List ℕ) → Option (List ℕ) → Failed → Type 0
IsBrokenOff net journal_pages events old new (Code Write) = ⊤
IsBrokenOff net journal_pages events old new (Code OutOfMemory) = Rehearses net journal_pages events (Some OutOfMemory) old new
IsBrokenOff net journal_pages events old new (Code Device) = (new ≡ old) ⊎ Rehearses net journal_pages events (Some Device) old new
IsBrokenOff net journal_pages events old new failed = ⊥
