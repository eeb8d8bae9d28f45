-- Copies of a network that is served, as stores in files of a folder.
use Rattle.std.specs.Prelude.{ℕ, true, List, Option, length, is_some, ⊤}
use Rattle.roadnet.specs.Net.{Net}
use Rattle.disk.specs.Contents.{Only}
use Rattle.storefile.specs.StoreFile.{StandsTidyFor}
use Rattle.store.specs.State.{checkpoint_pages_of}
use Rattle.session_lines.specs.Copying.{Copying}
use Rattle.filedisk.specs.declared.opened.OpenError.{OpenError}
use Rattle.filedisk.specs.declared.opened.OpenError.TheVariants.{NameNotSynced, OutOfMemory}
use Rattle.roadnet.specs.declared.refusals.Refusal.{Refusal}
use Rattle.roadnet.specs.declared.refusals.Refusal.TheVariants.{Device, Read, OutOfMemory as out_of_memory}

-- The content stands for the network at this version, with so many journal pages and the slots of its room, is tidy, and is all that a stop may leave.
pub record IsCopyOf (net : Net) (version journal_pages : ℕ) (content : List ℕ) (left : List ℕ → Type 0) : Type 0 where
  pub stands : StandsTidyFor journal_pages (checkpoint_pages_of (length net.arcs) net) content net version
  pub only : Only content left

-- why there is no file for a copy: its name cannot be made durable, memory ran out, or else it cannot be opened or made
abbrev pub copy_refusal_of : OpenError → Refusal
copy_refusal_of (NameNotSynced cause) = Device
copy_refusal_of OutOfMemory = out_of_memory
copy_refusal_of error = Read

-- Commands are carried out, and copies are made where there is a folder for them. Of the file that a name has there nothing can be said.
abbrev pub copies_in : {F : Type 0} → Option F → Copying
copies_in folder = record { changes = true; allowed = is_some folder; made = λ name network version. ⊤ }
