-- A store made of another one, in this format or the one before, and what is told of it.
use Rattle.std.specs.Prelude.{◌≡◌, ⊤, ℕ, List, [], length, Option, Result, Ok, Err}
use lib.Chars.{codes}
use Rattle.std.specs.Io.KnownBytes.{Appends}
use Rattle.roadnet.specs.declared.refusals.Refusal.TheVariants.{Write}
use Rattle.roadnet.specs.Net.{Net}
use Rattle.disk.specs.Contents.{Only}
use Rattle.pages.specs.declared.content.Format.{Format}
use Rattle.storefile.specs.StoreFile.{StandsIn, StandsTidyFor}
use Rattle.store.specs.Created.{IsNewFile}
use Rattle.store.specs.Migrating.{CountsCopyFailure, IsCopyIn, MayEndCopying, IsRefusedForNew as refused_for_new, IsRefusedForOld as refused_for_old}
use Rattle.store.specs.State.{checkpoint_pages_of}
use Rattle.printing.specs.declared.failed.Failed.{Failed}
use Rattle.printing.specs.declared.failed.Failed.TheVariants.{Text, Code}
use Rattle.printing.specs.Replied.{number_line}

-- the content stands, in this format, for a network at this version
abbrev pub HasVersionIn : Format → List ℕ → ℕ → Type 0
HasVersionIn format content version = (net : Net) × (next : ℕ) × StandsIn format content net version next

-- The new content stands for the network of the old one with the room that is given, at the same version, and with the journal pages that are given, or the
-- same; it is tidy, is that of a new store, and is all that a stop may leave.
pub record IsMoved (format : Format) (old : List ℕ) (room journal : Option ℕ) (content : List ℕ) (left : List ℕ → Type 0) : Type 0 where
  pub net : Net
  pub version : ℕ
  pub journal_pages : ℕ
  pub copied : IsCopyIn format old net version journal_pages room journal
  pub stands : StandsTidyFor journal_pages (checkpoint_pages_of (length net.arcs) net) content net version
  pub made : IsNewFile journal_pages net version content
  pub only : Only content left

-- `ok V` is written, and nothing else. Where the old disk keeps the disk model V is its version.
pub record TellsMoved (format : Format) (Honest : Type 0) (old : List ℕ) (before after : Option (List ℕ)) : Type 0 where
  pub version : ℕ
  pub of_old : Honest → HasVersionIn format old version
  pub written : Appends before after (number_line (codes "ok ") version)

-- No store is made, or the writer failed behind it; the new disk has this content: it is empty where the writer failed.
abbrev pub IsMoveRefusedForNew : List ℕ → Failed → Type 0
IsMoveRefusedForNew new (Text which fault) = ⊥
IsMoveRefusedForNew new (Code Write) = new ≡ []
IsMoveRefusedForNew new (Code refusal) = refused_for_new new refusal

-- The same of the old disk, which is of this format where the writer failed.
abbrev pub IsMoveRefusedForOld : Format → List ℕ → Option ℕ → Failed → Type 0
IsMoveRefusedForOld format old room (Text which fault) = ⊥
IsMoveRefusedForOld format old room (Code Write) = (version : ℕ) × HasVersionIn format old version
IsMoveRefusedForOld format old room (Code refusal) = refused_for_old format old room refusal

-- a failed write, or a refusal with which a copy may end, whatever the disks
abbrev pub IsOfMove : Failed → Type 0
IsOfMove (Text which fault) = ⊥
IsOfMove (Code Write) = ⊤
IsOfMove (Code refusal) = MayEndCopying refusal

-- where 43 is told one call of one of the two disks has failed, and else none
abbrev pub CountsMove : ℕ → ℕ → ℕ → ℕ → Result (Unit {0}) Failed → Type 0
CountsMove old old' new new' (Ok done) = (old' ≡ old) × (new' ≡ new)
CountsMove old old' new new' (Err (Text which fault)) = (old' ≡ old) × (new' ≡ new)
CountsMove old old' new new' (Err (Code refusal)) = CountsCopyFailure refusal old old' new new'
