-- What is told of a store that is only looked at, and for what that is refused.
use Rattle.std.specs.Prelude.{ℕ, List, ◌++◌, Option}
use lib.Chars.{codes}
use Rattle.std.specs.Io.KnownBytes.{Appends}
use Rattle.roadnet.specs.declared.refusals.Refusal.TheVariants.{Write}
use Rattle.roadnet.specs.Net.{Net}
use Rattle.pages.specs.declared.content.Slot.{Slot}
use Rattle.pages.specs.declared.content.Slot.TheVariants.{A, B}
use Rattle.printing.specs.Printed.{version_line}
use Rattle.printing.specs.Replied.{number_line}
use Rattle.printing.specs.declared.failed.Failed.{Failed}
use Rattle.printing.specs.declared.failed.Failed.TheVariants.{Text, Code}
use Rattle.store.specs.declared.stores.standing.Standing.{Standing}
use Rattle.store.specs.Inspecting.{HasStanding}
use Rattle.storetexts.specs.Asked.{IsStoreUnopened}

-- `slot A E` or `slot B E`
abbrev pub slot_line : Slot → ℕ → List ℕ
slot_line A epoch = number_line (codes "slot A ") epoch
slot_line B epoch = number_line (codes "slot B ") epoch

-- `v V`, the line of the slot, and `journal U`
abbrev pub standing_lines : ℕ → Standing → List ℕ
standing_lines version told = version_line version ++ slot_line told.slot told.epoch ++ number_line (codes "journal ") told.unchecked

-- What is written are the lines of a store, and nothing else. Where the disk keeps the disk model its file stands so.
pub record IsChecked (Honest : Type 0) (file : List ℕ) (old new : Option (List ℕ)) : Type 0 where
  pub version : ℕ
  pub told : Standing
  pub stands : Honest → (net : Net) × HasStanding file net version told
  pub written : Appends old new (standing_lines version told)

-- where the disk keeps the disk model its file stands for a store
abbrev pub IsSomeStore : Type 0 → List ℕ → Type 0
IsSomeStore Honest file = (version : ℕ) × (told : Standing) × (Honest → (net : Net) × HasStanding file net version told)

-- opening is refused, or the store was read and the writer failed
abbrev pub IsRefusedCheck : Type 0 → List ℕ → Failed → Type 0
IsRefusedCheck Honest file (Text which fault) = ⊥
IsRefusedCheck Honest file (Code Write) = IsSomeStore Honest file
IsRefusedCheck Honest file (Code refusal) = IsStoreUnopened Honest file refusal
