-- A store that is made again of the texts in which another is written out.
use Rattle.std.specs.Prelude.{◌≡◌, ℕ, List, Some, Ok}
use Rattle.roadnet.specs.declared.groups.Group.{Group}
use Rattle.roadnet.specs.Net.{Net, IsNetwork}
use Rattle.roadnet.specs.Step.{after}
use Rattle.printing.specs.Exports.{SaysExported}
use Rattle.printing.specs.declared.exports.Origin.{Origin}
use Rattle.printing.specs.declared.exports.Exported.TheVariants.{Network, Landmarks, Closings}
use Rattle.storetexts.specs.Applied.{groups_of_text}
use Rattle.storetexts.specs.Created.{IsNetworkOf}

-- of which store a text is written: one at this version, with so many journal pages
abbrev pub store_origin_of : ℕ → ℕ → Origin
store_origin_of version journal_pages = record { version = version; journal_pages = journal_pages }

-- The first two texts give a network with the room of this one; after the groups of the third, each of which is admitted in its turn, it is this one.
pub record Restores (net : Net) (network landmarks closings : List ℕ) : Type 0 where
  pub made : Net
  pub made_is : IsNetworkOf network landmarks (Some net.room) made
  pub groups : List Group
  pub groups_are : groups_of_text closings ≡ Ok groups
  pub restored : after made groups ≡ Some net

-- the texts in which a network is written out give it back
abbrev pub ExportRestores : Type 0
ExportRestores = (net : Net) (network landmarks closings : List ℕ) → IsNetwork net → SaysExported Network net network → SaysExported Landmarks net landmarks → SaysExported Closings net closings
    → Restores net network landmarks closings
