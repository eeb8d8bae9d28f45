-- A store brought to a new map, in a new file, and what is told of it.
use Rattle.std.specs.Prelude.{◌≡◌, ◌⊎◌, ℕ, ◌==◌, nat_lt, zero, suc, ◌++◌, List, Option, Ok, ⊤, if◌then◌else◌}
use lib.Chars.{codes}
use Rattle.std.specs.Io.KnownBytes.{Appends}
use Rattle.roadnet.specs.declared.refusals.Refusal.{Refusal}
use Rattle.roadnet.specs.declared.refusals.Refusal.TheVariants.{TooLarge}
use Rattle.roadnet.specs.Net.{Net, IsRoomFor}
use Rattle.dimacs.specs.Content.{gr_text, content}
use Rattle.dimacs.specs.Texts.{Source, FaultOf}
use Rattle.store.specs.Migrating.{room_of, roomed}
use Rattle.store.specs.State.{Told, HasTold}
use Rattle.printing.specs.Replied.{number_line}
use Rattle.printing.specs.declared.failed.Failed.{Failed}
use Rattle.printing.specs.declared.failed.Failed.TheVariants.{Text, Code}
use Rattle.querytexts.specs.Once.{AfterNetwork}
use Rattle.upgrades.specs.declared.counts.Counts.{Counts}
use Rattle.upgrades.specs.Upgrading.{IsUpgraded, AreUpgradeCounts, MayRefuseUpgrade}
use Rattle.storetexts.specs.Asked.{IsStoreUnopened}
use Rattle.storetexts.specs.Created.{IsNewStore, IsOfMaking}

-- both texts have no fault, and give these: the old map, and the new one with the room that is given, if one is
pub record AreMapsOf (before after : List ℕ) (room : Option ℕ) (old new : Net) : Type 0 where
  pub old_is : content before ≡ Ok old
  pub map : Net
  pub map_is : content after ≡ Ok map
  pub fits : IsRoomFor map (room_of map room)
  pub new_is : new ≡ roomed map room

-- The fault of the first text is told, or, where that has none, that of the second; or a reader failed in its text; or the room is none for the second's network.
abbrev pub AreRefusedMaps : List ℕ → List ℕ → Option ℕ → Source → Source → Failed → Type 0
AreRefusedMaps before after room before_source after_source (Text zero fault) = FaultOf gr_text before before_source fault
AreRefusedMaps before after room before_source after_source (Text (suc zero) fault) = AfterNetwork before (λ old. FaultOf gr_text after after_source fault)
AreRefusedMaps before after room before_source after_source (Code TooLarge) = AfterNetwork before (λ old. AfterNetwork after (λ map. ¬ IsRoomFor map (room_of map room)))
AreRefusedMaps before after room before_source after_source failed = ⊥

-- one of the two texts is refused, or the room is none
abbrev pub IsOfMaps : Failed → Type 0
IsOfMaps (Text which fault) = (which ≡ 0) ⊎ (which ≡ 1)
IsOfMaps (Code TooLarge) = ⊤
IsOfMaps failed = ⊥

-- the failure is a refusal of which this holds
abbrev pub IfCode : Failed → (Refusal → Type 0) → Type 0
IfCode (Text which fault) P = ⊥
IfCode (Code refusal) P = P refusal

-- `kept K`, `added A`, `gone G`, `doubtful D`
abbrev pub arc_lines : Counts → List ℕ
arc_lines counts = number_line (codes "kept ") counts.kept ++ number_line (codes "added ") counts.added ++ number_line (codes "gone ") counts.gone ++ number_line (codes "doubtful ") counts.doubtful

-- the same, and `landmarks gone L`, `ok 0`
abbrev pub upgrade_lines : Counts → List ℕ
upgrade_lines counts = arc_lines counts ++ number_line (codes "landmarks gone ") counts.landmarks_gone ++ number_line (codes "ok ") 0

-- the pages of a journal, brought within 1 and 65,536; those of a store are
abbrev pub fit_pages : ℕ → ℕ
fit_pages pages = if pages == 0 then 1 else if nat_lt 65536 pages then 65536 else pages

-- A store was opened, of a network and with a journal: where its disk keeps the disk model, its file stands for them. These are that network, made of the old map, brought to
-- the new one, the counts, and the pages of the journal.
pub record IsUpgradeBy (Honest : Type 0) (file : List ℕ) (old new made : Net) (counts : Counts) (journal_pages : ℕ) : Type 0 where
  pub stored : Told
  pub stands : Honest → HasTold file stored
  pub made_is : IsUpgraded stored.network old new made
  pub counts_are : AreUpgradeCounts stored.network new counts
  pub pages_are : Honest → journal_pages ≡ stored.journal_pages

-- opening is refused; or a store was opened, and its network could not be brought to the new map
abbrev pub MayRefuseStored : Type 0 → List ℕ → Net → Refusal → Type 0
MayRefuseStored Honest file old refusal = IsStoreUnopened Honest file refusal ⊎ ((stored : Told) × (Honest → HasTold file stored) × MayRefuseUpgrade stored.network old refusal)

-- the same of the maps of two texts, with the room that is given, if one is
pub record IsUpgradeOf (Honest : Type 0) (file before after : List ℕ) (room : Option ℕ) (made : Net) (counts : Counts) (journal_pages : ℕ) : Type 0 where
  pub old : Net
  pub new : Net
  pub maps : AreMapsOf before after room old new
  pub upgrade : IsUpgradeBy Honest file old new made counts journal_pages

-- The content stands for that network at version 0, with as many journal pages, is tidy, and is all that a stop may leave.
pub record IsUpgradedStore (Honest : Type 0) (file before after : List ℕ) (room : Option ℕ) (content : List ℕ) (left : List ℕ → Type 0) : Type 0 where
  pub made : Net
  pub counts : Counts
  pub journal_pages : ℕ
  pub upgrade : IsUpgradeOf Honest file before after room made counts journal_pages
  pub store : IsNewStore made journal_pages content left

-- the lines of the counts of such an upgrade are written, and nothing else
pub record TellsUpgrade (Honest : Type 0) (file before after : List ℕ) (room : Option ℕ) (old new : Option (List ℕ)) : Type 0 where
  pub made : Net
  pub counts : Counts
  pub journal_pages : ℕ
  pub upgrade : IsUpgradeOf Honest file before after room made counts journal_pages
  pub written : Appends old new (upgrade_lines counts)

-- The texts come first, then the room, then the stored disk, and then the new one: each is told of only where those before give what they are to give.
abbrev pub IsRefusedUpgrade : Type 0 → List ℕ → List ℕ → List ℕ → Option ℕ → Source → Source → Failed → Type 0
IsRefusedUpgrade Honest file before after room before_source after_source failed =
    AreRefusedMaps before after room before_source after_source failed
    ⊎ (((old : Net) × (new : Net) × AreMapsOf before after room old new × IfCode failed (MayRefuseStored Honest file old))
    ⊎ ((made : Net) × (counts : Counts) × (journal_pages : ℕ) × IsUpgradeOf Honest file before after room made counts journal_pages × IsOfMaking failed))
