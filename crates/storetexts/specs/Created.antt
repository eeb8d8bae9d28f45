-- The network of one text with the landmarks of another, and the store made of it.
use Rattle.std.specs.Prelude.{◌≡◌, ◌⊎◌, ℕ, zero, suc, ◌<◌, ◌≤◌, List, length, Option, Result, Ok, ⊤}
use Rattle.roadnet.specs.declared.refusals.Refusal.{Refusal}
use Rattle.roadnet.specs.declared.refusals.Refusal.TheVariants.{OutOfMemory, Write, Device, NotEmpty, TooLarge, TooManyLandmarks}
use Rattle.roadnet.specs.Net.{Net, IsRoomFor, most_landmarks}
use Rattle.dimacs.specs.declared.fault.Fault.{Fault}
use Rattle.dimacs.specs.Content.{gr_text, content}
use Rattle.dimacs.specs.Landmarks.{ss_text}
use Rattle.dimacs.specs.Lines.{rows}
use Rattle.dimacs.specs.Texts.{Source, FaultOf, content_by}
use Rattle.disk.specs.Contents.{Only}
use Rattle.storefile.specs.StoreFile.{StandsTidyFor}
use Rattle.store.specs.Migrating.{room_of, roomed}
use Rattle.store.specs.Created.{IsNewFile}
use Rattle.store.specs.State.{checkpoint_pages_of}
use Rattle.printing.specs.declared.failed.Failed.{Failed}
use Rattle.printing.specs.declared.failed.Failed.TheVariants.{Text, Code}
use Rattle.querytexts.specs.Once.{AfterNetwork}

-- the landmarks of a text, ascending, or its fault; they are judged by the network
abbrev pub landmarks_of : Net → List ℕ → Result (List ℕ) Fault
landmarks_of net text = content_by (ss_text net.nodes) (rows text)

-- the network with these landmarks
abbrev pub with_landmarks : Net → List ℕ → Net
with_landmarks net landmarks = record net { landmarks = landmarks }

-- both texts have no fault, and give this network and these landmarks, at most 1,000
pub record GiveLandmarks (network landmarks : List ℕ) : Type 0 where
  pub net : Net
  pub network_is : content network ≡ Ok net
  pub marks : List ℕ
  pub marks_are : landmarks_of net landmarks ≡ Ok marks
  pub few : length marks ≤ most_landmarks

-- this is the network of the one text with the landmarks of the other, and with the room that is given, if one is
pub record IsNetworkOf (network landmarks : List ℕ) (room : Option ℕ) (made : Net) : Type 0 where
  pub given : GiveLandmarks network landmarks
  pub fits : IsRoomFor given.net (room_of given.net room)
  pub made_is : made ≡ roomed (with_landmarks given.net given.marks) room

-- the texts and the room give a network
abbrev pub GiveNetwork : List ℕ → List ℕ → Option ℕ → Type 0
GiveNetwork network landmarks room = (made : Net) × IsNetworkOf network landmarks room made

-- the room that is given is none for the network
abbrev pub HasNoSuchRoom : List ℕ → List ℕ → Option ℕ → Type 0
HasNoSuchRoom network landmarks room = (given : GiveLandmarks network landmarks) × ¬ IsRoomFor given.net (room_of given.net room)

-- the landmarks of a text are too many
abbrev pub HasTooMany : List ℕ → Net → Type 0
HasTooMany landmarks net = (marks : List ℕ) × (landmarks_of net landmarks ≡ Ok marks) × (most_landmarks < length marks)

-- The fault of the first text is told, or, where that has none, that of the second; or a reader failed in its text; or the landmarks are
-- too many; or the room is none. Where the texts have no fault and the landmarks are not too many, memory may have run out.
abbrev pub IsRefusedNetwork : List ℕ → List ℕ → Option ℕ → Source → Source → Failed → Type 0
IsRefusedNetwork network landmarks room network_source landmarks_source (Text zero fault) = FaultOf gr_text network network_source fault
IsRefusedNetwork network landmarks room network_source landmarks_source (Text (suc zero) fault) = AfterNetwork network (λ net. FaultOf (ss_text net.nodes) landmarks landmarks_source fault)
IsRefusedNetwork network landmarks room network_source landmarks_source (Code TooManyLandmarks) = AfterNetwork network (HasTooMany landmarks)
IsRefusedNetwork network landmarks room network_source landmarks_source (Code TooLarge) = HasNoSuchRoom network landmarks room
IsRefusedNetwork network landmarks room network_source landmarks_source (Code OutOfMemory) = GiveLandmarks network landmarks
IsRefusedNetwork network landmarks room network_source landmarks_source failed = ⊥

-- one of the two texts is refused, its landmarks are too many, the room is none, or memory ran out
abbrev pub IsOfNetwork : Failed → Type 0
IsOfNetwork (Text which fault) = which ≤ 1
IsOfNetwork (Code TooManyLandmarks) = ⊤
IsOfNetwork (Code TooLarge) = ⊤
IsOfNetwork (Code OutOfMemory) = ⊤
IsOfNetwork failed = ⊥

-- making the store is refused: the disk is not empty or fails, memory ran out, or the writer failed
abbrev pub IsOfMaking : Failed → Type 0
IsOfMaking (Code NotEmpty) = ⊤
IsOfMaking (Code Device) = ⊤
IsOfMaking (Code OutOfMemory) = ⊤
IsOfMaking (Code Write) = ⊤
IsOfMaking failed = ⊥

-- these landmarks cannot be marked: they are too many, or they are not, and memory ran out
abbrev pub IsRefusedMarking : List ℕ → Refusal → Type 0
IsRefusedMarking landmarks refusal = ((refusal ≡ TooManyLandmarks) × (most_landmarks < length landmarks)) ⊎ ((refusal ≡ OutOfMemory) × (length landmarks ≤ most_landmarks))

-- The texts and the room come first: the disk or the writer is told of only where they give a network; else they are refused.
abbrev pub IsRefusedCreate : List ℕ → List ℕ → Option ℕ → Source → Source → Failed → Type 0
IsRefusedCreate network landmarks room network_source landmarks_source (Code NotEmpty) = GiveNetwork network landmarks room
IsRefusedCreate network landmarks room network_source landmarks_source (Code Device) = GiveNetwork network landmarks room
IsRefusedCreate network landmarks room network_source landmarks_source (Code Write) = GiveNetwork network landmarks room
IsRefusedCreate network landmarks room network_source landmarks_source failed = IsRefusedNetwork network landmarks room network_source landmarks_source failed

-- No network is made of this one with these landmarks and this room: they cannot be marked, or they are not too many, and the room is none.
abbrev pub IsRefusedPlan : Net → List ℕ → Option ℕ → Refusal → Type 0
IsRefusedPlan net landmarks room refusal = IsRefusedMarking landmarks refusal ⊎ ((refusal ≡ TooLarge) × (length landmarks ≤ most_landmarks) × ¬ IsRoomFor net (room_of net room))

-- The content stands for the network at version 0, with so many journal pages and the slots of its room, is tidy, and is all that a stop may leave.
pub record IsNewStore (net : Net) (journal_pages : ℕ) (content : List ℕ) (left : List ℕ → Type 0) : Type 0 where
  pub stands : StandsTidyFor journal_pages (checkpoint_pages_of (length net.arcs) net) content net 0
  pub file : IsNewFile journal_pages net 0 content
  pub only : Only content left

-- the same for the network of two texts
pub record IsNewStoreOf (network landmarks : List ℕ) (room : Option ℕ) (journal_pages : ℕ) (content : List ℕ) (left : List ℕ → Type 0) : Type 0 where
  pub net : Net
  pub network_is : IsNetworkOf network landmarks room net
  pub made : IsNewStore net journal_pages content left
