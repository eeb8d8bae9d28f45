-- What the texts of a rehearsal, a network and a script, are answered with; and for what they are refused.
use Rattle.std.specs.Prelude.{◌≡◌, ◌⊎◌, ◌≤◌, ℕ, zero, suc, List, map, Option, None, Ok, ⊤}
use Rattle.roadnet.specs.Net.{Net, IsRoomFor}
use Rattle.roadnet.specs.declared.refusals.Refusal.TheVariants.{TooLarge, Write}
use Rattle.dimacs.specs.Faults.{Row}
use Rattle.dimacs.specs.Lines.{rows}
use Rattle.dimacs.specs.Content.{gr_text, content_of}
use Rattle.dimacs.specs.Texts.{Source, FaultOf, content_by}
use Rattle.disk.specs.declared.stoppable.Pick.{Pick}
use Rattle.store.specs.Migrating.{room_of, roomed}
use Rattle.store.specs.Opening.{IsPassing}
use Rattle.machine.specs.declared.events.Event.{Event}
use Rattle.scripts.specs.ScriptTexts.{as_line, script_text}
use Rattle.printing.specs.declared.failed.Failed.{Failed}
use Rattle.printing.specs.declared.failed.Failed.TheVariants.{Text, Code}
use Rattle.rehearsals.specs.Rehearsed.{Rehearses, IsBrokenOff}

-- lines of a network and lines of a script, which have no fault, and what holds of the network and the events that they give
pub record OfTexts (network script : List Row) (Holds : Net → List (Event Pick) → Type 0) : Type 0 where
  pub net : Net
  pub network_is : content_of network ≡ Ok net
  pub events : List (Event Pick)
  pub script_is : content_by script_text script ≡ Ok (map as_line events)
  pub holds : Holds net events

-- the lines of a network have no fault, and this is told of the script's
pub record ScriptAfterNetwork (network : List Row) (Told : Type 0) : Type 0 where
  pub net : Net
  pub network_is : content_of network ≡ Ok net
  pub told : Told

-- what is written are the replies to the script's events, run on a new store of the network with this room
abbrev pub IsRehearsed : ℕ → Option ℕ → List Row → List Row → Option (List ℕ) → Option (List ℕ) → Type 0
IsRehearsed journal_pages room network script old new = OfTexts network script (λ net events. Rehearses (roomed net room) journal_pages events None old new)

-- the run was broken off, for this
abbrev pub IsLeftOff : ℕ → Option ℕ → List Row → List Row → Option (List ℕ) → Option (List ℕ) → Failed → Type 0
IsLeftOff journal_pages room network script old new failed = OfTexts network script (λ net events. IsBrokenOff (roomed net room) journal_pages events old new failed)

-- the room that is given is none for the network; nothing is written
abbrev pub HasNoSuchRoomForScript : Option ℕ → List Row → List Row → Option (List ℕ) → Option (List ℕ) → Type 0
HasNoSuchRoomForScript room network script old new = OfTexts network script (λ net events. (¬ IsRoomFor net (room_of net room)) × (new ≡ old))

-- the fault of the network's text is told, or, where that has none, that of the script; or a reader failed in its text; or the room is refused; or
-- the run was broken off
abbrev pub IsRefusedRehearsal : ℕ → Option ℕ → List ℕ → List ℕ → Source → Source → Option (List ℕ) → Option (List ℕ) → Failed → Type 0
IsRefusedRehearsal journal_pages room network script network_source script_source old new (Text zero fault) = FaultOf gr_text network network_source fault
IsRefusedRehearsal journal_pages room network script network_source script_source old new (Text (suc zero) fault) = ScriptAfterNetwork (rows network) (FaultOf script_text script script_source fault)
IsRefusedRehearsal journal_pages room network script network_source script_source old new (Code TooLarge) = HasNoSuchRoomForScript room (rows network) (rows script) old new
IsRefusedRehearsal journal_pages room network script network_source script_source old new failed = IsLeftOff journal_pages room (rows network) (rows script) old new failed

-- a fault of one of the two texts, or 9, 12, 11 or 43: nothing else
abbrev pub IsOfRehearsal : Failed → Type 0
IsOfRehearsal (Text which fault) = which ≤ 1
IsOfRehearsal (Code refusal) = (refusal ≡ TooLarge) ⊎ ((refusal ≡ Write) ⊎ IsPassing refusal)

-- nothing is written of a text's fault
abbrev pub UnwrittenOfText : {W : Type 0} → W → W → Failed → Type 0
UnwrittenOfText old new (Text which fault) = new ≡ old
UnwrittenOfText old new (Code refusal) = ⊤
