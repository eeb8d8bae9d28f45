-- The records of groups, one after the other, and the groups of records.
use Rattle.std.specs.Prelude.{ℕ, suc, Bool, true, false, not, ◌&&◌, List, [], ◌∷◌, if◌then◌else◌}
use Rattle.std.specs.List.{flat_map}
use Rattle.roadnet.specs.declared.commands.Command.{Command}
use Rattle.roadnet.specs.declared.commands.Command.TheVariants.{Set, Close, Reopen, Mark, Unmark, Lay}
use Rattle.pages.specs.declared.content.Format.{Format}
use Rattle.pages.specs.declared.content.Format.TheVariants.{One, Two}
use Rattle.pages.specs.declared.content.Record.{Record}

abbrev pub has_more : {X : Type 0} → List X → Bool
has_more [] = false
has_more (x ∷ xs) = true

-- the records of a group: each but the last says that the group goes on
abbrev pub records_of : List Command → List Record
records_of [] = []
records_of (command ∷ commands) = record { command = command; goes_on = has_more commands } ∷ records_of commands

-- the records of these groups
abbrev pub records_in : List (List Command) → List Record
records_in groups = flat_map records_of groups

-- the groups with a command before those of the first one
abbrev pub in_first : Command → List (List Command) → List (List Command)
in_first command [] = (command ∷ []) ∷ []
in_first command (group ∷ groups) = (command ∷ group) ∷ groups

-- the groups of records
abbrev pub grouped : List Record → List (List Command)
grouped [] = []
grouped (r ∷ rs) = if r.goes_on then in_first r.command (grouped rs) else (r.command ∷ []) ∷ grouped rs

-- the last group ends with the last record
abbrev pub are_whole : List Record → Bool
are_whole [] = true
are_whole (r ∷ []) = not r.goes_on
are_whole (r ∷ s ∷ rs) = are_whole (s ∷ rs)

-- how many records end a group
abbrev pub ends_in : List Record → ℕ
ends_in [] = 0
ends_in (r ∷ rs) = if r.goes_on then ends_in rs else suc (ends_in rs)

-- a command that format 1 does not have
abbrev pub is_lay : Command → Bool
is_lay (Set k w) = false
is_lay (Close k) = false
is_lay (Reopen k) = false
is_lay (Mark x) = false
is_lay (Unmark x) = false
is_lay (Lay t h w) = true

-- the format has such a record
abbrev pub is_of_format : Format → Record → Bool
is_of_format One r = not r.goes_on && not (is_lay r.command)
is_of_format Two r = true
