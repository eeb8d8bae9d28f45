-- The group that is open, if one is, as the list of its commands.
use Rattle.std.specs.Prelude.{◌≡◌, ◌⊎◌, Bool, true, false, List, [], length, nat_le, Option, None, Some}
use Rattle.std.specs.Option.{option_map_or}
use Rattle.roadnet.specs.declared.commands.Command.{Command}
use Rattle.roadnet.specs.Groups.{most_of_group}
use Rattle.dimacs.specs.declared.fault.Code.{Code}
use Rattle.dimacs.specs.declared.fault.Code.TheVariants.{BadLine, OutOfMemory, GroupSize}

-- it has as many commands as a group may have
abbrev pub is_full_group : Option (List Command) → Bool
is_full_group opened = option_map_or (λ commands. nat_le most_of_group (length commands)) opened false

-- why there is no group at its end: none is open, or it has no command
abbrev pub IsUnended : Option (List Command) → Code → Type 0
IsUnended None code = code ≡ BadLine
IsUnended (Some commands) code = (code ≡ GroupSize) × (commands ≡ [])

-- why a command is not added: the group has as many as it may have, or no memory was given
abbrev pub IsNotAdded : Option (List Command) → Code → Type 0
IsNotAdded opened code = ((code ≡ GroupSize) × (is_full_group opened ≡ true)) ⊎ ((code ≡ OutOfMemory) × (is_full_group opened ≡ false))
