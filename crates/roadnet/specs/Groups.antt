-- Groups of commands: a version of a network is a group, of which all commands are carried out or none.
use Rattle.std.specs.Prelude.{ℕ, ◌≤◌, List, length}
use Rattle.std.specs.List.{flat_map}
use Rattle.roadnet.specs.declared.commands.Command.{Command}

-- how many commands a group has at most
abbrev pub most_of_group : ℕ
most_of_group = 253

-- a group has 1 to 253 commands
abbrev pub IsGroup : List Command → Type 0
IsGroup group = (1 ≤ length group) × (length group ≤ most_of_group)

-- the commands of these groups, in order
abbrev pub commands_of : List (List Command) → List Command
commands_of groups = flat_map (λ group. group) groups

-- how many commands these groups have
abbrev pub count_of : List (List Command) → ℕ
count_of groups = length (commands_of groups)
