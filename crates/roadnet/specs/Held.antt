-- The commands of a group, as it holds them.
use Rattle.std.specs.Prelude.{List, [], ◌∷◌}
use Rattle.roadnet.specs.declared.commands.Command.{Command}
use Rattle.roadnet.specs.declared.groups.HeldCommands.{HeldCommands}
use Rattle.roadnet.specs.declared.groups.HeldCommands.TheVariants.{One, Many}

abbrev pub held_in : HeldCommands → List Command
held_in (One command) = command ∷ []
held_in (Many commands) = commands.items
