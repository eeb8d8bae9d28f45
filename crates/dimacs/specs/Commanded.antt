-- What a command text says.
use Rattle.std.specs.Prelude.{ℕ, Bool, false, not, ◌&&◌, ◌||◌, ◌==◌, List, [], ◌∷◌, ◌++◌, fold, length, Option, None, Some, is_some, is_none, unwrap_or, if◌then◌else◌}
use Rattle.std.specs.Option.{option_map_or}
use Rattle.std.specs.Str.{bytes_eq}
use lib.Chars.{codes}
use Rattle.roadnet.specs.declared.commands.Command.{Command}
use Rattle.roadnet.specs.declared.commands.Command.TheVariants.{Set, Close, Reopen, Mark, Unmark, Lay}
use Rattle.dimacs.specs.Commands.{commands, command_code}
use Rattle.dimacs.specs.Content.{size_at}
use Rattle.dimacs.specs.declared.fault.Code.{Code}
use Rattle.dimacs.specs.declared.fault.Code.TheVariants.{BadLine, GroupSize, OpenGroup}
use Rattle.dimacs.specs.OpenGroups.{is_full_group}
use Rattle.dimacs.specs.Faults.{Row, has_first, is_empty, item_fields, or_else}
use Rattle.dimacs.specs.Texts.{TextKind}

-- the command of a word and the numbers behind it
abbrev pub command_from : List ℕ → Row → Option Command
command_from word numbers = if bytes_eq word (codes "set") then Some (Set (size_at numbers 0) (size_at numbers 1))
    else (if bytes_eq word (codes "close") then Some (Close (size_at numbers 0))
    else (if bytes_eq word (codes "reopen") then Some (Reopen (size_at numbers 0))
    else (if bytes_eq word (codes "mark") then Some (Mark (size_at numbers 0))
    else (if bytes_eq word (codes "unmark") then Some (Unmark (size_at numbers 0))
    else (if bytes_eq word (codes "lay") then Some (Lay (size_at numbers 0) (size_at numbers 1) (size_at numbers 2))
    else None)))))

-- the command of a line, if it has one
abbrev pub command_of : Row → Option Command
command_of [] = None
command_of (word ∷ numbers) = command_from word numbers

-- GROUPS: `begin` and `end` enclose commands; a command elsewhere is a group of its own

abbrev pub begins : Row → Bool
begins row = has_first (λ first. bytes_eq first (codes "begin")) row

abbrev pub ends : Row → Bool
ends row = has_first (λ first. bytes_eq first (codes "end")) row

-- what lines have said so far: the groups that are closed, and the commands of the one that is open
pub record Grouping : Type 0 where
  pub closed : List (List Command)
  pub opened : Option (List Command)

abbrev pub with_command : Grouping → Command → Grouping
with_command g command =
    option_map_or (λ commands. record g { opened = Some (commands ++ command ∷ []) }) g.opened (record g { closed = g.closed ++ (command ∷ []) ∷ [] })

-- one line more
abbrev pub next_grouping : Grouping → Row → Grouping
next_grouping g row =
    if begins row then record g { opened = Some [] } else
    if ends row then record { closed = g.closed ++ unwrap_or g.opened [] ∷ []; opened = None } else
    option_map_or (with_command g) (command_of row) g

abbrev pub no_grouping : Grouping
no_grouping = record { closed = []; opened = None }

abbrev pub grouping_of : List Row → Grouping
grouping_of rs = fold next_grouping no_grouping rs

-- the open group has no command, and as many as a group may have
abbrev pub has_no_command : Grouping → Bool
has_no_command g = option_map_or (λ commands. length commands == 0) g.opened false

abbrev pub is_full : Grouping → Bool
is_full g = is_full_group g.opened

-- The table of faults of a line, the lowest code first: `begin` within a group, `end` outside one, and either with a field more, are BadLine;
-- then the faults of a command; then GroupSize.
unfoldable pub group_code : List Row → Row → Option Code
group_code earlier row =
    if begins row then (if not (is_empty (item_fields row)) || is_some (grouping_of earlier).opened then Some BadLine else None) else
    if ends row then (if not (is_empty (item_fields row)) || is_none (grouping_of earlier).opened then Some BadLine else if has_no_command (grouping_of earlier) then Some GroupSize else None) else
    or_else (command_code commands earlier row) (if is_some (command_of row) && is_full (grouping_of earlier) then Some GroupSize else None)

-- a text that ends within a group has OpenGroup
abbrev pub group_text : TextKind (List (List Command))
group_text = record {
  judge = group_code;
  end = λ rs. if is_some (grouping_of rs).opened then Some OpenGroup else None;
  says = λ rs. (grouping_of rs).closed;
}
