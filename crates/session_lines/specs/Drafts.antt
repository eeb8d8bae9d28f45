-- What the lines of a group say, from its `begin` on.
use Rattle.std.specs.Prelude.{◌≡◌, ◌≤◌, ◌==◌, nat_le, List, [], ◌∷◌, ◌++◌, length, Option, None, Some, unwrap_or, if◌then◌else◌}
use Rattle.roadnet.specs.declared.commands.Command.{Command}
use Rattle.roadnet.specs.Groups.{most_of_group}
use Rattle.dimacs.specs.declared.fault.Code.{Code}
use Rattle.dimacs.specs.declared.fault.Code.TheVariants.{BadLine, GroupSize}
use Rattle.dimacs.specs.Faults.{or_else}
use Rattle.session_lines.specs.declared.drafts.Draft.{Draft}
use Rattle.session_lines.specs.declared.drafts.Draft.TheVariants.{Whole, Unkept, Faulty}
use Rattle.session_lines.specs.declared.drafts.NoGroup.{NoGroup}
use Rattle.session_lines.specs.declared.drafts.NoGroup.TheVariants.{Fault, NoMemory}
use Rattle.session_lines.specs.declared.lines.Line.{Line}
use Rattle.session_lines.specs.declared.lines.Line.TheVariants.{Ignored, Command as a_command, Refused}

-- the commands, at most 253, and the code of the first line that has a fault there
pub record Drafted : Type 0 where
  pub commands : List Command
  pub fault : Option Code

abbrev pub no_draft : Drafted
no_draft = record { commands = []; fault = None }

abbrev pub with_fault : Drafted → Code → Drafted
with_fault draft code = record draft { fault = Some (unwrap_or draft.fault code) }

-- one command more, for which there is no place behind 253
abbrev pub draft_with_command : Drafted → Command → Drafted
draft_with_command draft command = if nat_le most_of_group (length draft.commands) then with_fault draft GroupSize else record draft { commands = draft.commands ++ command ∷ [] }

-- one line more: it has a command, or asks for nothing, or has a fault within a group; and no other line belongs there
abbrev pub with_line : Drafted → Line → Drafted
with_line draft Ignored = draft
with_line draft (a_command command) = draft_with_command draft command
with_line draft (Refused code grouped) = with_fault draft grouped
with_line draft other = with_fault draft BadLine

-- the code of the first line that has a fault, or else that of a group without a command
abbrev pub draft_fault_of : Drafted → Option Code
draft_fault_of draft = or_else draft.fault (if length draft.commands == 0 then Some GroupSize else None)

-- it is kept so: the commands are there, or their number where no memory was given, or the fault alone
abbrev pub IsDraft : Drafted → Draft → Type 0
IsDraft draft (Whole commands) = (draft.fault ≡ None) × (draft.commands ≡ commands.items) × (length draft.commands ≤ most_of_group)
IsDraft draft (Unkept count) = (draft.fault ≡ None) × (length draft.commands ≡ count) × (1 ≤ count)
IsDraft draft (Faulty code) = draft.fault ≡ Some code

-- the lines have no fault and give this group
abbrev pub IsWhole : Drafted → List Command → Type 0
IsWhole draft group = (draft_fault_of draft ≡ None) × (group ≡ draft.commands)

-- why they give none: their fault, or, where they have none, want of memory
abbrev pub IsNoGroup : Drafted → NoGroup → Type 0
IsNoGroup draft (Fault code) = draft_fault_of draft ≡ Some code
IsNoGroup draft NoMemory = draft_fault_of draft ≡ None
