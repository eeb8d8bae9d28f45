-- For each arc whether it is open: what commands make of these flags, and what takes that back.
use Rattle.std.specs.Prelude.{◌≡◌, ℕ, ◌-◌, Bool, true, false, List, [], ◌∷◌, ◌++◌, Option, None, length, map, take, unwrap_or}
use Rattle.roadnet.specs.declared.commands.Command.{Command}
use Rattle.roadnet.specs.declared.commands.Command.TheVariants.{Set, Close, Reopen, Mark, Unmark, Lay}
use Rattle.roadnet.specs.Net.{Net, update_nth}
use Rattle.roadnet.specs.Outlines.{Outlined}
use Rattle.roadnet.specs.Step.{first_refusal}

-- the flags with the command carried out
abbrev pub changed_flags : List Bool → Command → List Bool
changed_flags flags (Set k w) = flags
changed_flags flags (Close k) = update_nth (λ _. false) flags k
changed_flags flags (Reopen k) = update_nth (λ _. true) flags k
changed_flags flags (Mark x) = flags
changed_flags flags (Unmark x) = flags
changed_flags flags (Lay t h w) = flags ++ true ∷ []

-- the flags before an admitted command, of those after it: what it closes was open, and what it opens was closed
abbrev pub flag_before : List Bool → Command → List Bool
flag_before flags (Set k w) = flags
flag_before flags (Close k) = update_nth (λ _. true) flags k
flag_before flags (Reopen k) = update_nth (λ _. false) flags k
flag_before flags (Mark x) = flags
flag_before flags (Unmark x) = flags
flag_before flags (Lay t h w) = take (length flags - 1) flags

-- the flags before these admitted commands
abbrev pub flags_before : List Bool → List Command → List Bool
flags_before flags [] = flags
flags_before flags (command ∷ commands) = flag_before (flags_before flags commands) command

-- they are those of a network that admits the commands, each in its turn
abbrev pub AreFlagsOfAdmitting : List Bool → List Command → Type 0
AreFlagsOfAdmitting flags commands = (net : Net) × (map (λ arc. arc.opened) net.arcs ≡ flags) × (first_refusal net commands ≡ None)

-- the outline before an admitted group, with the landmarks that were kept, if some were
abbrev pub outline_before : List Command → Option (List ℕ) → Outlined → Outlined
outline_before group landmarks outline = record outline { opened = flags_before outline.opened group; landmarks = unwrap_or landmarks outline.landmarks }
