-- What a command does to a network, and when it is refused.
use Rattle.std.specs.Prelude.{◌≡◌, ◌⊎◌, ℕ, Bool, true, false, List, [], ◌∷◌, Option, None, Some, length, nat_le, nat_lt, ◌&&◌, ◌++◌, not, is_none, if◌then◌else◌, option_and_then}
use Rattle.std.specs.Option.{option_map_or}
use Rattle.roadnet.specs.declared.arcs.RoadArc.{RoadArc}
use Rattle.roadnet.specs.declared.commands.Command.{Command}
use Rattle.roadnet.specs.declared.commands.Command.TheVariants.{Set, Close, Reopen, Mark, Unmark, Lay}
use Rattle.roadnet.specs.declared.refusals.Refusal.{Refusal}
use Rattle.roadnet.specs.declared.refusals.Refusal.TheVariants.{NoSuchArc, LengthRange, AlreadyClosed, AlreadyOpen, NoSuchNode, AlreadyLandmark, NotALandmark, TooManyLandmarks, NoRoom, OutOfMemory}
use Rattle.roadnet.specs.Causes.{first_applying}
use Rattle.roadnet.specs.Members.{is_member, with_member, without_member}
use Rattle.roadnet.specs.Net.{Net, arc_at, update_nth, longest_arc, most_landmarks}

abbrev pub is_node : Net → ℕ → Bool
is_node net x = nat_le 1 x && nat_le x net.nodes

abbrev pub is_landmark : Net → ℕ → Bool
is_landmark net x = is_member x net.landmarks

abbrev pub is_arc_open : Net → ℕ → Bool
is_arc_open net k = option_map_or (λ arc. arc.opened) (arc_at net k) false

abbrev pub is_closed : Net → ℕ → Bool
is_closed net k = option_map_or (λ arc. not arc.opened) (arc_at net k) false

-- for what a command is refused: each refusal with its condition, by ascending number
abbrev pub causes : Net → Command → List (Refusal × Bool)
causes net (Set k w) = (NoSuchArc, is_none (arc_at net k)) ∷ (LengthRange, nat_lt longest_arc w) ∷ []
causes net (Close k) = (NoSuchArc, is_none (arc_at net k)) ∷ (AlreadyClosed, is_closed net k) ∷ []
causes net (Reopen k) = (NoSuchArc, is_none (arc_at net k)) ∷ (AlreadyOpen, is_arc_open net k) ∷ []
causes net (Mark x) =
    (NoSuchNode, not (is_node net x)) ∷ (AlreadyLandmark, is_landmark net x) ∷ (TooManyLandmarks, nat_le most_landmarks (length net.landmarks)) ∷ []
causes net (Unmark x) = (NoSuchNode, not (is_node net x)) ∷ (NotALandmark, not (is_landmark net x)) ∷ []
causes net (Lay t h w) =
    (LengthRange, nat_lt longest_arc w) ∷ (NoSuchNode, not (is_node net t && is_node net h)) ∷ (NoRoom, nat_le net.room (length net.arcs)) ∷ []

-- the refusal of lowest number whose condition holds, or none: then the command is admitted
abbrev pub refusal_of : Net → Command → Option Refusal
refusal_of net command = first_applying (causes net command)

-- whether carrying the command out may take memory
abbrev pub TakesMemory : Command → Type 0
TakesMemory (Set k w) = ⊥
TakesMemory (Close k) = ⊥
TakesMemory (Reopen k) = ⊥
TakesMemory (Mark x) = Unit {0}
TakesMemory (Unmark x) = ⊥
TakesMemory (Lay t h w) = Unit {0}

-- with what `apply` may refuse: the command's refusal, or want of memory for an admitted command that takes some
abbrev pub MayRefuseCommand : Net → Command → Refusal → Type 0
MayRefuseCommand net command refusal =
    (refusal_of net command ≡ Some refusal) ⊎ ((refusal ≡ OutOfMemory) × (refusal_of net command ≡ None) × TakesMemory command)

-- an open arc of these ends and this length
abbrev pub new_arc : ℕ → ℕ → ℕ → RoadArc
new_arc tail head length = record { tail = tail; head = head; length = length; opened = true }

-- the network with the command carried out
abbrev pub changed : Net → Command → Net
changed net (Set k w) = record net { arcs = update_nth (λ arc. record arc { length = w }) net.arcs k }
changed net (Close k) = record net { arcs = update_nth (λ arc. record arc { opened = false }) net.arcs k }
changed net (Reopen k) = record net { arcs = update_nth (λ arc. record arc { opened = true }) net.arcs k }
changed net (Mark x) = record net { landmarks = with_member x net.landmarks }
changed net (Unmark x) = record net { landmarks = without_member x net.landmarks }
changed net (Lay t h w) = record net { arcs = net.arcs ++ new_arc t h w ∷ [] }

-- the network after a command, where it is admitted
abbrev pub step : Net → Command → Option Net
step net command = if is_none (refusal_of net command) then Some (changed net command) else None

-- the network after a group of commands, where each is admitted in its turn
abbrev pub step_group : Net → List Command → Option Net
step_group net [] = Some net
step_group net (command ∷ commands) = option_and_then (λ next. step_group next commands) (step net command)

-- the network after these groups, where each is admitted in its turn
abbrev pub after : Net → List (List Command) → Option Net
after net [] = Some net
after net (group ∷ groups) = option_and_then (λ next. after next groups) (step_group net group)

-- the refusal of a group's first command that is not admitted after those before it, or none
abbrev pub first_refusal : Net → List Command → Option Refusal
first_refusal net [] = None
first_refusal net (command ∷ commands) =
    if is_none (refusal_of net command) then first_refusal (changed net command) commands else refusal_of net command
