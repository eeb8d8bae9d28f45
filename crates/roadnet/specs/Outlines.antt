-- Outlines of networks: what of a network its commands are judged by.
use Rattle.std.specs.Prelude.{◌≡◌, ℕ, Bool, List, None, Some, map, option_map}
use Rattle.roadnet.specs.declared.commands.Command.{Command}
use Rattle.roadnet.specs.declared.refusals.Refusal.{Refusal}
use Rattle.roadnet.specs.Net.{Net, IsNetwork}
use Rattle.roadnet.specs.Step.{first_refusal, step_group}

-- Of the arc of number k the k-th of `opened`, counted from 1, says whether it is open. The ends and the lengths of the arcs are left out.
pub record Outlined : Type 0 where
  pub nodes : ℕ
  pub opened : List Bool
  pub landmarks : List ℕ
  pub room : ℕ

abbrev pub outline_of : Net → Outlined
outline_of net = record { nodes = net.nodes; opened = map (λ arc. arc.opened) net.arcs; landmarks = net.landmarks; room = net.room }

-- some network has this outline
abbrev pub IsOutline : Outlined → Type 0
IsOutline outline = (net : Net) × IsNetwork net × (outline_of net ≡ outline)

-- P of each network that has this outline
abbrev pub OfEach : Outlined → (Net → Type 0) → Type 0
OfEach outline P = (net : Net) → outline_of net ≡ outline → P net

-- each network of this outline admits the commands of the group, each in its turn
abbrev pub EachAdmitsGroup : Outlined → List Command → Type 0
EachAdmitsGroup outline group = OfEach outline (λ net. first_refusal net group ≡ None)

-- each network of the old outline goes by the group to one of the new outline
abbrev pub EachStepsByGroup : Outlined → List Command → Outlined → Type 0
EachStepsByGroup old group new = OfEach old (λ net. option_map outline_of (step_group net group) ≡ Some new)

-- the same of those that keep the limits of networks
abbrev pub OfEachNetwork : Outlined → (Net → Type 0) → Type 0
OfEachNetwork outline P = (net : Net) → IsNetwork net → outline_of net ≡ outline → P net
