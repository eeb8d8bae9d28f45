-- What holds of the view that is shown and of what each seat has seen.
use Rattle.std.specs.Prelude.{◌≡◌, ℕ, List, [], Option, None, Some, option_map, fold}
use mathlib.Core.List.{IsPrefix}
use mathlib.Core.Option.{some}
use lib.ListN.{get_elem?}
use Rattle.history.specs.Origins.{Beginning}

-- what a seat has seen is of the same desk, and begins what is shown
abbrev pub SeatFollows : Option Beginning → Beginning → Type 0
SeatFollows None shown = Unit {0}
SeatFollows (Some seen) shown = (seen.origin ≡ shown.origin) × IsPrefix seen.groups shown.groups

abbrev pub AllBegin : Beginning → List (Option Beginning) → Type 0
AllBegin shown views = (seat : ℕ) (seen : Option Beginning) → get_elem? views seat ≡ some seen → SeatFollows seen shown

-- of the same desk, and no group yet
abbrev pub opening : Option Beginning → Option Beginning
opening seen = option_map {T = Beginning} (λ s. record s { groups = [] }) seen

-- what is shown after switches to these
abbrev pub last_of : {X : Type 0} → X → List X → X
last_of shown pending = fold (λ before next. next) shown pending
