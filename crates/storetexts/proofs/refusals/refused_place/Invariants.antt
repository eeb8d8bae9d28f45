use Rattle.std.proofs.Common.{◌≡◌, ◌⊎◌, ◌-◌, ◌<◌, ◌≤◌, true, false, length}
use Rattle.storetexts.specs.Refusals.{is_admitted}
use Rattle.storetexts.proofs.refusals.refused_place.Given as goal

-- the command is among those between the two: the commands before the first are admitted, and those up to the second are not
abbrev pub invariant-halves : goal.invariant-halves
invariant-halves g l =
    (l.admitted < l.refused) × (l.refused ≤ length l.group)
    × ((l.admitted ≡ 0) ⊎ (is_admitted l.ledger.machine l.group l.admitted ≡ true))
    × (is_admitted l.ledger.machine l.group l.refused ≡ false)

abbrev pub decreases-halves : goal.decreases-halves
decreases-halves g l = l.refused - l.admitted
