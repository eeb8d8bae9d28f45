-- A version that is shown is reached by the groups after which it is shown.
use Rattle.std.proofs.Common.{ℕ, ◌+◌, ◌≤◌, ◌-◌, length, arith}
use Rattle.std.proofs.lemmas.List.{length-take}
use Rattle.machine.specs.Machine.{Machine, groups_to}
use Rattle.office.specs.Offices.{RunsFrom}
use Rattle.history.specs.Origins.{Origin}

pub reached_by : (origin : Origin) (m : Machine) (version : ℕ) → RunsFrom origin m → version ≤ m.shown → version ≤ origin.version + length (groups_to m m.shown)
reached_by origin m version runs shown =
    let base = runs.base_version in
    let opened = runs.state.base_opened in
    let later = runs.state.opened_shown in
    let durable = runs.state.shown_durable in
    let accepted = runs.state.durable_accepted in
    omega (arith, shown, base, opened, later, durable, accepted, length-take (m.shown - m.base_version) m.accepted)
