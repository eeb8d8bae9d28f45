use Rattle.std.proofs.Common.{◌≡◌, ap, arith}
use Rattle.snapshot.specs.Groups.{Groups}
use Rattle.snapshot.proofs.groups.Snapshot.default_delta.Goals as goal

pub returns-clause-value : goal.returns-clause-value
returns-clause-value c net of =
    let greatest : c.self.inside.greatest ≡ c.args.self.now.greatest = ap (λ (v : Groups). v.greatest) c.self.view_is in
    omega (arith, c.max.ensures, c.div_ceil.ensures, greatest, of.greatest)
