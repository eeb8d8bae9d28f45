-- Steps of a checkpoint over a keeper's disk, one after the other.
use Rattle.std.proofs.Common.{ℕ, List, subst}
use Rattle.machine.specs.Machine.{Machine}
use Rattle.machine.specs.Lives.{GoesOn}
use Rattle.machine.proofs.Checkpoints.{goes_but}
use Rattle.keeper.specs.Keeping.{IsDurableIn}

-- what holds what is durable holds it before
pub durable_before : (n : ℕ) (old mid : Machine) → GoesOn n old mid → (content : List ℕ) → IsDurableIn mid content → IsDurableIn old content
durable_before n old mid g content held =
    let there : IsDurableIn (record old { checkpoint = mid.checkpoint }) content = subst (λ (m : Machine). IsDurableIn m content) (goes_but n old mid g) held in
    record { version = there.version; left = there.left; network = there.network; network_is = there.network_is; stands = there.stands }
