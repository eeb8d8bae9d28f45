-- Arcs that are changed by commands, one after the other.
use Rattle.std.proofs.Common.{◌≡◌, ℕ, ◌<◌, ◌≤◌, Bool, true, false, Some, sym, subst}
use Rattle.std.specs.Prelude.{option_map}
use Rattle.roadnet.specs.declared.commands.Command.TheVariants.{Set, Close, Reopen}
use Rattle.roadnet.specs.Changes.{ChangesArc}
use Rattle.roadnet.specs.Net.{Net, nth}
use Rattle.roadnet.specs.Step.{step}
use Rattle.roadnet.proofs.Stepped.{step_changes}
use Rattle.upgrades.specs.Renewing.{with_length, with_opened, StandsLike}
use Rattle.upgrades.specs.Upgrading.{upgraded_arc}

-- a command that was carried out, as a change of one arc
length_set : (old new : Net) (k w : ℕ) → step old (Set k w) ≡ Some new → ChangesArc old new k (with_length w)
length_set old new k w made = (step_changes old new (Set k w) made).1

closed : (old new : Net) (k : ℕ) → step old (Close k) ≡ Some new → ChangesArc old new k (with_opened false)
closed old new k made = (step_changes old new (Close k) made).1

reopened : (old new : Net) (k : ℕ) → step old (Reopen k) ≡ Some new → ChangesArc old new k (with_opened true)
reopened old new k made = (step_changes old new (Reopen k) made).1

pub length_set_so : (old new : Net) (k w w' : ℕ) → w' ≡ w → step old (Set k w') ≡ Some new → ChangesArc old new k (with_length w)
length_set_so old new k w w' same made = subst (λ (v : ℕ). ChangesArc old new k (with_length v)) same (length_set old new k w' made)

pub closed_so : (old new : Net) (k : ℕ) (opened : Bool) → opened ≡ false → step old (Close k) ≡ Some new → ChangesArc old new k (with_opened opened)
closed_so old new k opened is made = subst (λ (b : Bool). ChangesArc old new k (with_opened b)) (sym is) (closed old new k made)

pub reopened_so : (old new : Net) (k : ℕ) (opened : Bool) → opened ≡ true → step old (Reopen k) ≡ Some new → ChangesArc old new k (with_opened opened)
reopened_so old new k opened is made = subst (λ (b : Bool). ChangesArc old new k (with_opened b)) (sym is) (reopened old new k made)

-- the arcs below this number have become what they become, the others are as in the map
pub record IsRenewedTo (stored old new made : Net) (number : ℕ) : Type 0 where
  pub like : StandsLike new made
  pub below : (k : ℕ) → k < number → nth made.arcs k ≡ option_map (upgraded_arc stored old new k) (nth new.arcs k)
  pub above : (k : ℕ) → number ≤ k → nth made.arcs k ≡ nth new.arcs k
