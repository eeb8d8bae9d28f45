-- The first refusal that applies in an ascending table is the lowest.
use Rattle.std.proofs.Common.{◌≡◌, ℕ, zero, suc, ◌≤◌, Bool, true, false, true≢false, List, [], ◌∷◌, Option, Some, None, cond, refl, ap, sym, ◌∙◌, arith, le_refl, lit≤}
use Rattle.roadnet.specs.declared.commands.Command.TheVariants.{Set, Close, Reopen, Mark, Unmark, Lay}
use Rattle.roadnet.specs.declared.refusals.Refusal.{Refusal}
use Rattle.roadnet.specs.Causes.{Applies, first_applying, IsAnswerTo}
use Rattle.roadnet.specs.Changes.{RefusalIsLowest, FlawIsLowest}
use Rattle.roadnet.specs.Made.{flaws}
use Rattle.roadnet.specs.Numbers.{number_of}
use Rattle.roadnet.specs.Step.{causes}

-- the numbers along a table don't fall, and start from at least `low`
abbrev Ascends : ℕ → List (Refusal × Bool) → Type 0
Ascends low [] = Unit {0}
Ascends low (row ∷ rows) = (low ≤ number_of row.0) × Ascends (number_of row.0) rows

not_below : (low : ℕ) (table : List (Refusal × Bool)) → Ascends low table → (other : Refusal) → Applies table other → low ≤ number_of other
not_below low [] up other (k, within, e) = absurd (omega arith)
not_below low (row ∷ rows) up other (zero, within, e) = let same : number_of row.0 ≡ number_of other = ap (λ (r : Refusal × Bool). number_of r.0) e in omega (arith, up.0)
not_below low (row ∷ rows) up other (suc k, within, e) = omega (arith, up.0, not_below (number_of row.0) rows up.1 other (k, omega arith, e))

-- a refusal that doesn't apply changes nothing at the front of a table
behind : (row : Refusal × Bool) (rows : List (Refusal × Bool)) → row.1 ≡ false → (other : Refusal) → Applies (row ∷ rows) other → Applies rows other
behind row rows fails other (zero, within, e) = absurd (true≢false (sym (ap (λ (r : Refusal × Bool). r.1) e) ∙ fails))
behind row rows fails other (suc k, within, e) = (k, omega arith, e)

past_row : (row : Refusal × Bool) (rows : List (Refusal × Bool)) → row.1 ≡ false → (answer : Option Refusal) → IsAnswerTo rows answer → IsAnswerTo (row ∷ rows) answer
past_row row rows fails None none = λ other a. none other (behind row rows fails other a)
past_row row rows fails (Some refusal) lowest = record {
  applies = let (k, within, e) = lowest.applies in (suc k, omega arith, e);
  lowest = λ other a. lowest.lowest other (behind row rows fails other a);
}

answered : (low : ℕ) (table : List (Refusal × Bool)) → Ascends low table → IsAnswerTo table (first_applying table)
answered low [] up = λ other a. absurd (omega (arith, a.1))
answered low (row ∷ rows) up =
    elim (row.1) as (λ b. row.1 ≡ b → IsAnswerTo (row ∷ rows) (cond b (Some row.0) (first_applying rows))) [
      | true ↦ λ holds. record {
        applies = (0, omega arith, ap (λ (b : Bool). (row.0, b)) holds);
        lowest = λ other a. not_below (number_of row.0) (row ∷ rows) (le_refl (number_of row.0), up.1) other a;
      }
      | false ↦ λ fails. past_row row rows fails (first_applying rows) (answered (number_of row.0) rows up.1)
    ] refl

pub refusal_is_lowest : RefusalIsLowest
refusal_is_lowest net (Set k w) = answered 0 (causes net (Set k w)) (lit≤ tt, (lit≤ tt, tt))
refusal_is_lowest net (Close k) = answered 0 (causes net (Close k)) (lit≤ tt, (lit≤ tt, tt))
refusal_is_lowest net (Reopen k) = answered 0 (causes net (Reopen k)) (lit≤ tt, (lit≤ tt, tt))
refusal_is_lowest net (Mark x) = answered 0 (causes net (Mark x)) (lit≤ tt, (lit≤ tt, (lit≤ tt, tt)))
refusal_is_lowest net (Unmark x) = answered 0 (causes net (Unmark x)) (lit≤ tt, (lit≤ tt, tt))
refusal_is_lowest net (Lay t h w) = answered 0 (causes net (Lay t h w)) (lit≤ tt, (lit≤ tt, (lit≤ tt, tt)))

pub flaw_is_lowest : FlawIsLowest
flaw_is_lowest nodes arcs landmarks = answered 0 (flaws nodes arcs landmarks) (lit≤ tt, (lit≤ tt, (lit≤ tt, (lit≤ tt, (lit≤ tt, tt)))))
