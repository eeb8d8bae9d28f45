-- What the groups of a text come to, one after the other, and how it is told.
use Rattle.std.specs.Prelude.{◌≡◌, ◌⊎◌, ℕ, ◌+◌, ◌≤◌, List, [], ◌∷◌, length, slice_get, Option, None, Some, IfSome, map, nat_le, nat_lt, if◌then◌else◌, ⊤}
use Rattle.roadnet.specs.declared.groups.Group.{Group}
use Rattle.roadnet.specs.Batches.{changed_by}
use Rattle.roadnet.specs.declared.refusals.Refusal.{Refusal}
use Rattle.roadnet.specs.declared.refusals.Refusal.TheVariants.{OutOfMemory, HistoryFull, VersionsExhausted}
use Rattle.roadnet.specs.Net.{Net}
use Rattle.roadnet.specs.Step.{first_refusal}
use Rattle.machine.specs.declared.events.Replied.{Replied}
use Rattle.machine.specs.declared.events.Replied.TheVariants.{Durable, Refused as told_refused}
use Rattle.machine.specs.Machine.{most_versions, most_of_life}
use Rattle.printing.specs.Replied.{printed_replies}
use Rattle.storetexts.specs.declared.outcomes.Outcome.{Outcome}
use Rattle.storetexts.specs.declared.outcomes.Outcome.TheVariants.{Accepted, Refused}

-- how an outcome is told: as the version that is durable, or the refusal
abbrev pub reply_of : Outcome → Replied
reply_of (Accepted number) = Durable number
reply_of (Refused refusal) = told_refused refusal

-- the lines of outcomes, one after the other: `ok N` or `no CODE`
abbrev pub outcome_lines : List Outcome → List ℕ
outcome_lines outcomes = printed_replies (map reply_of outcomes)

-- For what the group after so many versions is refused, memory apart, where so many commands were accepted since the store was opened: they would
-- pass 16,777,216, or the version would pass 2^48, or the network doesn't admit the group.
abbrev pub refusal_at : ℕ → Net → ℕ → Group → Option Refusal
refusal_at life net version group =
    if nat_lt most_of_life (life + length group) then Some HistoryFull else
    if nat_le most_versions version then Some VersionsExhausted else
    first_refusal net group

-- refused for this cause, or else for want of memory
abbrev pub IsOutcomeRefusedFor : Option Refusal → Refusal → Type 0
IsOutcomeRefusedFor cause refusal = (cause ≡ Some refusal) ⊎ ((cause ≡ None) × (refusal ≡ OutOfMemory))

-- Groups on this network at this version, where so many commands were accepted since the store was opened, come to these outcomes, one each:
-- accepted as the next version is what has no cause of refusal after those accepted before it.
abbrev pub ComesTo : ℕ → Net → ℕ → List Group → List Outcome → Type 0
ComesTo life net version [] [] = Unit {0}
ComesTo life net version [] (outcome ∷ outcomes) = ⊥
ComesTo life net version (group ∷ groups) [] = ⊥
ComesTo life net version (group ∷ groups) (Accepted number ∷ outcomes) =
    (refusal_at life net version group ≡ None) × (number ≡ version + 1) × ComesTo (life + length group) (changed_by net group) (version + 1) groups outcomes
ComesTo life net version (group ∷ groups) (Refused refusal ∷ outcomes) =
    IsOutcomeRefusedFor (refusal_at life net version group) refusal × ComesTo life net version groups outcomes

-- the groups that were accepted, in order
abbrev pub accepted_outcomes : List Group → List Outcome → List Group
accepted_outcomes [] outcomes = []
accepted_outcomes (group ∷ groups) [] = []
accepted_outcomes (group ∷ groups) (Accepted number ∷ outcomes) = group ∷ accepted_outcomes groups outcomes
accepted_outcomes (group ∷ groups) (Refused refusal ∷ outcomes) = accepted_outcomes groups outcomes

-- the group is durable at this version, or was refused
abbrev pub IsGroupSettled : ℕ → Outcome → Type 0
IsGroupSettled durable (Accepted number) = number ≤ durable
IsGroupSettled durable (Refused refusal) = ⊤

-- the outcome at this place, counted from 0, is not settled, if there is one
abbrev pub IsUnsettledAt : ℕ → List Outcome → ℕ → Type 0
IsUnsettledAt durable outcomes place = IfSome (slice_get outcomes place) (λ outcome. IsGroupSettled durable outcome → ⊥)
