-- What a script's replies tell of the failures of its disk.
use Rattle.std.specs.Prelude.{◌≡◌, ℕ, Bool, true, false, ⊤, List, [], ◌∷◌, ◌++◌, map, Option, None, Some}
use Rattle.std.specs.List.{flat_map, AllByRecursion}
use Rattle.disk.specs.Contents.{one_more}
use Rattle.pagereader.specs.Outcomes.{failures_with}
use Rattle.roadnet.specs.declared.refusals.Refusal.{Refusal}
use Rattle.machine.specs.declared.events.Event.{Event}
use Rattle.machine.specs.declared.events.Event.TheVariants.{Flush, Checkpoint, CheckpointStep, StopWithin}
use Rattle.machine.specs.declared.events.Replied.{Replied}
use Rattle.machine.specs.declared.events.Replied.TheVariants.{Refused, Opened, Stopped}
use Rattle.machine.specs.Lives.{Turn}

-- the count of failures after this reply: one more where it is 43
abbrev pub failures_by : Replied → ℕ → ℕ
failures_by (Refused refusal) n = failures_with refusal n
failures_by _ n = n

-- the same after an event that writes, with these replies: the first is its own
abbrev pub failures_of_write : List Replied → ℕ → ℕ
failures_of_write [] n = n
failures_of_write (reply ∷ replies) n = failures_by reply n

-- the reply of a stop
abbrev pub is_of_stop : Replied → Bool
is_of_stop (Opened version) = true
is_of_stop Stopped = true
is_of_stop _ = false

-- How many replies an event has: one; but a stop within an event has one where it came within, its own, and else the event's and its own.
abbrev pub IsEventAnswered : {P : Type 0} → Event P → List Replied → Type 0
IsEventAnswered (StopWithin call picks writing) (reply ∷ []) = is_of_stop reply ≡ true
IsEventAnswered (StopWithin call picks writing) (reply ∷ last ∷ []) = (is_of_stop reply ≡ false) × (is_of_stop last ≡ true)
IsEventAnswered event (reply ∷ []) = ⊤
IsEventAnswered event replies = ⊥

-- the same after a stop within an event: where it came within, the disk failed there, and the stop's own reply is the only one
abbrev pub failures_of_stop : List Replied → ℕ → ℕ
failures_of_stop [] n = n
failures_of_stop (reply ∷ []) n = one_more n
failures_of_stop (reply ∷ _ ∷ _) n = failures_by reply n

-- the count after an event with these replies: no other event writes
abbrev pub failures_after_event : {P : Type 0} → Event P → List Replied → ℕ → ℕ
failures_after_event Flush replies n = failures_of_write replies n
failures_after_event Checkpoint replies n = failures_of_write replies n
failures_after_event (CheckpointStep pages) replies n = failures_of_write replies n
failures_after_event (StopWithin call picks writing) replies n = failures_of_stop replies n
failures_after_event _ replies n = n

-- the count after these turns
abbrev pub failures_in : {P : Type 0} → List (Turn P) → ℕ → ℕ
failures_in [] n = n
failures_in (turn ∷ turns) n = failures_in turns (failures_after_event turn.0 turn.1 n)

-- the count after a run that ended so: one more where that is 43
abbrev pub failures_at_end : Option Refusal → ℕ → ℕ
failures_at_end None n = n
failures_at_end (Some refusal) n = failures_with refusal n

-- These events were replied to so, and the count of failures went from one to the other just by the failures that the replies tell.
pub record FailsAsTold {P : Type 0} (events : List (Event P)) (replies : List Replied) (before now : ℕ) : Type 0 where
  pub turns : List (Turn P)
  pub events_are : events ≡ map (λ turn. turn.0) turns
  pub replies_are : replies ≡ flat_map (λ turn. turn.1) turns
  pub answered : AllByRecursion (λ turn. IsEventAnswered turn.0 turn.1) turns
  pub counted : now ≡ failures_in turns before

-- Of these events the first were replied to so, and the run ended so. The count of failures went from one to the other just by the failures
-- that the replies tell, and by one more where the run ended with 43.
pub record EndsAsTold {P : Type 0} (events : List (Event P)) (replies : List Replied) (ended : Option Refusal) (before now : ℕ) : Type 0 where
  pub turns : List (Turn P)
  pub rest : List (Event P)
  pub events_are : events ≡ map (λ turn. turn.0) turns ++ rest
  pub replies_are : replies ≡ flat_map (λ turn. turn.1) turns
  pub answered : AllByRecursion (λ turn. IsEventAnswered turn.0 turn.1) turns
  pub counted : now ≡ failures_at_end ended (failures_in turns before)
