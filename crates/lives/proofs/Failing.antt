-- The failures of a disk that a run's replies tell, counted.
use Rattle.std.proofs.Common.{◌≡◌, ◌⊎◌, ⊎_elim, ℕ, true, false, List, [], ◌∷◌, ◌++◌, Option, None, Some, Result, Ok, Err, refl, sym, ◌∙◌, ap, subst, append_assoc}
use Rattle.std.specs.Prelude.{MatchResult}
use Rattle.std.specs.List.{AllByRecursion}
use Rattle.pagereader.specs.Outcomes.{failures_told}
use Rattle.roadnet.specs.declared.refusals.Refusal.{Refusal}
use Rattle.roadnet.specs.declared.refusals.Refusal.TheVariants.{Device}
use Rattle.machine.specs.declared.events.Event.{Event}
use Rattle.machine.specs.declared.events.Event.TheVariants.{Submit, Flush, Checkpoint, CheckpointStep, Task, Publish, Ask, Stop, StopWithin}
use Rattle.machine.specs.declared.events.Replied.{Replied}
use Rattle.machine.specs.declared.events.Replied.TheVariants.{Refused}
use Rattle.machine.specs.declared.events.Writing.{Writing}
use Rattle.machine.specs.declared.events.Writing.TheVariants.{Flush as a_flush, Checkpoint as a_checkpoint, Step as a_step}
use Rattle.machine.specs.Machine.{Machine}
use Rattle.machine.specs.Lives.{Turn, told_version, told_part, Writes}
use Rattle.store.specs.declared.paged.parts.Part.{Part}
use Rattle.store.specs.declared.paged.parts.Part.TheVariants.{Going, Done}
use Rattle.keeper.specs.Parts.{told_step}
use Rattle.machine.proofs.Rehearsing.{events_more, replies_more}
use Rattle.lives.specs.Failures.{is_of_stop, IsEventAnswered, failures_by, failures_of_stop, failures_after_event, failures_in, failures_at_end, FailsAsTold, EndsAsTold}
use Rattle.lives.specs.Rehearsing.{is_stop, within_of}

-- clauses on one result, together
pub match_both : {T E : Type 0} (r : Result T E) (A B X : T → Type 0) (C F Y : E → Type 0) → ((x : T) → A x → B x → X x) → ((e : E) → C e → F e → Y e) → MatchResult r A C → MatchResult r B F → MatchResult r X Y
match_both (Ok x) A B X C F Y f g a b = f x a b
match_both (Err e) A B X C F Y f g a b = g e a b

-- a write's reply tells its failure
pub told_by_write : (result : Result ℕ Refusal) (told : Replied) (n : ℕ) → told ≡ told_version result → failures_told result n ≡ failures_by told n
told_by_write (Ok v) told n is = rw is refl
told_by_write (Err e) told n is = rw is refl

pub told_by_part : (result : Result Part Refusal) (told : Replied) (n : ℕ) → told ≡ told_part (told_step result) → failures_told result n ≡ failures_by told n
told_by_part (Ok Going) told n is = rw is refl
told_by_part (Ok (Done v)) told n is = rw is refl
told_by_part (Err e) told n is = rw is refl

-- ---- a run
pub fails_none : {P : Type 0} (n : ℕ) → FailsAsTold {P = P} [] [] n n
fails_none n = record { turns = []; events_are = refl; replies_are = refl; answered = tt; counted = refl }

answered_more : {P : Type 0} (turns : List (Turn P)) (e : Event P) (now : List Replied) → AllByRecursion (λ turn. IsEventAnswered turn.0 turn.1) turns → IsEventAnswered e now → AllByRecursion (λ turn. IsEventAnswered turn.0 turn.1) (turns ++ (e, now) ∷ [])
answered_more [] e now all one = (one, tt)
answered_more (turn ∷ turns) e now all one = (all.0, answered_more turns e now all.1 one)

failures_more : {P : Type 0} (turns : List (Turn P)) (e : Event P) (now : List Replied) (n : ℕ) → failures_in (turns ++ (e, now) ∷ []) n ≡ failures_after_event e now (failures_in turns n)
failures_more [] e now n = refl
failures_more (turn ∷ turns) e now n = failures_more turns e now (failures_after_event turn.0 turn.1 n)

pub fails_more : {P : Type 0} (events : List (Event P)) (replies : List Replied) (before mid now : ℕ) (e : Event P) (told : List Replied) → FailsAsTold events replies before mid → IsEventAnswered e told → now ≡ failures_after_event e told mid
    → FailsAsTold (events ++ e ∷ []) (replies ++ told) before now
fails_more events replies before mid now e told f one is = record {
  turns = f.turns ++ (e, told) ∷ [];
  events_are = events_more f.turns events e told f.events_are;
  replies_are = replies_more f.turns replies e told f.replies_are;
  answered = answered_more f.turns e told f.answered one;
  counted = is ∙ (ap (failures_after_event e told) f.counted ∙ sym (failures_more f.turns e told before));
}

pub ends_told : {P : Type 0} (events rest : List (Event P)) (replies : List Replied) (ended : Option Refusal) (before mid now : ℕ) → FailsAsTold events replies before mid → now ≡ failures_at_end ended mid
    → EndsAsTold (events ++ rest) replies ended before now
ends_told events rest replies ended before mid now f is = record {
  turns = f.turns;
  rest = rest;
  events_are = ap (λ (xs : List (Event _)). xs ++ rest) f.events_are;
  replies_are = f.replies_are;
  answered = f.answered;
  counted = is ∙ ap (failures_at_end ended) f.counted;
}

-- lists that are known by equations alone
pub fails_as : {P : Type 0} (events : List (Event P)) (replies replies' : List Replied) (before now : ℕ) → replies' ≡ replies → FailsAsTold events replies before now → FailsAsTold events replies' before now
fails_as events replies replies' before now is f = subst (λ (rs : List Replied). FailsAsTold events rs before now) (sym is) f

pub ends_as : {P : Type 0} (events events' : List (Event P)) (replies : List Replied) (ended : Option Refusal) (before now : ℕ) → events ≡ events' → EndsAsTold events replies ended before now → EndsAsTold events' replies ended before now
ends_as events events' replies ended before now is f = subst (λ (es : List (Event _)). EndsAsTold es replies ended before now) is f

-- ---- a stop, behind an event's own reply or within the event
no_stop : (result : Result ℕ Refusal) → is_of_stop (told_version result) ≡ false
no_stop (Ok v) = refl
no_stop (Err e) = refl

no_stop_part : (result : Result (Option ℕ) Refusal) → is_of_stop (told_part result) ≡ false
no_stop_part (Ok None) = refl
no_stop_part (Ok (Some v)) = refl
no_stop_part (Err e) = refl

-- the reply to an event that writes is none of a stop
pub no_stop_written : (w : Writing) (old new : Machine) (reply : Replied) → Writes old w reply new → is_of_stop reply ≡ false
no_stop_written a_flush old new reply w = ap is_of_stop w.2 ∙ no_stop w.0
no_stop_written a_checkpoint old new reply w = ap is_of_stop w.2 ∙ no_stop w.0
no_stop_written (a_step pages) old new reply w = ap is_of_stop w.2 ∙ no_stop_part w.0

one_of_stop : {P : Type 0} (e : Event P) (w : Writing) (last : Replied) → within_of e ≡ Some w → is_of_stop last ≡ true → IsEventAnswered e (last ∷ [])
one_of_stop (StopWithin call picks w') w last is own = own
one_of_stop (Submit c) w last is own = tt
one_of_stop Flush w last is own = tt
one_of_stop Checkpoint w last is own = tt
one_of_stop (CheckpointStep pages) w last is own = tt
one_of_stop Task w last is own = tt
one_of_stop Publish w last is own = tt
one_of_stop (Ask query) w last is own = tt
one_of_stop Stop w last is own = tt

two_of_stop : {P : Type 0} (e : Event P) (w : Writing) (reply last : Replied) → within_of e ≡ Some w → is_of_stop reply ≡ false → is_of_stop last ≡ true → IsEventAnswered e (reply ∷ last ∷ [])
two_of_stop (StopWithin call picks w') w reply last is other own = (other, own)
two_of_stop (Submit c) w reply last is other own = cc
two_of_stop Flush w reply last is other own = cc
two_of_stop Checkpoint w reply last is other own = cc
two_of_stop (CheckpointStep pages) w reply last is other own = cc
two_of_stop Task w reply last is other own = cc
two_of_stop Publish w reply last is other own = cc
two_of_stop (Ask query) w reply last is other own = cc
two_of_stop Stop w reply last is other own = cc

pub one_reply : {P : Type 0} (e : Event P) (reply : Replied) → is_stop e ≡ false → IsEventAnswered e (reply ∷ [])
one_reply (Submit c) reply calm = tt
one_reply Flush reply calm = tt
one_reply Checkpoint reply calm = tt
one_reply (CheckpointStep pages) reply calm = tt
one_reply Task reply calm = tt
one_reply Publish reply calm = tt
one_reply (Ask query) reply calm = tt
one_reply Stop reply calm = tt
one_reply (StopWithin call picks writing) reply calm = cc

by_stop : {P : Type 0} (e : Event P) (w : Writing) → within_of e ≡ Some w → (replies : List Replied) (n : ℕ) → failures_of_stop replies n ≡ failures_after_event e replies n
by_stop (StopWithin call picks w') w is replies n = refl
by_stop (Submit c) w is replies n = cc
by_stop Flush w is replies n = cc
by_stop Checkpoint w is replies n = cc
by_stop (CheckpointStep pages) w is replies n = cc
by_stop Task w is replies n = cc
by_stop Publish w is replies n = cc
by_stop (Ask query) w is replies n = cc
by_stop Stop w is replies n = cc

pub stop_told : {P : Type 0} (e : Event P) (w : Writing) (reply : Replied) (replies replies' : List Replied) (last : Replied) (events : List (Event P)) (before mid now : ℕ) → within_of e ≡ Some w
    → is_of_stop reply ≡ false → is_of_stop last ≡ true → (replies' ≡ replies ++ reply ∷ []) ⊎ ((reply ≡ Refused Device) × (replies' ≡ replies))
    → FailsAsTold events replies before mid → now ≡ failures_by reply mid → FailsAsTold (events ++ e ∷ []) (replies' ++ last ∷ []) before now
stop_told e w reply replies replies' last events before mid now is other own told f counted =
    ⊎_elim
    (λ behind.
    fails_as (events ++ e ∷ []) (replies ++ (reply ∷ last ∷ [])) (replies' ++ last ∷ []) before now
    (ap (λ (rs : List Replied). rs ++ last ∷ []) behind ∙ append_assoc replies (reply ∷ []) (last ∷ []))
    (fails_more events replies before mid now e (reply ∷ last ∷ []) f (two_of_stop e w reply last is other own) (counted ∙ by_stop e w is (reply ∷ last ∷ []) mid)))
    (λ cut.
    fails_as (events ++ e ∷ []) (replies ++ last ∷ []) (replies' ++ last ∷ []) before now (ap (λ (rs : List Replied). rs ++ last ∷ []) cut.1)
    (fails_more events replies before mid now e (last ∷ []) f (one_of_stop e w last is own) (counted ∙ (ap (λ (r : Replied). failures_by r mid) cut.0 ∙ by_stop e w is (last ∷ []) mid))))
    told
