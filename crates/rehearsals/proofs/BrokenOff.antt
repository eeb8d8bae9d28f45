-- A run that ended early, and the count of failures of its disk.
use Rattle.std.proofs.Common.{◌≡◌, ◌⊎◌, ⊎_elim, inl, inr, ℕ, ◌-◌, ◌^◌, ◌≤◌, true, false, List, [], ◌∷◌, Option, Some, Err, IfSome, refl, sym, subst, arith}
use Rattle.std.specs.Prelude.{nat_lt}
use Rattle.std.specs.Io.KnownBytes.{Appends}
use Rattle.std.proofs.KnownBytes.{Appends-nil}
use Rattle.std.proofs.lemmas.Bool.{cases_lt, lt-ltb, le-ltb}
use Rattle.roadnet.specs.Net.{Net}
use Rattle.roadnet.specs.declared.refusals.Refusal.{Refusal}
use Rattle.roadnet.specs.declared.refusals.Refusal.TheVariants.{OutOfMemory, Device, NotEmpty, Write}
use Rattle.disk.specs.Contents.{one_more, Rose}
use Rattle.disk.specs.declared.stoppable.Pick.{Pick}
use Rattle.pagereader.specs.Outcomes.{failures_with}
use Rattle.store.specs.Opening.{IsPassing}
use Rattle.machine.specs.declared.events.Event.{Event}
use Rattle.machine.specs.declared.events.Event.TheVariants.{Flush, Checkpoint, CheckpointStep, StopWithin}
use Rattle.machine.specs.declared.events.Replied.{Replied}
use Rattle.machine.specs.declared.events.Replied.TheVariants.{Refused}
use Rattle.machine.specs.Machine.{start}
use Rattle.machine.specs.Lives.{Turn, NoMemory}
use Rattle.lives.specs.Failures.{failures_by, failures_of_write, failures_of_stop, failures_after_event, failures_in, EndsAsTold}
use Rattle.printing.specs.Failing.{CountsWrites, IfDevice}
use Rattle.printing.specs.Replied.{printed_replies}
use Rattle.printing.specs.declared.failed.Failed.{Failed}
use Rattle.printing.specs.declared.failed.Failed.TheVariants.{Code}
use Rattle.rehearsals.specs.Rehearsed.{new_store_sizes, RepliesTo, Rehearses, IsBrokenOff}

-- ---- a store that could not be made
pub unmade_passing : (refusal : Refusal) → (refusal ≡ NotEmpty → ⊥) → (refusal ≡ NotEmpty) ⊎ ((refusal ≡ Device) ⊎ (refusal ≡ OutOfMemory)) → IsPassing refusal
unmade_passing refusal not h = ⊎_elim (λ is. absurd (not is)) (λ other. ⊎_elim (λ device. inr device) (λ memory. inl memory) other) h

-- no event is run for want of memory
none_run : (net : Net) (pages : ℕ) (events : List (Event Pick)) → RepliesTo net pages events [] (Some OutOfMemory)
none_run net pages events = record {
  history = [];
  last = start (new_store_sizes net pages) net 0 0;
  lives = record { turns = []; rest = events; events_are = refl; replies_are = refl; ends = NoMemory refl (λ e. refl) refl refl };
}

pub broken_off_unmade : (net : Net) (pages : ℕ) (events : List (Event Pick)) (old : Option (List ℕ)) (refusal : Refusal) → IsPassing refusal → IsBrokenOff net pages events old old (Code refusal)
broken_off_unmade net pages events old refusal h = ⊎_elim
    (λ memory. subst (λ (r : Refusal). IsBrokenOff net pages events old old (Code r)) (sym memory)
    (let none : IsBrokenOff net pages events old old (Code OutOfMemory) = record { replies = []; run = none_run net pages events; written = Appends-nil old } in none))
    (λ device. subst (λ (r : Refusal). IsBrokenOff net pages events old old (Code r)) (sym device)
    (let none : IsBrokenOff net pages events old old (Code Device) = inl refl in none))
    h

-- ---- a run that ended early
pub broken_off_run : (net : Net) (pages : ℕ) (events : List (Event Pick)) (replies : List Replied) (old new : Option (List ℕ)) (refusal : Refusal) → IsPassing refusal → RepliesTo net pages events replies (Some refusal)
    → Appends old new (printed_replies replies) → IsBrokenOff net pages events old new (Code refusal)
broken_off_run net pages events replies old new refusal h run written =
    let whole : Rehearses net pages events (Some refusal) old new = record { replies = replies; run = run; written = written } in
    ⊎_elim
    (λ memory. subst (λ (r : Refusal). IsBrokenOff net pages events old new (Code r)) (sym memory)
    (let told : IsBrokenOff net pages events old new (Code OutOfMemory) = subst (λ (r : Refusal). Rehearses net pages events (Some r) old new) memory whole in told))
    (λ device. subst (λ (r : Refusal). IsBrokenOff net pages events old new (Code r)) (sym device)
    (let told : IsBrokenOff net pages events old new (Code Device) = inr (subst (λ (r : Refusal). Rehearses net pages events (Some r) old new) device whole) in told))
    h

pub broken_off_write : (net : Net) (pages : ℕ) (events : List (Event Pick)) (old new : Option (List ℕ)) (failed : Failed) → failed ≡ Code Write → IsBrokenOff net pages events old new failed
broken_off_write net pages events old new failed is = subst (IsBrokenOff net pages events old new) (sym is) tt

-- ---- the count of failures
pub write_no_device : (failed : Failed) (P : Type 0) → failed ≡ Code Write → IfDevice failed P
write_no_device failed P is = subst (λ (f : Failed). IfDevice f P) (sym is) tt

one_more_from : (n m : ℕ) → n ≤ m → Rose n (one_more m)
one_more_from n m le = ⊎_elim
    (λ less. let is : nat_lt m (2 ^ 64 - 1) ≡ true = lt-ltb m (2 ^ 64 - 1) less in rw is (inl (omega (arith, le))))
    (λ past. let is : nat_lt m (2 ^ 64 - 1) ≡ false = le-ltb m (2 ^ 64 - 1) past in rw is (at_most past))
    (cases_lt m (2 ^ 64 - 1))
  where
    at_most : 2 ^ 64 - 1 ≤ m → Rose n m
    at_most past = ⊎_elim (λ below. inl (omega (arith, below, past))) (λ above. inr (le, above)) (cases_lt n (2 ^ 64 - 1))

more_le : (n : ℕ) → n ≤ one_more n
more_le n = ⊎_elim
    (λ less. let is : nat_lt n (2 ^ 64 - 1) ≡ true = lt-ltb n (2 ^ 64 - 1) less in rw is (omega arith))
    (λ past. let is : nat_lt n (2 ^ 64 - 1) ≡ false = le-ltb n (2 ^ 64 - 1) past in rw is (omega arith))
    (cases_lt n (2 ^ 64 - 1))

with_le : (refusal : Refusal) (n : ℕ) → n ≤ failures_with refusal n
with_le Device n = more_le n
with_le _ n = omega arith

by_le : (reply : Replied) (n : ℕ) → n ≤ failures_by reply n
by_le (Refused refusal) n = with_le refusal n
by_le _ n = omega arith

write_le : (replies : List Replied) (n : ℕ) → n ≤ failures_of_write replies n
write_le [] n = omega arith
write_le (reply ∷ replies) n = by_le reply n

stop_le : (replies : List Replied) (n : ℕ) → n ≤ failures_of_stop replies n
stop_le [] n = omega arith
stop_le (reply ∷ []) n = more_le n
stop_le (reply ∷ last ∷ more) n = by_le reply n

after_le : (event : Event Pick) (replies : List Replied) (n : ℕ) → n ≤ failures_after_event event replies n
after_le Flush replies n = write_le replies n
after_le Checkpoint replies n = write_le replies n
after_le (CheckpointStep pages) replies n = write_le replies n
after_le (StopWithin call picks writing) replies n = stop_le replies n
after_le _ replies n = omega arith

in_le : (turns : List (Turn Pick)) (n : ℕ) → n ≤ failures_in turns n
in_le [] n = omega arith
in_le (turn ∷ turns) n =
    let first = after_le turn.0 turn.1 n in
    let rest = in_le turns (failures_after_event turn.0 turn.1 n) in
    omega (arith, first, rest)

pub unmade_rose : (refusal : Refusal) (old new : ℕ) → new ≡ failures_with refusal old → IfDevice (Code refusal) (Rose old new)
unmade_rose Device old new is = subst (Rose old) (sym is) (one_more_from old old (omega arith))
unmade_rose _ old new is = tt

pub ended_rose : (events : List (Event Pick)) (replies : List Replied) (refusal : Refusal) (old new : ℕ) → EndsAsTold events replies (Some refusal) old new → IfDevice (Code refusal) (Rose old new)
ended_rose events replies Device old new told = subst (Rose old) (sym told.counted) (one_more_from old (failures_in told.turns old) (in_le told.turns old))
ended_rose events replies _ old new told = tt

-- a run that ended early counts no failed write
pub passing_counts : (X : Type 0) (refusal : Refusal) (old new : ℕ) → IsPassing refusal → new ≡ old → CountsWrites {X = X} old new (Err (Code refusal))
passing_counts X refusal old new h same = ⊎_elim
    (λ memory. subst (λ (r : Refusal). CountsWrites {X = X} old new (Err (Code r))) (sym memory) (let none : CountsWrites {X = X} old new (Err (Code OutOfMemory)) = same in none))
    (λ device. subst (λ (r : Refusal). CountsWrites {X = X} old new (Err (Code r))) (sym device) (let none : CountsWrites {X = X} old new (Err (Code Device)) = same in none))
    h

pub ended_counts : (X : Type 0) (ended : Option Refusal) (refusal : Refusal) (old new : ℕ) → ended ≡ Some refusal → IfSome ended IsPassing → new ≡ old → CountsWrites {X = X} old new (Err (Code refusal))
ended_counts X ended refusal old new is passing same =
    let here : IfSome (Some refusal) IsPassing = subst (λ (o : Option Refusal). IfSome o IsPassing) is passing in
    passing_counts X refusal old new here same

pub ended_rose_with : (events : List (Event Pick)) (replies : List Replied) (ended : Option Refusal) (refusal : Refusal) (old new : ℕ) → ended ≡ Some refusal → EndsAsTold events replies ended old new → IfDevice (Code refusal) (Rose old new)
ended_rose_with events replies ended refusal old new is told = ended_rose events replies refusal old new (subst (λ (o : Option Refusal). EndsAsTold events replies o old new) is told)
