-- What calls answered, as the machine has it.
use Rattle.std.specs.Prelude.{◌≡◌, ℕ, Option, None, Some, Result, Ok, Err, MatchResult}
use Rattle.std.specs.Result.{result_map_both}
use Rattle.roadnet.specs.declared.refusals.Refusal.{Refusal}
use Rattle.roadnet.specs.declared.refusals.Refusal.TheVariants.{OutOfMemory}
use Rattle.roadnet.specs.declared.groups.Group.{Group}
use Rattle.machine.specs.declared.calls.Ticket.{Ticket}
use Rattle.store.specs.declared.paged.parts.Part.{Part}
use Rattle.store.specs.declared.paged.parts.Part.TheVariants.{Going, Done}

-- the version that a checkpoint which is done holds
abbrev pub done_version : Part → Option ℕ
done_version Going = None
done_version (Done version) = Some version

-- what a step of a checkpoint answered, as the machine has it
abbrev pub told_step : Result Part Refusal → Result (Option ℕ) Refusal
told_step (Ok part) = Ok (done_version part)
told_step (Err refusal) = Err refusal

-- the ticket of a group that was accepted as this number
abbrev pub ticket_for : Group → Result ℕ Refusal → Result Ticket Refusal
ticket_for group = result_map_both (λ number. record { number = number; group = group }) (λ e. e)

-- the answer of a call, taken so
abbrev pub result_map : {T U E : Type 0} → (T → U) → Result T E → Result U E
result_map f = result_map_both f (λ e. e)

-- want of memory is a refusal
abbrev pub or_out_of_memory : {T E : Type 0} → Result T E → Result T Refusal
or_out_of_memory = result_map_both (λ x. x) (λ _. OutOfMemory)

-- a refusal, without what is handed back
abbrev pub refusal_alone : {T E : Type 0} → Result T (Refusal × E) → Result T Refusal
refusal_alone = result_map_both (λ x. x) (λ refused. refused.0)

-- the test refuses for this, or for nothing
abbrev pub IsRefusedFor : {T : Type 0} → Option Refusal → Result T Refusal → Type 0
IsRefusedFor why result = MatchResult result (λ _. why ≡ None) (λ refusal. why ≡ Some refusal)
