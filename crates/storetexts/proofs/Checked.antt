-- A store that is only looked at: its lines, or why there are none.
use Rattle.std.proofs.Common.{◌≡◌, ℕ, List, Option, Result, Ok, Err, false, true, refl, sym, subst}
use Rattle.std.specs.Prelude.{OnOk, IfErr}
use Rattle.std.specs.Io.KnownBytes.{Appends}
use Rattle.roadnet.specs.declared.refusals.Refusal.{Refusal}
use Rattle.roadnet.specs.declared.refusals.Refusal.TheVariants.{OutOfMemory, Write}
use Rattle.roadnet.specs.Net.{Net}
use Rattle.printing.specs.Counting.{CountsFailure}
use Rattle.printing.specs.Failing.{CountsWrites, LeavesUnwritten}
use Rattle.printing.specs.declared.failed.Failed.{Failed}
use Rattle.printing.specs.declared.failed.Failed.TheVariants.{Code}
use Rattle.store.specs.declared.stores.standing.Standing.{Standing}
use Rattle.store.specs.Inspecting.{HasStanding}
use Rattle.storetexts.specs.Asked.{IsStoreUnopened}
use Rattle.storetexts.specs.Checked.{standing_lines, IsChecked, IsRefusedCheck}
use Rattle.storetexts.specs.Refused.{IfNoMemory, CountsDevice}

pub unopened : (Honest : Type 0) (file : List ℕ) (refusal : Refusal) → IsStoreUnopened Honest file refusal → IsRefusedCheck Honest file (Code refusal)
unopened Honest file Write may = absurd (let never : false ≡ true = may.0 in cc)
unopened Honest file _ may = may

pub memory_told : (refusal : Refusal) (P : Type 0) → (refusal ≡ OutOfMemory → P) → IfNoMemory (Code refusal) P
memory_told OutOfMemory P told = told refl
memory_told _ P told = tt

pub told_so : (r : Result (Unit {0}) Failed) (Honest : Type 0) (file : List ℕ) (version : ℕ) (told : Standing) (old new : Option (List ℕ)) → (Honest → (net : Net) × HasStanding file net version told)
    → OnOk r (Appends old new (standing_lines version told)) → OnOk r (IsChecked Honest file old new)
told_so (Ok done) Honest file version told old new stands written = record { version = version; told = told; stands = stands; written = written }
told_so (Err failed) Honest file version told old new stands written = tt

-- ---- a failed write is refused as such, and nothing else

by_write : (P : Failed → Type 0) (r : Result (Unit {0}) Failed) → P (Code Write) → IfErr r (λ failed. failed ≡ Code Write) → IfErr r P
by_write P (Ok done) p is = tt
by_write P (Err failed) p is = subst P (sym is) p

pub write_refused : (r : Result (Unit {0}) Failed) (Honest : Type 0) (file : List ℕ) (version : ℕ) (told : Standing) → (Honest → (net : Net) × HasStanding file net version told)
    → IfErr r (λ failed. failed ≡ Code Write) → IfErr r (IsRefusedCheck Honest file)
write_refused r Honest file version told stands is = by_write (IsRefusedCheck Honest file) r (version, told, stands) is

pub write_memory : (r : Result (Unit {0}) Failed) (P : Type 0) → IfErr r (λ failed. failed ≡ Code Write) → IfErr r (λ failed. IfNoMemory failed P)
write_memory r P is = by_write (λ (failed : Failed). IfNoMemory failed P) r tt is

pub write_unwritten : {W : Type 0} (r : Result (Unit {0}) Failed) (old new : W) → IfErr r (λ failed. failed ≡ Code Write) → IfErr r (LeavesUnwritten old new)
write_unwritten r old new is = by_write (LeavesUnwritten old new) r tt is

pub write_counts : (r : Result (Unit {0}) Failed) (old new : ℕ) → IfErr r (λ failed. failed ≡ Code Write) → CountsFailure old new r → CountsWrites old new r
write_counts (Ok done) old new is counts = counts
write_counts (Err failed) old new is counts = subst (λ (f : Failed). CountsWrites {X = Unit {0}} old new (Err f)) (sym is) counts

-- writing makes no call of the disk
pub write_device : (r : Result (Unit {0}) Failed) (old new : ℕ) → IfErr r (λ failed. failed ≡ Code Write) → new ≡ old → CountsDevice old new r
write_device (Ok done) old new is same = same
write_device (Err failed) old new is same = subst (λ (f : Failed). CountsDevice {X = Unit {0}} old new (Err f)) (sym is) tt
