-- Reads and writes that are made again leave what is known of syncs.
use Rattle.std.proofs.Common.{◌≡◌, ◌∙◌, ℕ, zero, suc, List, ◌++◌, replicate, refl, ap}
use Rattle.std.specs.declared.io.ErrorKind.TheVariants.{Interrupted}
use Rattle.filedisk.specs.Noted.{Read, Write, Outcome, Failed, NotedCall, Makes, has_failed_sync, has_synced_length}

read_tries : (at count tries : ℕ) (old : List NotedCall) → has_failed_sync (replicate tries (Read at count, Failed Interrupted) ++ old) ≡ has_failed_sync old
read_tries at count zero old = refl
read_tries at count (suc tries) old = read_tries at count tries old

read_lengths : (at count tries : ℕ) (old : List NotedCall) → has_synced_length (replicate tries (Read at count, Failed Interrupted) ++ old) ≡ has_synced_length old
read_lengths at count zero old = refl
read_lengths at count (suc tries) old = read_lengths at count tries old

write_tries : (at : ℕ) (bytes : List ℕ) (tries : ℕ) (old : List NotedCall) → has_failed_sync (replicate tries (Write at bytes, Failed Interrupted) ++ old) ≡ has_failed_sync old
write_tries at bytes zero old = refl
write_tries at bytes (suc tries) old = write_tries at bytes tries old

write_lengths : (at : ℕ) (bytes : List ℕ) (tries : ℕ) (old : List NotedCall) → has_synced_length (replicate tries (Write at bytes, Failed Interrupted) ++ old) ≡ has_synced_length old
write_lengths at bytes zero old = refl
write_lengths at bytes (suc tries) old = write_lengths at bytes tries old

pub read_keeps_failed : (at count : ℕ) (outcome : Outcome) (old new : List NotedCall) → Makes (Read at count) outcome old new → has_failed_sync new ≡ has_failed_sync old
read_keeps_failed at count outcome old new makes = ap has_failed_sync makes.made ∙ read_tries at count makes.tries old

pub read_keeps_synced : (at count : ℕ) (outcome : Outcome) (old new : List NotedCall) → Makes (Read at count) outcome old new → has_synced_length new ≡ has_synced_length old
read_keeps_synced at count outcome old new makes = ap has_synced_length makes.made ∙ read_lengths at count makes.tries old

pub write_keeps_failed : (at : ℕ) (bytes : List ℕ) (outcome : Outcome) (old new : List NotedCall) → Makes (Write at bytes) outcome old new → has_failed_sync new ≡ has_failed_sync old
write_keeps_failed at bytes outcome old new makes = ap has_failed_sync makes.made ∙ write_tries at bytes makes.tries old

pub write_keeps_synced : (at : ℕ) (bytes : List ℕ) (outcome : Outcome) (old new : List NotedCall) → Makes (Write at bytes) outcome old new → has_synced_length new ≡ has_synced_length old
write_keeps_synced at bytes outcome old new makes = ap has_synced_length makes.made ∙ write_lengths at bytes makes.tries old
