-- A store made of another one, and why there is none.
use Rattle.std.proofs.Common.{◌≡◌, ◌≢◌, ℕ, List, [], length, Option, Result, Ok, Err, refl, sym, ap, subst}
use Rattle.std.specs.Prelude.{◌↔◌, OnOk, OnErr, IfOk, IfErr, MatchResult}
use Rattle.std.specs.Io.KnownBytes.{Appends}
use lib.Chars.{codes}
use Rattle.roadnet.specs.declared.refusals.Refusal.{Refusal}
use Rattle.roadnet.specs.declared.refusals.Refusal.TheVariants.{Device, Write}
use Rattle.disk.specs.Contents.{Only}
use Rattle.pages.specs.declared.content.Format.{Format}
use Rattle.storefile.specs.StoreFile.{StandsTidyFor}
use Rattle.store.specs.Created.{IsNewFile}
use Rattle.store.specs.Migrating.{CountsCopy, IsCopyIn, MayEndCopying, IsRefusedForNew as refused_for_new, IsRefusedForOld as refused_for_old}
use Rattle.store.specs.State.{StoreState, checkpoint_pages_of}
use Rattle.printing.specs.Counting.{failed_writes, writer_of}
use Rattle.printing.specs.Failing.{CountsWrites, LeavesUnwritten}
use Rattle.printing.specs.Replied.{number_line}
use Rattle.printing.specs.declared.failed.Failed.{Failed}
use Rattle.printing.specs.declared.failed.Failed.TheVariants.{Code}
use Rattle.printing.specs.declared.writer.CountedWriter.{CountedWriter}
use Rattle.storetexts.specs.Moved.{CountsMove, HasVersionIn, IsMoved, IsOfMove, IsMoveRefusedForNew, IsMoveRefusedForOld, TellsMoved}
use Rattle.storetexts.specs.Refused.{IfDone, IfNoDevice}
use Rattle.storetexts.proofs.Made.{done_any}

-- ---- a refusal with which a copy may end is no write that failed

nothing_done : (refusal : Refusal) (P : Type 0) → MayEndCopying refusal → IfDone (Err (Code refusal)) P
nothing_done Write P ends = absurd cc
nothing_done _ P ends = tt

new_so : (new : List ℕ) (refusal : Refusal) → MayEndCopying refusal → refused_for_new new refusal → IsMoveRefusedForNew new (Code refusal)
new_so new Write ends may = absurd cc
new_so new _ ends may = may

old_so : (format : Format) (old : List ℕ) (room : Option ℕ) (refusal : Refusal) → MayEndCopying refusal → refused_for_old format old room refusal → IsMoveRefusedForOld format old room (Code refusal)
old_so format old room Write ends may = absurd cc
old_so format old room _ ends may = may

of_move : (refusal : Refusal) → MayEndCopying refusal → IsOfMove (Code refusal)
of_move Write ends = tt
of_move _ ends = ends

no_device : (refusal : Refusal) (P : Type 0) → (refusal ≢ Device → P) → IfNoDevice (Code refusal) P
no_device Write P same = tt
no_device Device P same = tt
no_device _ P same = same (λ e. cc)

pub still_unwritten : {W : Type 0} (refusal : Refusal) (old new : W) → new ≡ old → LeavesUnwritten old new (Code refusal)
still_unwritten Write old new same = tt
still_unwritten _ old new same = same

counts_same : {W : Type 0} (refusal : Refusal) (old new : CountedWriter W) → new ≡ old → MayEndCopying refusal → CountsWrites {X = Unit {0}} (failed_writes old) (failed_writes new) (Err (Code refusal))
counts_same Write old new same ends = absurd cc
counts_same _ old new same ends = ap failed_writes same

-- ---- where the writer failed

version_told : (format : Format) (old : List ℕ) (r : Result (Unit {0}) Failed) (Honest : Type 0) (version : ℕ) (before after : Option (List ℕ)) → (Honest → HasVersionIn format old version)
    → OnOk r (Appends before after (number_line (codes "ok ") version)) → OnOk r (TellsMoved format Honest old before after)
version_told format old (Ok done) Honest version before after of_old written = record { version = version; of_old = of_old; written = written }
version_told format old (Err failed) Honest version before after of_old written = tt

only_written : (r : Result (Unit {0}) Failed) (P : Failed → Type 0) → P (Code Write) → IfErr r (λ failed. failed ≡ Code Write) → IfErr r P
only_written (Ok done) P h is = tt
only_written (Err failed) P h is = subst P (sym is) h

-- ---- what was made, and what is told of it

version_of : (format : Format) (old : List ℕ) (room journal : Option ℕ) {D : Type 0} (store : StoreState D) → IsCopyIn format old store.network store.version store.journal_pages room journal → HasVersionIn format old store.version
version_of format old room journal store is = (is.before, is.next, (is.stored, is.stands, is.format_is))

-- a store, or why there is none, with the disk that is handed back
abbrev Made : Type 0 → Type 0
Made D = Result (StoreState D) (Refusal × D)

-- which disk is handed back
abbrev IsDiskOf : {D : Type 0} → Made D → D → Type 0
IsDiskOf made disk = MatchResult made (λ store. disk ≡ store.disk) (λ refused. disk ≡ refused.1)

-- a refusal is told as it is
abbrev IsToldOf : {D : Type 0} → Made D → Result (Unit {0}) Failed → Type 0
IsToldOf made r = IfErr made (λ refused. r ≡ Err (Code refused.0))

module _ {D : Type 0} where
  pub all_moved : (made : Made D) (r : Result (Unit {0}) Failed) (disk : D) (content : D → List ℕ) (left : D → List ℕ → Type 0) (format : Format) (old : List ℕ) (room journal : Option ℕ)
      → IfOk made (λ store. IsCopyIn format old store.network store.version store.journal_pages room journal) → IfOk made (λ store. store.checkpoint_pages ≡ checkpoint_pages_of (length store.network.arcs) store.network)
      → IfOk made (λ store. StandsTidyFor store.journal_pages store.checkpoint_pages (content store.disk) store.network store.version) → IfOk made (λ store. Only (content store.disk) (left store.disk))
      → IfOk made (λ store. IsNewFile store.journal_pages store.network store.version (content store.disk))
      → IfErr made (λ refused. MayEndCopying refused.0) → IsDiskOf made disk → IsToldOf made r → IfDone r (IsMoved format old room journal (content disk) (left disk))
  all_moved (Ok store) r disk content left format old room journal copied pages stands only begins ends there told =
      let moved : IsMoved format old room journal (content store.disk) (left store.disk) = record {
        net = store.network;
        version = store.version;
        journal_pages = store.journal_pages;
        copied = copied;
        stands = subst (λ (n : ℕ). StandsTidyFor store.journal_pages n (content store.disk) store.network store.version) pages stands;
        made = begins;
        only = only;
      } in
      done_any r (IsMoved format old room journal (content disk) (left disk)) (subst (λ (d : D). IsMoved format old room journal (content d) (left d)) (sym there) moved)
  all_moved (Err refused) r disk content left format old room journal copied pages stands only begins ends there told = rw told (nothing_done refused.0 (IsMoved format old room journal (content disk) (left disk)) ends)

  pub all_told : (made : Made D) (r : Result (Unit {0}) Failed) (Honest : Type 0) (format : Format) (old : List ℕ) (room journal : Option ℕ) (before after : Option (List ℕ))
      → (Honest → IfOk made (λ store. IsCopyIn format old store.network store.version store.journal_pages room journal)) → IfOk made (λ store. OnOk r (Appends before after (number_line (codes "ok ") store.version)))
      → IsToldOf made r → OnOk r (TellsMoved format Honest old before after)
  all_told (Ok store) r Honest format old room journal before after copied written told = version_told format old r Honest store.version before after (λ h. version_of format old room journal store (copied h)) written
  all_told (Err refused) r Honest format old room journal before after copied written told = rw told tt

  pub all_for_new : (made : Made D) (r : Result (Unit {0}) Failed) (new : List ℕ) → OnOk made (new ≡ []) → IfErr made (λ refused. refused_for_new new refused.0) → IfErr made (λ refused. MayEndCopying refused.0)
      → OnOk made (IfErr r (λ failed. failed ≡ Code Write)) → IsToldOf made r → IfErr r (IsMoveRefusedForNew new)
  all_for_new (Ok store) r new empty may ends failed told = only_written r (IsMoveRefusedForNew new) empty failed
  all_for_new (Err refused) r new empty may ends failed told = rw told (new_so new refused.0 ends may)

  pub all_for_old : (made : Made D) (r : Result (Unit {0}) Failed) (format : Format) (old : List ℕ) (room journal : Option ℕ) → IfOk made (λ store. IsCopyIn format old store.network store.version store.journal_pages room journal)
      → IfErr made (λ refused. refused_for_old format old room refused.0) → IfErr made (λ refused. MayEndCopying refused.0) → OnOk made (IfErr r (λ failed. failed ≡ Code Write)) → IsToldOf made r
      → IfErr r (IsMoveRefusedForOld format old room)
  all_for_old (Ok store) r format old room journal copied may ends failed told = only_written r (IsMoveRefusedForOld format old room) (store.version, version_of format old room journal store copied) failed
  all_for_old (Err refused) r format old room journal copied may ends failed told = rw told (old_so format old room refused.0 ends may)

  pub all_of_move : (made : Made D) (r : Result (Unit {0}) Failed) → IfErr made (λ refused. MayEndCopying refused.0) → OnOk made (IfErr r (λ failed. failed ≡ Code Write)) → IsToldOf made r → IfErr r IsOfMove
  all_of_move (Ok store) r ends failed told = only_written r IsOfMove tt failed
  all_of_move (Err refused) r ends failed told = rw told (of_move refused.0 ends)

  pub all_empty : (made : Made D) (r : Result (Unit {0}) Failed) (P : Type 0) → OnOk made P → IfErr made (λ refused. MayEndCopying refused.0) → IsToldOf made r → IfDone r P
  all_empty (Ok store) r P empty ends told = done_any r P empty
  all_empty (Err refused) r P empty ends told = rw told (nothing_done refused.0 P ends)

  pub all_failures : {O : Type 0} (made : Made D) (r : Result (Unit {0}) Failed) (disk : D) (of_old : O → ℕ) (of_new : D → ℕ) (old old' : O) (new : D) → CountsCopy of_old of_new old old' new made
      → OnOk made (IfErr r (λ failed. failed ≡ Code Write)) → IsDiskOf made disk → IsToldOf made r → CountsMove (of_old old) (of_old old') (of_new new) (of_new disk) r
  all_failures (Ok store) (Ok done) disk of_old of_new old old' new counts failed there told = rw there counts
  all_failures (Ok store) (Err why) disk of_old of_new old old' new counts failed there told = rw (failed, there) counts
  all_failures (Err refused) r disk of_old of_new old old' new counts failed there told = rw (told, there) counts

  pub all_same : (made : Made D) (r : Result (Unit {0}) Failed) (disk : D) (Same : D → Type 0) → IfErr made (λ refused. refused.0 ≢ Device → Same refused.1) → OnOk made (IfErr r (λ failed. failed ≡ Code Write))
      → IsDiskOf made disk → IsToldOf made r → IfErr r (λ failed. IfNoDevice failed (Same disk))
  all_same (Ok store) r disk Same same failed there told = only_written r (λ failed. IfNoDevice failed (Same disk)) tt failed
  all_same (Err refused) r disk Same same failed there told = rw told (no_device refused.0 (Same disk) (λ h. subst Same (sym there) (same h)))

  pub all_unwritten : {W : Type 0} (made : Made D) (r : Result (Unit {0}) Failed) (old new : CountedWriter W) → OnOk made (IfErr r (λ failed. failed ≡ Code Write)) → OnErr made (new ≡ old) → IsToldOf made r
      → IfErr r (LeavesUnwritten (writer_of old) (writer_of new))
  all_unwritten (Ok store) r old new failed same told = only_written r (LeavesUnwritten (writer_of old) (writer_of new)) tt failed
  all_unwritten (Err refused) r old new failed same told = rw told (still_unwritten refused.0 (writer_of old) (writer_of new) (rw same refl))

  pub all_counted : {W : Type 0} (made : Made D) (r : Result (Unit {0}) Failed) (old new : CountedWriter W) → OnOk made (CountsWrites (failed_writes old) (failed_writes new) r) → OnErr made (new ≡ old)
      → IfErr made (λ refused. MayEndCopying refused.0) → IsToldOf made r → CountsWrites (failed_writes old) (failed_writes new) r
  all_counted (Ok store) r old new counts same ends told = counts
  all_counted (Err refused) r old new counts same ends told = rw told (counts_same refused.0 old new same ends)

  pub all_honest : (made : Made D) (disk : D) (Honest : D → Type 0) (given : D) → (IfOk made (λ store. Honest store.disk ↔ Honest given)) × (IfErr made (λ refused. Honest refused.1 ↔ Honest given))
      → IsDiskOf made disk → Honest disk ↔ Honest given
  all_honest (Ok store) disk Honest given same there = rw there same.0
  all_honest (Err refused) disk Honest given same there = rw there same.1
