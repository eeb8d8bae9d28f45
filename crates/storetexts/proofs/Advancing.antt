-- A call that takes groups, or tells of them, and one after another.
use Rattle.std.proofs.Common.{◌≡◌, ◌∙◌, ⊎_elim, ℕ, ◌≤◌, false, List, length, Result, Ok, Err, refl, sym, ap, subst, arith}
use Rattle.std.specs.Prelude.{IfErr, MatchResult, vec_capacity}
use Rattle.roadnet.specs.declared.refusals.Refusal.{Refusal}
use Rattle.roadnet.specs.declared.refusals.Refusal.TheVariants.{Write, OutOfMemory, Device}
use Rattle.disk.specs.declared.disk.Disk.{Ghosts}
use Rattle.keeper.specs.Keeping.{LedgerState}
use Rattle.machine.specs.Machine.{pending}
use Rattle.dimacs.specs.Counts.{one_more_failed}
use Rattle.printing.specs.Counting.{failed_writes, IsSameWriter}
use Rattle.printing.specs.Failing.{CountsWrites}
use Rattle.printing.specs.declared.writer.CountedWriter.{CountedWriter}
use Rattle.printing.specs.declared.failed.Failed.{Failed}
use Rattle.printing.specs.declared.failed.Failed.TheVariants.{Code}
use Rattle.store.specs.Opening.{IsPassing}
use Rattle.storetexts.specs.declared.applying.Applying.{Applying}
use Rattle.storetexts.specs.declared.outcomes.Outcome.{Outcome}
use Rattle.storetexts.specs.Outcomes.{IsUnsettledAt}
use Rattle.storetexts.specs.Applied.{IfNotWrite}
use Rattle.storetexts.specs.Applying.{IsSteady, IsCutOffBy, LeavesLedger, Goes, Saves, Advances}
use Rattle.storetexts.proofs.Meanwhile.{goes_both, counts_from, counts_code}

-- the ledger stays, and so do the outcomes
goes_told : {D : Type 0} (disk : Ghosts D) (old mid new : Applying D) → new.ledger ≡ mid.ledger → new.outcomes ≡ mid.outcomes → Goes disk old mid → Goes disk old new
goes_told disk old mid new same outcomes a = record {
  steady = subst (λ (k : LedgerState _). IsSteady k.machine) (sym same) a.steady;
  leaves = subst (λ (k : LedgerState _). LeavesLedger disk old.ledger k) (sym same) a.leaves;
  given = ap (λ (k : LedgerState _). k.given) same ∙ a.given;
  honest = (
    λ now. a.honest.0 (subst (λ (k : LedgerState _). disk.honest k.disk) same now),
    λ was. subst (λ (k : LedgerState _). disk.honest k.disk) (sym same) (a.honest.1 was),
  );
  room = ap vec_capacity outcomes ∙ a.room;
}

-- want of memory, or a failure of the disk, is no failed write
no_write : IsPassing Write → ⊥
no_write h = ⊎_elim (λ (e : ◌≡◌ {A = Refusal} Write OutOfMemory). absurd cc) (λ (e : ◌≡◌ {A = Refusal} Write Device). absurd cc) h

not_written : (refusal : Refusal) (P : Type 0) → IsPassing refusal → P → IfNotWrite (Code refusal) P
not_written Write P passing p = tt
not_written _ P passing p = p

cut_off_by : (refusal : Refusal) → IsPassing refusal → IsCutOffBy (Code refusal)
cut_off_by Write passing = tt
cut_off_by _ passing = passing

none_written : (refusal : Refusal) (old new : ℕ) → IsPassing refusal → new ≡ old → CountsWrites {X = Unit {0}} old new (Err (Code refusal))
none_written Write old new passing same = absurd (no_write passing)
none_written _ old new passing same = same

still_to : {D : Type 0} (mid new : Applying D) → new.outcomes ≡ mid.outcomes → new.told ≤ length mid.outcomes.items → new.told ≤ length new.outcomes.items
still_to mid new outcomes to = subst (λ (n : ℕ). new.told ≤ n) (sym (ap (λ v. length v.items) outcomes)) to

module _ {D W : Type 0} (disk : Ghosts D) where
  -- the writer failed, behind a call that writes
  pub advances_unwritten : {T : Type 0} (old mid new : Applying D) (before after : CountedWriter W) (r : Result T Refusal) (failed : Failed) → Saves disk r old mid → new.ledger ≡ mid.ledger → new.outcomes ≡ mid.outcomes
      → pending old.ledger.machine ≤ 505 → new.told ≤ length mid.outcomes.items → failed ≡ Code Write → failed_writes after ≡ one_more_failed (failed_writes before) → IsSameWriter before after
      → Advances disk (Err failed) old new before after
  advances_unwritten old mid new before after r failed saves same outcomes few told_to is counts writer =
      let fewer = saves.no_more in
      let here : Advances disk (Err (Code Write)) old new before after = record {
        goes = goes_told disk old mid new same outcomes saves.goes;
        calm = tt;
        waiting = subst (λ (k : LedgerState D). pending k.machine ≤ 505) (sym same) (omega (arith, fewer, few));
        told_to = still_to mid new outcomes told_to;
        next = tt;
        refused = tt;
        counted = tt;
        writer = record { writes = counts; same = writer };
      } in
      subst (λ (f : Failed). Advances disk (Err f) old new before after) (sym is) here

  -- nothing failed behind it
  pub advances_saved : (old mid new : Applying D) (before after : CountedWriter W) (r : Result (Unit {0}) Refusal) (told : Result (Unit {0}) Failed) → Saves disk r old mid → new.ledger ≡ mid.ledger → new.outcomes ≡ mid.outcomes
      → pending old.ledger.machine ≤ 505 → new.told ≤ length mid.outcomes.items → IsUnsettledAt mid.ledger.machine.durable mid.outcomes.items new.told → IfErr r IsPassing → failed_writes after ≡ failed_writes before → IsSameWriter before after
      → MatchResult r (λ x. told ≡ Ok x) (λ refusal. told ≡ Err (Code refusal)) → Advances disk told old new before after
  advances_saved old mid new before after r told saves same outcomes few told_to next refused counts writer is = go r told saves refused is
    where
      go : (r : Result (Unit {0}) Refusal) (told : Result (Unit {0}) Failed) → Saves disk r old mid → IfErr r IsPassing → MatchResult r (λ x. told ≡ Ok x) (λ refusal. told ≡ Err (Code refusal)) → Advances disk told old new before after
      go (Ok x) told saves refused is =
          let fewer = saves.no_more in
          let here : Advances disk (Ok x) old new before after = record {
            goes = goes_told disk old mid new same outcomes saves.goes;
            calm = subst (λ (k : LedgerState D). k.machine.broken ≡ false) (sym same) saves.calm;
            waiting = subst (λ (k : LedgerState D). pending k.machine ≤ 505) (sym same) (omega (arith, fewer, few));
            told_to = still_to mid new outcomes told_to;
            next = tt;
            refused = tt;
            counted = ap (λ (k : LedgerState D). disk.failures k.disk) same ∙ saves.counted;
            writer = record { writes = counts; same = writer };
          } in
          subst (λ (t : Result (Unit {0}) Failed). Advances disk t old new before after) (sym is) here
      go (Err refusal) told saves refused is =
          let fewer = saves.no_more in
          let here : Advances disk (Err (Code refusal)) old new before after = record {
            goes = goes_told disk old mid new same outcomes saves.goes;
            calm = tt;
            waiting = subst (λ (k : LedgerState D). pending k.machine ≤ 505) (sym same) (omega (arith, fewer, few));
            told_to = still_to mid new outcomes told_to;
            next = not_written refusal (IsUnsettledAt new.ledger.machine.durable new.outcomes.items new.told) refused
                (subst (λ (k : LedgerState D). IsUnsettledAt k.machine.durable new.outcomes.items new.told) (sym same)
                (subst (λ (o : List Outcome). IsUnsettledAt mid.ledger.machine.durable o new.told) (sym (ap (λ v. v.items) outcomes)) next));
            refused = cut_off_by refusal refused;
            counted = counts_code (Unit {0}) refusal _ _ (ap (λ (k : LedgerState D). disk.failures k.disk) same ∙ saves.counted);
            writer = record { writes = none_written refusal _ _ refused counts; same = writer };
          } in
          subst (λ (t : Result (Unit {0}) Failed). Advances disk t old new before after) (sym is) here

  -- no call of disk or writer
  pub advances_none : (old new : Applying D) (out : CountedWriter W) → Goes disk old new → new.ledger.machine.broken ≡ false → pending new.ledger.machine ≤ 505 → new.told ≤ length new.outcomes.items
      → new.ledger.disk ≡ old.ledger.disk → Advances disk (Ok tt) old new out out
  advances_none old new out goes calm waiting told_to same = record {
    goes = goes;
    calm = calm;
    waiting = waiting;
    told_to = told_to;
    next = tt;
    refused = tt;
    counted = ap disk.failures same;
    writer = record { writes = refl; same = refl };
  }

  pub advances_both : (old mid new : Applying D) (before between after : CountedWriter W) (r : Result (Unit {0}) Failed)
      → Advances disk (Ok tt) old mid before between → Advances disk r mid new between after → Advances disk r old new before after
  advances_both old mid new before between after r a b = record {
    goes = goes_both disk old mid new a.goes b.goes;
    calm = b.calm;
    waiting = b.waiting;
    told_to = b.told_to;
    next = b.next;
    refused = b.refused;
    counted = counts_from r _ _ _ a.counted b.counted;
    writer = record {
      writes = subst (λ (n : ℕ). CountsWrites n (failed_writes after) r) a.writer.writes b.writer.writes;
      same = b.writer.same ∙ a.writer.same;
    };
  }
