use Rattle.std.proofs.Common.{◌≡◌, [], ◌∷◌, ◌++◌, ◌||◌, true, List, ap, sym, ◌∙◌, get_or, rules}
use Rattle.disk.specs.declared.mem_disk.Recorded.{Recorded}
use Rattle.disk.specs.declared.mem_disk.Recorded.TheVariants.{Wrote, Synced}
use Rattle.disk.specs.declared.mem_disk.Write.{Write}
use Rattle.disk.specs.Record.{is_in, is_written, before_writes, unsynced}
use Rattle.disk.proofs.Places.{synced_byte_more, written_more, none_after_sync, none_left, or_none, or_first, or_second}
use Rattle.disk.proofs.mem_disk.synced_byte.Goals as goal
use Rattle.disk.proofs.mem_disk.synced_byte.Goals.{then-is_written, else-is_written}

pub loop-last-preserved : goal.loop-last-preserved
loop-last-preserved c =
    let place = c.args.place in
    let earlier = c.in-Some.earlier.now in
    let last = c.in-Wrote.write in
    let left = c.loop-last.left.now in
    let is : left ≡ earlier ++ Wrote last ∷ [] = search rules in
    let more = written_more earlier left last place is in
    let written : (c.loop-last.is_written || is_written (unsynced left) place) ≡ (c.if-is_written.is_written || is_written (unsynced earlier) place) =
    elim c.if-is_written.branch as (λ _. (c.loop-last.is_written || is_written (unsynced left) place) ≡ (c.if-is_written.is_written || is_written (unsynced earlier) place)) [
      | then-is_written w ↦
          let now : c.if-is_written.is_written ≡ true = cc in
          or_first c.loop-last.is_written c.if-is_written.is_written (is_written (unsynced left) place) (is_written (unsynced earlier) place) w.if-is_written.true now
      | else-is_written w ↦
          let now : c.if-is_written.is_written ≡ is_in place last = cc in
          or_second c.loop-last.is_written c.if-is_written.is_written (is_in place last) (is_written (unsynced left) place) (is_written (unsynced earlier) place) w.if-is_written.false now more
    ] in
    record {
      written = c.loop-last.invariant.written ∙ written;
      byte = λ s known. c.loop-last.invariant.byte s (synced_byte_more earlier left last place c.loop-last.total_then c.loop-last.byte_then c.before-in-Some.result.0 c.before-in-Some.result.1 s is
          c.before-in-Some.ensures.total c.before-in-Some.ensures.byte known);
    }

pub returns-in_default-last-clause-written : goal.returns-in_default-last-clause-written
returns-in_default-last-clause-written c =
    let is : c.loop-last.left.now ≡ c.in-Some.earlier.now ++ Synced ∷ [] = search rules in
    let none = none_after_sync c.in-Some.earlier.now c.loop-last.left.now is in
    sym (c.loop-last.invariant.written ∙ ap (λ (ws : List Write). c.loop-last.is_written || is_written ws c.args.place) none ∙ or_none c.loop-last.is_written)

pub returns-in_default-last-clause-byte : goal.returns-in_default-last-clause-byte
returns-in_default-last-clause-byte c =
    let is : c.loop-last.left.now ≡ c.in-Some.earlier.now ++ Synced ∷ [] = search rules in
    let none = none_after_sync c.in-Some.earlier.now c.loop-last.left.now is in
    c.loop-last.invariant.byte c.loop-last.byte_then (λ now long here. ap (λ (ws : List Write). get_or (before_writes ws now) c.args.place 0) none ∙ here)

pub returns-clause-byte : goal.returns-clause-byte
returns-clause-byte c =
    let none = none_left c.loop-last.left.now c.in_default.ensures.cases in
    c.loop-last.invariant.byte c.loop-last.byte_then (λ now long here. ap (λ (cs : List Recorded). get_or (before_writes (unsynced cs) now) c.args.place 0) none ∙ here)
