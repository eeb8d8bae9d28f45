-- What an event does in one life of a keeper, it does in the run over lives.
use Rattle.std.proofs.Common.{◌≡◌, ⊎_elim, inl, inr, ℕ, zero, suc, ◌+◌, ◌≤◌, false, List, [], ◌∷◌, length, Option, Some, None, Result, Ok, Err, sym, ◌∙◌, ap, subst, arith, length-append}
use Rattle.roadnet.specs.declared.groups.Group.{Group}
use Rattle.roadnet.specs.declared.refusals.Refusal.{Refusal}
use Rattle.roadnet.specs.Net.{Net}
use Rattle.roadnet.specs.Step.{after}
use Rattle.machine.specs.declared.calls.Ticket.{Ticket}
use Rattle.machine.specs.declared.calls.Answer.{Answer}
use Rattle.rows.specs.declared.queries.Query.{Query}
use Rattle.machine.specs.declared.events.Event.{Event}
use Rattle.machine.specs.declared.events.Event.TheVariants.{Submit, Flush, Checkpoint, CheckpointStep, Task, Publish, Ask, Stop, StopWithin}
use Rattle.machine.specs.declared.events.Writing.{Writing}
use Rattle.machine.specs.declared.events.Writing.TheVariants.{Flush as a_flush, Checkpoint as a_checkpoint, Step as a_step}
use Rattle.machine.specs.declared.events.Replied.{Replied}
use Rattle.machine.specs.Machine.{Machine, IsState}
use Rattle.machine.specs.Calls.{Submits, Flushes, StepsCheckpoint, TakesTask, Asks}
use Rattle.machine.specs.Runs.{Happened, Step}
use Rattle.machine.specs.Runs.Happened.{Submitted, Flushed, Checkpointed, TookTask, Published, Asked}
use Rattle.machine.specs.Laws.{IsLater}
use Rattle.machine.specs.Lives.{pages_of_step, EndsCheckpoint, GoesOn, Checkpoints, Writes, Does}
use Rattle.machine.specs.LifeInRun.{within}
use Rattle.machine.proofs.InRun.{life_steps}
use Rattle.machine.proofs.Kept.{states_kept}
use Rattle.machine.proofs.Later.{later_by_step, later_same, later_still}
use Rattle.lives.specs.Rehearsing.{is_stop}
use Rattle.lives.proofs.LifeKept.{accepted_by_part}

-- a state that comes later, and has accepted the same groups
pub record Later (old new : Machine) : Type 0 where
  pub state : IsState new
  pub later : IsLater old new

pub later_none : (m : Machine) → IsState m → Later m m
later_none m s = record { state = s; later = later_same m }

later_one : (old new : Machine) (h : Happened) → IsState old → Step old h new → Later old new
later_one old new h s step = record { state = states_kept old new h s step; later = later_by_step old new h s step }

later_both : (a b c : Machine) → Later a b → Later b c → Later a c
later_both a b c ab bc = record { state = bc.state; later = later_still a b c ab.later bc.later }

goes_later : (n : ℕ) (old new : Machine) → IsState old → GoesOn n old new → Later old new
goes_later zero old new s g = subst (λ (m : Machine). Later old m) (sym g) (record { state = s; later = later_same old })
goes_later (suc n) old new s g =
    let first = later_one old g.0 (Checkpointed pages_of_step (Ok None)) s g.1 in
    later_both old g.0 new first (goes_later n g.0 new first.state g.2)

ends_later : (result : Result ℕ Refusal) (old new : Machine) → IsState old → EndsCheckpoint old pages_of_step result new → Later old new
ends_later (Ok v) old new s e = later_one old new (Checkpointed pages_of_step (Ok (Some v))) s e
ends_later (Err r) old new s e = later_one old new (Checkpointed pages_of_step (Err r)) s e

checkpoints_later : (result : Result ℕ Refusal) (old new : Machine) → IsState old → Checkpoints old result new → Later old new
checkpoints_later result old new s c =
    let goes = goes_later c.0 old c.1 s c.2 in
    later_both old c.1 new goes (ends_later result c.1 new goes.state c.3)

pub writes_later : (w : Writing) (reply : Replied) (old new : Machine) → IsState old → Writes old w reply new → Later old new
writes_later a_flush reply old new s w = later_one old new (Flushed w.0) s w.1
writes_later a_checkpoint reply old new s w = checkpoints_later w.0 old new s w.1
writes_later (a_step pages) reply old new s w = later_one old new (Checkpointed pages.pages w.0) s w.1

pub does_later : {P : Type 0} (e : Event P) (old new : Machine) (replies : List Replied) → is_stop e ≡ false → IsState old → Does old e replies new → Later old new
does_later (Submit c) old new replies calm s d = later_one old new (Submitted c d.0) s d.1
does_later Flush old new replies calm s d = writes_later a_flush d.0 old new s d.1
does_later Checkpoint old new replies calm s d = writes_later a_checkpoint d.0 old new s d.1
does_later (CheckpointStep pages) old new replies calm s d = writes_later (a_step pages) d.0 old new s d.1
does_later Task old new replies calm s d = later_one old new (TookTask d.0) s d.1
does_later Publish old new replies calm s d =
    ⊎_elim (λ p. later_one old new (Published p.0 p.1 (Ok p.0)) s p.2) (λ n. subst (λ (m : Machine). Later old m) (sym n.1) (record { state = s; later = later_same old })) d
does_later (Ask query) old new replies calm s d = later_one old new (Asked query d.0) s d.1
does_later Stop old new replies calm s d = cc
does_later (StopWithin call picks writing) old new replies calm s d = cc

-- ---- within the run
module _ (base : Net) (version : ℕ) (before : List Group) where
  goes_in : (n : ℕ) (old new : Machine) → after base before ≡ Some old.base → old.base_version ≡ version + length before → IsState old → GoesOn n old new → GoesOn n (within base version before old) (within base version before new)
  goes_in zero old new there begun s g = ap (within base version before) g
  goes_in (suc n) old new there begun s g =
      let first = later_one old g.0 (Checkpointed pages_of_step (Ok None)) s g.1 in (
        within base version before g.0,
        life_steps base version before old g.0 (Checkpointed pages_of_step (Ok None)) there begun s g.1,
        goes_in n g.0 new (there ∙ ap Some (sym first.later.base)) (first.later.base_version ∙ begun) first.state g.2,
      )

  ends_in : (result : Result ℕ Refusal) (old new : Machine) → after base before ≡ Some old.base → old.base_version ≡ version + length before → IsState old → EndsCheckpoint old pages_of_step result new
      → EndsCheckpoint (within base version before old) pages_of_step result (within base version before new)
  ends_in (Ok v) old new there begun s e = life_steps base version before old new (Checkpointed pages_of_step (Ok (Some v))) there begun s e
  ends_in (Err r) old new there begun s e = life_steps base version before old new (Checkpointed pages_of_step (Err r)) there begun s e

  module _ (old new : Machine) (there : after base before ≡ Some old.base) (begun : old.base_version ≡ version + length before) (s : IsState old) where
    checkpoints_in : (result : Result ℕ Refusal) → Checkpoints old result new → Checkpoints (within base version before old) result (within base version before new)
    checkpoints_in result c =
        let goes = goes_later c.0 old c.1 s c.2 in (
          c.0,
          within base version before c.1,
          goes_in c.0 old c.1 there begun s c.2,
          ends_in result c.1 new (there ∙ ap Some (sym goes.later.base)) (goes.later.base_version ∙ begun) goes.state c.3,
        )

    pub writes_in : (w : Writing) (reply : Replied) → Writes old w reply new → Writes (within base version before old) w reply (within base version before new)
    writes_in a_flush reply w = (w.0, life_steps base version before old new (Flushed w.0) there begun s w.1, w.2)
    writes_in a_checkpoint reply w = (w.0, checkpoints_in w.0 w.1, w.2)
    writes_in (a_step pages) reply w = (w.0, life_steps base version before old new (Checkpointed pages.pages w.0) there begun s w.1, w.2)

    pub does_in : {P : Type 0} (e : Event P) (replies : List Replied) → is_stop e ≡ false → Does old e replies new → Does (within base version before old) e replies (within base version before new)
    does_in (Submit c) replies calm d = (d.0, life_steps base version before old new (Submitted c d.0) there begun s d.1, d.2)
    does_in Flush replies calm d = (d.0, writes_in a_flush d.0 d.1, d.2)
    does_in Checkpoint replies calm d = (d.0, writes_in a_checkpoint d.0 d.1, d.2)
    does_in (CheckpointStep pages) replies calm d = (d.0, writes_in (a_step pages) d.0 d.1, d.2)
    does_in Task replies calm d = (d.0, life_steps base version before old new (TookTask d.0) there begun s d.1, d.2)
    does_in Publish replies calm d =
        ⊎_elim (λ p. inl (p.0, p.1, life_steps base version before old new (Published p.0 p.1 (Ok p.0)) there begun s p.2, p.3)) (λ n. inr (n.0, ap (within base version before) n.1, n.2)) d
    does_in (Ask query) replies calm d = (d.0, life_steps base version before old new (Asked query d.0) there begun s d.1, d.2)
    does_in Stop replies calm d = cc
    does_in (StopWithin call picks writing) replies calm d = cc

-- ---- how many groups are accepted
goes_same : (n : ℕ) (old new : Machine) → GoesOn n old new → new.accepted ≡ old.accepted
goes_same zero old new g = ap (λ (m : Machine). m.accepted) g
goes_same (suc n) old new g = goes_same n g.0 new g.2 ∙ (ap (λ (m : Machine). m.accepted) g.1.2 ∙ accepted_by_part old pages_of_step)

ends_same : (result : Result ℕ Refusal) (old new : Machine) → EndsCheckpoint old pages_of_step result new → new.accepted ≡ old.accepted
ends_same (Ok v) old new e = ap (λ (m : Machine). m.accepted) e.2 ∙ accepted_by_part old pages_of_step
ends_same (Err r) old new e = ⊎_elim (λ refused. ap (λ (m : Machine). m.accepted) refused.1) (λ broke. ap (λ (m : Machine). m.accepted) broke.3) e

flush_same : (result : Result ℕ Refusal) (old new : Machine) → Flushes old result new → new.accepted ≡ old.accepted
flush_same (Ok v) old new step = ap (λ (m : Machine). m.accepted) step.1
flush_same (Err r) old new step = ⊎_elim (λ refused. ap (λ (m : Machine). m.accepted) refused.1) (λ broke. ap (λ (m : Machine). m.accepted) broke.2) step

part_same : (pages : ℕ) (result : Result (Option ℕ) Refusal) (old new : Machine) → StepsCheckpoint old pages result new → new.accepted ≡ old.accepted
part_same pages (Ok part) old new step = ap (λ (m : Machine). m.accepted) step.2 ∙ accepted_by_part old pages
part_same pages (Err r) old new step = ⊎_elim (λ refused. ap (λ (m : Machine). m.accepted) refused.1) (λ broke. ap (λ (m : Machine). m.accepted) broke.3) step

checkpoints_same : (result : Result ℕ Refusal) (old new : Machine) → Checkpoints old result new → new.accepted ≡ old.accepted
checkpoints_same result old new c = ends_same result c.1 new c.3 ∙ goes_same c.0 old c.1 c.2

pub writes_same : (w : Writing) (reply : Replied) (old new : Machine) → Writes old w reply new → new.accepted ≡ old.accepted
writes_same a_flush reply old new w = flush_same w.0 old new w.1
writes_same a_checkpoint reply old new w = checkpoints_same w.0 old new w.1
writes_same (a_step pages) reply old new w = part_same pages.pages w.0 old new w.1

submit_size : (c : Group) (result : Result Ticket Refusal) (old new : Machine) → Submits old c result new → length new.accepted ≤ length old.accepted + 1
submit_size c (Ok t) old new step = let more = ap (λ (m : Machine). length m.accepted) step.2 ∙ length-append old.accepted (c ∷ []) in omega (arith, more)
submit_size c (Err r) old new step = let same = ap (λ (m : Machine). length m.accepted) step.1 in omega (arith, same)

task_same : (result : Result (Option (ℕ × Net)) Refusal) (old new : Machine) → TakesTask old result new → new.accepted ≡ old.accepted
task_same (Ok None) old new step = ap (λ (m : Machine). m.accepted) step.1
task_same (Ok (Some task)) old new step = ap (λ (m : Machine). m.accepted) step.3
task_same (Err r) old new step = ap (λ (m : Machine). m.accepted) step.2

asks_same : (query : Query) (result : Result Answer Refusal) (old new : Machine) → Asks old query result new → new.accepted ≡ old.accepted
asks_same query (Ok answer) old new step = ap (λ (m : Machine). m.accepted) step.2
asks_same query (Err r) old new step = ap (λ (m : Machine). m.accepted) step.2

one_size : (old new : Machine) → new.accepted ≡ old.accepted → length new.accepted ≤ length old.accepted + 1
one_size old new same = let sizes : length new.accepted ≡ length old.accepted = ap length same in omega (arith, sizes)

pub does_size : {P : Type 0} (e : Event P) (old new : Machine) (replies : List Replied) → is_stop e ≡ false → Does old e replies new → length new.accepted ≤ length old.accepted + 1
does_size (Submit c) old new replies calm d = submit_size c d.0 old new d.1
does_size Flush old new replies calm d = one_size old new (writes_same a_flush d.0 old new d.1)
does_size Checkpoint old new replies calm d = one_size old new (writes_same a_checkpoint d.0 old new d.1)
does_size (CheckpointStep pages) old new replies calm d = one_size old new (writes_same (a_step pages) d.0 old new d.1)
does_size Task old new replies calm d = one_size old new (task_same d.0 old new d.1)
does_size Publish old new replies calm d = ⊎_elim (λ p. one_size old new (ap (λ (m : Machine). m.accepted) p.2.2)) (λ n. one_size old new (ap (λ (m : Machine). m.accepted) n.1)) d
does_size (Ask query) old new replies calm d = one_size old new (asks_same query d.0 old new d.1)
does_size Stop old new replies calm d = cc
does_size (StopWithin call picks writing) old new replies calm d = cc
