-- What each call does to a life of a rehearsal.
use Rattle.std.proofs.Common.{◌≡◌, ⊎_elim, ℕ, ◌-◌, ◌≤◌, Bool, true, false, cond, eqb, List, Option, Some, None, Result, Ok, Err, refl, sym, ◌∙◌, ap, subst, eq-eqb}
use Rattle.std.specs.Prelude.{IfSome, OnOk, OnErr, is_some, ◌||◌, ◌==◌, nat_lt}
use Rattle.disk.specs.Moments.{LeavesOnly, AddsNothing}
use Rattle.roadnet.specs.declared.groups.Group.{Group}
use Rattle.roadnet.specs.declared.refusals.Refusal.{Refusal}
use Rattle.roadnet.specs.Net.{Net}
use Rattle.machine.specs.declared.calls.Ticket.{Ticket}
use Rattle.machine.specs.Machine.{Machine, IsState}
use Rattle.machine.specs.Calls.{Submits, Flushes, StepsCheckpoint, TakesTask, RefusesView, has_nothing_unchecked, checkpoint_of, with_part, with_pages_written, is_out, without_task}
use Rattle.machine.specs.Lives.{Checkpoints}
use Rattle.machine.specs.Runs.Happened.{Submitted, Flushed, Checkpointed}
use Rattle.machine.specs.Laws.{IsLater}
use Rattle.machine.proofs.Checkpoints.{IsBut, but_step, but_checkpoint, state_checkpoint}
use Rattle.machine.proofs.Kept.{states_kept}
use Rattle.machine.proofs.Later.{later_by_step}
use Rattle.keeper.proofs.Viewed.{network_still}
use Rattle.lives.specs.Rehearsing.{IsLife}

-- time goes on in a call that writes, whether the store was broken before or not
pub moment_later : {D : Type 0} (moment : D → ℕ) (left_since : D → ℕ → List ℕ → Type 0) (old new : D) (P : List ℕ → Type 0) (broken : Bool) → (broken ≡ false → LeavesOnly moment left_since old new P) → (broken ≡ true → AddsNothing moment left_since old new) → moment old ≤ moment new
moment_later moment left_since old new P false calm none = (calm refl).later
moment_later moment left_since old new P true calm none = (none refl).later

-- the task stays out
life_same : (old new : Machine) (opened : ℕ) (aside : Option (ℕ × Net)) → IsLife old opened aside → IsState new → IsLater old new → new.task ≡ old.task → IsLife new opened aside
life_same old new opened None k s later task = record { state = s; opened_is = later.base_version ∙ k.opened_is; task_is = task ∙ k.task_is; task_network = tt }
life_same old new opened (Some view) k s later task =
    let between : (old.shown ≤ view.0) × (view.0 ≤ old.durable) = subst (λ (o : Option ℕ). IfSome o (λ t. (old.shown ≤ t) × (t ≤ old.durable))) k.task_is k.state.task_between in
    record { state = s; opened_is = later.base_version ∙ k.opened_is; task_is = task ∙ k.task_is; task_network = network_still old new view.0 between.1 later ∙ k.task_network }

module _ (old new : Machine) (opened : ℕ) (aside : Option (ℕ × Net)) (k : IsLife old opened aside) where
  pub life_submit : (c : Group) (result : Result Ticket Refusal) → Submits old c result new → IsLife new opened aside
  life_submit c result step =
      life_same old new opened aside k (states_kept old new (Submitted c result) k.state step) (later_by_step old new (Submitted c result) k.state step) (task result step)
    where
      task : (result : Result Ticket Refusal) → Submits old c result new → new.task ≡ old.task
      task (Ok t) step = ap (λ (m : Machine). m.task) step.2
      task (Err r) step = ap (λ (m : Machine). m.task) step.1

  pub life_flush : (result : Result ℕ Refusal) → Flushes old result new → IsLife new opened aside
  life_flush result step =
      life_same old new opened aside k (states_kept old new (Flushed result) k.state step) (later_by_step old new (Flushed result) k.state step) (task result step)
    where
      task : (result : Result ℕ Refusal) → Flushes old result new → new.task ≡ old.task
      task (Ok durable) step = ap (λ (m : Machine). m.task) step.1
      task (Err r) step = ⊎_elim (λ a. ap (λ (m : Machine). m.task) a.1) (λ b. ap (λ (m : Machine). m.task) b.2) step

-- ---- a checkpoint
-- a state in which nothing but the checkpoint, the unchecked pages and what a failure changes is another
pub life_but : (old new : Machine) (opened : ℕ) (aside : Option (ℕ × Net)) → IsBut old new → IsState new → IsLife old opened aside → IsLife new opened aside
life_but old new opened aside but s k =
    let here : Machine = record old { unchecked = new.unchecked; in_flight = new.in_flight; broken = new.broken; checkpoint = new.checkpoint } in
    let moved : IsState here = subst IsState but s in
    subst (λ (m : Machine). IsLife m opened aside) (sym but)
    (record { state = moved; opened_is = k.opened_is; task_is = k.task_is; task_network = k.task_network })

abbrev by_part : Machine → ℕ → Bool → Bool → Machine
by_part m pages a b = cond a m (cond b (record m { checkpoint = Some (with_pages_written (checkpoint_of m) pages) }) (record m { checkpoint = None; unchecked = (checkpoint_of m).flushed }))

-- no group is accepted by it
pub accepted_by_part : (m : Machine) (pages : ℕ) → (with_part m pages).accepted ≡ m.accepted
accepted_by_part m pages = go (has_nothing_unchecked m) (nat_lt pages (checkpoint_of m).left)
  where
    go : (a b : Bool) → (by_part m pages a b).accepted ≡ m.accepted
    go true b = refl
    go false true = refl
    go false false = refl

pub life_step : (old new : Machine) (opened : ℕ) (aside : Option (ℕ × Net)) (pages : ℕ) (result : Result (Option ℕ) Refusal) → StepsCheckpoint old pages result new → IsLife old opened aside → IsLife new opened aside
life_step old new opened aside pages result step k = life_but old new opened aside (but_step old new pages result step) (states_kept old new (Checkpointed pages result) k.state step) k

pub life_checkpoint : (old new : Machine) (opened : ℕ) (aside : Option (ℕ × Net)) (result : Result ℕ Refusal) → Checkpoints old result new → IsLife old opened aside → IsLife new opened aside
life_checkpoint old new opened aside result written k = life_but old new opened aside (but_checkpoint old new result written) (state_checkpoint old new result written k.state) k

-- ---- tasks and views
no_task_out : (o : Option ℕ) (b : Bool) → (is_some o || b) ≡ false → o ≡ None
no_task_out None b h = refl
no_task_out (Some v) b h = cc

-- a task that is given up leaves what was before it
out_is : (n v : ℕ) → v ≡ n → eqb n v ≡ true
out_is n v e = eq-eqb n v (sym e)

pub given_back : (old mid new : Machine) (task : ℕ × Net) → TakesTask old (Ok (Some task)) mid → new ≡ without_task mid task.0 → new ≡ old
given_back old mid new task step gave =
    let none : old.task ≡ None = no_task_out old.task (old.shown == old.durable) step.0 in
    let out : is_out (record old { task = Some old.durable }) task.0 ≡ true = out_is old.durable task.0 step.1 in
    gave
    ∙ (ap (λ (m : Machine). without_task m task.0) step.3
    ∙ (ap (λ (b : Bool). cond b (record old { task = None }) (record old { task = Some old.durable })) out
    ∙ ap (λ (o : Option ℕ). record old { task = o }) (sym none)))

-- the view that is kept aside is not refused
pub not_refused : (m : Machine) (opened : ℕ) (view : ℕ × Net) (refusal : Refusal) → IsLife m opened (Some view) → RefusesView m view.0 view.1 refusal → ⊥
not_refused m opened view refusal k refuses =
    ⊎_elim (λ none. let never : ◌≡◌ {A = Option ℕ} (Some view.0) None = sym k.task_is ∙ none.1 in cc) (λ other. other.2 (k.task_is, k.task_network)) refuses

-- the width of the view that is shown, behind a publishing: that of the view where it was shown, else as it was
pub width_behind : {T E : Type 0} (r : Result T E) (new old given w : ℕ) → OnOk r (new ≡ given) → OnErr r (new ≡ old) → old ≡ w → given ≡ w → new ≡ w
width_behind (Ok v) new old given w shown same was is = shown ∙ is
width_behind (Err e) new old given w shown same was is = same ∙ was
