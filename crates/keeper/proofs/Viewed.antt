-- The networks of the view and of the task stay those of the machine's versions.
use Rattle.std.proofs.Common.{◌≡◌, ℕ, ◌≤◌, Option, Some, None, Result, Ok, Err, refl, sym, ◌∙◌, ap, subst, arith, ◌-◌, take}
use Rattle.std.proofs.lemmas.List.{take-take}
use Rattle.std.specs.Prelude.{Bool, IfSome, IfOk, OnErr}
use Rattle.std.specs.Bool.{Decides}
use Rattle.roadnet.specs.declared.groups.Group.{Group}
use Rattle.roadnet.specs.declared.refusals.Refusal.{Refusal}
use Rattle.roadnet.specs.Net.{Net}
use Rattle.roadnet.specs.Step.{after}
use Rattle.machine.specs.declared.calls.Ticket.{Ticket}
use Rattle.machine.specs.Laws.{IsLater}
use Rattle.machine.specs.Machine.{Sizes, Machine, IsState, start, most_versions, network_at}
use Rattle.machine.specs.Calls.{Submits, Flushes, StepsCheckpoint, IsTask}
use Rattle.machine.specs.Lives.{Checkpoints}
use Rattle.machine.specs.Runs.Happened.{Submitted, Flushed, Checkpointed}
use Rattle.machine.proofs.Checkpoints.{IsBut, but_step, but_checkpoint, state_checkpoint}
use Rattle.machine.proofs.Kept.{states_kept, with_task, published}
use Rattle.machine.proofs.Keeping.{kept_start}
use Rattle.machine.proofs.Later.{later_by_step, still}
use Rattle.keeper.specs.Keeping.{LedgerState, with_views, IsViewed}
use Rattle.keeper.proofs.Leads.{one_net}
use Rattle.keeper.proofs.Lifted.{lift_submit, lift_flush, lift_step, lift_checkpoint}

-- the network at a durable version stays
pub network_still : (old new : Machine) (v : ℕ) → v ≤ old.durable → IsLater old new → network_at new v ≡ network_at old v
network_still old new v le later =
    let n = v - old.base_version in
    let k = old.durable - old.base_version in
    let fits : n ≤ k = omega arith in
    ap (λ (b : ℕ). after new.base (take (v - b) new.accepted)) later.base_version
    ∙ (ap (after new.base) (sym (take-take n k new.accepted fits) ∙ (ap (take n) (still old new later) ∙ take-take n k old.accepted fits))
    ∙ ap (λ (b : Net). after b (take n old.accepted)) later.base)

-- the network of a task stays that of its version in a state that comes later
shared_later : (old new : Machine) (out : Option ℕ) (shared : Option Net) → IsLater old new → IfSome out (λ v. (old.shown ≤ v) × (v ≤ old.durable)) → IfSome shared (λ net. IfSome out (λ v. network_at old v ≡ Some net)) → IfSome shared (λ net. IfSome out (λ v. network_at new v ≡ Some net))
shared_later old new out None later between k = tt
shared_later old new None (Some net) later between k = tt
shared_later old new (Some v) (Some net) later between k = network_still old new v between.1 later ∙ k

-- a state that comes later, in which the same version is shown and the same task is out
viewed_later : (old new : Machine) (net : Net) (shared : Option Net) → IsState new → IsLater old new → new.shown ≡ old.shown → new.task ≡ old.task → IsViewed old net shared → IsViewed new net shared
viewed_later old new net shared s later shown out k = record {
  state = s;
  shown_is = ap (λ (v : ℕ). network_at new v) shown ∙ (network_still old new old.shown k.state.shown_durable later ∙ k.shown_is);
  shared_is = subst (λ (o : Option ℕ). IfSome shared (λ net. IfSome o (λ v. network_at new v ≡ Some net))) (sym out) (shared_later old new old.task shared later k.state.task_between k.shared_is);
}

-- a state in which nothing but the checkpoint, the unchecked pages and what a failure changes is another
viewed_but : (old new : Machine) (net : Net) (shared : Option Net) → IsBut old new → IsState new → IsViewed old net shared → IsViewed new net shared
viewed_but old new net shared but s k =
    let here : Machine = record old { unchecked = new.unchecked; in_flight = new.in_flight; broken = new.broken; checkpoint = new.checkpoint } in
    let moved : IsState here = subst IsState but s in
    subst (λ (m : Machine). IsViewed m net shared) (sym but) (record { state = moved; shown_is = k.shown_is; shared_is = k.shared_is })

-- the calls of a ledger
module _ (shown : ℕ) (out : Option ℕ) (old new : Machine) (net : Net) (shared : Option Net) (k : IsViewed (with_views old shown out) net shared) where
  abbrev was : Machine
  was = with_views old shown out

  abbrev is : Machine
  is = with_views new shown out

  pub viewed_submit : (c : Group) (r : Result Ticket Refusal) → Submits old c r new → IsViewed is net shared
  viewed_submit c r h =
      let step = lift_submit shown out old new c r h in
      viewed_later was is net shared (states_kept was is (Submitted c r) k.state step) (later_by_step was is (Submitted c r) k.state step) refl refl k

  pub viewed_accepted : (c : Group) (r : Result Ticket Refusal) → IfOk r (λ ticket. Submits old c (Ok ticket) new) → OnErr r (new ≡ old) → IsViewed is net shared
  viewed_accepted c (Ok ticket) h same = viewed_submit c (Ok ticket) h
  viewed_accepted c (Err refusal) h same = subst (λ (m : Machine). IsViewed (with_views m shown out) net shared) (sym same) k

  pub viewed_flush : (r : Result ℕ Refusal) → Flushes old r new → IsViewed is net shared
  viewed_flush r h =
      let step = lift_flush shown out old new r h in
      viewed_later was is net shared (states_kept was is (Flushed r) k.state step) (later_by_step was is (Flushed r) k.state step) refl refl k

  pub viewed_step : (pages : ℕ) (r : Result (Option ℕ) Refusal) → StepsCheckpoint old pages r new → IsViewed is net shared
  viewed_step pages r h =
      let step = lift_step shown out old new pages r h in
      viewed_but was is net shared (but_step was is pages r step) (states_kept was is (Checkpointed pages r) k.state step) k

  pub viewed_checkpoint : (r : Result ℕ Refusal) → Checkpoints old r new → IsViewed is net shared
  viewed_checkpoint r h =
      let written = lift_checkpoint shown out old new r h in
      viewed_but was is net shared (but_checkpoint was is r written) (state_checkpoint was is r written k.state) k

-- ---- views and tasks

-- a beginning
pub viewed_start : (sizes : Sizes) (base : Net) (version unchecked : ℕ) → version ≤ most_versions → unchecked ≤ sizes.journal_pages → IsViewed (start sizes base version unchecked) base None
viewed_start sizes base version unchecked few fits =
    let k = kept_start sizes base version unchecked few fits in
    record { state = k.state; shown_is = k.shown_is; shared_is = tt }

module _ (m : Machine) (net : Net) (shared : Option Net) (k : IsViewed m net shared) where
  -- a task is out, with its network or without
  pub viewed_task : (out : Option Net) → IfSome out (λ next. network_at m m.durable ≡ Some next) → IsViewed (record m { task = Some m.durable }) net out
  viewed_task out there = let s : IsState m = k.state in record {
    state = with_task m s (Some m.durable) m.shown (omega arith) s.shown_durable (s.shown_durable, omega arith);
    shown_is = k.shown_is;
    shared_is = there;
  }

  pub viewed_given_up : IsViewed (record m { task = None }) net None
  viewed_given_up = let s : IsState m = k.state in record {
    state = with_task m s None m.shown (omega arith) s.shown_durable tt;
    shown_is = k.shown_is;
    shared_is = tt;
  }

  -- the view of the task that is out is shown
  pub viewed_published : (version : ℕ) (network : Net) → IsTask m version network → IsViewed (record m { task = None; shown = version }) network None
  viewed_published version network out = record {
    state = published m k.state version out.0;
    shown_is = out.1;
    shared_is = tt;
  }

  -- the network that is shared decides which is that of the task
  pub shared_decides : (v : ℕ) (one other : Net) (b : Bool) → shared ≡ Some one → m.task ≡ Some v → Decides b (one ≡ other) → Decides b (network_at m v ≡ Some other)
  shared_decides v one other b is out same =
      let at : IfSome (Some one) (λ net. IfSome (Some v) (λ w. network_at m w ≡ Some net)) = subst (λ (o : Option ℕ). IfSome (Some one) (λ net. IfSome o (λ w. network_at m w ≡ Some net))) out (subst (λ (o : Option Net). IfSome o (λ net. IfSome m.task (λ w. network_at m w ≡ Some net))) is k.shared_is) in
      (λ yes. at ∙ ap Some (same.0 yes), λ there. same.1 (one_net one other (sym at ∙ there)))

-- a ledger that is as it was has the machine that it had
pub on_err_machine : {D T E : Type 0} (r : Result T E) (old new : LedgerState D) → OnErr r (new ≡ old) → OnErr r (new.machine ≡ old.machine)
on_err_machine (Ok x) old new h = tt
on_err_machine (Err e) old new h = ap (λ l. l.machine) h
