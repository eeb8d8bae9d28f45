-- A ledger's calls are a keeper's: with a view shown and a task out the machine takes the same step.
use Rattle.std.proofs.Common.{◌≡◌, ⊎_elim, inl, inr, ℕ, suc, zero, Bool, true, false, cond, List, Option, Some, None, Result, Ok, Err, refl, ◌∙◌, ap, subst}
use Rattle.std.specs.Prelude.{IfOk, IfErr, nat_lt}
use Rattle.roadnet.specs.declared.groups.Group.{Group}
use Rattle.roadnet.specs.declared.refusals.Refusal.{Refusal}
use Rattle.disk.specs.declared.disk.Disk.{Ghosts}
use Rattle.store.specs.State.{CameTidy}
use Rattle.machine.specs.declared.calls.Ticket.{Ticket}
use Rattle.machine.specs.Machine.{Machine, batch}
use Rattle.machine.specs.Calls.{failed, Submits, Flushes, StepsCheckpoint, has_nothing_unchecked, checkpoint_of, with_part, with_pages_written}
use Rattle.machine.specs.Lives.{GoesOn, EndsCheckpoint, Checkpoints, pages_of_step}
use Rattle.keeper.specs.Keeping.{LedgerState, Keeping, with_views, ledger_of, Holds, IsDurableIn, IsLeftByFlush, HoldsFor}

module _ (shown : ℕ) (task : Option ℕ) where
  abbrev V : Machine → Machine
  V m = with_views m shown task

  pub lift_submit : (old new : Machine) (c : Group) (r : Result Ticket Refusal) → Submits old c r new → Submits (V old) c r (V new)
  lift_submit old new c (Ok ticket) h = (h.0, h.1, ap V h.2, h.3)
  lift_submit old new c (Err refusal) h = (h.0, ap V h.1)

  pub lift_accepted : (old new : Machine) (c : Group) (r : Result Ticket Refusal) → IfOk r (λ ticket. Submits old c (Ok ticket) new) → IfOk r (λ ticket. Submits (V old) c (Ok ticket) (V new))
  lift_accepted old new c (Ok ticket) h = lift_submit old new c (Ok ticket) h
  lift_accepted old new c (Err refusal) h = tt

  pub lift_refused : (old new : Machine) (c : Group) (P : Refusal → Type 0) (r : Result Ticket Refusal) → IfErr r (λ refusal. P refusal → Submits old c (Err refusal) new) → IfErr r (λ refusal. P refusal → Submits (V old) c (Err refusal) (V new))
  lift_refused old new c P (Ok ticket) h = tt
  lift_refused old new c P (Err refusal) h = λ p. lift_submit old new c (Err refusal) (h p)

  pub lift_room : (old new : Machine) (c : Group) (r : Result Ticket Refusal) → IfErr r (λ refusal. Submits old c (Err refusal) new) → IfErr r (λ refusal. Submits (V old) c (Err refusal) (V new))
  lift_room old new c (Ok ticket) h = tt
  lift_room old new c (Err refusal) h = lift_submit old new c (Err refusal) h

  pub lift_flush : (old new : Machine) (r : Result ℕ Refusal) → Flushes old r new → Flushes (V old) r (V new)
  lift_flush old new (Ok durable) h = (h.0, ap V h.1, h.2)
  lift_flush old new (Err refusal) h = ⊎_elim (λ a. inl (a.0, ap V a.1)) (λ b. inr (b.0, b.1, ap V b.2)) h

  part_lifted : (m : Machine) (pages : ℕ) → V (with_part m pages) ≡ with_part (V m) pages
  part_lifted m pages = go (has_nothing_unchecked m) (nat_lt pages (checkpoint_of m).left)
    where
      by_part : Machine → Bool → Bool → Machine
      by_part x a b = cond a x (cond b (record x { checkpoint = Some (with_pages_written (checkpoint_of x) pages) }) (record x { checkpoint = None; unchecked = (checkpoint_of x).flushed }))

      go : (a b : Bool) → V (by_part m a b) ≡ by_part (V m) a b
      go true b = refl
      go false true = refl
      go false false = refl

  pub lift_step : (old new : Machine) (pages : ℕ) (r : Result (Option ℕ) Refusal) → StepsCheckpoint old pages r new → StepsCheckpoint (V old) pages r (V new)
  lift_step old new pages (Ok done) h = (h.0, h.1, ap V h.2 ∙ part_lifted old pages)
  lift_step old new pages (Err refusal) h = ⊎_elim (λ a. inl (a.0, ap V a.1)) (λ b. inr (b.0, b.1, b.2, ap V b.3)) h

  lift_going : (n : ℕ) (old new : Machine) → GoesOn n old new → GoesOn n (V old) (V new)
  lift_going zero old new h = ap V h
  lift_going (suc n) old new h = (V h.0, lift_step old h.0 pages_of_step (Ok None) h.1, lift_going n h.0 new h.2)

  lift_end : (old new : Machine) (r : Result ℕ Refusal) → EndsCheckpoint old pages_of_step r new → EndsCheckpoint (V old) pages_of_step r (V new)
  lift_end old new (Ok version) h = lift_step old new pages_of_step (Ok (Some version)) h
  lift_end old new (Err refusal) h = lift_step old new pages_of_step (Err refusal) h

  pub lift_checkpoint : (old new : Machine) (r : Result ℕ Refusal) → Checkpoints old r new → Checkpoints (V old) r (V new)
  lift_checkpoint old new r h = (h.0, V h.1, lift_going h.0 old h.1 h.2, lift_end h.1 new r h.3)

  -- ---- what the disk holds

  pub lift_durable : (m : Machine) (content : List ℕ) → IsDurableIn m content → IsDurableIn (V m) content
  lift_durable m content h = record { version = h.version; left = h.left; network = h.network; network_is = h.network_is; stands = h.stands }

  pub lift_left : (m : Machine) (content : List ℕ) → IsLeftByFlush m content → IsLeftByFlush (V m) content
  lift_left m content h = lift_durable (failed m (batch m)) content h

  pub lift_holds : (content : List ℕ) (left : List ℕ → Type 0) (m : Machine) → Holds content left m → Holds content left (V m)
  lift_holds content left m h = record { only = h.only; each_left = λ c was. lift_durable m c (h.each_left c was) }

-- what the disk of a keeper's ledger holds for the ledger it holds for the keeper
pub lift_held : {D : Type 0} (disk : Ghosts D) (k : Keeping D) (ledger : LedgerState D) → ledger ≡ ledger_of k
    → (CameTidy disk.honest disk.content ledger.given → HoldsFor disk ledger.disk ledger.machine) → CameTidy disk.honest disk.content k.given → HoldsFor disk k.disk k.machine
lift_held disk k ledger is held came =
    let here : HoldsFor disk k.disk (ledger_of k).machine = subst (λ (l : LedgerState _). CameTidy disk.honest disk.content l.given → HoldsFor disk l.disk l.machine) is held came in
    (here.0, lift_holds k.machine.shown k.machine.task (disk.content k.disk) (disk.left k.disk) (ledger_of k).machine here.1)
