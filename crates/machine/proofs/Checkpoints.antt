-- Steps of a checkpoint, one after the other.
use Rattle.std.proofs.Common.{◌≡◌, ⊎_elim, ℕ, suc, zero, ◌+◌, ◌*◌, ◌≤◌, ◌<◌, Bool, true, false, cond, Option, Some, None, Result, Ok, Err, refl, sym, ◌∙◌, ap, subst, arith}
use Rattle.std.specs.Prelude.{IfSome, is_none, unwrap_or, nat_lt, ◌&&◌, ◌==◌}
use Rattle.std.proofs.lemmas.Bool.{eqb-true, ltb-true}
use Rattle.roadnet.specs.declared.refusals.Refusal.{Refusal}
use Rattle.roadnet.specs.declared.refusals.Refusal.TheVariants.{Broken, OutOfMemory, Device}
use Rattle.machine.specs.Machine.{Checkpoint, Machine, IsState}
use Rattle.machine.specs.Calls.{StepsCheckpoint, has_nothing_unchecked, checkpoint_of, with_part, with_pages_written}
use Rattle.machine.specs.Runs.Happened.{Checkpointed}
use Rattle.machine.specs.Lives.{pages_of_step, EndsCheckpoint, GoesOn, Checkpoints}
use Rattle.machine.proofs.Kept.{states_kept}

-- one step more after which it is still going
pub goes_on_more : (n : ℕ) (old mid new : Machine) → GoesOn n old mid → StepsCheckpoint mid pages_of_step (Ok None) new → GoesOn (suc n) old new
goes_on_more zero old mid new g step = (new, subst (λ (m : Machine). StepsCheckpoint m pages_of_step (Ok None) new) g step, refl)
goes_on_more (suc n) old mid new g step = (g.0, g.1, goes_on_more n g.0 mid new g.2 step)

unbroken : (b : Bool) {X : Type 0} (x : X) → cond b (Some x) None ≡ None → b ≡ false
unbroken true x h = cc
unbroken false x h = refl

-- ---- a step after which it goes on
abbrev pub with_step : Machine → ℕ → Machine
with_step m pages = record m { checkpoint = Some (with_pages_written (checkpoint_of m) pages) }

going_on : (m : Machine) (pages : ℕ) (a b : Bool) → None ≡ cond a (Some m.durable) (cond b None (Some (checkpoint_of m).version))
    → (a ≡ false) × (b ≡ true) × (cond a m (cond b (with_step m pages) (record m { checkpoint = None; unchecked = (checkpoint_of m).flushed })) ≡ with_step m pages)
going_on m pages true b h = cc
going_on m pages false true h = (refl, refl, refl)
going_on m pages false false h = cc

module _ (m new : Machine) (pages : ℕ) (step : StepsCheckpoint m pages (Ok None) new) where
  by_tests : (has_nothing_unchecked m ≡ false) × (nat_lt pages (checkpoint_of m).left ≡ true) × (with_part m pages ≡ with_step m pages)
  by_tests = going_on m pages (has_nothing_unchecked m) (nat_lt pages (checkpoint_of m).left) step.1

  pub stepped_is : new ≡ with_step m pages
  stepped_is = step.2 ∙ by_tests.2

  pub pages_before : pages < (checkpoint_of m).left
  pages_before = ltb-true pages (checkpoint_of m).left by_tests.1

  pub calm_before : m.broken ≡ false
  calm_before = unbroken m.broken Broken step.0

  pub calm_behind : new.broken ≡ false
  calm_behind = ap (λ (x : Machine). x.broken) stepped_is ∙ calm_before

  pub going_behind : new.checkpoint ≡ Some (with_pages_written (checkpoint_of m) pages)
  going_behind = ap (λ (x : Machine). x.checkpoint) stepped_is

pub calm_goes : (n : ℕ) (old new : Machine) → GoesOn n old new → old.broken ≡ false → new.broken ≡ false
calm_goes zero old new g calm = ap (λ (m : Machine). m.broken) g ∙ calm
calm_goes (suc n) old new g calm = calm_goes n g.0 new g.2 (calm_behind old g.0 pages_of_step g.1)

pub calm_at_first : (n : ℕ) (old new : Machine) → GoesOn n old new → new.broken ≡ false → old.broken ≡ false
calm_at_first zero old new g calm = sym (ap (λ (m : Machine). m.broken) g) ∙ calm
calm_at_first (suc n) old new g calm = calm_before old g.0 pages_of_step g.1

-- nothing but the checkpoint is another while it goes on
pub goes_but : (n : ℕ) (old new : Machine) → GoesOn n old new → new ≡ record old { checkpoint = new.checkpoint }
goes_but zero old new g = subst (λ (m : Machine). m ≡ record old { checkpoint = m.checkpoint }) (sym g) refl
goes_but (suc n) old new g =
    goes_but n g.0 new g.2 ∙ ap (λ (m : Machine). record m { checkpoint = new.checkpoint }) (stepped_is old g.0 pages_of_step g.1)

-- once it goes on, a step is refused for a failure of the disk alone
pub no_refusal : (mid new : Machine) (pages : ℕ) (refusal : Refusal) → StepsCheckpoint mid pages (Err refusal) new → mid.broken ≡ false → (mid.checkpoint ≡ None → ⊥) → (refusal ≡ OutOfMemory → mid.checkpoint ≡ None)
    → (refusal ≡ Device → ⊥) → ⊥
no_refusal mid new pages refusal step calm going memory other = ⊎_elim
    (λ refused. ⊎_elim (λ told. by_cause mid.broken calm told) (λ none. going (memory none.2)) refused.0)
    (λ failed. other failed.2)
    step
  where
    by_cause : (b : Bool) → b ≡ false → cond b (Some Broken) None ≡ Some refusal → ⊥
    by_cause true calm told = cc
    by_cause false calm told = cc

-- ---- how many pages are left
-- after so many steps of 64 pages
abbrev pub IsLeftAfter : ℕ → Machine → Type 0
IsLeftAfter n m = (checkpoint_of m).left + 64 * n ≤ m.sizes.checkpoint_pages

pub left_at_first : (m : Machine) → IsState m → IsLeftAfter 0 m
left_at_first m s = go m.checkpoint s.checkpoint_durable
  where
    go : (o : Option Checkpoint) → IfSome o (λ c. (c.version ≤ m.durable) × (c.flushed ≤ m.unchecked) × (c.left ≤ m.sizes.checkpoint_pages))
        → (unwrap_or o (record { version = m.durable; left = m.sizes.checkpoint_pages; flushed = 0 })).left + 64 * 0 ≤ m.sizes.checkpoint_pages
    go None h = omega arith
    go (Some c) h = omega (arith, h.2)

pub left_more : (n : ℕ) (m new : Machine) → StepsCheckpoint m pages_of_step (Ok None) new → IsLeftAfter n m → IsLeftAfter (n + 1) new
left_more n m new step left =
    let before : 64 < (checkpoint_of m).left = pages_before m new pages_of_step step in
    let then : IsLeftAfter (n + 1) (with_step m pages_of_step) = omega (arith, before, left) in
    subst (IsLeftAfter (n + 1)) (sym (stepped_is m new pages_of_step step)) then

-- ---- all of a checkpoint
-- nothing but the checkpoint, the unchecked pages, and what a failure changes
abbrev pub IsBut : Machine → Machine → Type 0
IsBut old new = new ≡ record old { unchecked = new.unchecked; in_flight = new.in_flight; broken = new.broken; checkpoint = new.checkpoint }

but_same : (old new : Machine) → new ≡ old → IsBut old new
but_same old new e = subst (IsBut old) (sym e) refl

but_both : (old mid new : Machine) → IsBut old mid → IsBut mid new → IsBut old new
but_both old mid new a b = b ∙ ap (λ (x : Machine). record x { unchecked = new.unchecked; in_flight = new.in_flight; broken = new.broken; checkpoint = new.checkpoint }) a

but_part : (m : Machine) (pages : ℕ) → IsBut m (with_part m pages)
but_part m pages = go (has_nothing_unchecked m) (nat_lt pages (checkpoint_of m).left)
  where
    go : (a b : Bool) → IsBut m (cond a m (cond b (with_step m pages) (record m { checkpoint = None; unchecked = (checkpoint_of m).flushed })))
    go true b = refl
    go false true = refl
    go false false = refl

pub but_step : (old new : Machine) (pages : ℕ) (result : Result (Option ℕ) Refusal) → StepsCheckpoint old pages result new → IsBut old new
but_step old new pages (Ok part) step = subst (IsBut old) (sym step.2) (but_part old pages)
but_step old new pages (Err refusal) step = ⊎_elim (λ r. but_same old new r.1) (λ f. subst (IsBut old) (sym f.3) refl) step

but_goes : (n : ℕ) (old new : Machine) → GoesOn n old new → IsBut old new
but_goes zero old new g = but_same old new g
but_goes (suc n) old new g = but_both old g.0 new (but_step old g.0 pages_of_step (Ok None) g.1) (but_goes n g.0 new g.2)

but_end : (old new : Machine) (pages : ℕ) (result : Result ℕ Refusal) → EndsCheckpoint old pages result new → IsBut old new
but_end old new pages (Ok version) e = but_step old new pages (Ok (Some version)) e
but_end old new pages (Err refusal) e = but_step old new pages (Err refusal) e

pub but_checkpoint : (old new : Machine) (result : Result ℕ Refusal) → Checkpoints old result new → IsBut old new
but_checkpoint old new result w = but_both old w.1 new (but_goes w.0 old w.1 w.2) (but_end w.1 new pages_of_step result w.3)

state_goes : (n : ℕ) (old new : Machine) → GoesOn n old new → IsState old → IsState new
state_goes zero old new g s = subst IsState (sym g) s
state_goes (suc n) old new g s = state_goes n g.0 new g.2 (states_kept old g.0 (Checkpointed pages_of_step (Ok None)) s g.1)

state_end : (old new : Machine) (result : Result ℕ Refusal) → EndsCheckpoint old pages_of_step result new → IsState old → IsState new
state_end old new (Ok version) e s = states_kept old new (Checkpointed pages_of_step (Ok (Some version))) s e
state_end old new (Err refusal) e s = states_kept old new (Checkpointed pages_of_step (Err refusal)) s e

pub state_checkpoint : (old new : Machine) (result : Result ℕ Refusal) → Checkpoints old result new → IsState old → IsState new
state_checkpoint old new result w s = state_end w.1 new result w.3 (state_goes w.0 old w.1 w.2 s)

-- ---- where none was going, nothing is unchecked in the end
fresh_goes : (n : ℕ) (old new : Machine) → GoesOn n old new → (checkpoint_of old).flushed ≡ 0 → (checkpoint_of new).flushed ≡ 0
fresh_goes zero old new g none = ap (λ (m : Machine). (checkpoint_of m).flushed) g ∙ none
fresh_goes (suc n) old new g none =
    fresh_goes n g.0 new g.2 (ap (λ (m : Machine). (checkpoint_of m).flushed) (stepped_is old g.0 pages_of_step g.1) ∙ none)

nothing_going : (o : Option Checkpoint) (n : ℕ) → (is_none o && (n == 0)) ≡ true → (o ≡ None) × (n ≡ 0)
nothing_going None n h = (refl, eqb-true n 0 h)
nothing_going (Some c) n h = cc

done_is : (m : Machine) (pages version : ℕ) (a b : Bool) → has_nothing_unchecked m ≡ a → Some version ≡ cond a (Some m.durable) (cond b None (Some (checkpoint_of m).version)) → (checkpoint_of m).flushed ≡ 0
    → ((cond a m (cond b (with_step m pages) (record m { checkpoint = None; unchecked = (checkpoint_of m).flushed }))).checkpoint ≡ None)
    × ((cond a m (cond b (with_step m pages) (record m { checkpoint = None; unchecked = (checkpoint_of m).flushed }))).unchecked ≡ 0)
done_is m pages version true b nothing told fresh = nothing_going m.checkpoint m.unchecked nothing
done_is m pages version false true nothing told fresh = cc
done_is m pages version false false nothing told fresh = (refl, fresh)

pub done_behind : (old new : Machine) (version : ℕ) → Checkpoints old (Ok version) new → old.checkpoint ≡ None → (new.checkpoint ≡ None) × (new.unchecked ≡ 0)
done_behind old new version w none =
    let fresh : (checkpoint_of w.1).flushed ≡ 0 = fresh_goes w.0 old w.1 w.2 (ap (λ (o : Option Checkpoint). (unwrap_or o (record { version = old.durable; left = old.sizes.checkpoint_pages; flushed = 0 })).flushed) none) in
    let end = done_is w.1 pages_of_step version (has_nothing_unchecked w.1) (nat_lt pages_of_step (checkpoint_of w.1).left) refl w.3.1 fresh in
    (ap (λ (m : Machine). m.checkpoint) w.3.2 ∙ end.0, ap (λ (m : Machine). m.unchecked) w.3.2 ∙ end.1)

calm_end : (old new : Machine) (version : ℕ) → EndsCheckpoint old pages_of_step (Ok version) new → new.broken ≡ false
calm_end old new version e =
    ap (λ (m : Machine). m.broken) e.2 ∙ go (has_nothing_unchecked old) (nat_lt pages_of_step (checkpoint_of old).left) (unbroken old.broken Broken e.0)
  where
    go : (a b : Bool) → old.broken ≡ false → (cond a old (cond b (with_step old pages_of_step) (record old { checkpoint = None; unchecked = (checkpoint_of old).flushed }))).broken ≡ false
    go true b calm = calm
    go false true calm = calm
    go false false calm = calm

pub calm_checkpoint : (old new : Machine) (version : ℕ) → Checkpoints old (Ok version) new → new.broken ≡ false
calm_checkpoint old new version w = calm_end w.1 new version w.3
