-- What is durable stays: through each step, and through each run.
use Rattle.std.proofs.Common.{◌≡◌, ⊎_elim, ℕ, ◌-◌, ◌≤◌, Bool, true, false, cond, List, [], ◌∷◌, ◌++◌, take, Option, Some, None, Ok, Err, refl, sym, ◌∙◌, ap, subst, arith}
use Rattle.std.specs.Prelude.{nat_lt}
use Rattle.std.proofs.lemmas.List.{take-append-le, take-take}
use Rattle.roadnet.specs.declared.groups.Group.{Group}
use Rattle.machine.specs.Machine.{Machine, IsState, batch}
use Rattle.machine.specs.Calls.{failed, with_group, with_batch, has_nothing_unchecked, checkpoint_of, with_pages_written, with_part, is_out, without_task, IsLeft, reopened}
use Rattle.machine.specs.Runs.{Happened, Run}
use Rattle.machine.specs.Runs.Happened.{Submitted, Flushed, Checkpointed, TookTask, GaveUp, Published, Asked, Received, Stopped}
use Rattle.machine.specs.Laws.{IsLater, StepsTakeNothingBack}
use Rattle.machine.proofs.Kept.{states_kept, left_between}

pub later_same : (m : Machine) → IsLater m m
later_same m = record { sizes = refl; base = refl; base_version = refl; durable = omega arith; kept = refl }

moved : (old m new : Machine) → new ≡ m → IsLater old m → IsLater old new
moved old m new is later = subst (IsLater old) (sym is) later

-- the groups that were durable are still there
pub still : (old new : Machine) → IsLater old new → take (old.durable - old.base_version) new.accepted ≡ take (old.durable - old.base_version) old.accepted
still old new later = ap (λ (v : ℕ). take (old.durable - v) new.accepted) (sym later.base_version) ∙ later.kept

pub later_still : (a b c : Machine) → IsLater a b → IsLater b c → IsLater a c
later_still a b c ab bc =
    let n = a.durable - a.base_version in
    let k = b.durable - b.base_version in
    let le : n ≤ k = omega (arith, ab.base_version, ab.durable) in
    let same : c.base_version ≡ a.base_version = bc.base_version ∙ ab.base_version in
    record {
      sizes = bc.sizes ∙ ab.sizes;
      base = bc.base ∙ ab.base;
      base_version = same;
      durable = omega arith;
      kept =
          ap (λ (v : ℕ). take (a.durable - v) c.accepted) same
          ∙ (sym (take-take n k c.accepted le) ∙ (ap (take n) (still b c bc) ∙ (take-take n k b.accepted le ∙ still a b ab)));
    }

module _ (m : Machine) (s : IsState m) where
  submitted : (c : Group) → IsLater m (with_group m c)
  submitted c = record {
    sizes = refl;
    base = refl;
    base_version = refl;
    durable = omega arith;
    kept = take-append-le (m.durable - m.base_version) m.accepted (c ∷ []) (omega arith);
  }

  flushed : IsLater m (with_batch m)
  flushed = record { sizes = refl; base = refl; base_version = refl; durable = omega arith; kept = refl }

  broken : (n : ℕ) → IsLater m (failed m n)
  broken n = record { sizes = refl; base = refl; base_version = refl; durable = omega arith; kept = refl }

  stepped : (pages : ℕ) → IsLater m (with_part m pages)
  stepped pages = go (has_nothing_unchecked m) (nat_lt pages (checkpoint_of m).left)
    where
      go : (a b : Bool) → IsLater m (cond a m (cond b (record m { checkpoint = Some (with_pages_written (checkpoint_of m) pages) }) (record m { checkpoint = None; unchecked = (checkpoint_of m).flushed })))
      go true b = later_same m
      go false true = record { sizes = refl; base = refl; base_version = refl; durable = omega arith; kept = refl }
      go false false = record { sizes = refl; base = refl; base_version = refl; durable = omega arith; kept = refl }

  with_task : (o : Option ℕ) (v : ℕ) → IsLater m (record m { task = o; shown = v })
  with_task o v = record { sizes = refl; base = refl; base_version = refl; durable = omega arith; kept = refl }

  given_up : (number : ℕ) → IsLater m (without_task m number)
  given_up number = go (is_out m number)
    where
      go : (a : Bool) → IsLater m (cond a (record m { task = None }) m)
      go true = with_task None m.shown
      go false = later_same m

  cut : (v unchecked : ℕ) → IsLeft m v → IsLater m (reopened m v unchecked)
  cut v unchecked left =
      let between = left_between m s v left in
      record {
        sizes = refl;
        base = refl;
        base_version = refl;
        durable = between.0;
        kept = take-take (m.durable - m.base_version) (v - m.base_version) m.accepted (omega arith);
      }

pub later_by_step : StepsTakeNothingBack
later_by_step old new (Submitted c (Ok ticket)) s h = moved old (with_group old c) new h.2 (submitted old s c)
later_by_step old new (Submitted c (Err refusal)) s h = moved old old new h.1 (later_same old)
later_by_step old new (Flushed (Ok durable)) s h = moved old (with_batch old) new h.1 (flushed old s)
later_by_step old new (Flushed (Err refusal)) s h =
    ⊎_elim (λ r. moved old old new r.1 (later_same old)) (λ f. moved old (failed old (batch old)) new f.2 (broken old s (batch old))) h
later_by_step old new (Checkpointed pages (Ok part)) s h = moved old (with_part old pages) new h.2 (stepped old s pages)
later_by_step old new (Checkpointed pages (Err refusal)) s h =
    ⊎_elim (λ r. moved old old new r.1 (later_same old)) (λ f. moved old (failed old 0) new f.3 (broken old s 0)) h
later_by_step old new (TookTask (Ok None)) s h = moved old old new h.1 (later_same old)
later_by_step old new (TookTask (Ok (Some task))) s h = moved old (record old { task = Some old.durable }) new h.3 (with_task old s (Some old.durable) old.shown)
later_by_step old new (TookTask (Err refusal)) s h = moved old old new h.2 (later_same old)
later_by_step old new (GaveUp number) s h = moved old (without_task old number) new h (given_up old s number)
later_by_step old new (Published version network (Ok shown)) s h = moved old (record old { task = None; shown = version }) new h.2 (with_task old s None version)
later_by_step old new (Published version network (Err refusal)) s h = moved old old new h.1 (later_same old)
later_by_step old new (Asked query (Ok answer)) s h = moved old old new h.2 (later_same old)
later_by_step old new (Asked query (Err refusal)) s h = moved old old new h.2 (later_same old)
later_by_step old new (Received ticket result) s h = moved old old new h.2 (later_same old)
later_by_step old new (Stopped version) s h = moved old (reopened old version h.1.0) new h.1.2 (cut old s version h.1.0 h.0)

-- through a run
pub later_by_run : (old last : Machine) (hs : List Happened) → IsState old → Run old hs last → IsState last × IsLater old last
later_by_run old last [] s r = (subst IsState (sym r) s, moved old old last r (later_same old))
later_by_run old last (h ∷ hs) s r =
    let rest = later_by_run r.0 last hs (states_kept old r.0 h s r.1) r.2 in
    (rest.0, later_still old r.0 last (later_by_step old r.0 h s r.1) rest.1)

pub run_split : (xs ys : List Happened) (m last : Machine) → Run m (xs ++ ys) last → (mid : Machine) × Run m xs mid × Run mid ys last
run_split [] ys m last r = (m, refl, r)
run_split (h ∷ hs) ys m last r = let rest = run_split hs ys r.0 last r.2 in (rest.0, (r.0, r.1, rest.1), rest.2)
