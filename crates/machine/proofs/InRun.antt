-- One life of a keeper is a part of a run.
use Rattle.std.proofs.Common.{◌≡◌, ⊎_elim, inl, inr, ℕ, suc, zero, ◌+◌, ◌-◌, ◌≤◌, Bool, true, false, cond, List, [], ◌∷◌, ◌++◌, length, take, drop, Option, Some, None, Ok, Err, refl, sym, ◌∙◌, ap, subst, arith, length-append, append_assoc}
use Rattle.std.specs.Prelude.{nat_lt, nat_le, option_map, option_and_then, slice_get, if◌then◌else◌, IfSome}
use Rattle.std.proofs.lemmas.List.{append-nil}
use Rattle.std.proofs.Math.Seq.{drop-append-add, take-append-add}
use Rattle.roadnet.specs.declared.groups.Group.{Group}
use Rattle.roadnet.specs.declared.refusals.Refusal.{Refusal}
use Rattle.roadnet.specs.declared.refusals.Refusal.TheVariants.{Broken, HistoryFull, VersionsExhausted, QueueFull, NothingPending, JournalFull}
use Rattle.roadnet.specs.Groups.{count_of}
use Rattle.roadnet.specs.Net.{Net, nth}
use Rattle.roadnet.specs.Step.{after, first_refusal}
use Rattle.roadnet.proofs.Stepped.{after_both}
use Rattle.machine.specs.Machine.{Machine, IsState, start, latest, pending, of_life, fitting, groups_behind, batch, accepted_network, network_at, groups_to, most_of_life, most_versions, most_pending, most_of_page}
use Rattle.machine.specs.Calls.{IsRefused, refusal_of_submit, refusal_of_flush, with_page_flushed, failed, with_part, has_nothing_unchecked, checkpoint_of, with_pages_written, without_task, is_out, reopened}
use Rattle.machine.specs.Runs.Happened.{Submitted, Flushed, Checkpointed, TookTask, GaveUp, Published, Asked, Received, Stopped}
use Rattle.machine.specs.Lives.{HoldsDurable}
use Rattle.machine.specs.LifeInRun.{within, LifeStepsAreRunSteps, StopsBeginLives}
use Rattle.machine.proofs.Kept.{left_between}

got_behind : {X : Type 0} (xs ys : List X) (j : ℕ) → slice_get (xs ++ ys) (length xs + j) ≡ slice_get ys j
got_behind [] ys j = ap (slice_get ys) (omega arith)
got_behind (x ∷ xs) ys j =
    let place : suc (length xs) + j ≡ suc (length xs + j) = omega arith in
    ap (slice_get (x ∷ (xs ++ ys))) place ∙ got_behind xs ys j

nth_behind : {X : Type 0} (xs ys : List X) (j : ℕ) → 1 ≤ j → nth (xs ++ ys) (length xs + j) ≡ nth ys j
nth_behind xs ys zero le = absurd (omega arith)
nth_behind xs ys (suc j) le =
    let place : length xs + suc j ≡ suc (length xs + j) = omega arith in
    ap (nth (xs ++ ys)) place ∙ got_behind xs ys j

abbrev by_state : Machine → Group → ℕ → ℕ → ℕ → Option Net → Option Refusal
by_state m c life queue l o =
    if m.broken then Some Broken else
    if nat_lt most_of_life (life + length c) then Some HistoryFull else
    if nat_le most_versions l then Some VersionsExhausted else
    if nat_lt most_pending (queue + length c) then Some QueueFull else
    option_and_then (λ net. first_refusal net c) o

module _ (base : Net) (version : ℕ) (before : List Group) where
  in_run : Machine → Machine
  in_run m = within base version before m

  module _ (m : Machine) (begun : m.base_version ≡ version + length before) where
    pub groups_in : (v : ℕ) → m.base_version ≤ v → take (v - version) (before ++ m.accepted) ≡ before ++ take (v - m.base_version) m.accepted
    groups_in v le =
        let place : v - version ≡ length before + (v - m.base_version) = omega arith in
        ap (λ (n : ℕ). take n (before ++ m.accepted)) place ∙ take-append-add before m.accepted (v - m.base_version)

    pub latest_in : latest (within base version before m) ≡ latest m
    latest_in = let size = length-append before m.accepted in omega arith

    pub behind_in : (v : ℕ) → m.base_version ≤ v → groups_behind (within base version before m) v ≡ groups_behind m v
    behind_in v le =
        let place : v - version ≡ length before + (v - m.base_version) = omega arith in
        ap (λ (n : ℕ). drop n (before ++ m.accepted)) place ∙ drop-append-add before m.accepted (v - m.base_version)

    pub batch_in : IsState m → batch (within base version before m) ≡ batch m
    batch_in s = ap (fitting most_of_page) (behind_in m.durable (omega (arith, s.base_opened, s.opened_shown, s.shown_durable)))

    module _ (there : after base before ≡ Some m.base) where
      pub accepted_in : accepted_network (within base version before m) ≡ accepted_network m
      accepted_in = after_both base before m.accepted ∙ rw there refl

      pub network_in : (v : ℕ) → m.base_version ≤ v → network_at (within base version before m) v ≡ network_at m v
      network_in v le = ap (after base) (groups_in v le) ∙ (after_both base before (take (v - m.base_version) m.accepted) ∙ rw there refl)

      pub refusal_in : IsState m → (c : Group) → refusal_of_submit (within base version before m) c ≡ refusal_of_submit m c
      refusal_in s c =
          let life : of_life (within base version before m) ≡ of_life m = ap count_of (behind_in m.opened s.base_opened) in
          let queue : pending (within base version before m) ≡ pending m = ap count_of (behind_in m.durable (omega (arith, s.base_opened, s.opened_shown, s.shown_durable))) in
          ap (λ (n : ℕ). by_state m c n (pending (within base version before m)) (latest (within base version before m)) (accepted_network (within base version before m))) life
          ∙ (ap (λ (n : ℕ). by_state m c (of_life m) n (latest (within base version before m)) (accepted_network (within base version before m))) queue
          ∙ (ap (λ (l : ℕ). by_state m c (of_life m) (pending m) l (accepted_network (within base version before m))) latest_in ∙ ap (by_state m c (of_life m) (pending m) (latest m)) accepted_in))

    pub flush_refusal_in : refusal_of_flush (within base version before m) ≡ refusal_of_flush m
    flush_refusal_in =
        ap (λ (l : ℕ). if m.broken then Some Broken else if nat_le l m.durable then Some NothingPending else if nat_le m.sizes.journal_pages m.unchecked then Some JournalFull else None) latest_in

    pub stop_in : (v unchecked : ℕ) (network : Net) → m.base_version ≤ v → reopened (within base version before m) v unchecked ≡ within base version (before ++ groups_to m v) (start m.sizes network v unchecked)
    stop_in v unchecked network le =
        ap (λ (cs : List Group). record (reopened (within base version before m) v unchecked) { accepted = cs })
        (groups_in v le ∙ sym (append-nil (before ++ groups_to m v)))

-- what holds what is durable in one life holds it in the run
pub holds_in : (StandsFor : List ℕ → Net → ℕ → Type 0) (base : Net) (version : ℕ) (before : List Group) (m : Machine) (content : List ℕ) → m.base_version ≡ version + length before → after base before ≡ Some m.base → IsState m
    → HoldsDurable StandsFor m content → HoldsDurable StandsFor (within base version before m) content
holds_in StandsFor base version before m content begun there s h =
    let between = left_between m s h.version h.left in
    record {
      version = h.version;
      left = h.left;
      network = h.network;
      network_is = network_in base version before m begun there h.version (omega arith) ∙ h.network_is;
      stands = h.stands;
    }

pub stops_begin_lives : StopsBeginLives
stops_begin_lives base version before m v unchecked network begun s left =
    let between = left_between m s v left in
    stop_in base version before m begun v unchecked network (omega arith)

module _ (base : Net) (version : ℕ) (before : List Group) where
  refused_in : (old new : Machine) (r : Refusal) (cause cause' : Option Refusal) → cause' ≡ cause → IsRefused cause r old new → IsRefused cause' r (within base version before old) (within base version before new)
  refused_in old new r cause cause' same h =
      (⊎_elim (λ some. inl (same ∙ some)) (λ memory. inr (same ∙ memory.0, memory.1)) h.0, ap (within base version before) h.1)

  pub part_in : (m : Machine) (pages : ℕ) → within base version before (with_part m pages) ≡ with_part (within base version before m) pages
  part_in m pages = go (has_nothing_unchecked m) (nat_lt pages (checkpoint_of m).left)
    where
      go : (a b : Bool) → within base version before (cond a m (cond b (record m { checkpoint = Some (with_pages_written (checkpoint_of m) pages) }) (record m { checkpoint = None; unchecked = (checkpoint_of m).flushed })))
          ≡ cond a (within base version before m) (cond b (record (within base version before m) { checkpoint = Some (with_pages_written (checkpoint_of m) pages) }) (record (within base version before m) { checkpoint = None; unchecked = (checkpoint_of m).flushed }))
      go true b = refl
      go false true = refl
      go false false = refl

  pub given_up_in : (m : Machine) (number : ℕ) → within base version before (without_task m number) ≡ without_task (within base version before m) number
  given_up_in m number = go (is_out m number)
    where
      go : (a : Bool) → within base version before (cond a (record m { task = None }) m) ≡ cond a (record (within base version before m) { task = None }) (within base version before m)
      go true = refl
      go false = refl

task_version : (m : Machine) → IsState m → (v : ℕ) → m.task ≡ Some v → m.base_version ≤ v
task_version m s v out =
    let between : (m.shown ≤ v) × (v ≤ m.durable) = subst (λ (o : Option ℕ). IfSome o (λ t. (m.shown ≤ t) × (t ≤ m.durable))) out s.task_between in
    omega (arith, s.base_opened, s.opened_shown, between.0)

pub life_steps : LifeStepsAreRunSteps
life_steps base version before old new (Submitted c (Ok ticket)) there begun s h = (
  refusal_in base version before old begun there s c ∙ h.0,
  h.1 ∙ ap (λ (l : ℕ). record { number = l + 1; group = c }) (sym (latest_in base version before old begun)),
  ap (within base version before) h.2 ∙ ap (λ (cs : List Group). record (within base version before old) { accepted = cs }) (sym (append_assoc before old.accepted (c ∷ []))),
  h.3,
)
life_steps base version before old new (Submitted c (Err refusal)) there begun s h =
    refused_in base version before old new refusal _ _ (refusal_in base version before old begun there s c) h
life_steps base version before old new (Flushed (Ok durable)) there begun s h = (
  flush_refusal_in base version before old begun ∙ h.0,
  ap (within base version before) h.1 ∙ ap (λ (n : ℕ). record (within base version before old) { durable = old.durable + n; unchecked = old.unchecked + 1; checkpoint = option_map with_page_flushed old.checkpoint }) (sym (batch_in base version before old begun s)),
  h.2,
)
life_steps base version before old new (Flushed (Err refusal)) there begun s h =
    ⊎_elim
    (λ r. inl (refused_in base version before old new refusal _ _ (flush_refusal_in base version before old begun) r))
    (λ f. inr (flush_refusal_in base version before old begun ∙ f.0, f.1, ap (within base version before) f.2 ∙ ap (failed (within base version before old)) (sym (batch_in base version before old begun s))))
    h
life_steps base version before old new (Checkpointed pages (Ok part)) there begun s h = (h.0, h.1, ap (within base version before) h.2 ∙ part_in base version before old pages)
life_steps base version before old new (Checkpointed pages (Err refusal)) there begun s h =
    ⊎_elim (λ r. inl (r.0, ap (within base version before) r.1)) (λ f. inr (f.0, f.1, f.2, ap (within base version before) f.3)) h
life_steps base version before old new (TookTask (Ok None)) there begun s h = (h.0, ap (within base version before) h.1)
life_steps base version before old new (TookTask (Ok (Some task))) there begun s h =
    (h.0, h.1, network_in base version before old begun there old.durable (omega arith) ∙ h.2, ap (within base version before) h.3)
life_steps base version before old new (TookTask (Err refusal)) there begun s h = (h.0, h.1, ap (within base version before) h.2)
life_steps base version before old new (GaveUp number) there begun s h = ap (within base version before) h ∙ given_up_in base version before old number
life_steps base version before old new (Published v network (Ok shown)) there begun s h =
    ((h.0.0, network_in base version before old begun there v (task_version old s v h.0.0) ∙ h.0.1), h.1, ap (within base version before) h.2)
life_steps base version before old new (Published v network (Err refusal)) there begun s h =
    (⊎_elim (λ a. inl a) (λ b. inr (b.0, b.1, λ t. b.2 (t.0, sym (network_in base version before old begun there v (task_version old s v t.0)) ∙ t.1))) h.0, ap (within base version before) h.1)
life_steps base version before old new (Asked query (Ok answer)) there begun s h =
    (h.0, (h.1.0, network_in base version before old begun there old.shown (omega arith) ∙ h.1.1, h.1.2), ap (within base version before) h.2)
life_steps base version before old new (Asked query (Err refusal)) there begun s h =
    (h.0, (h.1.0, network_in base version before old begun there old.shown (omega arith) ∙ h.1.1, h.1.2), ap (within base version before) h.2)
life_steps base version before old new (Received ticket result) there begun s h =
    let from : old.base_version + 1 ≤ ticket.number = h.0.0 in
    let place : ticket.number - version ≡ length before + (ticket.number - old.base_version) = omega arith in
    ((omega arith, ap (nth (before ++ old.accepted)) place ∙ (nth_behind before old.accepted (ticket.number - old.base_version) (omega arith) ∙ h.0.1)), h.1, ap (within base version before) h.2)
life_steps base version before old new (Stopped v) there begun s h =
    let between = left_between old s v h.0 in
    (h.0, (h.1.0, h.1.1, ap (within base version before) h.1.2 ∙ ap (λ (cs : List Group). record (reopened (within base version before old) v h.1.0) { accepted = cs }) (sym (groups_in base version before old begun v (omega arith)))))
