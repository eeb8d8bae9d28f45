-- How a run of disk calls goes on.
use Rattle.std.proofs.Common.{◌≡◌, inl, inr, ⊎_elim, ℕ, ◌≤◌, List, refl, ◌∙◌, arith}
use Rattle.disk.specs.Contents.{AreAmong}
use Rattle.disk.specs.Moments.{Elapses, LeavesOnly, AddsNothing, StaysSame}

module _ {D : Type 0} (moment : D → ℕ) (left_since : D → ℕ → List ℕ → Type 0) where
  -- before the first call
  pub started : (old : D) (P : List ℕ → Type 0) → ((c : List ℕ) → left_since old (moment old) c → P c) → LeavesOnly moment left_since old old P
  started old P here = record { later = omega arith; each = here; before = λ t c le left. inl left }

  -- one call more, after which a stop leaves what has P
  pub goes_on : (old mid new : D) (P left : List ℕ → Type 0) → LeavesOnly moment left_since old mid P → Elapses (moment mid) (moment new) (left_since mid) (left_since new) left
      → ((c : List ℕ) → left c → P c) → LeavesOnly moment left_since old new P
  goes_on old mid new P left so_far time here = record {
    later = omega (arith, so_far.later, time.later);
    each = λ c since. ⊎_elim (so_far.each c) (here c) (time.adds (moment old) c so_far.later since);
    before = λ t c le since. ⊎_elim (so_far.before t c le) (λ now. inr (here c now)) (time.adds t c (omega (arith, le, so_far.later)) since);
  }

  -- one run after another
  pub and_then : (old mid new : D) (P Q : List ℕ → Type 0) → LeavesOnly moment left_since old mid P → LeavesOnly moment left_since mid new Q
      → ((c : List ℕ) → Q c → P c) → LeavesOnly moment left_since old new P
  and_then old mid new P Q first second within = record {
    later = omega (arith, first.later, second.later);
    each = λ c since. ⊎_elim (first.each c) (within c) (second.before (moment old) c first.later since);
    before = λ t c le since. ⊎_elim (first.before t c le) (λ now. inr (within c now)) (second.before t c (omega (arith, le, first.later)) since);
  }

  pub weaker : (old new : D) (P Q : List ℕ → Type 0) → LeavesOnly moment left_since old new P → ((c : List ℕ) → P c → Q c) → LeavesOnly moment left_since old new Q
  weaker old new P Q run within = record {
    later = run.later;
    each = λ c since. within c (run.each c since);
    before = λ t c le since. ⊎_elim (λ past. inl past) (λ now. inr (within c now)) (run.before t c le since);
  }

  -- after the run a stop leaves what has P
  pub leaves_now : (old new : D) (P left : List ℕ → Type 0) → LeavesOnly moment left_since old new P → ((t : ℕ) (c : List ℕ) → t ≤ moment new → left c → left_since new t c)
      → (c : List ℕ) → left c → P c
  leaves_now old new P left run counts c now = run.each c (counts (moment old) c run.later now)

  -- no call is made
  pub nothing : (disk : D) → AddsNothing moment left_since disk disk
  nothing disk = record { later = omega arith; each = λ t c le since. since }

  -- a call after which a stop leaves only what one might have left before it
  pub adds_nothing : (old new : D) (left_old left_new : List ℕ → Type 0) → Elapses (moment old) (moment new) (left_since old) (left_since new) left_new → AreAmong left_new left_old
      → ((t : ℕ) (c : List ℕ) → t ≤ moment old → left_old c → left_since old t c) → AddsNothing moment left_since old new
  adds_nothing old new left_old left_new time among counts = record {
    later = time.later;
    each = λ t c le since. ⊎_elim (λ past. past) (λ now. counts t c le (among c now)) (time.adds t c le since);
  }

  pub nothing_twice : (old mid new : D) → AddsNothing moment left_since old mid → AddsNothing moment left_since mid new → AddsNothing moment left_since old new
  nothing_twice old mid new first second = record {
    later = omega (arith, first.later, second.later);
    each = λ t c le since. first.each t c le (second.each t c (omega (arith, le, first.later)) since);
  }

  -- a run that adds nothing, where a stop before it leaves what has P
  pub nothing_leaves : (old new : D) (P : List ℕ → Type 0) → AddsNothing moment left_since old new → ((c : List ℕ) → left_since old (moment old) c → P c) → LeavesOnly moment left_since old new P
  nothing_leaves old new P run here = record {
    later = run.later;
    each = λ c since. here c (run.each (moment old) c (omega arith) since);
    before = λ t c le since. inl (run.each t c le since);
  }

  -- a run, and then one that adds nothing
  pub then_nothing : (old mid new : D) (P : List ℕ → Type 0) → LeavesOnly moment left_since old mid P → AddsNothing moment left_since mid new → LeavesOnly moment left_since old new P
  then_nothing old mid new P first second = record {
    later = omega (arith, first.later, second.later);
    each = λ c since. first.each c (second.each (moment old) c first.later since);
    before = λ t c le since. first.before t c le (second.each t c (omega (arith, le, first.later)) since);
  }

  -- The content stays, and nothing is added.
  module _ (content : D → List ℕ) (left : D → List ℕ → Type 0) where
    pub same : (disk : D) → StaysSame content left moment left_since disk disk
    same disk = record { same_content = refl; among = λ c now. now; adds_nothing = nothing disk }

    pub same_call : (old new : D) → content new ≡ content old → AreAmong (left new) (left old) → Elapses (moment old) (moment new) (left_since old) (left_since new) (left new)
        → ((t : ℕ) (c : List ℕ) → t ≤ moment old → left old c → left_since old t c) → StaysSame content left moment left_since old new
    same_call old new is among time counts = record { same_content = is; among = among; adds_nothing = adds_nothing old new (left old) (left new) time among counts }

    pub same_twice : (old mid new : D) → StaysSame content left moment left_since old mid → StaysSame content left moment left_since mid new → StaysSame content left moment left_since old new
    same_twice old mid new first second = record {
      same_content = second.same_content ∙ first.same_content;
      among = λ c now. first.among c (second.among c now);
      adds_nothing = nothing_twice old mid new first.adds_nothing second.adds_nothing;
    }
