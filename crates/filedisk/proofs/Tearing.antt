-- How the calls of a file follow one another.
use Rattle.std.proofs.Common.{◌≡◌, ◌∙◌, inl, inr, ⊎_elim, ℕ, ◌+◌, ◌-◌, ◌≤◌, List, length, take, drop, refl, ap, arith, length-take, length-drop}
use Rattle.std.specs.Prelude.{slice_index}
use Rattle.disk.specs.Contents.{Torn, AreAmong, PartlyWritten}
use Rattle.disk.specs.Moments.{Elapses}
use Rattle.filedisk.specs.Files.{Unchanged, Tears}

-- ---- one content
pub torn_same : (at n : ℕ) (old new : List ℕ) → new ≡ old → Torn at n old new
torn_same at n old new e = record {
  before = λ i lt. ap (λ (l : List ℕ). slice_index l i) e;
  after = λ i ge. ap (λ (l : List ℕ). slice_index l i) e;
  no_shorter = rw e (omega arith);
  no_longer = rw e (omega arith);
}

pub torn_twice : (at n : ℕ) (old mid new : List ℕ) → Torn at n old mid → Torn at n mid new → Torn at n old new
torn_twice at n old mid new first second = record {
  before = λ i lt. second.before i lt ∙ first.before i lt;
  after = λ i ge. second.after i ge ∙ first.after i ge;
  no_shorter = omega (arith, first.no_shorter, second.no_shorter);
  no_longer = omega (arith, first.no_longer, second.no_longer);
}

-- a range within this one
pub torn_within : (at n at' n' : ℕ) (old new : List ℕ) → at ≤ at' → at' + n' ≤ at + n → Torn at' n' old new → Torn at n old new
torn_within at n at' n' old new begins ends torn = record {
  before = λ i lt. torn.before i (omega (arith, lt, begins));
  after = λ i ge. torn.after i (omega (arith, ge, ends));
  no_shorter = torn.no_shorter;
  no_longer = omega (arith, torn.no_longer, ends);
}

-- a write that keeps the length is partly written
pub partly_same_length : (at n : ℕ) (old new : List ℕ) → new ≡ old → PartlyWritten at n old new
partly_same_length at n old new e = record { torn = torn_same at n old new e; whole_length = inl (ap length e) }

-- ---- time
elapsed_none : (before : ℕ) (since : ℕ → List ℕ → Type 0) (left : List ℕ → Type 0) → Elapses before before since since left
elapsed_none before since left = record { later = omega arith; adds = λ t c le s. inl s; keeps = λ t c le s. s }

module _ {F : Type 0} (content : F → List ℕ) (left : F → List ℕ → Type 0) (moment : F → ℕ) (left_since : F → ℕ → List ℕ → Type 0) where
  -- ---- calls that change nothing
  pub unchanged_none : (file : F) → Unchanged content left moment left_since file file
  unchanged_none file = record { same = refl; among = λ c now. now; time = elapsed_none (moment file) (left_since file) (left file) }

  pub unchanged_twice : (old mid new : F) → ((t : ℕ) (c : List ℕ) → t ≤ moment old → left old c → left_since old t c)
      → Unchanged content left moment left_since old mid → Unchanged content left moment left_since mid new → Unchanged content left moment left_since old new
  unchanged_twice old mid new counts first second = record {
    same = second.same ∙ first.same;
    among = λ c now. first.among c (second.among c now);
    time = record {
      later = omega (arith, first.time.later, second.time.later);
      adds = λ t c le since. ⊎_elim
          (λ past. ⊎_elim (λ older. inl older) (λ then. inl (counts t c le (first.among c then))) (first.time.adds t c le past))
          (λ now. inr now)
          (second.time.adds t c (omega (arith, le, first.time.later)) since);
      keeps = λ t c le past. second.time.keeps t c (omega (arith, le, first.time.later)) (first.time.keeps t c le past);
    };
  }

  -- ---- calls that write
  pub tears_none : (at n : ℕ) (file : F) → Tears at n content left moment left_since file file
  tears_none at n file = record {
    torn = torn_same at n (content file) (content file) refl;
    stop = λ c now. (c, now, torn_same at n c c refl);
    time = elapsed_none (moment file) (left_since file) (left file);
  }

  pub unchanged_tears : (at n : ℕ) (old new : F) → Unchanged content left moment left_since old new → Tears at n content left moment left_since old new
  unchanged_tears at n old new same = record {
    torn = torn_same at n (content old) (content new) same.same;
    stop = λ c now. (c, same.among c now, torn_same at n c c refl);
    time = same.time;
  }

  pub tears_within : (at n at' n' : ℕ) (old new : F) → at ≤ at' → at' + n' ≤ at + n → Tears at' n' content left moment left_since old new → Tears at n content left moment left_since old new
  tears_within at n at' n' old new begins ends tears = record {
    torn = torn_within at n at' n' (content old) (content new) begins ends tears.torn;
    stop = λ c now. let was = tears.stop c now in (was.0, was.1, torn_within at n at' n' was.0 c begins ends was.2);
    time = tears.time;
  }

  -- the second of them keeps what a stop might have left before it
  pub tears_twice : (at n : ℕ) (old mid new : F) → Tears at n content left moment left_since old mid → Tears at n content left moment left_since mid new → AreAmong (left mid) (left new)
      → Tears at n content left moment left_since old new
  tears_twice at n old mid new first second keeps = record {
    torn = torn_twice at n (content old) (content mid) (content new) first.torn second.torn;
    stop = λ c now.
        let then = second.stop c now in
        let was = first.stop then.0 then.1 in
        (was.0, was.1, torn_twice at n was.0 then.0 c was.2 then.2);
    time = record {
      later = omega (arith, first.time.later, second.time.later);
      adds = λ t c le since. ⊎_elim
          (λ past. ⊎_elim (λ older. inl older) (λ then. inr (keeps c then)) (first.time.adds t c le past))
          (λ now. inr now)
          (second.time.adds t c (omega (arith, le, first.time.later)) since);
      keeps = λ t c le past. second.time.keeps t c (omega (arith, le, first.time.later)) (first.time.keeps t c le past);
    };
  }

  pub among_none : (file : F) → AreAmong (left file) (left file)
  among_none file = λ c now. now

  pub among_twice : (old mid new : F) → AreAmong (left old) (left mid) → AreAmong (left mid) (left new) → AreAmong (left old) (left new)
  among_twice old mid new first second = λ c now. second c (first c now)

  -- one piece more of a write
  pub tears_more : (bytes : List ℕ) (at done place : ℕ) (old mid new : F) → place ≡ at + done → done ≤ length bytes → Tears at (length bytes) content left moment left_since old mid
      → Tears place (length (take (length bytes - done) (drop done bytes))) content left moment left_since mid new → AreAmong (left mid) (left new) → Tears at (length bytes) content left moment left_since old new
  tears_more bytes at done place old mid new is within first second keeps =
      let rest = length-take (length bytes - done) (drop done bytes) in
      tears_twice at (length bytes) old mid new first
      (tears_within at (length bytes) place (length (take (length bytes - done) (drop done bytes))) mid new (omega (arith, is)) (omega (arith, is, rest, length-drop done bytes, within)) second) keeps
