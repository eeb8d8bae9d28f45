-- Pages that are written one behind the other.
use Rattle.std.proofs.Common.{◌≡◌, ℕ, suc, ◌+◌, ◌≤◌, List, ◌++◌, length, take, drop, refl, sym, ◌∙◌, ap, arith, append_assoc, length-append, length-take, length-drop, append-nil}
use Rattle.std.specs.Prelude.{⊤, Result, Ok, Err, OnOk}
use Rattle.std.proofs.lemmas.Slice.{take-put_mid}
use borrow.Rule.Slice.PartMut.{put_mid}
use Rattle.store.specs.Created.{Waiting, so_far, IsInStep, first_pages}

-- a page behind those that wait
pub grown : (used n : ℕ) (bytes new page : List ℕ) → used + 4096 ≤ length bytes → new ≡ page → length page ≡ 4096 → take (used + 4096) (put_mid used n bytes new) ≡ take used bytes ++ page
grown used n bytes new page fits is size = take-put_mid used n bytes new (used + 4096) (omega (arith, ap length is, size)) (omega arith) ∙ ap (λ (xs : List ℕ). take used bytes ++ xs) is

pub length-put : (used n : ℕ) (bytes new : List ℕ) → used + n ≤ length bytes → length new ≡ n → length (put_mid used n bytes new) ≡ length bytes
length-put used n bytes new fits size =
    let e : put_mid used n bytes new ≡ take used bytes ++ (new ++ drop n (drop used bytes)) = refl in
    omega (arith, size, ap length e, length-append (take used bytes) (new ++ drop n (drop used bytes)), length-append new (drop n (drop used bytes)), length-take used bytes, length-drop n (drop used bytes), length-drop used bytes)

-- one page more
pub next_step : (content content' : List ℕ) (was is : Waiting) (page : List ℕ) → IsInStep content was → so_far content' is ≡ so_far content was ++ page → is.next ≡ was.next + 1 → length page ≡ 4096 → IsInStep content' is
next_step content content' was is page step written next size = omega (arith, step, next, size, ap length written, length-append content' is.bytes, length-append (so_far content was) page, length-append content was.bytes)

-- the same after a call that adds a page, if it succeeds
pub next_step_ok : {E : Type 0} (told : Result ⊤ E) (content content' : List ℕ) (was is : Waiting) (page : List ℕ) → IsInStep content was → length page ≡ 4096
    → OnOk told (so_far content' is ≡ so_far content was ++ page) → OnOk told (is.next ≡ was.next + 1) → OnOk told (IsInStep content' is)
next_step_ok (Ok _) content content' was is page step size written next = next_step content content' was is page step written next size
next_step_ok (Err _) content content' was is page step size written next = tt

-- From old to new these pages, so many, came behind the file.
pub record Progress {D : Type 0} (content : D → List ℕ) (failures : D → ℕ) (honest : D → Type 0) (old new : D) (was is : Waiting) (pages : ℕ → List ℕ) (n : ℕ) : Type 0 where
  pub written : honest old → so_far (content new) is ≡ so_far (content old) was ++ first_pages pages n
  pub in_step : honest old → IsInStep (content new) is
  pub next : is.next ≡ was.next + n
  pub failures_same : failures new ≡ failures old
  pub to_new : honest old → honest new
  pub to_old : honest new → honest old

module _ {D : Type 0} (content : D → List ℕ) (failures : D → ℕ) (honest : D → Type 0) where
  pub begun : (old : D) (was : Waiting) (pages : ℕ → List ℕ) → (honest old → IsInStep (content old) was) → Progress content failures honest old old was was pages 0
  unfolding first_pages
  begun old was pages in_step = record {
    written = λ h. sym (append-nil (so_far (content old) was));
    in_step = in_step;
    next = omega arith;
    failures_same = refl;
    to_new = λ h. h;
    to_old = λ h. h;
  }

  pub one_more : (old mid new : D) (was then is : Waiting) (pages : ℕ → List ℕ) (n : ℕ) (page : List ℕ) → Progress content failures honest old mid was then pages n
      → (honest mid → so_far (content new) is ≡ so_far (content mid) then ++ page) → is.next ≡ then.next + 1 → failures new ≡ failures mid → (honest mid → honest new) → (honest new → honest mid)
      → page ≡ pages n → length page ≡ 4096 → Progress content failures honest old new was is pages (n + 1)
  unfolding first_pages
  one_more old mid new was then is pages n page so written next same forth back which size =
      let e : n + 1 ≡ suc n = omega arith in
      record {
        written = λ h. written (so.to_new h) ∙ ap (λ (xs : List ℕ). xs ++ page) (so.written h) ∙ append_assoc (so_far (content old) was) (first_pages pages n) page
            ∙ ap (λ (xs : List ℕ). so_far (content old) was ++ (first_pages pages n ++ xs)) which ∙ ap (λ (k : ℕ). so_far (content old) was ++ first_pages pages k) (sym e);
        in_step = λ h. omega (arith, so.in_step h, next, size, ap length (written (so.to_new h)), length-append (content new) is.bytes, length-append (so_far (content mid) then) page, length-append (content mid) then.bytes);
        next = omega (arith, next, so.next);
        failures_same = same ∙ so.failures_same;
        to_new = λ h. forth (so.to_new h);
        to_old = λ h. so.to_old (back h);
      }
