-- Which entries stand in which buckets after one is put, and after a bucket is taken.
use Rattle.std.proofs.Common.{◌≡◌, ◌≢◌, ℕ, zero, suc, ◌+◌, ◌%◌, ◌<◌, ◌≤◌, ◌⊎◌, List, [], ◌∷◌, length, Contains, refl, sym, ap, subst, ◌∙◌, inl, inr, arith, length-append}
use Rattle.std.specs.Global.{Vec}
use Rattle.std.proofs.lemmas.Bool.{cases_eq}
use Rattle.std.proofs.lemmas.List.Elements.{Contains-append_left, Contains-push}
use Rattle.std.proofs.lemmas.List.Sums.{sum_by-cons}
use Rattle.buckets.specs.Rings.{IsBucketWithin}
use Rattle.buckets.proofs.Ringed.{mod_apart}
use Rattle.frontier.specs.Entries.{EntryLists, entries_at, entry_count, IsAdded, TakesNext}
use Rattle.frontier.specs.Keyed.{IsPutInto, StandsAt, TakesBucket}
use Rattle.frontier.proofs.EntryLists.{Contains-none, least_bucket, member_added, same_bucket, some_member, was_bucket, was_listed}

-- nothing stands in empty lists
pub nothing_stands : (last : ℕ) (lists : EntryLists) → ((p : ℕ) → entries_at lists p ≡ []) → (b : ℕ) (e : ℕ × ℕ) → StandsAt last lists b e → ⊥
nothing_stands last lists none b e at = Contains-none e (subst (λ (l : List (ℕ × ℕ)). Contains l e) (none (b % length lists)) at.member)

-- ---- an entry is put

same_count : (old new : EntryLists) → length new ≡ length old → ((q : ℕ) → length (entries_at new q) ≡ length (entries_at old q)) → entry_count new ≡ entry_count old
same_count [] [] size same = refl
same_count [] (y ∷ ys) size same = absurd (omega arith)
same_count (x ∷ xs) [] size same = absurd (omega arith)
same_count (x ∷ xs) (y ∷ ys) size same =
    let f : Vec (ℕ × ℕ) → ℕ = λ (l : Vec (ℕ × ℕ)). length l.items in
    let here : length y.items ≡ length x.items = same 0 in
    omega (arith, here, same_count xs ys (omega arith) (λ q. same (suc q)), sum_by-cons f x xs, sum_by-cons f y ys)

more_count : (old new : EntryLists) (p : ℕ) → length new ≡ length old → p < length old → length (entries_at new p) ≡ length (entries_at old p) + 1 → ((q : ℕ) → q ≢ p → length (entries_at new q) ≡ length (entries_at old q)) → entry_count new ≡ entry_count old + 1
more_count [] new p size within more same = absurd (omega arith)
more_count (x ∷ xs) [] p size within more same = absurd (omega arith)
more_count (x ∷ xs) (y ∷ ys) zero size within more same =
    let f : Vec (ℕ × ℕ) → ℕ = λ (l : Vec (ℕ × ℕ)). length l.items in
    let here : length y.items ≡ length x.items + 1 = more in
    omega (arith, here, same_count xs ys (omega arith) (λ q. same (suc q) (λ e. omega (arith, e))), sum_by-cons f x xs, sum_by-cons f y ys)
more_count (x ∷ xs) (y ∷ ys) (suc p) size within more same =
    let f : Vec (ℕ × ℕ) → ℕ = λ (l : Vec (ℕ × ℕ)). length l.items in
    let here : length y.items ≡ length x.items = same 0 (λ e. omega (arith, e)) in
    omega (arith, here, more_count xs ys p (omega arith) (omega arith) more (λ q ne. same (suc q) (λ e. ne (omega (arith, e)))), sum_by-cons f x xs, sum_by-cons f y ys)

module _ (last b : ℕ) (old new : EntryLists) (e : ℕ × ℕ) (added : IsAdded old new (b % length old) e) (size : length new ≡ length old) (fits : IsBucketWithin last (length old) b) where
  in_window : (c : ℕ) → IsBucketWithin last (length new) c → IsBucketWithin last (length old) c
  in_window c at = subst (λ n. IsBucketWithin last n c) size at

  stays : (c : ℕ) (f : ℕ × ℕ) → StandsAt last old c f → StandsAt last new c f
  stays c f at = record {
    window = subst (λ n. IsBucketWithin last n c) (sym size) at.window;
    member =
        subst (λ n. Contains (entries_at new (c % n)) f) (sym size)
        (elim (cases_eq (c % length old) (b % length old)) as (λ _. Contains (entries_at new (c % length old)) f) [
          | inl is ↦ subst (λ (l : List (ℕ × ℕ)). Contains l f) (sym (ap (entries_at new) is ∙ added.here)) (Contains-append_left (entries_at old (b % length old)) (e ∷ []) f (subst (λ r. Contains (entries_at old r) f) is at.member))
          | inr ne ↦ subst (λ (l : List (ℕ × ℕ)). Contains l f) (sym (added.others (c % length old) ne)) at.member
        ]);
  }

  stands : StandsAt last new b e
  stands = record {
    window = subst (λ n. IsBucketWithin last n b) (sym size) fits;
    member = subst (λ n. Contains (entries_at new (b % n)) e) (sym size) (subst (λ (l : List (ℕ × ℕ)). Contains l e) (sym added.here) (Contains-push (entries_at old (b % length old)) e));
  }

  stood : (c : ℕ) (f : ℕ × ℕ) → StandsAt last new c f → StandsAt last old c f ⊎ ((c ≡ b) × (e ≡ f))
  stood c f at =
      let here : Contains (entries_at new (c % length old)) f = subst (λ n. Contains (entries_at new (c % n)) f) size at.member in
      elim (member_added 0 0 old new (b % length old) e added (c % length old) f here) as (λ _. StandsAt last old c f ⊎ ((c ≡ b) × (e ≡ f))) [
        | inl was ↦ inl (record { window = in_window c at.window; member = was })
        | inr is ↦ inr (same_bucket last (length old) c b (in_window c at.window) fits is.0, is.1)
      ]

  pub IsPutInto-added : IsPutInto (StandsAt last old) (StandsAt last new) b e
  IsPutInto-added c f = (stood c f, λ either. elim either as (λ _. StandsAt last new c f) [ inl was ↦ stays c f was | inr is ↦ subst (λ d. StandsAt last new d f) (sym is.0) (subst (λ g. StandsAt last new b g) is.1 stands) ])

  pub entry_count-put : b % length old < length old → entry_count new ≡ entry_count old + 1
  entry_count-put within = more_count old new (b % length old) size within (ap (λ (l : List (ℕ × ℕ)). length l) added.here ∙ length-append (entries_at old (b % length old)) (e ∷ [])) (λ q ne. ap (λ (l : List (ℕ × ℕ)). length l) (added.others q ne))

-- ---- a bucket is taken
module _ (last b : ℕ) (old new : EntryLists) (list : List (ℕ × ℕ)) (size : length new ≡ length old) (takes : TakesNext last old new b list) where
  left : (c : ℕ) (e : ℕ × ℕ) → StandsAt b new c e → StandsAt last old c e × (c ≢ b)
  left c e there =
      let member : Contains (entries_at new (c % length old)) e = subst (λ n. Contains (entries_at new (c % n)) e) size there.member in
      let window : IsBucketWithin b (length old) c = subst (λ n. IsBucketWithin b n c) size there.window in
      let some : 0 < length (entries_at new (c % length old)) = some_member (entries_at new (c % length old)) e member in
      let apart : c % length old ≢ b % length old = (was_listed last b old new list size takes (c % length old) some).0 in (
        record {
          window = (was_bucket last b old new list size takes c window some).0;
          member = subst (λ (l : List (ℕ × ℕ)). Contains l e) (takes.others (c % length old) apart) member;
        },
        λ e'. apart (ap (λ d. d % length old) e'),
      )

  first_of : (c : ℕ) (e : ℕ × ℕ) → StandsAt last old c e → b ≤ c
  first_of c e there = least_bucket last b old new list size takes c there.window (some_member (entries_at old (c % length old)) e there.member)

  stays_left : (c : ℕ) (e : ℕ × ℕ) → StandsAt last old c e → c ≢ b → StandsAt b new c e
  stays_left c e there ne =
      let low : b ≤ c = first_of c e there in
      let apart : c % length old ≢ b % length old = λ same. mod_apart b c (length old) (omega arith) (omega (arith, there.window.1, takes.window.0)) same in
      record {
        window = subst (λ n. IsBucketWithin b n c) (sym size) (low, omega (arith, there.window.1, takes.window.0));
        member = subst (λ n. Contains (entries_at new (c % n)) e) (sym size) (subst (λ (l : List (ℕ × ℕ)). Contains l e) (sym (takes.others (c % length old) apart)) there.member);
      }

  pub TakesBucket-next : TakesBucket (StandsAt last old) (StandsAt b new) b list
  TakesBucket-next = record {
    all = λ e. (λ c. record { window = takes.window; member = subst (λ (l : List (ℕ × ℕ)). Contains l e) takes.taken c }, λ there. subst (λ (l : List (ℕ × ℕ)). Contains l e) (sym takes.taken) there.member);
    least = first_of;
    rest = λ c e. (left c e, λ there. stays_left c e there.0 there.1);
  }
