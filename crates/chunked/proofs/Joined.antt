-- Lists of one size, joined end to end: where the items of each stand.
use Rattle.std.proofs.Common.{◌≡◌, ◌∙◌, ℕ, zero, suc, ◌+◌, ◌-◌, ◌*◌, ◌<◌, List, [], ◌∷◌, ◌++◌, length, get_or, set, take, drop, refl, sym, ap, arith}
use Rattle.std.specs.List.{flat_map}
use Rattle.std.proofs.Math.Seq.{take-append-add}
use Rattle.std.proofs.lemmas.List.{length-append, get_or-drop, get_or_append_left, take_at, drop_at, drop_all, drop_more, take_all, set-append_left, set-append_right, drop-drop}

module _ {X A : Type 0} (f : X → List A) (n : ℕ) (each : (x : X) → length (f x) ≡ n) where
  pub length-joined : (xs : List X) → length (flat_map f xs) ≡ length xs * n
  length-joined [] = omega arith
  length-joined (x ∷ xs) = omega (arith, length-append (f x) (flat_map f xs), each x, length-joined xs)

  -- what stands from the k-th list on
  pub drop-joined : (xs : List X) (k : ℕ) → drop (k * n) (flat_map f xs) ≡ flat_map f (drop k xs)
  drop-joined xs zero =
      let e : 0 * n ≡ 0 = omega arith in
      rw e refl
  drop-joined [] (suc k) = drop_all (suc k * n) [] (omega arith)
  drop-joined (x ∷ xs) (suc k) =
      let e : suc k * n ≡ n + k * n = omega arith in
      rw e (sym (drop-drop (k * n) n (f x ++ flat_map f xs)) ∙ (ap (drop (k * n)) (drop_at (f x) (flat_map f xs) n (each x)) ∙ drop-joined xs k))

  -- what stands before the k-th list
  pub take-before : (xs : List X) (k : ℕ) → flat_map f (take k xs) ≡ take (k * n) (flat_map f xs)
  take-before xs zero =
      let e : 0 * n ≡ 0 = omega arith in
      rw e refl
  take-before [] (suc k) = sym (take_all (suc k * n) [] (omega arith))
  take-before (x ∷ xs) (suc k) =
      let e : suc k * n ≡ length (f x) + k * n = omega (arith, each x) in
      rw e (ap (λ (l : List A). f x ++ l) (take-before xs k) ∙ sym (take-append-add (f x) (flat_map f xs) (k * n)))

  -- the same, with the k-th list first
  from_kth : (xs : List X) (k : ℕ) (d : X) → k < length xs → drop (k * n) (flat_map f xs) ≡ f (get_or xs k d) ++ flat_map f (drop (k + 1) xs)
  from_kth xs k d h = drop-joined xs k ∙ ap (flat_map f) (drop_more xs k d h)

  -- the j-th item of the k-th list
  pub get_or-joined : (xs : List X) (k j : ℕ) (d : X) (e : A) → k < length xs → j < n → get_or (flat_map f xs) (k * n + j) e ≡ get_or (f (get_or xs k d)) j e
  get_or-joined xs k j d e h h' =
      sym (get_or-drop (k * n) (flat_map f xs) j e)
      ∙ (ap (λ (l : List A). get_or l j e) (from_kth xs k d h) ∙ get_or_append_left (f (get_or xs k d)) (flat_map f (drop (k + 1) xs)) e j (omega (arith, each (get_or xs k d))))

  -- the k-th list
  pub take-joined : (xs : List X) (k : ℕ) (d : X) → k < length xs → take n (drop (k * n) (flat_map f xs)) ≡ f (get_or xs k d)
  take-joined xs k d h = ap (take n) (from_kth xs k d h) ∙ take_at (f (get_or xs k d)) (flat_map f (drop (k + 1) xs)) n (each (get_or xs k d))

  -- the k-th list with its j-th item replaced
  pub set-joined : (xs : List X) (k j : ℕ) (d y : X) (v : A) → k < length xs → j < n → f y ≡ set (f (get_or xs k d)) j v → flat_map f (set xs k y) ≡ set (flat_map f xs) (k * n + j) v
  set-joined [] k j d y v h h' is = absurd (omega arith)
  set-joined (x ∷ xs) zero j d y v h h' is =
      let e : 0 * n + j ≡ j = omega arith in
      rw e (ap (λ (l : List A). l ++ flat_map f xs) is ∙ sym (set-append_left (f x) (flat_map f xs) j v (omega (arith, each x))))
  set-joined (x ∷ xs) (suc k) j d y v h h' is =
      let e : suc k * n + j - n ≡ k * n + j = omega arith in
      ap (λ (l : List A). f x ++ l) (set-joined xs k j d y v (omega arith) h' is ∙ ap (λ i. set (flat_map f xs) i v) (sym e)) ∙ sym (set-append_right (f x) (flat_map f xs) n (suc k * n + j) v (each x) (omega arith))
