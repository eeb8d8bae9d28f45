-- Lists of one size, joined end to end: where the items of each stand.
use Rattle.std.proofs.Common.{◌≡◌, ◌∙◌, ℕ, zero, suc, ◌+◌, ◌*◌, ◌<◌, List, [], ◌∷◌, length, get_or, map, arith}
use Rattle.std.specs.List.{flat_map}
use Rattle.std.proofs.lemmas.List.{length-append, get_or-append-add, get_or_append_left}

module _ {X A : Type 0} (f : X → List A) (n : ℕ) (each : (x : X) → length (f x) ≡ n) where
  pub length-joined : (xs : List X) → length (flat_map f xs) ≡ length xs * n
  length-joined [] = omega arith
  length-joined (x ∷ xs) = omega (arith, length-append (f x) (flat_map f xs), each x, length-joined xs)

  -- the j-th item of the k-th list
  pub get_or-joined : (xs : List X) (k j : ℕ) (d : A) → k < length xs → j < n → get_or (flat_map f xs) (k * n + j) d ≡ get_or (get_or (map f xs) k []) j d
  get_or-joined [] k j d h h' = absurd (omega arith)
  get_or-joined (x ∷ xs) zero j d h h' =
      let at : 0 * n + j ≡ j = omega arith in
      rw at (get_or_append_left (f x) (flat_map f xs) d j (omega (arith, each x)))
  get_or-joined (x ∷ xs) (suc k) j d h h' =
      let at : suc k * n + j ≡ length (f x) + (k * n + j) = omega (arith, each x) in
      rw at (get_or-append-add (f x) (flat_map f xs) (k * n + j) d ∙ get_or-joined xs k j d (omega arith) h')
