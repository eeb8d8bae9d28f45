-- What the pages so far spell, and then what the others spell.
use Rattle.std.proofs.Common.{◌≡◌, ℕ, suc, ◌+◌, ◌-◌, ◌<◌, ◌≤◌, List, [], ◌++◌, Option, Result, Ok, Err, refl, sym, ap, ◌∙◌, append_assoc, arith}
use Rattle.std.proofs.lemmas.List.{append-nil}
use Rattle.roadnet.specs.declared.refusals.Refusal.{Refusal}
use Rattle.storefile.specs.Judging.{◌>>=◌, spelled_at, all_spelled}

-- these items before those
abbrev pub joined : {X : Type 0} → List X → Result (List X) Refusal → Result (List X) Refusal
joined xs (Ok ys) = Ok (xs ++ ys)
joined xs (Err d) = Err d

nothing_before : {X : Type 0} (r : Result (List X) Refusal) → r ≡ joined [] r
nothing_before (Ok ys) = refl
nothing_before (Err d) = refl

joined_twice : {X : Type 0} (xs ys : List X) (r : Result (List X) Refusal) → joined xs (r >>= λ others. Ok (ys ++ others)) ≡ joined (xs ++ ys) r
joined_twice xs ys (Ok zs) = ap (λ ts. Ok ts) (sym (append_assoc xs ys zs))
joined_twice xs ys (Err d) = refl

module _ {X : Type 0} (decode : ℕ → Option (List X)) (number : ℕ → ℕ) (n : ℕ) where
  -- before the first page
  pub starts : all_spelled decode number 0 n ≡ joined [] (all_spelled decode number 0 (n - 0))
  starts = let e : n - 0 ≡ n = omega arith in nothing_before (all_spelled decode number 0 n) ∙ ap (λ (m : ℕ). joined [] (all_spelled decode number 0 m)) (sym e)

  next : (i : ℕ) → i < n → all_spelled decode number i (n - i) ≡ (spelled_at (number i) (decode i) >>= λ first. all_spelled decode number (suc i) (n - (i + 1)) >>= λ others. Ok (first ++ others))
  next i lt = let e : n - i ≡ suc (n - (i + 1)) = omega arith in ap (all_spelled decode number i) e

  -- one page more
  pub goes_on : (said : Result (List X) Refusal) (xs ys zs : List X) (i : ℕ) → i < n → said ≡ joined xs (all_spelled decode number i (n - i)) → spelled_at (number i) (decode i) ≡ Ok ys → zs ≡ xs ++ ys
      → said ≡ joined zs (all_spelled decode number (i + 1) (n - (i + 1)))
  goes_on said xs ys zs i lt so_far here is =
      let s : suc i ≡ i + 1 = omega arith in
      so_far ∙ ap (joined xs) (next i lt ∙ ap (λ (r : Result (List X) Refusal). r >>= λ first. all_spelled decode number (suc i) (n - (i + 1)) >>= λ others. Ok (first ++ others)) here)
      ∙ joined_twice xs ys (all_spelled decode number (suc i) (n - (i + 1)))
      ∙ ap (λ (k : ℕ). joined (xs ++ ys) (all_spelled decode number k (n - (i + 1)))) s
      ∙ ap (λ (ts : List X). joined ts (all_spelled decode number (i + 1) (n - (i + 1)))) (sym is)

  -- a page that isn't spelled rightly
  pub stops : (said : Result (List X) Refusal) (xs : List X) (i : ℕ) (refusal : Refusal) → i < n → said ≡ joined xs (all_spelled decode number i (n - i)) → spelled_at (number i) (decode i) ≡ Err refusal → said ≡ Err refusal
  stops said xs i refusal lt so_far here =
      so_far ∙ ap (joined xs) (next i lt ∙ ap (λ (r : Result (List X) Refusal). r >>= λ first. all_spelled decode number (suc i) (n - (i + 1)) >>= λ others. Ok (first ++ others)) here)

  -- behind the last page
  pub ends : (said : Result (List X) Refusal) (xs : List X) (i : ℕ) → n ≤ i → said ≡ joined xs (all_spelled decode number i (n - i)) → said ≡ Ok xs
  ends said xs i past so_far =
      let e : n - i ≡ 0 = omega arith in
      so_far ∙ ap (λ (m : ℕ). joined xs (all_spelled decode number i m)) e ∙ ap (λ ts. Ok ts) (append-nil xs)
