-- How many nodes are reached, and how far one may be: no sum of a word and a length overflows.
use Rattle.std.proofs.Common.{◌≡◌, ◌≢◌, ◌∙◌, ℕ, ◌+◌, ◌*◌, ◌<◌, ◌≤◌, true, false, cond, List, length, get_or, set, sum, refl, arith, eqb, ⊎_elim}
use Rattle.std.specs.List.{sum_by}
use Rattle.std.proofs.lemmas.Bool.{cases_eq}
use Rattle.std.proofs.lemmas.Bool.Decides.{nat_tests}
use Rattle.std.proofs.lemmas.List.{get_or-set_same, get_or-set_other, length-set}
use Rattle.std.proofs.lemmas.List.Sums.{sum_by-set, sum_by-le}
use Rattle.deltastep.specs.Words.{no_walk}
use Rattle.deltastep.specs.Tentative.{reached_count, IsBounded}

pub test_eq : (a b : ℕ) → a ≡ b → eqb a b ≡ true
test_eq a b e = grind (arith, nat_tests)

pub test_ne : (a b : ℕ) → (a ≡ b → ⊥) → eqb a b ≡ false
test_ne a b e = grind (arith, nat_tests)

-- ---- how many are reached
pub count_of : ℕ → ℕ
count_of word = cond (eqb word 18446744073709551615) 0 1

pub count_none : (word : ℕ) → word ≡ no_walk → count_of word ≡ 0
unfolding count_of
count_none word e = rw (test_eq word 18446744073709551615 e) refl

pub count_one : (word : ℕ) → word ≢ no_walk → count_of word ≡ 1
unfolding count_of
count_one word e = rw (test_ne word 18446744073709551615 e) refl

count-le : (word : ℕ) → count_of word ≤ 1
count-le word =
    ⊎_elim (λ (e : word ≡ no_walk). omega (arith, count_none word e)) (λ (e : word ≡ no_walk → ⊥). omega (arith, count_one word e)) (cases_eq word no_walk)

count_is : (words : List ℕ) → reached_count words ≡ sum_by count_of words
unfolding count_of
count_is words = refl

pub count-set : (words : List ℕ) (i x : ℕ) → i < length words → reached_count (set words i x) + count_of (get_or words i 0) ≡ reached_count words + count_of x
count-set words i x lt = rw (count_is words, count_is (set words i x)) (sum_by-set count_of words i x 0 lt)

pub reached-le : (words : List ℕ) → reached_count words ≤ length words
reached-le words = rw (count_is words) (omega (arith, sum_by-le count_of 1 words (λ k d lt. count-le (get_or words k d))))

-- a reached word is far from the greatest
pub near_bound : (nodes : ℕ) (words : List ℕ) (k : ℕ) → IsBounded nodes words → length words ≤ 33554432 → k < length words → get_or words k 0 ≢ no_walk → get_or words k 0 + 2147483647 ≤ 72057594004373504
near_bound nodes words k bounded few lt ne =
    let near : get_or words k 0 + 2147483647 ≤ 2147483647 * reached_count words = bounded.near k lt ne in
    omega (arith, reached-le words)

-- a word lowered to the way by a reached node and one arc
pub IsBounded-set : (nodes : ℕ) (words : List ℕ) (j i x : ℕ) → IsBounded nodes words → length words ≤ 33554432 → j < length words → get_or words j 0 ≢ no_walk → x ≤ get_or words j 0 + 2147483647 → i < length words → x < get_or words i 0 → IsBounded nodes (set words i x)
IsBounded-set nodes words j i x bounded few j_in reached way i_in nearer = record {
  size = length-set words i x ∙ bounded.size;
  near = λ k lt ne.
      let from : get_or words j 0 + 2147483647 ≤ 2147483647 * reached_count words = bounded.near j j_in reached in
      let from_far : get_or words j 0 + 2147483647 ≤ 72057594004373504 = near_bound nodes words j bounded few j_in reached in
      let one : count_of x ≡ 1 = count_one x (λ e. absurd (omega arith)) in
      let counts : reached_count (set words i x) + count_of (get_or words i 0) ≡ reached_count words + count_of x = count-set words i x i_in in
      let k_in : k < length words = omega (arith, length-set words i x) in
      ⊎_elim
      (λ (e : k ≡ i).
      let is : get_or (set words i x) k 0 ≡ x = rw e (get_or-set_same words i x 0 i_in) in
      ⊎_elim
      (λ (none : get_or words i 0 ≡ no_walk). let zero_before : count_of (get_or words i 0) ≡ 0 = count_none _ none in omega arith)
      (λ (some : get_or words i 0 ≡ no_walk → ⊥).
      let one_before : count_of (get_or words i 0) ≡ 1 = count_one _ some in
      let before : get_or words i 0 + 2147483647 ≤ 2147483647 * reached_count words = bounded.near i i_in some in
      omega arith)
      (cases_eq (get_or words i 0) no_walk))
      (λ (other : k ≡ i → ⊥).
      let is : get_or (set words i x) k 0 ≡ get_or words k 0 = get_or-set_other words i k x 0 other in
      let before : get_or words k 0 + 2147483647 ≤ 2147483647 * reached_count words = bounded.near k k_in (λ e. ne (is ∙ e)) in
      let most : count_of (get_or words i 0) ≤ 1 = count-le (get_or words i 0) in
      omega arith)
      (cases_eq k i);
}

pub sum-set_lower : (words : List ℕ) (i x : ℕ) → i < length words → x < get_or words i 0 → sum (set words i x) < sum words
sum-set_lower words i x lt lower = omega (arith, sum_by-set (λ y. y) words i x 0 lt)
