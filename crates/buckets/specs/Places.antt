-- Sets of numbers as bits, 64 a word: the number k has the bit k % 64 of word k / 64.
--     place_bit words k         1 where k is in the set, else 0
--     IsNext words from k       k is the least member that is at least `from`; with nothing there is none
--     IsSummary words summary   the summary's members are the words that are not 0
use Rattle.std.specs.Prelude.{◌≡◌, ◌≢◌, ℕ, ◌*◌, ◌/◌, ◌%◌, ◌<◌, ◌≤◌, List, length, slice_index, Option, MatchOption}
use Rattle.std.specs.Int.{bit_at}

abbrev pub place_bit : List ℕ → ℕ → ℕ
place_bit words k = bit_at (slice_index words (k / 64)) (k % 64)

abbrev pub IsNoneFrom : List ℕ → ℕ → Type 0
IsNoneFrom words from = (k : ℕ) → from ≤ k → place_bit words k ≡ 0

pub record IsLeastFrom (words : List ℕ) (from place : ℕ) : Type 0 where
  pub far : from ≤ place
  pub member : place_bit words place ≡ 1
  pub least : (k : ℕ) → from ≤ k → k < place → place_bit words k ≡ 0

abbrev pub IsNext : List ℕ → ℕ → Option ℕ → Type 0
IsNext words from next = MatchOption next (IsNoneFrom words from) (IsLeastFrom words from)

pub record IsSummary (words summary : List ℕ) : Type 0 where
  pub few : length words ≤ 67108864
  pub small : length summary ≤ 67108864
  pub covers : length words ≤ 64 * length summary
  pub marked : (w : ℕ) → slice_index words w ≢ 0 → place_bit summary w ≡ 1
  pub used : (w : ℕ) → slice_index words w ≡ 0 → place_bit summary w ≡ 0
