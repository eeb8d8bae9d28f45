-- Quotients by the width of a bucket.
use Rattle.std.proofs.Common.{◌≡◌, ℕ, ◌+◌, ◌-◌, ◌*◌, ◌/◌, ◌%◌, ◌<◌, ◌≤◌, min, arith, le_trans, div-mul-le_self, div-lt_iff_lt-mul, mod-lt, div-add-mod'}
use Rattle.std.proofs.Math.Nat.{mul-le-mul_right}
use Rattle.std.proofs.lemmas.Nat.{le-div}
use Rattle.deltastep.specs.Search.{ring_buckets}

pub div-le_div : (a b d : ℕ) → 1 ≤ d → a ≤ b → a / d ≤ b / d
div-le_div a b d positive h = le-div (a / d) b d positive (le_trans (div-mul-le_self a d) h)

-- a number is at most its quotient rounded up, times the divisor
ceil_times : (a d : ℕ) → 1 ≤ d → a ≤ (a + (d - 1)) / d * d
ceil_times a d positive =
    let small : (a + (d - 1)) % d < d = mod-lt (a + (d - 1)) positive in
    omega (arith, div-add-mod' (a + (d - 1)) d)

-- a value of bucket b and the length of an arc make a value of the window from b
pub add-in_window : (x length greatest d b : ℕ) → 1 ≤ d → x / d ≡ b → length ≤ greatest → (x + length) / d < b + ring_buckets greatest d
add-in_window x length greatest d b positive e h =
    let small : x % d < d = mod-lt x positive in
    let at : x / d * d + x % d ≡ x = div-add-mod' x d in
    let ceil : greatest ≤ (greatest + (d - 1)) / d * d = ceil_times greatest d positive in
    (div-lt_iff_lt-mul positive).1 (rw (← e) (omega (arith, at, small, ceil)))

-- more than a width further on is another bucket
pub next_bucket : (a b d : ℕ) → 1 ≤ d → a + d ≤ b → a / d + 1 ≤ b / d
next_bucket a b d positive h =
    let at : a / d * d ≤ a = div-mul-le_self a d in
    le-div (a / d + 1) b d positive (omega (arith, at))

-- a bucket that a value is in, or after, does not start above it
pub start_below : (value b d most start : ℕ) → start ≡ min (b * d) most → b ≤ value / d → start ≤ value
start_below value b d most start is far =
    let at : value / d * d ≤ value = div-mul-le_self value d in
    let less : b * d ≤ value / d * d = mul-le-mul_right d far in
    omega (arith, is, at, less)
