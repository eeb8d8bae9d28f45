-- A number of four bytes, read and written again.
use Rattle.std.proofs.Common.{◌≡◌, ℕ, ◌+◌, ◌*◌, ◌/◌, ◌%◌, ◌≤◌, ◌<◌, List, [], ◌∷◌, length, take, refl, arith}
use Rattle.byteorder.specs.Endian.{big_bytes, big_number}
use Rattle.pages.proofs.Records.{IsBytes}

same : (p q r s a b c d : ℕ) → p ≡ a → q ≡ b → r ≡ c → s ≡ d → p ∷ q ∷ r ∷ s ∷ [] ≡ a ∷ b ∷ c ∷ d ∷ []
same p q r s a b c d e f g h = rw (e, f, g, h) refl

four : (n a b c d : ℕ) → a < 256 → b < 256 → c < 256 → d < 256 → n ≡ a * 16777216 + (b * 65536 + (c * 256 + d)) → big_bytes 4 n ≡ a ∷ b ∷ c ∷ d ∷ []
four n a b c d ha hb hc hd e =
    let p : n / 16777216 % 256 ≡ a = omega arith in
    let q : n / 65536 % 256 ≡ b = omega arith in
    let r : n / 256 % 256 ≡ c = omega arith in
    let s : n % 256 ≡ d = omega arith in
    same _ _ _ _ a b c d p q r s

pub four_back : (bytes : List ℕ) → IsBytes bytes → 4 ≤ length bytes → big_bytes 4 (big_number 4 bytes) ≡ take 4 bytes
four_back [] is len = absurd (omega arith)
four_back (a ∷ []) is len = absurd (omega arith)
four_back (a ∷ b ∷ []) is len = absurd (omega arith)
four_back (a ∷ b ∷ c ∷ []) is len = absurd (omega arith)
four_back (a ∷ b ∷ c ∷ d ∷ rest) is len = four (big_number 4 (a ∷ b ∷ c ∷ d ∷ rest)) a b c d (is 0) (is 1) (is 2) (is 3) (omega arith)
