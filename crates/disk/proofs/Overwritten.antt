-- What stands where after a write.
use Rattle.std.proofs.Common.{◌≡◌, ℕ, ◌+◌, ◌-◌, ◌<◌, ◌≤◌, max, List, ◌++◌, length, get_or, take, drop, sym, ◌∙◌, ap, arith, length-take, length-drop, length-append}
use Rattle.std.proofs.lemmas.List.{get_or_append_left, get_or-append-add, get_or-append_right, get_or-take, get_or-drop}
use Rattle.disk.specs.Contents.{overwritten, Torn}

pub length-overwritten : (old bytes : List ℕ) (at : ℕ) → at ≤ length old → length (overwritten old at bytes) ≡ max (length old) (at + length bytes)
length-overwritten old bytes at le =
    omega (arith, length-append (take at old ++ bytes) (drop (at + length bytes) old), length-append (take at old) bytes, length-take at old, length-drop (at + length bytes) old)

module _ (old bytes : List ℕ) (at : ℕ) (le : at ≤ length old) where
  front_length : length (take at old) ≡ at
  front_length = omega (arith, length-take at old)

  both_length : length (take at old ++ bytes) ≡ at + length bytes
  both_length = omega (arith, length-append (take at old) bytes, front_length)

  pub overwritten_below : (i : ℕ) → i < at → get_or (overwritten old at bytes) i 0 ≡ get_or old i 0
  overwritten_below i lt =
      get_or_append_left (take at old ++ bytes) (drop (at + length bytes) old) 0 i (omega (arith, both_length))
      ∙ get_or_append_left (take at old) bytes 0 i (omega (arith, front_length))
      ∙ get_or-take at old i 0 lt

  pub overwritten_inside : (i : ℕ) → i < length bytes → get_or (overwritten old at bytes) (at + i) 0 ≡ get_or bytes i 0
  overwritten_inside i lt =
      get_or_append_left (take at old ++ bytes) (drop (at + length bytes) old) 0 (at + i) (omega (arith, both_length))
      ∙ ap (λ (k : ℕ). get_or (take at old ++ bytes) (k + i) 0) (sym front_length)
      ∙ get_or-append-add (take at old) bytes i 0

  pub overwritten_above : (i : ℕ) → at + length bytes ≤ i → get_or (overwritten old at bytes) i 0 ≡ get_or old i 0
  overwritten_above i ge =
      get_or-append_right (take at old ++ bytes) (drop (at + length bytes) old) (at + length bytes) i 0 both_length ge
      ∙ get_or-drop (at + length bytes) old (i - (at + length bytes)) 0
      ∙ (let same : at + length bytes + (i - (at + length bytes)) ≡ i = omega arith in ap (λ (k : ℕ). get_or old k 0) same)

  pub overwritten_torn : Torn at (length bytes) old (overwritten old at bytes)
  overwritten_torn = record {
    before = λ i lt. overwritten_below i lt;
    after = λ i ge. overwritten_above i ge;
    no_shorter = omega (arith, length-overwritten old bytes at le);
    no_longer = omega (arith, length-overwritten old bytes at le);
  }
