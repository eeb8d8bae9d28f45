-- Lines that say the same, though one writes a numeral with more digits than the other.
use Rattle.std.specs.Prelude.{◌≡◌, ◌<◌, ◌⊎◌, ℕ, List, [], ◌∷◌, length, ⊤}
use Rattle.std.specs.Option.{option_map}
use Rattle.dimacs.specs.Faults.{Row}
use Rattle.dimacs.specs.Numerals.{numeral, kept}

-- two fields are equal; or both are longer than any word, and a program keeps the same numeral of them, or both are none
abbrev pub AreFieldsAlike : List ℕ → List ℕ → Type 0
AreFieldsAlike one other = (one ≡ other) ⊎ ((16 < length one) × (16 < length other) × (option_map kept (numeral one) ≡ option_map kept (numeral other)))

-- as many fields, each like that at its place
abbrev pub AllAlike : Row → Row → Type 0
AllAlike [] [] = ⊤
AllAlike [] (y ∷ ys) = ⊥
AllAlike (x ∷ xs) [] = ⊥
AllAlike (x ∷ xs) (y ∷ ys) = AreFieldsAlike x y × AllAlike xs ys

-- two lines have the same first field, and alike fields behind it
abbrev pub SaySame : Row → Row → Type 0
SaySame [] [] = ⊤
SaySame [] (y ∷ ys) = ⊥
SaySame (x ∷ xs) [] = ⊥
SaySame (x ∷ xs) (y ∷ ys) = (x ≡ y) × AllAlike xs ys
