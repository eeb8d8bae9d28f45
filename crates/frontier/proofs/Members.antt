-- Members of lists.
use Rattle.std.proofs.Common.{◌≡◌, ℕ, zero, suc, ◌<◌, List, [], ◌∷◌, length, map, Contains, refl, subst, arith}

pub Contains-head : {X : Type 0} (x : X) (xs : List X) → Contains (x ∷ xs) x
Contains-head x xs = (0, omega arith, refl)

pub Contains-tail : {X : Type 0} (x : X) (xs : List X) (y : X) → Contains xs y → Contains (x ∷ xs) y
Contains-tail x xs y (k, within, e) = (suc k, omega arith, e)

pub Contains-nil : {X : Type 0} (y : X) → Contains [] y → ⊥
Contains-nil y (k, within, e) = absurd (omega arith)

pub Contains-map : {X Y : Type 0} (f : X → Y) (xs : List X) (x : X) → Contains xs x → Contains (map f xs) (f x)
Contains-map f [] x c = absurd (Contains-nil x c)
Contains-map f (y ∷ xs) x (zero, within, e) = subst (λ z. Contains (f y ∷ map f xs) (f z)) e (Contains-head (f y) (map f xs))
Contains-map f (y ∷ xs) x (suc k, within, e) = Contains-tail (f y) (map f xs) (f x) (Contains-map f xs x (k, omega arith, e))

-- a member of a map comes of a member
pub Contains-of_map : {X Y : Type 0} (f : X → Y) (xs : List X) (y : Y) → Contains (map f xs) y → (x : X) × Contains xs x × (f x ≡ y)
Contains-of_map f [] y c = absurd (Contains-nil y c)
Contains-of_map f (x ∷ xs) y (zero, within, e) = (x, Contains-head x xs, e)
Contains-of_map f (x ∷ xs) y (suc k, within, e) =
    let r = Contains-of_map f xs y (k, omega arith, e) in
    (r.0, Contains-tail x xs r.0 r.1, r.2)

abbrev pub head_of : List ℕ → ℕ
head_of [] = 0
head_of (x ∷ xs) = x

pub Contains-head_of : (xs : List ℕ) → 0 < length xs → Contains xs (head_of xs)
Contains-head_of [] h = absurd (omega arith)
Contains-head_of (x ∷ xs) h = Contains-head x xs
