-- Items of one size, one after the other.
use Rattle.std.proofs.Common.{◌≡◌, ℕ, zero, suc, ◌+◌, ◌-◌, ◌*◌, ◌≤◌, ◌<◌, List, [], ◌∷◌, ◌++◌, length, take, drop, refl, sym, ap, ◌∙◌, append_assoc, arith}
use Rattle.std.specs.List.{flat_map, AllByRecursion}
use Rattle.std.proofs.lemmas.List.{append-nil, length-append, length-take, length-drop, take_at, drop_at}
use Rattle.std.proofs.Math.Nat.{mul-suc}
use Rattle.std.proofs.Math.Seq.{take-add}
use Rattle.pages.specs.Reading.{read_items}
use Rattle.pages.proofs.Records.{IsBytes, IsBytes-drop, IsBytes-take}

pub goes_on : {X : Type 0} (read : List ℕ → X) (size : ℕ) (front : List X) (count i : ℕ) (rest : List ℕ) (total : List X) → i < count
    → front ++ read_items read size (count - i) rest ≡ total → (front ++ read (take size rest) ∷ []) ++ read_items read size (count - (i + 1)) (drop size rest) ≡ total
goes_on read size front count i rest total lt so_far =
    let k : count - i ≡ suc (count - (i + 1)) = omega arith in
    append_assoc front (read (take size rest) ∷ []) (read_items read size (count - (i + 1)) (drop size rest))
    ∙ sym (ap (λ (n : ℕ). front ++ read_items read size n rest) k) ∙ so_far

pub is_done : {X : Type 0} (read : List ℕ → X) (size : ℕ) (front : List X) (count i : ℕ) (rest : List ℕ) (total : List X) → count ≤ i
    → front ++ read_items read size (count - i) rest ≡ total → front ≡ total
is_done read size front count i rest total le so_far =
    let k : count - i ≡ 0 = omega arith in
    sym (append-nil front) ∙ sym (ap (λ (n : ℕ). front ++ read_items read size n rest) k) ∙ so_far

pub length-items : {X : Type 0} (spell : X → List ℕ) (size : ℕ) (len : (x : X) → length (spell x) ≡ size) (xs : List X) → length (flat_map spell xs) ≡ size * length xs
length-items spell size len [] = omega arith
length-items spell size len (x ∷ xs) = grind (arith, length-append (spell x) (flat_map spell xs), len x, length-items spell size len xs)

pub length-read : {X : Type 0} (read : List ℕ → X) (size n : ℕ) (bytes : List ℕ) → length (read_items read size n bytes) ≡ n
length-read read size zero bytes = refl
length-read read size (suc n) bytes = ap (λ (k : ℕ). suc k) (length-read read size n (drop size bytes))

-- what was written is read
pub items_read : {X : Type 0} (P : X → Type 0) (read : List ℕ → X) (spell : X → List ℕ) (size : ℕ) (len : (x : X) → length (spell x) ≡ size) (back : (x : X) → P x → read (spell x) ≡ x)
    (xs : List X) (rest : List ℕ) → AllByRecursion P xs → read_items read size (length xs) (flat_map spell xs ++ rest) ≡ xs
items_read P read spell size len back [] rest fits = refl
items_read P read spell size len back (x ∷ xs) rest fits =
    let text = flat_map spell xs ++ rest in
    ap (read_items read size (suc (length xs))) (append_assoc (spell x) (flat_map spell xs) rest)
    ∙ ap (λ (front : List ℕ). read front ∷ read_items read size (length xs) (drop size (spell x ++ (flat_map spell xs ++ rest)))) (take_at (spell x) (flat_map spell xs ++ rest) size (len x))
    ∙ ap (λ (after : List ℕ). read (spell x) ∷ read_items read size (length xs) after) (drop_at (spell x) (flat_map spell xs ++ rest) size (len x))
    ∙ ap (λ y. y ∷ read_items read size (length xs) (flat_map spell xs ++ rest)) (back x fits.0)
    ∙ ap (λ ys. x ∷ ys) (items_read P read spell size len back xs rest fits.1)

-- what holds of each item that is read
pub items_fit : {X : Type 0} (P : X → Type 0) (read : List ℕ → X) (size : ℕ) (each : (bytes : List ℕ) → IsBytes bytes → P (read bytes)) (n : ℕ) (bytes : List ℕ) → IsBytes bytes → AllByRecursion P (read_items read size n bytes)
items_fit P read size each zero bytes is = tt
items_fit P read size each (suc n) bytes is = (each (take size bytes) (IsBytes-take size bytes is), items_fit P read size each n (drop size bytes) (IsBytes-drop size bytes is))

-- what is read is written as it stood
pub items_spelled : {X : Type 0} (read : List ℕ → X) (spell : X → List ℕ) (size : ℕ) (back : (bytes : List ℕ) → IsBytes bytes → length bytes ≡ size → spell (read bytes) ≡ bytes)
    (n : ℕ) (bytes : List ℕ) → IsBytes bytes → size * n ≤ length bytes → flat_map spell (read_items read size n bytes) ≡ take (size * n) bytes
items_spelled read spell size back zero bytes is room = let k : size * 0 ≡ 0 = omega arith in ap (λ (m : ℕ). take m bytes) (sym k)
items_spelled read spell size back (suc n) bytes is room =
    let k : size * suc n ≡ size * n + size = mul-suc size n in
    let first : length (take size bytes) ≡ size = omega (arith, k, length-take size bytes) in
    let m : size + size * n ≡ size * suc n = omega (arith, k) in
    ap (λ (xs : List ℕ). xs ++ flat_map spell (read_items read size n (drop size bytes))) (back (take size bytes) (IsBytes-take size bytes is) first)
    ∙ ap (λ (xs : List ℕ). take size bytes ++ xs) (items_spelled read spell size back n (drop size bytes) (IsBytes-drop size bytes is) (omega (arith, k, length-drop size bytes)))
    ∙ sym (take-add size (size * n) bytes) ∙ ap (λ (j : ℕ). take j bytes) m
