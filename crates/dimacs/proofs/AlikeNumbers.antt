-- What tests of words and numbers find of alike fields.
use Rattle.std.proofs.Common.{◌≡◌, ℕ, zero, suc, Bool, true, false, not, ◌&&◌, ◌||◌, eqb, ltb, List, [], ◌∷◌, length, map, drop, Option, None, Some, refl, sym, ap, ◌∙◌, inl, inr}
use Rattle.std.specs.Prelude.{is_none, is_some, unwrap_or}
use Rattle.std.specs.List.{list_any, list_all, starts_with}
use Rattle.std.specs.Option.{option_map_or, option_map}
use Rattle.std.specs.Str.{bytes_eq}
use Rattle.std.proofs.lemmas.Bool.{lt-ltb, or_parts}
use Rattle.dimacs.specs.declared.numerals.numeral.Numeral.{Numeral}
use Rattle.dimacs.specs.Alike.{AreFieldsAlike, AllAlike}
use Rattle.dimacs.specs.Content.{size_at}
use Rattle.dimacs.specs.Faults.{Row, is_malformed, some_numeral, some_at, is_unreadable, size_of}
use Rattle.dimacs.specs.Numerals.{numeral, kept}
use Rattle.dimacs.proofs.Alikes.{alike_length}
use Rattle.dimacs.proofs.Beyond.{long_no_word, word_no_long}
use Rattle.dimacs.proofs.Items.{kept_is, unreadable_kept}

-- Words.

pub word_same : (x y word : List ℕ) → AreFieldsAlike x y → ltb 16 (length word) ≡ false → bytes_eq x word ≡ bytes_eq y word
word_same x y word (inl e) short = rw e refl
word_same x y word (inr e) short = long_no_word x word (lt-ltb _ _ e.0) short ∙ sym (long_no_word y word (lt-ltb _ _ e.1) short)

pub word_is_same : (word x y : List ℕ) → AreFieldsAlike x y → ltb 16 (length word) ≡ false → bytes_eq word x ≡ bytes_eq word y
word_is_same word x y (inl e) short = rw e refl
word_is_same word x y (inr e) short = word_no_long word x (lt-ltb _ _ e.0) short ∙ sym (word_no_long word y (lt-ltb _ _ e.1) short)

and_parts : (a b : Bool) → (a && b) ≡ true → (a ≡ true) × (b ≡ true)
and_parts true b e = (refl, e)
and_parts false b e = absurd cc

not_so : (b : Bool) → not b ≡ true → b ≡ false
not_so true e = absurd cc
not_so false e = refl

pub starts_same : (kind xs ys : Row) → list_all (λ w. not (ltb 16 (length w))) kind ≡ true → AllAlike xs ys → starts_with bytes_eq xs kind ≡ starts_with bytes_eq ys kind
starts_same [] xs ys short alike = refl
starts_same (w ∷ ws) [] [] short alike = refl
starts_same (w ∷ ws) [] (y ∷ ys) short alike = absurd alike
starts_same (w ∷ ws) (x ∷ xs) [] short alike = absurd alike
starts_same (w ∷ ws) (x ∷ xs) (y ∷ ys) short alike =
    let parts = and_parts (not (ltb 16 (length w))) (list_all (λ w. not (ltb 16 (length w))) ws) short in
    let first : bytes_eq w x ≡ bytes_eq w y = word_is_same w x y alike.0 (not_so _ parts.0) in
    let rest : starts_with bytes_eq xs ws ≡ starts_with bytes_eq ys ws = starts_same ws xs ys parts.1 alike.1 in
    ap (λ (b : Bool). b && starts_with bytes_eq xs ws) first ∙ ap (λ (b : Bool). bytes_eq w y && b) rest

-- Numbers.

pub kept_same : (x y : List ℕ) → AreFieldsAlike x y → option_map kept (numeral x) ≡ option_map kept (numeral y)
kept_same x y (inl e) = rw e refl
kept_same x y (inr e) = e.2

-- a test that sees no more of a numeral than is kept of it
abbrev pub SeesKept : (Numeral → Bool) → Type 0
SeesKept test = (n : Numeral) → test (kept n) ≡ test n

through : (test : Numeral → Bool) → SeesKept test → (o : Option Numeral) → option_map_or test (option_map kept o) false ≡ option_map_or test o false
through test sees None = refl
through test sees (Some n) = sees n

pub tested_same : (test : Numeral → Bool) → SeesKept test → (x y : List ℕ) → AreFieldsAlike x y → option_map_or test (numeral x) false ≡ option_map_or test (numeral y) false
tested_same test sees x y e = sym (through test sees (numeral x)) ∙ ap (λ (o : Option Numeral). option_map_or test o false) (kept_same x y e) ∙ through test sees (numeral y)

none_through : (o : Option Numeral) → is_none (option_map kept o) ≡ is_none o
none_through None = refl
none_through (Some n) = refl

some_through : (o : Option Numeral) → is_some (option_map kept o) ≡ is_some o
some_through None = refl
some_through (Some n) = refl

pub none_same : (x y : List ℕ) → AreFieldsAlike x y → is_none (numeral x) ≡ is_none (numeral y)
none_same x y e = sym (none_through (numeral x)) ∙ ap (λ (o : Option Numeral). is_none o) (kept_same x y e) ∙ none_through (numeral y)

pub some_same : (x y : List ℕ) → AreFieldsAlike x y → is_some (numeral x) ≡ is_some (numeral y)
some_same x y e = sym (some_through (numeral x)) ∙ ap (λ (o : Option Numeral). is_some o) (kept_same x y e) ∙ some_through (numeral y)

-- Fields.

pub any_same : (test : List ℕ → Bool) → ((x y : List ℕ) → AreFieldsAlike x y → test x ≡ test y) → (xs ys : Row) → AllAlike xs ys → list_any test xs ≡ list_any test ys
any_same test same [] [] alike = refl
any_same test same [] (y ∷ ys) alike = absurd alike
any_same test same (x ∷ xs) [] alike = absurd alike
any_same test same (x ∷ xs) (y ∷ ys) alike =
    ap (λ (b : Bool). b || list_any test xs) (same x y alike.0) ∙ ap (λ (b : Bool). test y || b) (any_same test same xs ys alike.1)

pub malformed_same : (n : ℕ) (xs ys : Row) → AllAlike xs ys → is_malformed n xs ≡ is_malformed n ys
malformed_same n xs ys alike =
    let count : length xs ≡ length ys = alike_length xs ys alike in
    let numbers : list_any (λ field. is_none (numeral field)) xs ≡ list_any (λ field. is_none (numeral field)) ys = any_same (λ field. is_none (numeral field)) none_same xs ys alike in
    ap (λ (k : ℕ). not (eqb k n) || list_any (λ field. is_none (numeral field)) xs) count ∙ ap (λ (b : Bool). not (eqb (length ys) n) || b) numbers

pub numerals_same : (test : Numeral → Bool) → SeesKept test → (xs ys : Row) → AllAlike xs ys → some_numeral test xs ≡ some_numeral test ys
numerals_same test sees xs ys alike = any_same (λ field. option_map_or test (numeral field) false) (tested_same test sees) xs ys alike

pub dropped_alike : (n : ℕ) (xs ys : Row) → AllAlike xs ys → AllAlike (drop n xs) (drop n ys)
dropped_alike zero xs ys alike = alike
dropped_alike (suc n) [] [] alike = alike
dropped_alike (suc n) [] (y ∷ ys) alike = absurd alike
dropped_alike (suc n) (x ∷ xs) [] alike = absurd alike
dropped_alike (suc n) (x ∷ xs) (y ∷ ys) alike = dropped_alike n xs ys alike.1

-- Numbers that can be read.

-- they are the same, since their sizes are kept as they are
exact : (o p : Option Numeral) → option_map kept o ≡ option_map kept p → option_map_or is_unreadable o false ≡ false → o ≡ p
exact None None e readable = refl
exact None (Some m) e readable = absurd cc
exact (Some n) None e readable = absurd cc
exact (Some n) (Some m) e readable =
    let same : kept n ≡ kept m = ap (λ (o : Option Numeral). unwrap_or o n) e in
    let other : is_unreadable m ≡ false = sym (unreadable_kept m) ∙ ap is_unreadable (sym same) ∙ unreadable_kept n ∙ readable in
    ap Some (sym (kept_is n readable) ∙ same ∙ kept_is m other)

pub exactly : (x y : List ℕ) → AreFieldsAlike x y → option_map_or is_unreadable (numeral x) false ≡ false → numeral x ≡ numeral y
exactly x y e readable = exact (numeral x) (numeral y) (kept_same x y e) readable

pub size_same : (x y : List ℕ) → AreFieldsAlike x y → option_map_or is_unreadable (numeral x) false ≡ false → size_of x ≡ size_of y
size_same x y e readable = ap (λ (o : Option Numeral). option_map_or (λ n. n.size) o 0) (exactly x y e readable)

pub sizes_same : (xs ys : Row) → AllAlike xs ys → some_numeral is_unreadable xs ≡ false → map size_of xs ≡ map size_of ys
sizes_same [] [] alike readable = refl
sizes_same [] (y ∷ ys) alike readable = absurd alike
sizes_same (x ∷ xs) [] alike readable = absurd alike
sizes_same (x ∷ xs) (y ∷ ys) alike readable =
    let parts = or_parts _ _ readable in
    rw (size_same x y alike.0 parts.0, sizes_same xs ys alike.1 parts.1) refl

pub size_at_same : (xs ys : Row) → AllAlike xs ys → some_numeral is_unreadable xs ≡ false → (k : ℕ) → size_at xs k ≡ size_at ys k
size_at_same [] [] alike readable k = refl
size_at_same [] (y ∷ ys) alike readable k = absurd alike
size_at_same (x ∷ xs) [] alike readable k = absurd alike
size_at_same (x ∷ xs) (y ∷ ys) alike readable zero = size_same x y alike.0 (or_parts _ _ readable).0
size_at_same (x ∷ xs) (y ∷ ys) alike readable (suc k) = size_at_same xs ys alike.1 (or_parts _ _ readable).1 k

pub some_at_same : {X : Type 0} (test : X → Numeral → Bool) (places : List X) (xs ys : Row) → AllAlike xs ys → some_numeral is_unreadable xs ≡ false → some_at test places xs ≡ some_at test places ys
some_at_same test [] xs ys alike readable = refl
some_at_same test (p ∷ ps) [] [] alike readable = refl
some_at_same test (p ∷ ps) [] (y ∷ ys) alike readable = absurd alike
some_at_same test (p ∷ ps) (x ∷ xs) [] alike readable = absurd alike
some_at_same test (p ∷ ps) (x ∷ xs) (y ∷ ys) alike readable =
    let parts = or_parts _ _ readable in
    ap (λ (o : Option Numeral). option_map_or (test p) o false || some_at test ps xs) (exactly x y alike.0 parts.0)
    ∙ ap (λ (b : Bool). option_map_or (test p) (numeral y) false || b) (some_at_same test ps xs ys alike.1 parts.1)

-- numbers that pass no test which all pass that cannot be read
pub all_readable : (test : Numeral → Bool) → ((n : Numeral) → test n ≡ false → is_unreadable n ≡ false) → (xs : Row) → some_numeral test xs ≡ false → some_numeral is_unreadable xs ≡ false
all_readable test covers [] none = refl
all_readable test covers (x ∷ xs) none =
    let parts = or_parts _ _ none in
    rw (one (numeral x) parts.0, all_readable test covers xs parts.1) refl
  where
    one : (o : Option Numeral) → option_map_or test o false ≡ false → option_map_or is_unreadable o false ≡ false
    one None e = refl
    one (Some n) e = covers n e
