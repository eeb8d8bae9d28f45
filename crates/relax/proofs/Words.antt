-- Tentative values kept as words.
use Rattle.std.proofs.Common.{◌≡◌, ◌≢◌, ◌∙◌, Result, Ok, Err, OnOk, ℕ, zero, suc, ◌+◌, ◌-◌, ◌<◌, ◌≤◌, List, ◌∷◌, Option, Some, None, set, replicate, map, length, refl, get_or, sym, ap, arith, add-one}
use Rattle.std.proofs.lemmas.Bool.{ne_eqb}
use Rattle.std.proofs.lemmas.List.{map-set, get_or-map, length-map}
use Rattle.relax.specs.Values.{value_at, value_of_word, value_of_short}

pub value_of_word_some : (value : ℕ) → value < 18446744073709551615 → value_of_word value ≡ Some value
value_of_word_some value h = rw (ne_eqb value 18446744073709551615 (λ e. omega arith)) refl

map-replicate : (n word : ℕ) → map value_of_word (replicate n word) ≡ replicate n (value_of_word word)
map-replicate zero word = refl
map-replicate (suc n) word = ap (λ (l : List (Option ℕ)). value_of_word word ∷ l) (map-replicate n word)

-- no value for any node
pub none_of_words : (n : ℕ) (words : List ℕ) → words ≡ replicate n 18446744073709551615 → None ∷ map value_of_word words ≡ replicate (n + 1) None
none_of_words n words e = rw (e, add-one) (ap (λ (l : List (Option ℕ)). None ∷ l) (map-replicate n 18446744073709551615))

pub set_of_words : (words : List ℕ) (node value : ℕ) (values : List (Option ℕ)) → None ∷ map value_of_word words ≡ values → 1 ≤ node → value < 18446744073709551615 → None ∷ map value_of_word (set words (node - 1) value) ≡ set values node (Some value)
set_of_words words zero value values is h small = absurd (omega arith)
set_of_words words (suc i) value values is h small =
    let e : suc i - 1 ≡ i = omega arith in
    rw (e, ← is) (ap (λ (l : List (Option ℕ)). None ∷ l) (map-set value_of_word words i value ∙ ap (λ (o : Option ℕ). set (map value_of_word words) i o) (value_of_word_some value small)))

pub cleared_words : (words : List ℕ) (node : ℕ) (values : List (Option ℕ)) → None ∷ map value_of_word words ≡ values → 1 ≤ node → None ∷ map value_of_word (set words (node - 1) 18446744073709551615) ≡ set values node None
cleared_words words zero values is h = absurd (omega arith)
cleared_words words (suc i) values is h =
    let e : suc i - 1 ≡ i = omega arith in
    rw (e, ← is) (ap (λ (l : List (Option ℕ)). None ∷ l) (map-set value_of_word words i 18446744073709551615))

pub length_of_words : (words : List ℕ) (values : List (Option ℕ)) → None ∷ map value_of_word words ≡ values → length (None ∷ map value_of_word words) ≡ length values
length_of_words words values is = ap (λ (l : List (Option ℕ)). length l) is

-- ---- words of 4 bytes
value_of_short_some : (value : ℕ) → value < 4294967295 → value_of_short value ≡ Some value
value_of_short_some value h = rw (ne_eqb value 4294967295 (λ e. omega arith)) refl

-- the length of the values, by that of the words
pub length_of_shorts : (words : List ℕ) (values : List (Option ℕ)) → None ∷ map value_of_short words ≡ values → length values ≡ length words + 1
length_of_shorts words values is = sym (ap (λ (l : List (Option ℕ)). length l) is) ∙ omega (arith, length-map words value_of_short)

-- what stands at a node's place
pub short_at : (words : List ℕ) (node word : ℕ) (values : List (Option ℕ)) → None ∷ map value_of_short words ≡ values → 1 ≤ node → node < length values → ((d : ℕ) → get_or words (node - 1) d ≡ word) → value_at values node ≡ value_of_short word
short_at words zero word values is low high at = absurd (omega arith)
short_at words (suc i) word values is low high at =
    let e : suc i - 1 ≡ i = omega arith in
    rw (← is) (get_or-map value_of_short words i 0 None (omega (arith, high, length_of_shorts words values is)) ∙ ap value_of_short (ap (λ k. get_or words k 0) (sym e) ∙ at 0))

pub set_of_shorts : (words : List ℕ) (node value : ℕ) (values : List (Option ℕ)) → None ∷ map value_of_short words ≡ values → 1 ≤ node → value < 4294967295 → None ∷ map value_of_short (set words (node - 1) value) ≡ set values node (Some value)
set_of_shorts words zero value values is h small = absurd (omega arith)
set_of_shorts words (suc i) value values is h small =
    let e : suc i - 1 ≡ i = omega arith in
    rw (e, ← is) (ap (λ (l : List (Option ℕ)). None ∷ l) (map-set value_of_short words i value ∙ ap (λ (o : Option ℕ). set (map value_of_short words) i o) (value_of_short_some value small)))

pub cleared_shorts : (words : List ℕ) (node : ℕ) (values : List (Option ℕ)) → None ∷ map value_of_short words ≡ values → 1 ≤ node → None ∷ map value_of_short (set words (node - 1) 4294967295) ≡ set values node None
cleared_shorts words zero values is h = absurd (omega arith)
cleared_shorts words (suc i) values is h =
    let e : suc i - 1 ≡ i = omega arith in
    rw (e, ← is) (ap (λ (l : List (Option ℕ)). None ∷ l) (map-set value_of_short words i 4294967295))

pub none_of_short : (word : ℕ) → word ≡ 4294967295 → value_of_short word ≡ None
none_of_short word e = rw e refl

pub some_of_short : (word : ℕ) → word ≢ 4294967295 → value_of_short word ≡ Some word
some_of_short word ne = rw (ne_eqb word 4294967295 ne) refl

pub shorts_of : {new old : List ℕ} → new ≡ old → None ∷ map value_of_short new ≡ None ∷ map value_of_short old
shorts_of is = ap (λ (l : List ℕ). None ∷ map value_of_short l) is

pub on_ok : {T E P Q : Type 0} (r : Result T E) → (P → Q) → OnOk r P → OnOk r Q
on_ok (Ok x) f h = f h
on_ok (Err e) f h = tt
