-- Nodes that got a value, and values that are taken away.
use Rattle.std.proofs.Common.{◌≡◌, ◌≢◌, ◌∙◌, ◌⊎◌, ℕ, zero, suc, ◌+◌, ◌-◌, ◌<◌, ◌≤◌, List, [], ◌∷◌, ◌++◌, length, take, All, Contains, Option, Some, None, IfSome, map, set, get_or, replicate, refl, sym, ap, subst, inl, inr, arith, length-set, get_or-set_same, get_or-set_other}
use Rattle.std.proofs.lemmas.Bool.{cases_eq, ne_eqb}
use Rattle.std.proofs.lemmas.List.{take_more, get_or-map, length-map, get_or-replicate, length-replicate, ext_get_or}
use Rattle.std.proofs.lemmas.List.Elements.{All-append, All-cons, All-nil, Contains-append_left, Contains-push, Contains-push_cases}
use Rattle.relax.specs.Values.{value_at, value_of_word}
use Rattle.relax.specs.Noted.{AreNoted}
use Rattle.relax.proofs.Words.{set_of_words, cleared_words}

-- values without a value are all nothing
pub blank_of : (t : List (Option ℕ)) (n : ℕ) → length t ≡ n → ((u : ℕ) → value_at t u ≡ None) → t ≡ replicate n None
blank_of t n many none = ext_get_or None t (replicate n None) (many ∙ sym (length-replicate n None)) (λ i lt. none i ∙ sym (get_or-replicate n i None None (omega (arith, lt, many))))

none_of : (t : List (Option ℕ)) (u : ℕ) → ((x : ℕ) → value_at t u ≡ Some x → ⊥) → value_at t u ≡ None
none_of t u never = elim (value_at t u) as (λ o. value_at t u ≡ o → o ≡ None) [
  | None ↦ λ e. refl
  | Some x ↦ λ e. absurd (never x e)
] refl

value_at-replicate : (n u : ℕ) → value_at (replicate n None) u ≡ None
value_at-replicate zero u = refl
value_at-replicate (suc n) zero = refl
value_at-replicate (suc n) (suc u) = value_at-replicate n u

-- no node is noted where none has a value
pub AreNoted-blank : (t : List (Option ℕ)) (n : ℕ) → t ≡ replicate n None → AreNoted t []
AreNoted-blank t n is = record {
  each = λ u x has. absurd (let no : None ≡ Some x = sym (ap (λ (l : List (Option ℕ)). value_at l u) is ∙ value_at-replicate n u) ∙ has in let absurdity : ⊥ = cc in absurdity);
  within = λ u among. absurd (let absurdity : ⊥ = omega (arith, among.1) in absurdity);
}

-- .. and the other way round
pub blank_of_none : (t : List (Option ℕ)) (nodes : List ℕ) (n : ℕ) → length t ≡ n → length nodes ≡ 0 → AreNoted t nodes → t ≡ replicate n None
blank_of_none t nodes n many empty noted = blank_of t n many (λ u. none_of t u (λ x has. let among = noted.each u x has in let absurdity : ⊥ = omega (arith, among.1, empty) in absurdity))

pub AreNoted-push : (t : List (Option ℕ)) (nodes : List ℕ) (node : ℕ) → 1 ≤ node → node < length t → AreNoted t nodes → AreNoted t (nodes ++ node ∷ [])
AreNoted-push t nodes node low high noted = record {
  each = λ u x has. Contains-append_left nodes (node ∷ []) u (noted.each u x has);
  within = λ u among. elim (Contains-push_cases nodes node u among) as (λ _. (1 ≤ u) × (u < length t)) [
    | inl was ↦ noted.within u was
    | inr here ↦ subst (λ v. (1 ≤ v) × (v < length t)) here (low, high)
  ];
}

-- a node that is noted gets a value, or loses it
pub AreNoted-set : (t : List (Option ℕ)) (nodes : List ℕ) (node : ℕ) (o : Option ℕ) → Contains nodes node → AreNoted t nodes → AreNoted (set t node o) nodes
AreNoted-set t nodes node o among noted = record {
  each = λ u x has. elim (cases_eq u node) as (λ _. Contains nodes u) [
    | inl e ↦ subst (λ v. Contains nodes v) (sym e) among
    | inr ne ↦ noted.each u x (sym (get_or-set_other t node u o None ne) ∙ has)
  ];
  within = λ u c. let was = noted.within u c in (was.0, omega (arith, was.1, length-set t node o));
}

pub AreNoted-clear : (t : List (Option ℕ)) (nodes : List ℕ) (node : ℕ) → node < length t → AreNoted t nodes → AreNoted (set t node None) nodes
AreNoted-clear t nodes node high noted = record {
  each = λ u x has. elim (cases_eq u node) as (λ _. Contains nodes u) [
    | inl e ↦ absurd (let no : None ≡ Some x = sym (get_or-set_same t node None None high) ∙ subst (λ v. value_at (set t node None) v ≡ Some x) e has in let absurdity : ⊥ = cc in absurdity)
    | inr ne ↦ noted.each u x (sym (get_or-set_other t node u None None ne) ∙ has)
  ];
  within = λ u c. let was = noted.within u c in (was.0, omega (arith, was.1, length-set t node None));
}

-- ---- values that are taken away, node by node
pub cleared_more : (t : List (Option ℕ)) (nodes : List ℕ) (i : ℕ) → i < length nodes → get_or nodes i 0 < length t → All (λ u. value_at t u ≡ None) (take i nodes) → All (λ u. value_at (set t (get_or nodes i 0) None) u ≡ None) (take (i + 1) nodes)
cleared_more t nodes i lt high before =
    rw (take_more nodes i 0 lt)
    (All-append (λ u. value_at (set t (get_or nodes i 0) None) u ≡ None) (take i nodes) (get_or nodes i 0 ∷ [])
    (λ k d l. still (get_or (take i nodes) k d) (before k d l))
    (All-cons (λ u. value_at (set t (get_or nodes i 0) None) u ≡ None) (get_or nodes i 0) [] (get_or-set_same t (get_or nodes i 0) None None high) (All-nil (λ u. value_at (set t (get_or nodes i 0) None) u ≡ None))))
  where
    still : (u : ℕ) → value_at t u ≡ None → value_at (set t (get_or nodes i 0) None) u ≡ None
    still u none = elim (cases_eq u (get_or nodes i 0)) as (λ _. value_at (set t (get_or nodes i 0) None) u ≡ None) [
      | inl e ↦ subst (λ v. value_at (set t (get_or nodes i 0) None) v ≡ None) (sym e) (get_or-set_same t (get_or nodes i 0) None None high)
      | inr ne ↦ get_or-set_other t (get_or nodes i 0) u None None ne ∙ none
    ]

pub others_more : (old t : List (Option ℕ)) (node : ℕ) → node < length t → ((u : ℕ) → (value_at t u ≡ None) ⊎ (value_at t u ≡ value_at old u)) → (u : ℕ) → (value_at (set t node None) u ≡ None) ⊎ (value_at (set t node None) u ≡ value_at old u)
others_more old t node high before u = elim (cases_eq u node) as (λ _. (value_at (set t node None) u ≡ None) ⊎ (value_at (set t node None) u ≡ value_at old u)) [
  | inl e ↦ inl (subst (λ v. value_at (set t node None) v ≡ None) (sym e) (get_or-set_same t node None None high))
  | inr ne ↦ elim (before u) as (λ _. (value_at (set t node None) u ≡ None) ⊎ (value_at (set t node None) u ≡ value_at old u)) [
    | inl none ↦ inl (get_or-set_other t node u None None ne ∙ none)
    | inr same ↦ inr (get_or-set_other t node u None None ne ∙ same)
  ]
]

-- where all that were noted are cleared, nothing is left
pub blank_after : (old t : List (Option ℕ)) (nodes : List ℕ) → AreNoted old nodes → All (λ u. value_at t u ≡ None) nodes → ((u : ℕ) → (value_at t u ≡ None) ⊎ (value_at t u ≡ value_at old u)) → length t ≡ length old → t ≡ replicate (length old) None
blank_after old t nodes noted cleared others many = blank_of t (length old) many (λ u. elim (others u) as (λ _. value_at t u ≡ None) [
  | inl none ↦ none
  | inr same ↦ none_of t u (λ x has.
      let among = noted.each u x (sym same ∙ has) in
      let none : value_at t u ≡ None = subst (λ v. value_at t v ≡ None) among.2 (cleared among.0 u among.1) in
      let no : None ≡ Some x = sym none ∙ has in
      let absurdity : ⊥ = cc in absurdity)
])

-- ---- of words
value_of_word-some : (word : ℕ) → word ≢ 18446744073709551615 → value_of_word word ≡ Some word
value_of_word-some word ne = rw (ne_eqb word 18446744073709551615 ne) refl

-- a node whose word is not that of no value is noted
pub noted_by_word : (words : List ℕ) (nodes : List ℕ) (node d : ℕ) → 1 ≤ node → node ≤ length words → get_or words (node - 1) d ≢ 18446744073709551615 → AreNoted (None ∷ map value_of_word words) nodes → Contains nodes node
noted_by_word words nodes zero d low high ne noted = absurd (omega (arith, low))
noted_by_word words nodes (suc i) d low high ne noted =
    let place : suc i - 1 ≡ i = omega arith in
    noted.each (suc i) (get_or words i d) (get_or-map value_of_word words i d None (omega (arith, high)) ∙ value_of_word-some (get_or words i d) (subst (λ k. get_or words k d ≢ 18446744073709551615) place ne))

-- a node gets a value, and is noted if it had none
pub noted_set : {V : Type 0} (items : V → List ℕ) (old new : Option V) (words : List ℕ) (node value word d : ℕ) → word ≡ get_or words (node - 1) d → 1 ≤ node → node < length (None ∷ map value_of_word words) → value < 18446744073709551615 → IfSome old (λ v. AreNoted (None ∷ map value_of_word words) (items v)) → IfSome new (λ n. IfSome old (λ o. word ≡ 18446744073709551615 → items n ≡ items o ++ node ∷ [])) → IfSome new (λ n. IfSome old (λ o. word ≢ 18446744073709551615 → items n ≡ items o)) → (old ≡ None → new ≡ None) → IfSome new (λ v. AreNoted (None ∷ map value_of_word (set words (node - 1) value)) (items v))
noted_set items old None words node value word d word_is low high small was more same none = more
noted_set items None (Some n) words node value word d word_is low high small was more same none = absurd (let e : Some n ≡ None = none refl in let absurdity : ⊥ = cc in absurdity)
noted_set items (Some o) (Some n) words node value word d word_is low high small was more same none =
    subst (λ (l : List (Option ℕ)). AreNoted l (items n)) (sym (set_of_words words node value (None ∷ map value_of_word words) refl low small)) (AreNoted-set (None ∷ map value_of_word words) (items n) node (Some value) there.0 there.1)
  where
    there : Contains (items n) node × AreNoted (None ∷ map value_of_word words) (items n)
    there = elim (cases_eq word 18446744073709551615) as (λ _. Contains (items n) node × AreNoted (None ∷ map value_of_word words) (items n)) [
      | inl e ↦ subst (λ l. Contains l node × AreNoted (None ∷ map value_of_word words) l) (sym (more e)) (Contains-push (items o) node, AreNoted-push (None ∷ map value_of_word words) (items o) node low high was)
      | inr ne ↦ subst (λ l. Contains l node × AreNoted (None ∷ map value_of_word words) l) (sym (same ne)) (noted_by_word words (items o) node d low (omega (arith, high, length-map words value_of_word)) (λ e. ne (word_is ∙ e)) was, was)
    ]

pub noted_cleared : {V : Type 0} (items : V → List ℕ) (noted : Option V) (words : List ℕ) (node : ℕ) → 1 ≤ node → node < length (None ∷ map value_of_word words) → IfSome noted (λ v. AreNoted (None ∷ map value_of_word words) (items v)) → IfSome noted (λ v. AreNoted (None ∷ map value_of_word (set words (node - 1) 18446744073709551615)) (items v))
noted_cleared items None words node low high was = was
noted_cleared items (Some v) words node low high was =
    subst (λ (l : List (Option ℕ)). AreNoted l (items v)) (sym (cleared_words words node (None ∷ map value_of_word words) refl low)) (AreNoted-clear (None ∷ map value_of_word words) (items v) node high was)
