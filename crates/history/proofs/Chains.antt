-- What a link more makes of a chain.
use Rattle.std.proofs.Common.{◌≡◌, ◌≢◌, ℕ, suc, nat_eq, Bool, true, false, true≢false, List, [], ◌∷◌, ◌++◌, refl, ap, sym, ◌∙◌, subst, arith}
use Rattle.std.specs.Prelude.{All, if◌then◌else◌}
use Rattle.std.proofs.lemmas.Bool.Decides.{nat_tests}
use mathlib.Core.List.{IsPrefix}
use Rattle.history.specs.declared.entries.Entry.{Entry}
use Rattle.history.specs.declared.entries.Entry.TheVariants.{Opened, Accepted, Acknowledged, Closed}
use Rattle.history.specs.declared.entries.Link.{Link}
use Rattle.history.specs.Entries.{is_endless, is_legal}
use Rattle.history.specs.Chains.{pen_of, following, with_rest, chain, next_pen}
use Rattle.history.specs.Rules.{WritesBehind}

chosen : {A : Type 0} (P : A → A → Type 0) (b : Bool) (x y x' y' : A) → P x x' → P y y' → P (if b then x else y) (if b then x' else y')
chosen P true x y x' y' p q = p
chosen P false x y x' y' p q = q

rest_begins : (e : Entry) (xs ys : List Entry) → IsPrefix xs ys → IsPrefix (with_rest e xs) (with_rest e ys)
rest_begins (Opened b) xs ys p = (p.0, ap (λ l. Opened b ∷ l) p.1)
rest_begins (Accepted c) xs ys p = (p.0, ap (λ l. Accepted c ∷ l) p.1)
rest_begins (Acknowledged n) xs ys p = (p.0, ap (λ l. Acknowledged n ∷ l) p.1)
rest_begins Closed xs ys p = ([], refl)

begins : (k : ℕ) (xs more : List Link) → IsPrefix (chain k xs) (chain k (xs ++ more))
begins k [] more = (chain k more, refl)
begins k (x ∷ xs) more =
    chosen IsPrefix (nat_eq (pen_of x) k) (with_rest x.entry (chain (following x) xs)) (chain k xs) (with_rest x.entry (chain (following x) (xs ++ more))) (chain k (xs ++ more))
    (rest_begins x.entry (chain (following x) xs) (chain (following x) (xs ++ more)) (begins (following x) xs more)) (begins k xs more)

-- a longer log has a longer chain
pub chain_begins : (k j : ℕ) (xs ys : List Link) → k ≡ j → IsPrefix xs ys → IsPrefix (chain k xs) (chain j ys)
chain_begins k j xs ys same p =
    subst (λ (n : ℕ). IsPrefix (chain k xs) (chain n ys)) same (subst (λ (l : List Link). IsPrefix (chain k xs) (chain k l)) p.1 (begins k xs p.0))

rest_legal : (e : Entry) (xs : List Entry) → is_legal xs ≡ true → is_legal (with_rest e xs) ≡ true
rest_legal (Opened b) xs h = h
rest_legal (Accepted c) xs h = h
rest_legal (Acknowledged n) xs h = h
rest_legal Closed xs h = refl

either_legal : (b : Bool) (xs ys : List Entry) → is_legal xs ≡ true → is_legal ys ≡ true → is_legal (if b then xs else ys) ≡ true
either_legal true xs ys h k = h
either_legal false xs ys h k = k

-- nothing stands behind the end of a chain
pub chain_legal : (k : ℕ) (log : List Link) → is_legal (chain k log) ≡ true
chain_legal k [] = refl
chain_legal k (x ∷ xs) =
    either_legal (nat_eq (pen_of x) k) (with_rest x.entry (chain (following x) xs)) (chain k xs)
    (rest_legal x.entry (chain (following x) xs) (chain_legal (following x) xs)) (chain_legal k xs)

is_same : (a b : ℕ) → a ≡ b → nat_eq a b ≡ true
is_same a b e = grind (arith, nat_tests)

is_equal : (a b : ℕ) → nat_eq a b ≡ true → a ≡ b
is_equal a b e = grind (arith, nat_tests)

told_apart : (a b : ℕ) (t : Bool) → nat_eq a b ≡ t → a ≢ b → t ≡ false
told_apart a b true is ne = absurd (ne (is_equal a b is))
told_apart a b false is ne = refl

is_other : (a b : ℕ) → a ≢ b → nat_eq a b ≡ false
is_other a b ne = told_apart a b (nat_eq a b) refl ne

rest_none : (e : Entry) → with_rest e [] ≡ e ∷ []
rest_none (Opened b) = refl
rest_none (Accepted c) = refl
rest_none (Acknowledged n) = refl
rest_none Closed = refl

abbrev Apart : ℕ → List Link → Type 0
Apart k links = All (λ other. pen_of other ≢ k) links

apart_first : (k : ℕ) (m : Link) (ms : List Link) → Apart k (m ∷ ms) → pen_of m ≢ k
apart_first k m ms h = h 0 m (omega arith)

apart_rest : (k : ℕ) (m : Link) (ms : List Link) → Apart k (m ∷ ms) → Apart k ms
apart_rest k m ms h = λ i d lt. h (suc i) d (omega arith)

-- the first link of a pen, behind links of others
first_chain : (k : ℕ) (others : List Link) (l : Link) → pen_of l ≡ k → Apart k others → chain k (others ++ l ∷ []) ≡ l.entry ∷ []
first_chain k [] l same apart =
    ap (λ (b : Bool). if b then with_rest l.entry [] else []) (is_same (pen_of l) k same) ∙ rest_none l.entry
first_chain k (m ∷ ms) l same apart =
    ap (λ (b : Bool). if b then with_rest m.entry (chain (following m) (ms ++ l ∷ [])) else chain k (ms ++ l ∷ [])) (is_other (pen_of m) k (apart_first k m ms apart))
    ∙ first_chain k ms l same (apart_rest k m ms apart)

first_next : (k : ℕ) (others : List Link) (l : Link) → pen_of l ≡ k → Apart k others → next_pen k (others ++ l ∷ []) ≡ following l
first_next k [] l same apart = ap (λ (b : Bool). if b then following l else k) (is_same (pen_of l) k same)
first_next k (m ∷ ms) l same apart =
    ap (λ (b : Bool). if b then next_pen (following m) (ms ++ l ∷ []) else next_pen k (ms ++ l ∷ [])) (is_other (pen_of m) k (apart_first k m ms apart))
    ∙ first_next k ms l same (apart_rest k m ms apart)

-- An end is not behind itself.
rest_more : (e l : Entry) (xs ys : List Entry) → is_endless (with_rest e xs) ≡ true → (is_endless xs ≡ true → ys ≡ xs ++ l ∷ []) → with_rest e ys ≡ with_rest e xs ++ l ∷ []
rest_more (Opened b) l xs ys h more = ap (λ w. Opened b ∷ w) (more h)
rest_more (Accepted c) l xs ys h more = ap (λ w. Accepted c ∷ w) (more h)
rest_more (Acknowledged n) l xs ys h more = ap (λ w. Acknowledged n ∷ w) (more h)
rest_more Closed l xs ys h more = absurd (true≢false (sym h))

rest_endless : (e : Entry) (xs : List Entry) → is_endless (with_rest e xs) ≡ true → is_endless xs ≡ true
rest_endless (Opened b) xs h = h
rest_endless (Accepted c) xs h = h
rest_endless (Acknowledged n) xs h = h
rest_endless Closed xs h = absurd (true≢false (sym h))

chain_choice : (b : Bool) (e l : Entry) (xs ys xs' ys' : List Entry) (m n k : ℕ) (P : ℕ → Type 0)
    → (is_endless xs ≡ true → k ≡ m → P m → xs' ≡ xs ++ l ∷ []) → (is_endless ys ≡ true → k ≡ n → P n → ys' ≡ ys ++ l ∷ [])
    → is_endless (if b then with_rest e xs else ys) ≡ true → k ≡ (if b then m else n) → P (if b then m else n)
    → (if b then with_rest e xs' else ys') ≡ (if b then with_rest e xs else ys) ++ l ∷ []
chain_choice true e l xs ys xs' ys' m n k P p q h same apart = rest_more e l xs xs' h (λ g. p g same apart)
chain_choice false e l xs ys xs' ys' m n k P p q h same apart = q h same apart

next_choice : (b : Bool) (e : Entry) (xs ys : List Entry) (m n m' n' k j : ℕ) (P : ℕ → Type 0)
    → (is_endless xs ≡ true → k ≡ m → P m → m' ≡ j) → (is_endless ys ≡ true → k ≡ n → P n → n' ≡ j)
    → is_endless (if b then with_rest e xs else ys) ≡ true → k ≡ (if b then m else n) → P (if b then m else n)
    → (if b then m' else n') ≡ j
next_choice true e xs ys m n m' n' k j P p q h same apart = p (rest_endless e xs h) same apart
next_choice false e xs ys m n m' n' k j P p q h same apart = q h same apart

more_chain : (k : ℕ) (v others : List Link) (l : Link) → is_endless (chain k v) ≡ true → pen_of l ≡ next_pen k v → Apart (next_pen k v) others
    → chain k (v ++ (others ++ l ∷ [])) ≡ chain k v ++ l.entry ∷ []
more_chain k [] others l h same apart = first_chain k others l same apart
more_chain k (x ∷ xs) others l h same apart =
    chain_choice (nat_eq (pen_of x) k) x.entry l.entry (chain (following x) xs) (chain k xs) (chain (following x) (xs ++ (others ++ l ∷ []))) (chain k (xs ++ (others ++ l ∷ [])))
    (next_pen (following x) xs) (next_pen k xs) (pen_of l) (λ n. Apart n others)
    (more_chain (following x) xs others l) (more_chain k xs others l) h same apart

more_next : (k : ℕ) (v others : List Link) (l : Link) → is_endless (chain k v) ≡ true → pen_of l ≡ next_pen k v → Apart (next_pen k v) others
    → next_pen k (v ++ (others ++ l ∷ [])) ≡ following l
more_next k [] others l h same apart = first_next k others l same apart
more_next k (x ∷ xs) others l h same apart =
    next_choice (nat_eq (pen_of x) k) x.entry (chain (following x) xs) (chain k xs) (next_pen (following x) xs) (next_pen k xs)
    (next_pen (following x) (xs ++ (others ++ l ∷ []))) (next_pen k (xs ++ (others ++ l ∷ []))) (pen_of l) (following l) (λ n. Apart n others)
    (more_next (following x) xs others l) (more_next k xs others l) h same apart

module _ (k : ℕ) (v new : List Link) (l : Link) (w : WritesBehind v l new) (endless : is_endless (chain k v) ≡ true) (same : pen_of l ≡ next_pen k v) where
  apart : Apart (next_pen k v) w.others
  apart = subst (λ (n : ℕ). Apart n w.others) same w.apart

  -- who has the next pen adds an entry
  pub chain_more : chain k new ≡ chain k v ++ l.entry ∷ []
  chain_more = ap (chain k) w.log_is ∙ more_chain k v w.others l endless same apart

  pub next_more : next_pen k new ≡ following l
  next_more = ap (next_pen k) w.log_is ∙ more_next k v w.others l endless same apart
