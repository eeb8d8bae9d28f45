-- Nodes that are remembered, and their flags.
use Rattle.std.proofs.Common.{◌≡◌, ◌⊎◌, ◌∙◌, ℕ, zero, suc, ◌/◌, ◌%◌, ◌*◌, ◌<◌, ◌≤◌, ◌≢◌, Bool, true, false, ◌||◌, List, [], ◌∷◌, ◌++◌, length, get_or, set, map, Contains, cond, ap₂, refl, inl, inr, ap, sym, subst, arith, eqb, ⊎_elim}
use Rattle.std.specs.List.{list_any, IsDistinct, AllByRecursion}
use Rattle.std.proofs.lemmas.Bool.{cases_eq, cases_lt, eq-eqb, ne_eqb, eqb-true}
use Rattle.std.proofs.lemmas.List.{get_or-map, get_or-set_same, get_or-set_other, get_or_past, length-map, map-set}
use Rattle.std.proofs.lemmas.List.Elements.{Contains-append_left, Contains-push, Contains-append_cases, Contains-push_cases}
use Rattle.std.proofs.lemmas.Map.Keys.{IsDistinct-push}
use Rattle.std.specs.Int.{bit_at}
use Rattle.std.proofs.lemmas.Cmp.{nat_eq_equiv}
use Rattle.std.proofs.lemmas.Nat.Bits.{bit_at-zero}
use Rattle.roadnet.specs.Members.{is_member}
use Rattle.frontier.specs.Flags.{flag_at}
use Rattle.frontier.specs.Remembered.{Memory, AreFlags, remember, remember_all}
use Rattle.frontier.proofs.Members.{Contains-tail, Contains-nil}

or_false : (b : Bool) → (b || false) ≡ b
or_false true = refl
or_false false = refl

or_true : (b : Bool) → (b || true) ≡ true
or_true true = refl
or_true false = refl

or_more : (a b c : Bool) (d : Bool) → d ≡ (b || c) → (a || d) ≡ ((a || b) || c)
or_more true b c d e = refl
or_more false b c d e = e

is_member-push : (u y : ℕ) (xs : List ℕ) → is_member u (xs ++ y ∷ []) ≡ (is_member u xs || eqb y u)
is_member-push u y [] = or_false (eqb y u)
is_member-push u y (x ∷ xs) = or_more (eqb x u) (is_member u xs) (eqb y u) (is_member u (xs ++ y ∷ [])) (is_member-push u y xs)

member_more : (u x : ℕ) (xs : List ℕ) (b : Bool) → eqb x u ≡ b → (is_member u xs ≡ true → Contains xs u) → (b || is_member u xs) ≡ true → Contains (x ∷ xs) u
member_more u x xs true e rest h = (0, omega arith, eqb-true x u e)
member_more u x xs false e rest h = Contains-tail x xs u (rest h)

pub Contains-member : (u : ℕ) (xs : List ℕ) → is_member u xs ≡ true → Contains xs u
Contains-member u [] h = cc
Contains-member u (x ∷ xs) h = member_more u x xs (eqb x u) refl (Contains-member u xs) h

-- ---- one node more
remembered_by : (nodes : List ℕ) (node : ℕ) (b : Bool) → is_member node nodes ≡ b → remember nodes node ≡ cond b nodes (nodes ++ node ∷ [])
remembered_by nodes node b e = ap (λ (t : Bool). cond t nodes (nodes ++ node ∷ [])) e

pub remember_there : (nodes : List ℕ) (node : ℕ) → is_member node nodes ≡ true → remember nodes node ≡ nodes
remember_there nodes node e = remembered_by nodes node true e

pub remember_new : (nodes : List ℕ) (node : ℕ) → is_member node nodes ≡ false → remember nodes node ≡ nodes ++ node ∷ []
remember_new nodes node e = remembered_by nodes node false e

kept_by : (nodes : List ℕ) (node u : ℕ) (b : Bool) → Contains nodes u → Contains (cond b nodes (nodes ++ node ∷ [])) u
kept_by nodes node u true h = h
kept_by nodes node u false h = Contains-append_left nodes (node ∷ []) u h

has_by : (nodes : List ℕ) (node : ℕ) (b : Bool) → is_member node nodes ≡ b → Contains (cond b nodes (nodes ++ node ∷ [])) node
has_by nodes node true e = Contains-member node nodes e
has_by nodes node false e = Contains-push nodes node

of_by : (nodes : List ℕ) (node u : ℕ) (b : Bool) → Contains (cond b nodes (nodes ++ node ∷ [])) u → Contains nodes u ⊎ (node ≡ u)
of_by nodes node u true h = inl h
of_by nodes node u false h = Contains-push_cases nodes node u h

pub remember_all-kept : (nodes more : List ℕ) (u : ℕ) → Contains nodes u → Contains (remember_all nodes more) u
remember_all-kept nodes [] u h = h
remember_all-kept nodes (x ∷ more) u h = remember_all-kept (remember nodes x) more u (kept_by nodes x u (is_member x nodes) h)

pub remember_all-has : (nodes more : List ℕ) (u : ℕ) → Contains more u → Contains (remember_all nodes more) u
remember_all-has nodes [] u h = absurd (Contains-nil u h)
remember_all-has nodes (x ∷ more) u (zero, within, e) = remember_all-kept (remember nodes x) more u (subst (λ (y : ℕ). Contains (remember nodes x) y) e (has_by nodes x (is_member x nodes) refl))
remember_all-has nodes (x ∷ more) u (suc k, within, e) = remember_all-has (remember nodes x) more u (k, omega arith, e)

-- each node of one list or the other is remembered, and no other is
pub remember_all-both : (nodes more : List ℕ) (u : ℕ) → Contains (nodes ++ more) u → Contains (remember_all nodes more) u
remember_all-both nodes more u h = ⊎_elim (λ (a : Contains nodes u). remember_all-kept nodes more u a) (λ (b : Contains more u). remember_all-has nodes more u b) (Contains-append_cases nodes more u h)

pub remember_all-of : (nodes more : List ℕ) (u : ℕ) → Contains (remember_all nodes more) u → Contains nodes u ⊎ Contains more u
remember_all-of nodes [] u h = inl h
remember_all-of nodes (x ∷ more) u h =
    ⊎_elim
    (λ (a : Contains (remember nodes x) u). ⊎_elim (λ (old : Contains nodes u). inl old) (λ (e : x ≡ u). inr (0, omega arith, e)) (of_by nodes x u (is_member x nodes) a))
    (λ (b : Contains more u). inr (Contains-tail x more u b))
    (remember_all-of (remember nodes x) more u h)

-- ---- flags
pub flags-none : (pages : List (List ℕ)) → ((k : ℕ) → get_or pages k [] ≡ []) → (u : ℕ) → flag_at pages u ≡ false
flags-none pages none u =
    let words : get_or (get_or pages (u / 32768) []) (u % 32768 / 64) 0 ≡ 0 = ap (λ (ws : List ℕ). get_or ws (u % 32768 / 64) 0) (none (u / 32768)) ∙ get_or_past [] (u % 32768 / 64) 0 (omega arith) in
    ap (λ w. eqb (bit_at w (u % 64)) 1) words ∙ ap (λ b. eqb b 1) (bit_at-zero (u % 64))

-- one more that is the default
pub default_more : {X : Type 0} (xs : List X) (d : X) (k : ℕ) → get_or (xs ++ d ∷ []) k d ≡ get_or xs k d
default_more [] d zero = refl
default_more [] d (suc k) = refl
default_more (x ∷ xs) d zero = refl
default_more (x ∷ xs) d (suc k) = default_more xs d k

-- a page with words that are the same, but for words of 0 at its end
module _ (pages : List (List ℕ)) (page : ℕ) (words : List ℕ) (within : page < length pages) where
  pub words-same : ((k : ℕ) → get_or words k 0 ≡ get_or (get_or pages page []) k 0) → (u : ℕ) → flag_at (set pages page words) u ≡ flag_at pages u
  words-same same u =
      ⊎_elim
      (λ (e : u / 32768 ≡ page).
      let at : get_or (set pages page words) (u / 32768) [] ≡ words = ap (λ p. get_or (set pages page words) p []) e ∙ get_or-set_same pages page words [] within in
      ap (λ (ws : List ℕ). eqb (bit_at (get_or ws (u % 32768 / 64) 0) (u % 64)) 1) at
      ∙ (ap (λ w. eqb (bit_at w (u % 64)) 1) (same (u % 32768 / 64)) ∙ ap (λ p. eqb (bit_at (get_or (get_or pages p []) (u % 32768 / 64) 0) (u % 64)) 1) (sym e)))
      (λ (ne : u / 32768 ≡ page → ⊥). ap (λ (ws : List ℕ). eqb (bit_at (get_or ws (u % 32768 / 64) 0) (u % 64)) 1) (get_or-set_other pages page (u / 32768) words [] ne))
      (cases_eq (u / 32768) page)

-- a word with the flag of a number put up or down, seen at a number
module _ (pages : List (List ℕ)) (number new : ℕ) (within : number < length pages * 32768) (room : number % 32768 / 64 < length (get_or pages (number / 32768) [])) where
  abbrev own : List ℕ
  own = get_or pages (number / 32768) []

  abbrev changed : List (List ℕ)
  changed = set pages (number / 32768) (set own (number % 32768 / 64) new)

  own_page : get_or changed (number / 32768) [] ≡ set own (number % 32768 / 64) new
  own_page = get_or-set_same pages (number / 32768) (set own (number % 32768 / 64) new) [] (omega (arith, within))

  own_word : get_or (get_or changed (number / 32768) []) (number % 32768 / 64) 0 ≡ new
  own_word = ap (λ (ws : List ℕ). get_or ws (number % 32768 / 64) 0) own_page ∙ get_or-set_same own (number % 32768 / 64) new 0 room

  pub set-same : flag_at changed number ≡ eqb (bit_at new (number % 64)) 1
  set-same = ap (λ w. eqb (bit_at w (number % 64)) 1) own_word

  module _ (u : ℕ) (ne : u ≢ number) where
    same_word : u / 64 ≡ number / 64 → ((i : ℕ) → i < 64 → i ≢ number % 64 → bit_at new i ≡ bit_at (get_or own (number % 32768 / 64) 0) i) → flag_at changed u ≡ flag_at pages u
    same_word e others =
        let page : u / 32768 ≡ number / 32768 = omega (arith, e) in
        let place : u % 32768 / 64 ≡ number % 32768 / 64 = omega (arith, e) in
        let bit : bit_at new (u % 64) ≡ bit_at (get_or own (number % 32768 / 64) 0) (u % 64) = others (u % 64) (omega arith) (λ same. ne (omega (arith, same, e))) in
        rw (page, place) (ap (λ w. eqb (bit_at w (u % 64)) 1) own_word ∙ ap (λ b. eqb b 1) bit)

    other_word : (u / 64 ≡ number / 64 → ⊥) → flag_at changed u ≡ flag_at pages u
    other_word apart =
        ⊎_elim
        (λ (e : u / 32768 ≡ number / 32768).
        rw e (ap (λ (ws : List ℕ). eqb (bit_at (get_or ws (u % 32768 / 64) 0) (u % 64)) 1) own_page ∙ ap (λ w. eqb (bit_at w (u % 64)) 1) (get_or-set_other own (number % 32768 / 64) (u % 32768 / 64) new 0 (λ same. apart (omega (arith, same, e))))))
        (λ (ne' : u / 32768 ≡ number / 32768 → ⊥). ap (λ (ws : List ℕ). eqb (bit_at (get_or ws (u % 32768 / 64) 0) (u % 64)) 1) (get_or-set_other pages (number / 32768) (u / 32768) (set own (number % 32768 / 64) new) [] ne'))
        (cases_eq (u / 32768) (number / 32768))

  pub set-other : ((i : ℕ) → i < 64 → i ≢ number % 64 → bit_at new i ≡ bit_at (get_or own (number % 32768 / 64) 0) i) → (u : ℕ) → u ≢ number → flag_at changed u ≡ flag_at pages u
  set-other others u ne =
      ⊎_elim
      (λ (e : u / 64 ≡ number / 64). same_word u ne e others)
      (λ (apart : u / 64 ≡ number / 64 → ⊥). other_word u ne apart)
      (cases_eq (u / 64) (number / 64))

-- a page that is changed
module _ {X : Type 0} (items : X → List ℕ) (pages : List X) (page : ℕ) (within : page < length pages) (old : X) (is : old ≡ get_or pages page old) where
  pub page-read : items old ≡ get_or (map items pages) page []
  page-read = ap items is ∙ sym (get_or-map items pages page old [] within)

  pub page-grown : (new : X) → ((k : ℕ) → get_or (items new) k 0 ≡ get_or (items old) k 0) → (u : ℕ) → flag_at (map items (set pages page new)) u ≡ flag_at (map items pages) u
  page-grown new same u =
      ap (λ ps. flag_at ps u) (map-set items pages page new)
      ∙ words-same (map items pages) page (items new) (omega (arith, within, length-map pages items)) (λ k. same k ∙ ap (λ (ws : List ℕ). get_or ws k 0) page-read) u

  pub page-new : (new : X) → get_or (map items (set pages page new)) page [] ≡ items new
  page-new new = ap (λ ps. get_or ps page []) (map-set items pages page new) ∙ get_or-set_same (map items pages) page (items new) [] (omega (arith, within, length-map pages items))

  pub page-set : (changed : X) (place word : ℕ) → items changed ≡ set (items old) place word → map items (set pages page changed) ≡ set (map items pages) page (set (get_or (map items pages) page []) place word)
  page-set changed place word e = map-set items pages page changed ∙ ap (set (map items pages) page) (e ∙ ap (λ (ws : List ℕ). set ws place word) page-read)

-- a flag that is up has a word
pub up_word : (pages : List (List ℕ)) (u : ℕ) → flag_at pages u ≡ true → u % 32768 / 64 < length (get_or pages (u / 32768) [])
up_word pages u up =
    ⊎_elim
    (λ (lt : u % 32768 / 64 < length (get_or pages (u / 32768) [])). lt)
    (λ (past : length (get_or pages (u / 32768) []) ≤ u % 32768 / 64).
    let down : flag_at pages u ≡ false = ap (λ w. eqb (bit_at w (u % 64)) 1) (get_or_past (get_or pages (u / 32768) []) (u % 32768 / 64) 0 past) ∙ ap (λ b. eqb b 1) (bit_at-zero (u % 64)) in
    let no : false ≡ true = sym down ∙ up in
    absurd (let absurdity : ⊥ = cc in absurdity))
    (cases_lt (u % 32768 / 64) (length (get_or pages (u / 32768) [])))

pub up_page : (pages : List (List ℕ)) (u : ℕ) → flag_at pages u ≡ true → u < length pages * 32768
up_page pages u up =
    ⊎_elim
    (λ (lt : u / 32768 < length pages). omega (arith, lt))
    (λ (past : length pages ≤ u / 32768).
    let none : length (get_or pages (u / 32768) []) ≡ 0 = ap length (get_or_past pages (u / 32768) [] past) in
    absurd (omega (arith, none, up_word pages u up)))
    (cases_lt (u / 32768) (length pages))

pub AreFlags-none : (pages : List (List ℕ)) (nodes : List ℕ) → ((u : ℕ) → flag_at pages u ≡ false) → nodes ≡ [] → AreFlags pages nodes
unfolding IsDistinct
AreFlags-none pages nodes down e = rw e (record { flag = down; once = tt })

eqb_flips : (x y : ℕ) (b : Bool) → eqb x y ≡ b → eqb y x ≡ b
eqb_flips x y true e = eq-eqb y x (sym (eqb-true x y e))
eqb_flips x y false e = ne_eqb y x (λ same. let no : true ≡ false = sym (eq-eqb x y (sym same)) ∙ e in let absurdity : ⊥ = cc in absurdity)

is_member-flips : (node : ℕ) (nodes : List ℕ) → list_any (λ x. eqb node x) nodes ≡ is_member node nodes
is_member-flips node [] = refl
is_member-flips node (x ∷ nodes) = ap₂ (λ (a b : Bool). a || b) (eqb_flips x node (eqb x node) refl) (is_member-flips node nodes)

pub AreFlags-push : (old new : List (List ℕ)) (nodes : List ℕ) (node : ℕ) → flag_at new node ≡ true → ((u : ℕ) → u ≢ node → flag_at new u ≡ flag_at old u) → is_member node nodes ≡ false → AreFlags old nodes → AreFlags new (nodes ++ node ∷ [])
AreFlags-push old new nodes node up others out before = record {
  flag = λ u. ⊎_elim
      (λ (e : u ≡ node). rw e (up ∙ sym (is_member-push node node nodes ∙ (ap (λ (b : Bool). is_member node nodes || b) (eq-eqb node node refl) ∙ or_true (is_member node nodes)))))
      (λ (ne : u ≡ node → ⊥). others u ne ∙ (before.flag u ∙ sym (is_member-push u node nodes ∙ (ap (λ (b : Bool). is_member u nodes || b) (ne_eqb node u (λ e. ne (sym e))) ∙ or_false (is_member u nodes)))))
      (cases_eq u node);
  once = IsDistinct-push nat_eq_equiv nodes node before.once (is_member-flips node nodes ∙ out);
}

-- ---- forgetting the last node
all_front : (P : ℕ → Type 0) (xs : List ℕ) (y : ℕ) → AllByRecursion P (xs ++ y ∷ []) → AllByRecursion P xs × P y
all_front P [] y h = (tt, h.0)
all_front P (x ∷ xs) y h = let r = all_front P xs y h.1 in ((h.0, r.0), r.1)

or_both : (a b : Bool) → a ≡ false → b ≡ false → (a || b) ≡ false
or_both true b e e' = cc
or_both false b e e' = e'

distinct_front : (xs : List ℕ) (y : ℕ) → IsDistinct eqb (xs ++ y ∷ []) → IsDistinct eqb xs × (is_member y xs ≡ false)
unfolding IsDistinct
distinct_front [] y h = (tt, refl)
distinct_front (x ∷ xs) y h =
    let here = all_front (λ (z : ℕ). eqb x z ≡ false) xs y h.0 in
    let rest = distinct_front xs y h.1 in
    ((here.0, rest.0), or_both (eqb x y) (is_member y xs) here.1 rest.1)

-- the flag of the last node is up
pub last_up : (pages : List (List ℕ)) (nodes : List ℕ) (node : ℕ) → AreFlags pages (nodes ++ node ∷ []) → flag_at pages node ≡ true
last_up pages nodes node old = old.flag node ∙ (is_member-push node node nodes ∙ (ap (λ (b : Bool). is_member node nodes || b) (eq-eqb node node refl) ∙ or_true (is_member node nodes)))

pub AreFlags-pop : (old new : List (List ℕ)) (nodes : List ℕ) (node : ℕ) → flag_at new node ≡ false → ((u : ℕ) → u ≢ node → flag_at new u ≡ flag_at old u) → AreFlags old (nodes ++ node ∷ []) → AreFlags new nodes
AreFlags-pop old new nodes node down others before =
    let front : IsDistinct eqb nodes × (is_member node nodes ≡ false) = distinct_front nodes node before.once in
    record {
      flag = λ u. ⊎_elim
          (λ (e : u ≡ node). rw e (down ∙ sym front.1))
          (λ (ne : u ≡ node → ⊥). others u ne ∙ (before.flag u ∙ (is_member-push u node nodes ∙ (ap (λ (b : Bool). is_member u nodes || b) (ne_eqb node u (λ e. ne (sym e))) ∙ or_false (is_member u nodes)))))
          (cases_eq u node);
      once = front.0;
    }

pub memory_is : (m : Memory) (limit : ℕ) (nodes : List ℕ) → m.limit ≡ limit → m.nodes ≡ nodes → m ≡ record { limit = limit; nodes = nodes }
memory_is m limit nodes e e' = ap₂ (λ (l : ℕ) (ns : List ℕ). let r : Memory = record { limit = l; nodes = ns } in r) e e'
