-- The landmarks of a text are nodes of its network.
use Rattle.std.proofs.Common.{◌≡◌, ◌∙◌, ℕ, ◌+◌, ◌≤◌, Bool, true, false, cond, ◌||◌, List, [], ◌∷◌, ◌++◌, length, get_or, Option, None, Some, Result, Ok, Err, refl, sym, subst, arith}
use Rattle.std.specs.Prelude.{All, filter, is_none, nat_lt, option_map}
use Rattle.std.proofs.lemmas.Slice.Eq.{bytes_eq-Decides}
use Rattle.std.proofs.lemmas.Bool.{or_parts, ltb-false}
use Rattle.std.proofs.lemmas.Bool.Decides.{nat_tests}
use Rattle.std.proofs.lemmas.List.Elements.{All-nil, All-cons, All-map, All-filter, filter_passes}
use Rattle.roadnet.specs.Members.{set_of}
use Rattle.roadnet.proofs.Members.{All-set_of}
use lib.Chars.{codes}
use Rattle.dimacs.specs.declared.fault.Code.{Code}
use Rattle.dimacs.specs.declared.fault.Code.TheVariants.{BadLine, NoProblemLine, NumberRange, NodeRange}
use Rattle.dimacs.specs.declared.fault.Fault.{Fault}
use Rattle.dimacs.specs.declared.numerals.numeral.Numeral.{Numeral}
use Rattle.dimacs.specs.Format.{Format, ss}
use Rattle.dimacs.specs.Landmarks.{node_from, AreNodes}
use Rattle.dimacs.specs.Listed.{ReadsItem, code_after, items_in, text_of_items}
use Rattle.dimacs.specs.ListedReading.{node_of_numeral, node_read}
use Rattle.dimacs.specs.Reading.{one_numeral, is_outside}
use Rattle.dimacs.specs.Texts.{content_by, unless_fault, IsSaid}
use Rattle.dimacs.specs.Faults.{Row, Judge, fault_at, is_item, item_fields, problem_of, is_unreadable, code_of, first_fault, fault_of, or_else, end_code}
use Rattle.dimacs.proofs.NodeItems.{node_row}

-- a number from 1 to n, by the tests of its numeral
inside : (size n : ℕ) (minus : Bool) → (cond minus (nat_lt 0 (size + 1)) (nat_lt size 1) || cond minus false (nat_lt n size)) ≡ false → (1 ≤ size) × (size ≤ n)
inside size n true e =
    let t : nat_lt 0 (size + 1) ≡ true = grind (arith, nat_tests) in
    absurd (let never : true ≡ false = rw t at e in cc)
inside size n false e =
    let parts = or_parts (nat_lt size 1) (nat_lt n size) e in
    (ltb-false size 1 parts.0, ltb-false n size parts.1)

of_numeral : (n : ℕ) (a : Numeral) (item : ℕ) (big outside : Bool) → is_unreadable a ≡ big → is_outside 1 n a ≡ outside → ◌≡◌ {A = Result ℕ Code} (cond big (Err NumberRange) (cond outside (Err NodeRange) (Ok a.size))) (Ok item) → (1 ≤ item) × (item ≤ n)
of_numeral n a item true outside is out e = absurd cc
of_numeral n a item false true is out e = absurd cc
of_numeral n a item false false is out e =
    let same : a.size ≡ item = cc in
    subst (λ x. (1 ≤ x) × (x ≤ n)) same (inside a.size n a.has_minus out)

of_read : (n : ℕ) (o : Option Numeral) (item : ℕ) → node_read n o ≡ Some (Ok item) → (1 ≤ item) × (item ≤ n)
of_read n None item e = absurd cc
of_read n (Some a) item e =
    let told : node_of_numeral n a ≡ Ok item = cc in
    of_numeral n a item (is_unreadable a) (is_outside 1 n a) refl refl told

no_code : (f : Format) (earlier : List Row) (code : Code) → code_after f earlier (Some code) ≡ None → ⊥
no_code f earlier code e = go (is_none (problem_of earlier)) e
  where
    go : (b : Bool) → ◌≡◌ {A = Option Code} (cond b (Some NoProblemLine) (Some code)) None → ⊥
    go true e = cc
    go false e = cc

row_node : (n : ℕ) (earlier : List Row) (row : Row) → is_item (ss n) row ≡ true → code_of (ss n) earlier row ≡ None → (1 ≤ node_from (item_fields row)) × (node_from (item_fields row) ≤ n)
row_node n earlier [] item clean = absurd (let never : false ≡ true = item in cc)
row_node n earlier (first ∷ numbers) item clean = go (node_read n (one_numeral numbers)) refl (node_row n numbers)
  where
    letter : first ≡ codes "s"
    letter = (bytes_eq-Decides first (codes "s")).0 item

    stands_so : code_of (ss n) earlier (codes "s" ∷ numbers) ≡ None
    stands_so = subst (λ w. code_of (ss n) earlier (w ∷ numbers) ≡ None) letter clean

    go : (r : Option (Result ℕ Code)) → node_read n (one_numeral numbers) ≡ r → ReadsItem (ss n) node_from numbers r → (1 ≤ node_from numbers) × (node_from numbers ≤ n)
    go None is reads = absurd (let never : None ≡ Some BadLine = sym stands_so ∙ reads earlier in cc)
    go (Some (Err code)) is reads = absurd (no_code (ss n) earlier code (sym (reads earlier) ∙ stands_so))
    go (Some (Ok node)) is reads = subst (λ x. (1 ≤ x) × (x ≤ n)) (sym reads.0) (of_read n (one_numeral numbers) node is)

-- a row that has no fault behind some rows
abbrev Stands : Judge → Row → Type 0
Stands judge row = (earlier : List Row) × (judge earlier row ≡ None)

each_stands : (judge : Judge) (earlier rs : List Row) → first_fault judge earlier rs ≡ None → All (Stands judge) rs
each_stands judge earlier [] e = All-nil (Stands judge)
each_stands judge earlier (row ∷ more) e = go (judge earlier row) refl e (each_stands judge (earlier ++ row ∷ []) more)
  where
    go : (o : Option Code) → judge earlier row ≡ o → or_else (option_map (fault_at (length earlier + 1)) o) (first_fault judge (earlier ++ row ∷ []) more) ≡ None
        → (first_fault judge (earlier ++ row ∷ []) more ≡ None → All (Stands judge) more) → All (Stands judge) (row ∷ more)
    go None is rest others = All-cons (Stands judge) row more (earlier, is) (others rest)
    go (Some code) is rest others = absurd cc

no_fault : (judge : Judge) (end : List Row → Option Code) (rs : List Row) → fault_of judge end rs ≡ None → first_fault judge [] rs ≡ None
no_fault judge end rs e = go (first_fault judge [] rs) e
  where
    go : (o : Option Fault) → or_else o (option_map (fault_at (length rs)) (end rs)) ≡ None → o ≡ None
    go None e = refl
    go (Some fault) e = absurd cc

said : {X : Type 0} (o : Option Fault) (x y : X) → unless_fault o x ≡ Ok y → (o ≡ None) × (x ≡ y)
said None x y e = (refl, cc)
said (Some fault) x y e = absurd cc

-- the items of lines without a fault
are_nodes : (n : ℕ) (rs : List Row) (items : List ℕ) → content_by (text_of_items (ss n) node_from) rs ≡ Ok items → AreNodes n items
are_nodes n rs items e =
    let told = said (fault_of (code_of (ss n)) (end_code (ss n)) rs) (items_in (ss n) node_from rs) items e in
    let clean = each_stands (code_of (ss n)) [] rs (no_fault (code_of (ss n)) (end_code (ss n)) rs told.0) in
    let lines = filter (is_item (ss n)) rs in
    subst (AreNodes n) told.1
    (All-map (λ x. (1 ≤ x) × (x ≤ n)) (λ row. node_from (item_fields row)) lines
    (λ k d lt.
    let stood = All-filter (is_item (ss n)) (Stands (code_of (ss n))) rs clean k d lt in
    row_node n stood.0 (get_or lines k d) (filter_passes (is_item (ss n)) rs k d lt) stood.1))

-- and their set
pub set_of_nodes : (n : ℕ) (items set : List ℕ) → IsSaid (text_of_items (ss n) node_from) items → set ≡ set_of items → AreNodes n set
set_of_nodes n items set by is = rw is (All-set_of (λ x. (1 ≤ x) × (x ≤ n)) items (are_nodes n by.0 items by.1))
