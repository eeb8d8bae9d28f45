-- The numbers of an item line read from left to right have the lowest code that applies to it, or are the item that it says.
use Rattle.std.proofs.Common.{◌≡◌, ℕ, Bool, true, false, ◌||◌, cond, leb, List, [], ◌∷◌, Option, Some, None, Ok, Err, refl, sym, ap, ◌∙◌, inl, inr, subst}
use Rattle.std.specs.Prelude.{is_none}
use Rattle.std.proofs.lemmas.Bool.{or_parts}
use lib.Chars.{codes}
use Rattle.dimacs.specs.declared.numerals.numeral.Numeral.{Numeral}
use Rattle.dimacs.specs.declared.lists.pairs.Pair.{Pair}
use Rattle.dimacs.specs.declared.fault.Code.{Code}
use Rattle.dimacs.specs.declared.fault.Code.TheVariants.{BadLine, NoProblemLine, NumberRange, NodeRange, LineCount}
use Rattle.dimacs.specs.Format.{Format, ss, p2p}
use Rattle.dimacs.specs.Numerals.{numeral, kept}
use Rattle.dimacs.specs.Faults.{Row, is_malformed, is_unreadable, problem_of, announced_items, items_of, applies, code_of}
use Rattle.dimacs.specs.Reading.{one_numeral, two_numerals, is_outside}
use Rattle.dimacs.specs.Landmarks.{node_from}
use Rattle.dimacs.specs.Pairs.{pair_from}
use Rattle.dimacs.specs.Listed.{ReadsItem}
use Rattle.dimacs.specs.ListedReading.{node_of_numeral, node_read, pair_of_numerals, pair_read}
use Rattle.dimacs.proofs.Items.{or-false, kept_is, unreadable_kept}
use Rattle.dimacs.proofs.Problems.{two_cases}
use Rattle.dimacs.proofs.NodeRows.{one_cases}

-- the lowest code of an item line whose numbers are unreadable, or outside
abbrev code_by : Format → List Row → Bool → Bool → Option Code
code_by f earlier big outside =
    cond (is_none (problem_of earlier)) (Some NoProblemLine)
    (cond big (Some NumberRange)
    (cond outside (Some NodeRange)
    (cond (leb (announced_items f earlier) (items_of f earlier)) (Some LineCount) None)))

-- one number
code_of_node : (n : ℕ) (earlier : List Row) (u : List ℕ) (a : Numeral) → numeral u ≡ Some a → code_of (ss n) earlier (codes "s" ∷ u ∷ []) ≡ code_by (ss n) earlier (is_unreadable a) (is_outside 1 n a)
unfolding code_of applies
code_of_node n earlier u a e = rw e (simp or-false)

malformed_node : (n : ℕ) (earlier : List Row) (numbers : Row) → is_malformed 1 numbers ≡ true → code_of (ss n) earlier (codes "s" ∷ numbers) ≡ Some BadLine
unfolding code_of applies
malformed_node n earlier numbers e = rw e refl

node_is : (n : ℕ) (u : List ℕ) (a : Numeral) → numeral u ≡ Some a → (big outside : Bool) → is_unreadable a ≡ big → is_outside 1 n a ≡ outside
    → ReadsItem (ss n) node_from (u ∷ []) (Some (cond big (Err NumberRange) (cond outside (Err NodeRange) (Ok a.size))))
node_is n u a e true outside is out = λ earlier. code_of_node n earlier u a e ∙ rw is refl
node_is n u a e false true is out = λ earlier. code_of_node n earlier u a e ∙ rw (is, out) refl
node_is n u a e false false is out = (rw e refl, λ earlier. code_of_node n earlier u a e ∙ rw (is, out) refl)

node_kept : (n : ℕ) (a : Numeral) (big : Bool) → is_unreadable a ≡ big → node_of_numeral n (kept a) ≡ cond (is_unreadable a) (Err NumberRange) (cond (is_outside 1 n a) (Err NodeRange) (Ok a.size))
node_kept n a true is = rw (unreadable_kept a, is) refl
node_kept n a false is = ap (node_of_numeral n) (kept_is a is)

pub node_row : (n : ℕ) (numbers : Row) → ReadsItem (ss n) node_from numbers (node_read n (one_numeral numbers))
node_row n numbers =
    elim (one_cases numbers) [
      | inl bad ↦ rw bad.0 (λ earlier. malformed_node n earlier numbers bad.1)
      | inr one ↦
          let read : one_numeral (one.field ∷ []) ≡ Some (kept one.a) = rw one.field_is refl in
          let result : node_read n (one_numeral (one.field ∷ [])) ≡ Some (cond (is_unreadable one.a) (Err NumberRange) (cond (is_outside 1 n one.a) (Err NodeRange) (Ok one.a.size))) =
          ap (node_read n) read ∙ ap Some (node_kept n one.a (is_unreadable one.a) refl) in
          rw one.fields (subst (ReadsItem (ss n) node_from (one.field ∷ [])) (sym result) (node_is n one.field one.a one.field_is (is_unreadable one.a) (is_outside 1 n one.a) refl refl))
    ]

-- two numbers
code_of_pair : (n : ℕ) (earlier : List Row) (u v : List ℕ) (a b : Numeral) → numeral u ≡ Some a → numeral v ≡ Some b
    → code_of (p2p n) earlier (codes "q" ∷ u ∷ v ∷ []) ≡ code_by (p2p n) earlier (is_unreadable a || is_unreadable b) (is_outside 1 n a || is_outside 1 n b)
unfolding code_of applies
code_of_pair n earlier u v a b e f = rw (e, f) (simp or-false)

malformed_pair : (n : ℕ) (earlier : List Row) (numbers : Row) → is_malformed 2 numbers ≡ true → code_of (p2p n) earlier (codes "q" ∷ numbers) ≡ Some BadLine
unfolding code_of applies
malformed_pair n earlier numbers e = rw e refl

abbrev pair_of_sizes : Numeral → Numeral → Pair
pair_of_sizes a b = record { source = a.size; target = b.size }

pair_is : (n : ℕ) (u v : List ℕ) (a b : Numeral) → numeral u ≡ Some a → numeral v ≡ Some b → (big outside : Bool) → (is_unreadable a || is_unreadable b) ≡ big
    → (is_outside 1 n a || is_outside 1 n b) ≡ outside → ReadsItem (p2p n) pair_from (u ∷ v ∷ []) (Some (cond big (Err NumberRange) (cond outside (Err NodeRange) (Ok (pair_of_sizes a b)))))
pair_is n u v a b e f true outside is out = λ earlier. code_of_pair n earlier u v a b e f ∙ rw is refl
pair_is n u v a b e f false true is out = λ earlier. code_of_pair n earlier u v a b e f ∙ rw (is, out) refl
pair_is n u v a b e f false false is out = (rw (e, f) refl, λ earlier. code_of_pair n earlier u v a b e f ∙ rw (is, out) refl)

same_pair : (n : ℕ) (a b x y : Numeral) → a ≡ x → b ≡ y → pair_of_numerals n a b ≡ pair_of_numerals n x y
same_pair n a b x y e f = rw (e, f) refl

pair_kept : (n : ℕ) (a b : Numeral) (big : Bool) → (is_unreadable a || is_unreadable b) ≡ big
    → pair_of_numerals n (kept a) (kept b) ≡ cond (is_unreadable a || is_unreadable b) (Err NumberRange) (cond (is_outside 1 n a || is_outside 1 n b) (Err NodeRange) (Ok (pair_of_sizes a b)))
pair_kept n a b true is = rw (unreadable_kept a, unreadable_kept b, is) refl
pair_kept n a b false is =
    let parts = or_parts _ _ is in
    same_pair n (kept a) (kept b) a b (kept_is a parts.0) (kept_is b parts.1)

pub pair_row : (n : ℕ) (numbers : Row) → ReadsItem (p2p n) pair_from numbers (pair_read n (two_numerals numbers))
pair_row n numbers =
    elim (two_cases numbers) [
      | inl bad ↦ rw bad.0 (λ earlier. malformed_pair n earlier numbers bad.1)
      | inr two ↦
          let read : two_numerals (two.nodes ∷ two.items ∷ []) ≡ Some (kept two.a, kept two.b) = rw (two.nodes_is, two.items_is) refl in
          let big : Bool = is_unreadable two.a || is_unreadable two.b in
          let outside : Bool = is_outside 1 n two.a || is_outside 1 n two.b in
          let result : pair_read n (two_numerals (two.nodes ∷ two.items ∷ [])) ≡ Some (cond big (Err NumberRange) (cond outside (Err NodeRange) (Ok (pair_of_sizes two.a two.b)))) =
          ap (pair_read n) read ∙ ap Some (pair_kept n two.a two.b big refl) in
          rw two.fields (subst (ReadsItem (p2p n) pair_from (two.nodes ∷ two.items ∷ [])) (sym result) (pair_is n two.nodes two.items two.a two.b two.nodes_is two.items_is big outside refl refl))
    ]
