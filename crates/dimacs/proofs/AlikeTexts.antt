-- Lines of a DIMACS text that say the same have the same code, and the same is taken of them.
use Rattle.std.proofs.Common.{◌≡◌, ◌∙◌, ℕ, suc, ◌+◌, Bool, true, false, not, ◌&&◌, ◌||◌, cond, ltb, List, [], ◌∷◌, ◌++◌, length, map, drop, Option, None, Some, refl, sym, ap, arith, inl, inr}
use Rattle.std.specs.Prelude.{is_none}
use Rattle.std.specs.List.{filter_map, list_all, starts_with, cons_option}
use Rattle.std.specs.Option.{option_map_or}
use Rattle.std.specs.Str.{bytes_eq}
use Rattle.std.proofs.lemmas.Bool.{cases_Bool, or_parts}
use Rattle.roadnet.specs.declared.arcs.RoadArc.{RoadArc}
use Rattle.dimacs.specs.declared.fault.Code.{Code}
use Rattle.dimacs.specs.declared.fault.Code.TheVariants.{BadLine, NoProblemLine, SecondProblemLine, WrongKind, NumberRange, NodeRange, LengthRange, LineCount, TooLarge}
use Rattle.dimacs.specs.declared.graphs.gr_lines.GrLines.{GrLines}
use Rattle.dimacs.specs.Alike.{AllAlike, SaySame}
use Rattle.dimacs.specs.Content.{arc_of_line, arc_of, size_at}
use Rattle.dimacs.specs.Faults.{Row, or_else, is_problem, is_item, has_kind, count_fields, some_numeral, some_at, is_unreadable, is_under, is_over, is_no_node, is_no_length, size_of, announced_nodes_of, problem_of, announced, applies, code_of}
use Rattle.dimacs.specs.Format.{Format, Quantity, gr}
use Rattle.dimacs.specs.Listed.{listed, items_in, HasItems}
use Rattle.dimacs.specs.Progress.{HasTaken}
use Rattle.dimacs.proofs.AlikeNumbers.{starts_same, malformed_same, numerals_same, some_at_same, dropped_alike, sizes_same, size_at_same}
use Rattle.dimacs.proofs.Items.{unreadable_kept, find_push, items_push, filter_map_push}
use Rattle.dimacs.proofs.NodeRows.{items_push as said_push}

module _ (f : Format) (short_kind : list_all (λ w. not (ltb 16 (length w))) f.kind ≡ true) (earlier : List Row) (x : List ℕ) (xs ys : Row) (alike : AllAlike xs ys) where
  kind_same : has_kind f (x ∷ xs) ≡ has_kind f (x ∷ ys)
  kind_same = ap (λ (b : Bool). is_problem (x ∷ xs) && b) (starts_same f.kind xs ys short_kind alike)

  behind : (zs : Row) → count_fields f (x ∷ zs) ≡ drop (length f.kind) zs
  behind zs = let one : 1 + length f.kind ≡ suc (length f.kind) = omega arith in rw one refl

  counts_alike : AllAlike (count_fields f (x ∷ xs)) (count_fields f (x ∷ ys))
  counts_alike = rw (behind xs, behind ys) (dropped_alike (length f.kind) xs ys alike)

  bad_same : applies f earlier (x ∷ xs) BadLine ≡ applies f earlier (x ∷ ys) BadLine
  unfolding applies
  bad_same = rw (kind_same, malformed_same (length f.numbers) xs ys alike, malformed_same (length f.counts) (count_fields f (x ∷ xs)) (count_fields f (x ∷ ys)) counts_alike) refl

  no_problem_same : applies f earlier (x ∷ xs) NoProblemLine ≡ applies f earlier (x ∷ ys) NoProblemLine
  unfolding applies
  no_problem_same = refl

  second_same : applies f earlier (x ∷ xs) SecondProblemLine ≡ applies f earlier (x ∷ ys) SecondProblemLine
  unfolding applies
  second_same = refl

  wrong_same : applies f earlier (x ∷ xs) WrongKind ≡ applies f earlier (x ∷ ys) WrongKind
  unfolding applies
  wrong_same = rw kind_same refl

  absorbed : (i k s t : Bool) → ((i || (k && true)) || (k && s)) ≡ ((i || (k && true)) || (k && t))
  absorbed true k s t = refl
  absorbed false true s t = refl
  absorbed false false s t = refl

  range_same : applies f earlier (x ∷ xs) NumberRange ≡ applies f earlier (x ∷ ys) NumberRange
  unfolding applies
  range_same =
      let items : some_numeral is_unreadable xs ≡ some_numeral is_unreadable ys = numerals_same is_unreadable unreadable_kept xs ys alike in
      let counts : some_numeral is_unreadable (count_fields f (x ∷ xs)) ≡ some_numeral is_unreadable (count_fields f (x ∷ ys)) = numerals_same is_unreadable unreadable_kept (count_fields f (x ∷ xs)) (count_fields f (x ∷ ys)) counts_alike in
      elim (cases_Bool (some_numeral is_unreadable (count_fields f (x ∷ ys)))) [
        | inl some ↦ rw (kind_same, items, counts, some) (absorbed (is_item f (x ∷ ys) && some_numeral is_unreadable ys) (has_kind f (x ∷ ys)) _ _)
        | inr none ↦
            let under = some_at_same (λ range. is_under range.least) f.counts (count_fields f (x ∷ xs)) (count_fields f (x ∷ ys)) counts_alike (counts ∙ none) in
            rw (kind_same, items, counts, under) refl
      ]

  -- the numbers that are looked at can be read
  readable_items : applies f earlier (x ∷ xs) NumberRange ≡ false → is_item f (x ∷ xs) ≡ true → some_numeral is_unreadable xs ≡ false
  unfolding applies
  readable_items none item =
      let here : (is_item f (x ∷ xs) && some_numeral is_unreadable xs) ≡ false = (or_parts _ _ (or_parts _ _ none).0).0 in
      rw item at here

  readable_counts : applies f earlier (x ∷ xs) NumberRange ≡ false → has_kind f (x ∷ xs) ≡ true → some_numeral is_unreadable (count_fields f (x ∷ xs)) ≡ false
  unfolding applies
  readable_counts none kind =
      let here : (has_kind f (x ∷ xs) && some_numeral is_unreadable (count_fields f (x ∷ xs))) ≡ false = (or_parts _ _ (or_parts _ _ none).0).1 in
      and_true (has_kind f (x ∷ xs)) (some_numeral is_unreadable (count_fields f (x ∷ xs))) kind here
    where
      and_true : (b s : Bool) → b ≡ true → (b && s) ≡ false → s ≡ false
      and_true true s e none = none
      and_true false s e none = absurd cc

  behind_test : (b s t : Bool) → (b ≡ true → s ≡ t) → (b && s) ≡ (b && t)
  behind_test true s t e = e refl
  behind_test false s t e = refl

  module _ (none : applies f earlier (x ∷ xs) NumberRange ≡ false) where
    node_same : applies f earlier (x ∷ xs) NodeRange ≡ applies f earlier (x ∷ ys) NodeRange
    unfolding applies
    node_same = behind_test (is_item f (x ∷ xs)) _ _ (λ item. some_at_same (is_no_node (announced_nodes_of f earlier)) f.numbers xs ys alike (readable_items none item))

    length_same : applies f earlier (x ∷ xs) LengthRange ≡ applies f earlier (x ∷ ys) LengthRange
    unfolding applies
    length_same = behind_test (is_item f (x ∷ xs)) _ _ (λ item. some_at_same is_no_length f.numbers xs ys alike (readable_items none item))

    count_same : applies f earlier (x ∷ xs) LineCount ≡ applies f earlier (x ∷ ys) LineCount
    unfolding applies
    count_same = refl

    large_same : applies f earlier (x ∷ xs) TooLarge ≡ applies f earlier (x ∷ ys) TooLarge
    unfolding applies
    large_same =
        behind_test (has_kind f (x ∷ xs)) _ _ (λ kind. some_at_same (λ range. is_over range.most) f.counts (count_fields f (x ∷ xs)) (count_fields f (x ∷ ys)) counts_alike (readable_counts none kind))
        ∙ ap (λ (b : Bool). b && some_at (λ range. is_over range.most) f.counts (count_fields f (x ∷ ys))) kind_same

  pub row_code_same : code_of f earlier (x ∷ xs) ≡ code_of f earlier (x ∷ ys)
  unfolding code_of
  row_code_same =
      elim (cases_Bool (applies f earlier (x ∷ xs) NumberRange)) [
        | inl range ↦ rw (bad_same, no_problem_same, second_same, wrong_same, range, sym range_same ∙ range) refl
        | inr none ↦ rw (bad_same, no_problem_same, second_same, wrong_same, range_same, node_same none, length_same none, count_same none, large_same none) refl
      ]

  -- where no code applies
  first_five : (a b c d e : Bool) (o : Option Code) → cond a (Some BadLine) (cond b (Some NoProblemLine) (cond c (Some SecondProblemLine) (cond d (Some WrongKind) (cond e (Some NumberRange) o)))) ≡ None
      → (d ≡ false) × (e ≡ false)
  first_five false false false false false o is = (refl, refl)
  first_five true b c d e o is = absurd cc
  first_five false true c d e o is = absurd cc
  first_five false false true d e o is = absurd cc
  first_five false false false true e o is = absurd cc
  first_five false false false false true o is = absurd cc

  five_none : code_of f earlier (x ∷ xs) ≡ None → (applies f earlier (x ∷ xs) WrongKind ≡ false) × (applies f earlier (x ∷ xs) NumberRange ≡ false)
  unfolding code_of
  five_none clean = first_five (applies f earlier (x ∷ xs) BadLine) (applies f earlier (x ∷ xs) NoProblemLine) (applies f earlier (x ∷ xs) SecondProblemLine) (applies f earlier (x ∷ xs) WrongKind) (applies f earlier (x ∷ xs) NumberRange) _ clean

  has_its_kind : applies f earlier (x ∷ xs) WrongKind ≡ false → is_problem (x ∷ xs) ≡ true → has_kind f (x ∷ xs) ≡ true
  unfolding applies
  has_its_kind right problem = of_problem (is_problem (x ∷ xs)) (starts_with bytes_eq xs f.kind) problem right
    where
      of_problem : (p s : Bool) → p ≡ true → (p && not (p && s)) ≡ false → (p && s) ≡ true
      of_problem true true e right = refl
      of_problem true false e right = absurd cc
      of_problem false s e right = absurd cc

  module _ (clean : code_of f earlier (x ∷ xs) ≡ None) where
    pub counts_said : is_problem (x ∷ xs) ≡ true → map size_of (count_fields f (x ∷ xs)) ≡ map size_of (count_fields f (x ∷ ys))
    counts_said problem =
        let five = five_none clean in
        sizes_same (count_fields f (x ∷ xs)) (count_fields f (x ∷ ys)) counts_alike (readable_counts five.1 (has_its_kind five.0 problem))

    pub items_said : is_item f (x ∷ xs) ≡ true → (k : ℕ) → size_at xs k ≡ size_at ys k
    items_said item = size_at_same xs ys alike (readable_items (five_none clean).1 item)

    announced_by : (o : Option Row) (b : Bool) → (b ≡ true → is_problem (x ∷ xs) ≡ true)
        → option_map_or (λ row. map size_of (count_fields f row)) (or_else o (cond b (Some (x ∷ xs)) None)) [] ≡ option_map_or (λ row. map size_of (count_fields f row)) (or_else o (cond b (Some (x ∷ ys)) None)) []
    announced_by (Some row) b e = refl
    announced_by None true e = counts_said (e refl)
    announced_by None false e = refl

    pub announced_same : announced f (earlier ++ (x ∷ xs) ∷ []) ≡ announced f (earlier ++ (x ∷ ys) ∷ [])
    announced_same = rw (find_push is_problem earlier (x ∷ xs), find_push is_problem earlier (x ∷ ys)) (announced_by (problem_of earlier) (is_problem (x ∷ xs)) (λ e. e))

  pub problem_same : is_none (problem_of (earlier ++ (x ∷ xs) ∷ [])) ≡ is_none (problem_of (earlier ++ (x ∷ ys) ∷ []))
  problem_same = rw (find_push is_problem earlier (x ∷ xs), find_push is_problem earlier (x ∷ ys)) (by (problem_of earlier) (is_problem (x ∷ xs)))
    where
      by : (o : Option Row) (b : Bool) → is_none (or_else o (cond b (Some (x ∷ xs)) None)) ≡ is_none (or_else o (cond b (Some (x ∷ ys)) None))
      by (Some row) b = refl
      by None true = refl
      by None false = refl

pub text_code_same : (f : Format) → list_all (λ w. not (ltb 16 (length w))) f.kind ≡ true → (earlier : List Row) (one other : Row) → SaySame one other → code_of f earlier one ≡ code_of f earlier other
text_code_same f short earlier [] [] same = refl
text_code_same f short earlier [] (y ∷ ys) same = absurd same
text_code_same f short earlier (x ∷ xs) [] same = absurd same
text_code_same f short earlier (x ∷ xs) (y ∷ ys) same = rw (← same.0) (row_code_same f short earlier x xs ys same.1)

-- A network's lines.

arc_same : (earlier : List Row) (x : List ℕ) (xs ys : Row) → AllAlike xs ys → code_of gr earlier (x ∷ xs) ≡ None → arc_of (x ∷ xs) ≡ arc_of (x ∷ ys)
arc_same earlier x xs ys alike clean = by (is_item gr (x ∷ xs)) refl
  where
    by : (b : Bool) → is_item gr (x ∷ xs) ≡ b → cond b (Some (arc_of_line xs)) None ≡ cond b (Some (arc_of_line ys)) None
    by false e = refl
    by true e =
        let same = items_said gr refl earlier x xs ys alike clean e in
        rw (same 0, same 1, same 2) refl

pub gr_taken_same : (earlier : List Row) (one other : Row) (r : GrLines) → SaySame one other → code_of gr earlier one ≡ None → HasTaken (earlier ++ other ∷ []) r → HasTaken (earlier ++ one ∷ []) r
gr_taken_same earlier [] [] r same clean taken = taken
gr_taken_same earlier [] (y ∷ ys) r same clean taken = absurd same
gr_taken_same earlier (x ∷ xs) [] r same clean taken = absurd same
gr_taken_same earlier (x ∷ xs) (y ∷ ys) r same clean taken =
    let had : HasTaken (earlier ++ (x ∷ ys) ∷ []) r = rw same.0 taken in
    record {
      problem = problem_same gr refl earlier x xs ys same.1 ∙ had.problem;
      counts = announced_same gr refl earlier x xs ys same.1 clean ∙ had.counts;
      items = items_push earlier (x ∷ xs) ∙ sym (items_push earlier (x ∷ ys)) ∙ had.items;
      arcs = filter_map_push arc_of earlier (x ∷ xs) ∙ ap (λ (o : Option RoadArc). filter_map arc_of earlier ++ cons_option o []) (arc_same earlier x xs ys same.1 clean) ∙ sym (filter_map_push arc_of earlier (x ∷ ys)) ∙ had.arcs;
    }

-- Lines of a text of items.

module _ (f : Format) (short_kind : list_all (λ w. not (ltb 16 (length w))) f.kind ≡ true) {X : Type 0} (says : Row → X)
    (by_sizes : (one other : Row) → ((k : ℕ) → size_at one k ≡ size_at other k) → says one ≡ says other) where
  item_same : (earlier : List Row) (x : List ℕ) (xs ys : Row) → AllAlike xs ys → code_of f earlier (x ∷ xs) ≡ None
      → cond (is_item f (x ∷ xs)) (says xs ∷ []) [] ≡ cond (is_item f (x ∷ ys)) (says ys ∷ []) []
  item_same earlier x xs ys alike clean = by (is_item f (x ∷ xs)) refl
    where
      by : (b : Bool) → is_item f (x ∷ xs) ≡ b → cond b (says xs ∷ []) [] ≡ cond b (says ys ∷ []) []
      by false e = refl
      by true e = rw (by_sizes xs ys (items_said f short_kind earlier x xs ys alike clean e)) refl

  pub items_taken_same : (earlier : List Row) (one other : Row) (nodes : ℕ) (count : Option ℕ) (items : List X) → SaySame one other → code_of f earlier one ≡ None
      → HasItems f says (earlier ++ other ∷ []) nodes count items → HasItems f says (earlier ++ one ∷ []) nodes count items
  items_taken_same earlier [] [] nodes count items same clean taken = taken
  items_taken_same earlier [] (y ∷ ys) nodes count items same clean taken = absurd same
  items_taken_same earlier (x ∷ xs) [] nodes count items same clean taken = absurd same
  items_taken_same earlier (x ∷ xs) (y ∷ ys) nodes count items same clean taken =
      let had : HasItems f says (earlier ++ (x ∷ ys) ∷ []) nodes count items = rw same.0 taken in
      record {
        told = had.told;
        problem = problem_same f short_kind earlier x xs ys same.1 ∙ had.problem;
        counts = announced_same f short_kind earlier x xs ys same.1 clean ∙ had.counts;
        said = said_push f says earlier (x ∷ xs) ∙ ap (λ (l : List X). items_in f says earlier ++ l) (item_same earlier x xs ys same.1 clean) ∙ sym (said_push f says earlier (x ∷ ys)) ∙ had.said;
      }

pub short_words : (word : List ℕ) (letter : ℕ) (quantities : List Quantity) (n : ℕ) → ltb 16 (length word) ≡ false → list_all (λ w. not (ltb 16 (length w))) (listed word letter quantities n).kind ≡ true
short_words word letter quantities n short = rw short refl
