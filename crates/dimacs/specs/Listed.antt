-- Texts whose items are made of nodes, for a network of so many nodes.
use Rattle.std.specs.Prelude.{◌≡◌, ℕ, ◌^◌, List, [], ◌∷◌, map, filter, Option, None, Some, Result, Ok, Err, is_none, nat_le, if◌then◌else◌}
use lib.Chars.{codes}
use Rattle.dimacs.specs.declared.fault.Code.{Code}
use Rattle.dimacs.specs.declared.fault.Code.TheVariants.{BadLine, NoProblemLine, LineCount}
use Rattle.dimacs.specs.Format.{Format, Quantity}
use Rattle.dimacs.specs.Faults.{Row, is_item, item_fields, problem_of, announced, announced_items, items_of, code_of, end_code}
use Rattle.dimacs.specs.Texts.{TextKind}

abbrev pub kind_words : List ℕ → List (List ℕ)
kind_words word = codes "aux" ∷ codes "sp" ∷ word ∷ []

-- `p aux sp WORD K`, and K lines of a letter and numbers
abbrev pub listed : List ℕ → ℕ → List Quantity → ℕ → Format
listed word letter numbers n = record {
  nodes = Some n;
  kind = kind_words word;
  counts = record { least = 0; most = 2 ^ 24 } ∷ [];
  item = letter ∷ [];
  numbers = numbers;
}

-- what the item lines say by their numbers, in the order of the lines
abbrev pub items_in : {X : Type 0} → Format → (Row → X) → List Row → List X
items_in f says rs = map (λ row. says (item_fields row)) (filter (is_item f) rs)

-- the kind of text that gives these items
abbrev pub text_of_items : {X : Type 0} → Format → (Row → X) → TextKind (List X)
text_of_items f says = record { judge = code_of f; end = end_code f; says = items_in f says }

-- What the functions on one line answer.

abbrev pub item_line : Format → Row → Row
item_line f numbers = f.item ∷ numbers

-- the code of an item line whose numbers have this code, or none
abbrev pub code_after : Format → List Row → Option Code → Option Code
code_after f earlier (Some code) = if is_none (problem_of earlier) then Some NoProblemLine else Some code
code_after f earlier None = if is_none (problem_of earlier) then Some NoProblemLine else (if nat_le (announced_items f earlier) (items_of f earlier) then Some LineCount else None)

-- the item that the numbers say or their code; or they are not numerals, as many as there are to be
abbrev pub ReadsItem : {X : Type 0} → Format → (Row → X) → Row → Option (Result X Code) → Type 0
ReadsItem f says numbers None = (earlier : List Row) → code_of f earlier (item_line f numbers) ≡ Some BadLine
ReadsItem f says numbers (Some (Ok item)) = (says numbers ≡ item) × ((earlier : List Row) → code_of f earlier (item_line f numbers) ≡ code_after f earlier None)
ReadsItem f says numbers (Some (Err code)) = (earlier : List Row) → code_of f earlier (item_line f numbers) ≡ code_after f earlier (Some code)

abbrev pub listed_counts : Option ℕ → List ℕ
listed_counts None = []
listed_counts (Some count) = count ∷ []

-- these lines were taken, and there is no fault in them
pub record HasItems {X : Type 0} (f : Format) (says : Row → X) (earlier : List Row) (nodes : ℕ) (count : Option ℕ) (items : List X) : Type 0 where
  pub told : f.nodes ≡ Some nodes
  pub problem : is_none (problem_of earlier) ≡ is_none count
  pub counts : announced f earlier ≡ listed_counts count
  pub said : items_in f says earlier ≡ items
